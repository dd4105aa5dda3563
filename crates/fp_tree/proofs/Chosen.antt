-- What a tree that stands for words knows of the leaf of what is looked for.
use Rattle.std.proofs.Common.{◌≡◌, ◌⊎◌, inl, inr, ⊎_elim, ℕ, zero, suc, ◌+◌, ◌<◌, ◌≤◌, Bool, true, false, cond, eqb, List, [], ◌∷◌, ◌++◌, length, get_or, map, drop, refl, sym, ◌∙◌, ap, subst, arith}
use Rattle.std.specs.Prelude.{Any, IsTrue, IfNone, IfSome, IsNone, None, Option, Some, filter}
use Rattle.std.specs.Int.{bit_at}
use Rattle.std.specs.List.{flat_map, range_with_len}
use Rattle.std.proofs.lemmas.Bool.{cases_Bool, cases_eq, eqb-true, eq-eqb, lt-ltb}
use Rattle.std.proofs.lemmas.List.{get_or-map, length-drop, length-map}
use Rattle.image_layout.specs.Pointer.{pointer_word}
use Rattle.image_layout.specs.Places.{below}
use Rattle.image_layout.specs.Trees.{Pair, is_full_leaf, key_below, leaf_list, leaf_pairs, leaf_slots, pair_at, pairs, put_by, sorted_by}
use Rattle.mv_model.specs.declared.shape.Kind.{Kind}
use Rattle.fp_inner.specs.Keys.{AreAscending, IsLeafFor, kind_of, least_key, leaf_pointer, rest_of}
use Rattle.fp_inner.specs.declared.probe.Probe.{Probe}
use Rattle.fp_inner.specs.declared.probe.Probe.TheVariants.{Int}
use Rattle.tree_cuts.specs.Lists.{Each}
use Rattle.tree_cuts.specs.Tree.{KeysBelow, is_key_below, pairs_of}
use Rattle.tree_cuts.proofs.Lists.{each-append, each-filter, each-flat_mapped, each-map, each-mapped, each-range, filter-hit, filter-miss}
use Rattle.tree_cuts.proofs.Reading.{list-quiet, quiet-no_split, tree-pairs, tree-walks}
use Rattle.tree_cuts.proofs.Sorting.{each-sorted, put-cases}
use Rattle.fp_tree.specs.Searched.{IsFoundIn, IsLeafAt, IsNotIn}
use Rattle.fp_tree.specs.Standing.{HasNoKey, HasPair, StandsFor, has_pairs, indexed, is_key, leaf_of, or_first, probe_leaf, room_in}
use Rattle.fp_tree.specs.TreeState.{TreeState}
use Rattle.fp_tree.specs.declared.room.Room.TheVariants.{Free, NoLeaf, LeafFull}
use Rattle.fp_tree.proofs.Around.{Around, around_by, each_any, each_at, each_indexed, later_leaf, leaf_found, least_key_up_to, less_no_key, more_no_key, no_pairs, ordered_indexed, pairwise_at}
use Rattle.fp_tree.proofs.Search.{int_probe}

-- ── some item of a list ──

pub any_here : {X : Type 0} (P : X → Type 0) (x : X) (xs : List X) → P x → Any P (x ∷ xs)
any_here P x xs is = (0, x, omega arith, refl, is)

pub any_there : {X : Type 0} (P : X → Type 0) (x : X) (xs : List X) → Any P xs → Any P (x ∷ xs)
any_there P x xs any = (suc any.0, any.1, (let lt = any.2 in omega (arith, lt)), any.3, any.4)

pub any_cases : {X : Type 0} (P : X → Type 0) (x : X) (xs : List X) → Any P (x ∷ xs) → P x ⊎ Any P xs
any_cases P x xs (zero, y, lt, is, has) = inl (subst P (sym is) has)
any_cases P x xs (suc k, y, lt, is, has) = inr (k, y, omega (arith, lt), is, has)

any_put : (below : Pair → Pair → Bool) (P : Pair → Type 0) (x : Pair) (xs : List Pair) → Any P (x ∷ xs) → Any P (put_by below x xs)
any_put below P x [] any = any
any_put below P x (y ∷ ys) any = put-cases below (Any P) x y ys
    (⊎_elim
    (λ here. any_there P y (put_by below x ys) (any_put below P x ys (any_here P x ys here)))
    (λ rest. ⊎_elim
    (λ first. any_here P y (put_by below x ys) first)
    (λ later. any_there P y (put_by below x ys) (any_put below P x ys (any_there P x ys later)))
    (any_cases P y ys rest))
    (any_cases P x (y ∷ ys) any))
    any

any_sorted : (below : Pair → Pair → Bool) (P : Pair → Type 0) (xs : List Pair) → Any P xs → Any P (sorted_by below xs)
any_sorted below P [] any = any
any_sorted below P (x ∷ xs) any = ⊎_elim
    (λ here. any_put below P x (sorted_by below xs) (any_here P x (sorted_by below xs) here))
    (λ rest. any_put below P x (sorted_by below xs) (any_there P x (sorted_by below xs) (any_sorted below P xs rest)))
    (any_cases P x xs any)

any_left : {X : Type 0} (P : X → Type 0) (xs ys : List X) → Any P xs → Any P (xs ++ ys)
any_left P [] ys any = absurd (let lt = any.2 in omega (arith, lt))
any_left P (x ∷ xs) ys any = ⊎_elim (λ here. any_here P x (xs ++ ys) here) (λ rest. any_there P x (xs ++ ys) (any_left P xs ys rest)) (any_cases P x xs any)

any_right : {X : Type 0} (P : X → Type 0) (xs ys : List X) → Any P ys → Any P (xs ++ ys)
any_right P [] ys any = any
any_right P (x ∷ xs) ys any = any_there P x (xs ++ ys) (any_right P xs ys any)

any_mapped : {X Y : Type 0} (P : Y → Type 0) (f : X → Y) (xs : List X) → Any (λ x. P (f x)) xs → Any P (map f xs)
any_mapped P f [] any = absurd (let lt = any.2 in omega (arith, lt))
any_mapped P f (x ∷ xs) any = ⊎_elim (λ here. any_here P (f x) (map f xs) here) (λ rest. any_there P (f x) (map f xs) (any_mapped P f xs rest)) (any_cases (λ y. P (f y)) x xs any)

any_filtered : (P : ℕ → Type 0) (p : ℕ → Bool) (xs : List ℕ) → Any (λ x. P x × (p x ≡ true)) xs → Any P (filter p xs)
any_filtered P p [] any = absurd (let lt = any.2 in omega (arith, lt))
any_filtered P p (x ∷ xs) any = ⊎_elim
    (λ here. subst (Any P) (sym (filter-hit p x xs here.1)) (any_here P x (filter p xs) here.0))
    (λ rest. ⊎_elim
    (λ hit. subst (Any P) (sym (filter-hit p x xs hit)) (any_there P x (filter p xs) (any_filtered P p xs rest)))
    (λ miss. subst (Any P) (sym (filter-miss p x xs miss)) (any_filtered P p xs rest))
    (cases_Bool (p x)))
    (any_cases (λ y. P y × (p y ≡ true)) x xs any)

any_numbered : (P : ℕ → Type 0) (low n k : ℕ) → low ≤ k → k < low + n → P k → Any P (range_with_len low n)
any_numbered P low zero k le lt is = absurd (omega (arith, le, lt))
any_numbered P low (suc n) k le lt is = ⊎_elim
    (λ (same : low ≡ k). any_here P low (range_with_len (low + 1) n) (subst P (sym same) is))
    (λ apart. any_there P low (range_with_len (low + 1) n) (any_numbered P (low + 1) n k (omega (arith, le, apart)) (omega (arith, lt)) is))
    (cases_eq low k)

-- a used slot has its pair among those of the leaf
pub slot_pair : (words : List ℕ) (leaf slot : ℕ) (P : Pair → Type 0) → slot < 48 → bit_at (get_or words leaf 0) slot ≡ 1 → P (pair_at words leaf slot) → Any P (leaf_pairs words leaf)
unfolding leaf_pairs
slot_pair words leaf slot P lt used is =
    any_mapped P (pair_at words leaf) (leaf_slots words leaf)
    (any_filtered (λ s. P (pair_at words leaf s)) (λ s. eqb (bit_at (get_or words leaf 0) s) 1) (below 48)
    (any_numbered (λ s. P (pair_at words leaf s) × (eqb (bit_at (get_or words leaf 0) s) 1 ≡ true)) 0 48 slot (omega arith) (omega (arith, lt)) (is, eq-eqb (bit_at (get_or words leaf 0) slot) 1 used)))

-- what holds of the pair of each used slot holds of each pair
pub slots_each : (words : List ℕ) (leaf : ℕ) (P : Pair → Type 0) → ((slot : ℕ) → slot < 48 → eqb (bit_at (get_or words leaf 0) slot) 1 ≡ true → P (pair_at words leaf slot)) → Each P (leaf_pairs words leaf)
unfolding leaf_pairs
slots_each words leaf P each =
    each-mapped P (pair_at words leaf) (leaf_slots words leaf)
    (each-filter (λ s. P (pair_at words leaf s)) (λ s. eqb (bit_at (get_or words leaf 0) s) 1) (below 48) (each-range (λ s. eqb (bit_at (get_or words leaf 0) s) 1 ≡ true → P (pair_at words leaf s)) 0 48 (λ k from lt used. each k (omega (arith, lt)) used)))

any_flat : (P : Pair → Type 0) (words : List ℕ) (before : List ℕ) (leaf : ℕ) (after : List ℕ) → Any P (leaf_pairs words leaf) → Any P (flat_map (leaf_pairs words) (before ++ leaf ∷ after))
any_flat P words [] leaf after any = any_left P (leaf_pairs words leaf) (flat_map (leaf_pairs words) after) any
any_flat P words (x ∷ before) leaf after any = any_right P (leaf_pairs words x) (flat_map (leaf_pairs words) (before ++ leaf ∷ after)) (any_flat P words before leaf after any)

get_or_any : (xs : List (ℕ × ℕ)) (k : ℕ) (d e : ℕ × ℕ) → k < length xs → get_or xs k d ≡ get_or xs k e
get_or_any [] k d e lt = absurd (omega (arith, lt))
get_or_any (x ∷ xs) zero d e lt = refl
get_or_any (x ∷ xs) (suc k) d e lt = get_or_any xs k d e (omega (arith, lt))

-- ── a tree that stands for words ──

pub same_pointer : (a b : ℕ) → pointer_word a ≡ pointer_word b → a ≡ b
same_pointer a b is = omega (arith, is)

module _ (words : List ℕ) (tree : TreeState) (leaves : List ℕ) (stands : StandsFor words tree leaves) where
  pub list_is : leaf_list words tree.column ≡ leaves
  list_is = list-quiet words tree.column leaves (tree-walks words tree.column leaves stands.in_words.tree_is) (quiet-no_split words tree.column stands.in_words.quiet.no_split)

  pub pairs_are : pairs words tree.column ≡ pairs_of words leaves
  pairs_are = tree-pairs words tree.column leaves stands.in_words.tree_is (quiet-no_split words tree.column stands.in_words.quiet.no_split)

  pub size : length tree.inner.leaves ≡ length (indexed words leaves)
  size = sym (length-map tree.inner.leaves (λ entry. entry.1)) ∙ ap length stands.index.pointers ∙ length-map (indexed words leaves) pointer_word

  pub pointer_at : (at : ℕ) → at < length tree.inner.leaves → leaf_pointer tree.inner.leaves at ≡ pointer_word (get_or (indexed words leaves) at 0)
  pointer_at at lt =
      sym (get_or-map (λ (entry : ℕ × ℕ). entry.1) tree.inner.leaves at (0, 0) 0 lt) ∙ ap (λ (xs : List ℕ). get_or xs at 0) stands.index.pointers
      ∙ get_or-map pointer_word (indexed words leaves) at 0 0 (let same = size in omega (arith, same, lt))

  keys_rise : (i j : ℕ) → 0 < i → i < j → j < length tree.inner.leaves → least_key tree.inner.leaves i < least_key tree.inner.leaves j
  keys_rise i j some lt within =
      let same = size in
      let pairs_below : KeysBelow words (get_or (indexed words leaves) i 0) (get_or (indexed words leaves) j 0) = pairwise_at (KeysBelow words) (indexed words leaves) (ordered_indexed words leaves stands.in_words.ordered) i j lt (omega (arith, same, within)) in
      let one = stands.index.keys i some (omega (arith, lt, within)) in
      let other = stands.index.keys j (omega (arith, some, lt)) within in
      each_any (λ pair. Each (λ next. pair.key < next.key) (leaf_pairs words (get_or (indexed words leaves) j 0))) (λ pair. pair.key ≡ least_key tree.inner.leaves i) (least_key tree.inner.leaves i < least_key tree.inner.leaves j) (leaf_pairs words (get_or (indexed words leaves) i 0)) pairs_below one.has
      (λ pair each is. each_any (λ next. pair.key < next.key) (λ next. next.key ≡ least_key tree.inner.leaves j) (least_key tree.inner.leaves i < least_key tree.inner.leaves j) (leaf_pairs words (get_or (indexed words leaves) j 0)) each other.has (λ next less are. omega (arith, less, is, are)))

  pub ascending : AreAscending words tree.inner.kind (rest_of tree.inner.leaves)
  unfolding key_below
  ascending = subst (λ (kind : Kind). AreAscending words kind (rest_of tree.inner.leaves)) (sym stands.index.kind) (record {
    keys = λ k d lt. tt;
    ascending = λ i j d lt within.
        let count = length-drop 1 tree.inner.leaves in
        let inside : j + 1 < length tree.inner.leaves = omega (arith, count, within) in
        let first : get_or (drop 1 tree.inner.leaves) i d ≡ get_or tree.inner.leaves (i + 1) (0, 0) = drop_at tree.inner.leaves i d (omega (arith, lt, inside)) in
        let later : get_or (drop 1 tree.inner.leaves) j d ≡ get_or tree.inner.leaves (j + 1) (0, 0) = drop_at tree.inner.leaves j d inside in
        subst (λ (x : ℕ × ℕ). IsTrue (key_below words false x.0 (get_or (drop 1 tree.inner.leaves) j d).0)) (sym first)
        (subst (λ (x : ℕ × ℕ). IsTrue (key_below words false (least_key tree.inner.leaves (i + 1)) x.0)) (sym later)
        (lt-ltb (least_key tree.inner.leaves (i + 1)) (least_key tree.inner.leaves (j + 1)) (keys_rise (i + 1) (j + 1) (omega arith) (omega (arith, lt)) inside)));
  })
    where
      plus_one : (n : ℕ) → suc n ≡ n + 1
      plus_one n = omega arith

      drop_at : (xs : List (ℕ × ℕ)) (k : ℕ) (d : ℕ × ℕ) → k + 1 < length xs → get_or (drop 1 xs) k d ≡ get_or xs (k + 1) (0, 0)
      drop_at [] k d lt = absurd (omega (arith, lt))
      drop_at (x ∷ xs) k d lt = get_or_any xs k d (0, 0) (omega (arith, lt)) ∙ ap (λ (n : ℕ). get_or (x ∷ xs) n (0, 0)) (plus_one k)

  -- ── the leaf of an integer ──

  module _ (probe : Probe) (kind : kind_of probe ≡ tree.inner.kind) (leaf : ℕ) (at_leaf : IsLeafAt words tree probe leaf) where
    pub wanted : ℕ
    wanted = (int_probe probe (kind ∙ stands.index.kind)).0

    pub probe_is : probe ≡ Int wanted
    unfolding wanted
    probe_is = (int_probe probe (kind ∙ stands.index.kind)).1

    at : ℕ
    at = at_leaf.at

    for_int : IsLeafFor words tree.inner.leaves (Int wanted) at
    unfolding at
    for_int = subst (λ (p : Probe). IsLeafFor words tree.inner.leaves p at_leaf.at) probe_is at_leaf.for

    leaf_is : leaf ≡ get_or (indexed words leaves) at 0
    unfolding at
    leaf_is = same_pointer leaf (get_or (indexed words leaves) at_leaf.at 0) (sym at_leaf.named ∙ pointer_at at_leaf.at at_leaf.for.within)

    within : at < length (indexed words leaves)
    unfolding at
    within = let lt = at_leaf.for.within in let same = size in omega (arith, lt, same)

    pub probe_leaf_is : leaf ≡ probe_leaf words tree.column probe
    probe_leaf_is = leaf_is ∙ leaf_found words wanted tree.inner.leaves (indexed words leaves) size stands.index.keys at for_int
        ∙ ap (λ (p : Probe). leaf_of words p (indexed words leaves)) (sym probe_is) ∙ ap (λ (ls : List ℕ). leaf_of words probe (indexed words ls)) (sym list_is)

    pub of_leaf : (P : ℕ → Type 0) → Each P leaves → P leaf
    of_leaf P each = subst P (sym leaf_is) (each_at P (indexed words leaves) (each_indexed P words leaves each) at 0 within)

    earlier_leaf : (j : ℕ) → j < at → Each (λ pair. pair.key < wanted) (leaf_pairs words (get_or (indexed words leaves) j 0))
    unfolding at
    earlier_leaf j lt =
        let same = size in let inside = at_leaf.for.within in
        let pairs_below : KeysBelow words (get_or (indexed words leaves) j 0) (get_or (indexed words leaves) at_leaf.at 0) = pairwise_at (KeysBelow words) (indexed words leaves) (ordered_indexed words leaves stands.in_words.ordered) j at_leaf.at lt (omega (arith, same, inside)) in
        let least = stands.index.keys at_leaf.at (omega (arith, lt)) inside in
        let up = least_key_up_to words wanted tree.inner.leaves (indexed words leaves) size stands.index.keys at_leaf.at for_int (omega (arith, lt)) in
        each-map (λ pair. Each (λ next. pair.key < next.key) (leaf_pairs words (get_or (indexed words leaves) at_leaf.at 0))) (λ pair. pair.key < wanted)
        (λ pair each. each_any (λ next. pair.key < next.key) (λ next. next.key ≡ least_key tree.inner.leaves at_leaf.at) (pair.key < wanted) (leaf_pairs words (get_or (indexed words leaves) at_leaf.at 0)) each least.has (λ next less is. omega (arith, less, is, up)))
        (leaf_pairs words (get_or (indexed words leaves) j 0)) pairs_below

    pub earlier_pairs : (j : ℕ) → j < at_leaf.at → Each (λ pair. pair.key < wanted) (leaf_pairs words (get_or (indexed words leaves) j 0))
    unfolding at
    earlier_pairs j lt = earlier_leaf j lt

    abbrev IsLower : ℕ → Type 0
    IsLower x = Each (λ pair. pair.key < wanted) (leaf_pairs words x)

    abbrev IsUpper : ℕ → Type 0
    IsUpper x = Each (λ pair. wanted < pair.key) (leaf_pairs words x)

    pub around : Around IsLower IsUpper leaves leaf
    around = subst (Around IsLower IsUpper leaves) (sym leaf_is)
        (around_by IsLower IsUpper (has_pairs words) (λ x miss. (subst (Each (λ pair. pair.key < wanted)) (sym (no_pairs words x miss)) tt, subst (Each (λ pair. wanted < pair.key)) (sym (no_pairs words x miss)) tt))
        (filter (has_pairs words) leaves) leaves at refl within earlier_leaf
        (λ j above lt. later_leaf words wanted tree.inner.leaves (indexed words leaves) size stands.index.keys at for_int j above lt))

    pub found_pair : (code : ℕ) → IsFoundIn words leaf probe code → HasPair words tree.column probe code
    found_pair code found =
        let any : Any (λ pair. IsTrue (is_key words probe pair.key) × (pair.code ≡ code)) (leaf_pairs words leaf) = slot_pair words leaf found.slot (λ pair. IsTrue (is_key words probe pair.key) × (pair.code ≡ code)) found.within (eqb-true (bit_at (get_or words leaf 0) found.slot) 1 found.used) (found.key_is, sym found.code_is) in
        subst (Any (λ pair. IsTrue (is_key words probe pair.key) × (pair.code ≡ code))) (sym pairs_are)
        (any_sorted is_key_below _ (flat_map (leaf_pairs words) leaves) (subst (λ (ls : List ℕ). Any (λ pair. IsTrue (is_key words probe pair.key) × (pair.code ≡ code)) (flat_map (leaf_pairs words) ls)) (sym around.is) (any_flat _ words around.before leaf around.after any)))

    pub no_pair : IsNotIn words leaf probe → HasNoKey words tree.column probe
    no_pair none =
        let lower : Each (λ x. Each (λ pair. is_key words probe pair.key ≡ false) (leaf_pairs words x)) around.before =
        each-map IsLower (λ x. Each (λ pair. is_key words probe pair.key ≡ false) (leaf_pairs words x)) (λ x each. each-map (λ pair. pair.key < wanted) (λ pair. is_key words probe pair.key ≡ false) (λ pair lt. ap (λ (p : Probe). is_key words p pair.key) probe_is ∙ less_no_key words wanted pair.key lt) (leaf_pairs words x) each) around.before around.lower in
        let upper : Each (λ x. Each (λ pair. is_key words probe pair.key ≡ false) (leaf_pairs words x)) around.after =
        each-map IsUpper (λ x. Each (λ pair. is_key words probe pair.key ≡ false) (leaf_pairs words x)) (λ x each. each-map (λ pair. wanted < pair.key) (λ pair. is_key words probe pair.key ≡ false) (λ pair lt. ap (λ (p : Probe). is_key words p pair.key) probe_is ∙ more_no_key words wanted pair.key lt) (leaf_pairs words x) each) around.after around.upper in
        let all : Each (λ x. Each (λ pair. is_key words probe pair.key ≡ false) (leaf_pairs words x)) leaves =
        subst (Each (λ x. Each (λ pair. is_key words probe pair.key ≡ false) (leaf_pairs words x))) (sym around.is)
        (each-append (λ x. Each (λ pair. is_key words probe pair.key ≡ false) (leaf_pairs words x)) around.before (leaf ∷ around.after) lower (slots_each words leaf (λ pair. is_key words probe pair.key ≡ false) (λ slot lt used. none slot lt used), upper)) in
        subst (Each (λ pair. is_key words probe pair.key ≡ false)) (sym pairs_are)
        (each-sorted is_key_below (λ pair. is_key words probe pair.key ≡ false) (flat_map (leaf_pairs words) leaves) (each-flat_mapped (λ pair. is_key words probe pair.key ≡ false) (leaf_pairs words) leaves all))

    pub room_is : room_in words probe (leaf_list words tree.column) ≡ cond (is_full_leaf words leaf) LeafFull Free
    room_is = ap (room_in words probe) list_is ∙ by_list leaves refl
      where
        by_list : (ls : List ℕ) → ls ≡ leaves → room_in words probe ls ≡ cond (is_full_leaf words leaf) LeafFull Free
        by_list [] is = absurd (let lt = within in let none = ap (λ (xs : List ℕ). length (indexed words xs)) is in omega (arith, lt, none))
        by_list (x ∷ xs) is = ap (λ (l : ℕ). cond (is_full_leaf words l) LeafFull Free)
            (ap (λ (ls : List ℕ). leaf_of words probe (indexed words ls)) (is ∙ sym list_is) ∙ sym probe_leaf_is)

  -- ── a tree without a leaf ──

  pub no_leaves : tree.inner.leaves ≡ [] → leaves ≡ []
  no_leaves is = by_list leaves (let same = size in let count = ap length is in omega (arith, same, count))
    where
      first_some : (fs xs : List ℕ) (x : ℕ) → length (or_first fs (x ∷ xs)) ≡ 0 → ⊥
      first_some (f ∷ fs) xs x is = omega (arith, is)
      first_some [] xs x is = omega (arith, is)

      by_list : (ls : List ℕ) → length (indexed words ls) ≡ 0 → ls ≡ []
      by_list [] is = refl
      by_list (x ∷ xs) is = absurd (first_some (filter (has_pairs words) (x ∷ xs)) xs x is)

  pub no_key_in_none : (probe : Probe) → tree.inner.leaves ≡ [] → HasNoKey words tree.column probe
  no_key_in_none probe is = subst (Each (λ pair. is_key words probe pair.key ≡ false)) (sym (pairs_are ∙ ap (pairs_of words) (no_leaves is))) tt

  pub no_room : (probe : Probe) → tree.inner.leaves ≡ [] → room_in words probe (leaf_list words tree.column) ≡ NoLeaf
  no_room probe is = ap (room_in words probe) (list_is ∙ no_leaves is)

-- ── answers ──

pub none_from : {X P : Type 0} (o : Option X) → (IsNone o → P) → IfNone o P
none_from None f = f refl
none_from (Some x) f = tt

pub none_map : {X P Q : Type 0} (o : Option X) → (P → Q) → IfNone o P → IfNone o Q
none_map None f is = f is
none_map (Some x) f is = tt

pub some_map : {X : Type 0} (P Q : X → Type 0) (o : Option X) → ((x : X) → P x → Q x) → IfSome o P → IfSome o Q
some_map P Q None f is = tt
some_map P Q (Some x) f is = f x is

pub pointer_some : (place : ℕ) → pointer_word place ≡ 0 → ⊥
pointer_some place is = omega (arith, is)
