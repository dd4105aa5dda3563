-- The pairs from one key to another, leaf by leaf.
use Rattle.std.proofs.Common.{◌≡◌, ⊎_elim, ℕ, zero, suc, ◌+◌, ◌<◌, ◌≤◌, Bool, true, false, not, ◌&&◌, cond, eqb, ltb, List, [], ◌∷◌, ◌++◌, length, get_or, map, take, refl, sym, ◌∙◌, ap, subst, arith}
use Rattle.std.specs.Prelude.{Err, IfOk, Ok, Result, filter, sum_by}
use Rattle.std.specs.Int.{bit_at}
use Rattle.std.specs.List.{flat_map, range_with_len}
use Rattle.std.specs.List.Sorted.{IsNonDecreasingBy, IsPermutation}
use Rattle.std.proofs.lemmas.Bool.{and_from, and_parts, cases_Bool, cond-false, cond-true, eq-eqb, eqb-true, lt-ltb, ltb-false, ltb-true}
use Rattle.std.proofs.lemmas.List.{append-nil, map-append}
use Rattle.std.proofs.lemmas.List.Elements.{filter-append}
use Rattle.std.proofs.lemmas.List.Sorted.{IsPermutation-map, sum_by-IsPermutation}
use Rattle.std.proofs.lemmas.List.Sums.{sum_by-append, sum_by-cons, sum_by_more}
use Rattle.image_layout.specs.Trees.{Pair, key_below, leaf_pairs, pair_at, pairs, put_by, sorted_by}
use Rattle.mv_model.specs.declared.shape.Kind.TheVariants.{Int as Ints}
use Rattle.image_layout.specs.Pointer.{pointer_word}
use Rattle.fp_inner.specs.Keys.{IsLeafFor, is_above, is_below, kind_of, leaf_pointer}
use Rattle.fp_inner.specs.declared.probe.Probe.{Probe}
use Rattle.fp_inner.specs.declared.probe.Probe.TheVariants.{Int}
use Rattle.fp_leaf.specs.declared.pair_list.Pair.{Pair as SlotPair}
use Rattle.tree_cuts.specs.Lists.{Each, Pairwise}
use Rattle.tree_cuts.specs.Tree.{KeysDiffer, is_key_below, pairs_of}
use Rattle.tree_cuts.proofs.Lists.{each-filter, each-map, each-mapped, filter-hit, filter-miss, filter-none}
use Rattle.tree_cuts.proofs.Sorting.{each-put, pairwise-sorted-back, put-cases}
use Rattle.fp_tree.specs.Leaves.{without_slot}
use Rattle.fp_tree.specs.Ranges.{is_from_to, pairs_from_to}
use Rattle.fp_tree.specs.Searched.{IsLeafAt}
use Rattle.fp_tree.specs.Standing.{StandsFor, has_pairs, indexed, or_first}
use Rattle.fp_tree.specs.TreeState.{TreeState}
use Rattle.fp_tree.proofs.Around.{each_at, each_indexed, later_leaf, no_pairs}
use Rattle.fp_tree.proofs.Chosen.{earlier_pairs, no_leaves, pairs_are, pointer_at, probe_is, same_pointer, size, wanted}
use Rattle.fp_tree.proofs.SameOrder.{first_counted, pairwise_from, same_order}
use Rattle.fp_tree.proofs.Leaf.{more_slots}
use Rattle.fp_tree.proofs.Search.{int_probe}

pub ok_map : {X E : Type 0} (P Q : X → Type 0) (r : Result X E) → ((x : X) → P x → Q x) → IfOk r P → IfOk r Q
ok_map P Q (Ok x) f is = f x is
ok_map P Q (Err e) f is = tt

-- ── sums over lists ──

sum_filter : {X : Type 0} (f : X → ℕ) (p : X → Bool) (xs : List X) → sum_by f (filter p xs) ≡ sum_by (λ x. cond (p x) (f x) 0) xs
sum_filter f p [] = refl
sum_filter f p (x ∷ xs) =
    let rest = sum_filter f p xs in let all = sum_by-cons (λ x. cond (p x) (f x) 0) x xs in
    ⊎_elim
    (λ hit. let kept = ap (sum_by f) (filter-hit p x xs hit) in let sum = sum_by-cons f x (filter p xs) in let here = cond-true (p x) (f x) 0 hit in omega (arith, rest, all, kept, sum, here))
    (λ miss. let kept = ap (sum_by f) (filter-miss p x xs miss) in let here = cond-false (p x) (f x) 0 miss in omega (arith, rest, all, kept, here))
    (cases_Bool (p x))

sum_put : {X : Type 0} (f : X → ℕ) (below : X → X → Bool) (x : X) (xs : List X) → sum_by f (put_by below x xs) ≡ f x + sum_by f xs
sum_put f below x [] = sum_by-cons f x []
sum_put f below x (y ∷ ys) = put-cases below (λ zs. sum_by f zs ≡ f x + sum_by f (y ∷ ys)) x y ys
    (let first = sum_by-cons f y (put_by below x ys) in let rest = sum_put f below x ys in let all = sum_by-cons f y ys in omega (arith, first, rest, all))
    (sum_by-cons f x (y ∷ ys))

sum_sorted : {X : Type 0} (f : X → ℕ) (below : X → X → Bool) (xs : List X) → sum_by f (sorted_by below xs) ≡ sum_by f xs
sum_sorted f below [] = refl
sum_sorted f below (x ∷ xs) = let put = sum_put f below x (sorted_by below xs) in let rest = sum_sorted f below xs in let all = sum_by-cons f x xs in omega (arith, put, rest, all)

sum_flat : {X Y : Type 0} (f : Y → ℕ) (g : X → List Y) (xs : List X) → sum_by f (flat_map g xs) ≡ sum_by (λ x. sum_by f (g x)) xs
sum_flat f g [] = refl
sum_flat f g (x ∷ xs) =
    let both = sum_by-append f (g x) (flat_map g xs) in let rest = sum_flat f g xs in let all = sum_by-cons (λ x. sum_by f (g x)) x xs in
    omega (arith, both, rest, all)

sum_kept : (f : ℕ → ℕ) (p : ℕ → Bool) → ((x : ℕ) → p x ≡ false → f x ≡ 0) → (xs : List ℕ) → sum_by f (filter p xs) ≡ sum_by f xs
sum_kept f p none [] = refl
sum_kept f p none (x ∷ xs) =
    let rest = sum_kept f p none xs in let all = sum_by-cons f x xs in
    ⊎_elim
    (λ hit. let kept = ap (sum_by f) (filter-hit p x xs hit) in let sum = sum_by-cons f x (filter p xs) in omega (arith, rest, all, kept, sum))
    (λ miss. let kept = ap (sum_by f) (filter-miss p x xs miss) in let here = none x miss in omega (arith, rest, all, kept, here))
    (cases_Bool (p x))

sum_or_first : (f : ℕ → ℕ) (fs xs : List ℕ) → sum_by f fs ≡ sum_by f xs → sum_by f (or_first fs xs) ≡ sum_by f xs
sum_or_first f (x ∷ fs) xs same = same
sum_or_first f [] [] same = refl
sum_or_first f [] (x ∷ xs) same =
    let none = first_counted f x xs (sym same) in let one = sum_by-cons f x [] in omega (arith, none, one, same)

filter_shorter : (p : ℕ → Bool) (xs : List ℕ) → length (filter p xs) ≤ length xs
filter_shorter p [] = omega arith
filter_shorter p (x ∷ xs) =
    let rest = filter_shorter p xs in
    ⊎_elim (λ hit. let kept = ap length (filter-hit p x xs hit) in omega (arith, rest, kept)) (λ miss. let kept = ap length (filter-miss p x xs miss) in omega (arith, rest, kept)) (cases_Bool (p x))

or_first_shorter : (fs xs : List ℕ) → length fs ≤ length xs → length (or_first fs xs) ≤ length xs
or_first_shorter (f ∷ fs) xs le = le
or_first_shorter [] [] le = le
or_first_shorter [] (x ∷ xs) le = omega arith

-- the items up to a place have a sum of 0
none_up_to : (f : ℕ → ℕ) (xs : List ℕ) (n : ℕ) → ((k : ℕ) → k < n → k < length xs → f (get_or xs k 0) ≡ 0) → sum_by f (take n xs) ≡ 0
none_up_to f [] zero none = refl
none_up_to f [] (suc n) none = refl
none_up_to f (x ∷ xs) zero none = refl
none_up_to f (x ∷ xs) (suc n) none =
    let all = sum_by-cons f x (take n xs) in let here = none 0 (omega arith) (omega arith) in
    let rest = none_up_to f xs n (λ k lt within. none (suc k) (omega (arith, lt)) (omega (arith, within))) in omega (arith, all, here, rest)

-- those from a place on have
none_from : (f : ℕ → ℕ) (xs : List ℕ) (n : ℕ) → ((k : ℕ) → n ≤ k → k < length xs → f (get_or xs k 0) ≡ 0) → sum_by f (take n xs) ≡ sum_by f xs
none_from f [] zero none = refl
none_from f [] (suc n) none = refl
none_from f (x ∷ xs) zero none =
    let all = sum_by-cons f x xs in let here = none 0 (omega arith) (omega arith) in
    let rest = none_from f xs zero (λ k from within. none (suc k) (omega arith) (omega (arith, within))) in omega (arith, all, here, rest)
none_from f (x ∷ xs) (suc n) none =
    let all = sum_by-cons f x xs in let part = sum_by-cons f x (take n xs) in
    let rest = none_from f xs n (λ k from within. none (suc k) (omega (arith, from)) (omega (arith, within))) in omega (arith, all, part, rest)

-- ── lists in order ──

pairwise_filter : {X : Type 0} (R : X → X → Type 0) (p : X → Bool) (xs : List X) → Pairwise R xs → Pairwise R (filter p xs)
pairwise_filter R p [] pairs = tt
pairwise_filter R p (x ∷ xs) pairs = ⊎_elim
    (λ hit. subst (Pairwise R) (sym (filter-hit p x xs hit)) (each-filter (R x) p xs (each-map (R x) (λ y. p y ≡ true → R x y) (λ y is kept. is) xs pairs.0), pairwise_filter R p xs pairs.1))
    (λ miss. subst (Pairwise R) (sym (filter-miss p x xs miss)) (pairwise_filter R p xs pairs.1)) (cases_Bool (p x))

pairwise_mapped : {X Y : Type 0} (R : Y → Y → Type 0) (g : X → Y) (xs : List X) → Pairwise (λ a b. R (g a) (g b)) xs → Pairwise R (map g xs)
pairwise_mapped R g [] pairs = tt
pairwise_mapped R g (x ∷ xs) pairs = (each-mapped (R (g x)) g xs pairs.0, pairwise_mapped R g xs pairs.1)

abbrev KeysRise : Pair → Pair → Type 0
KeysRise pair other = pair.key < other.key

rising_put : (x : Pair) (xs : List Pair) → Each (KeysDiffer x) xs → Pairwise KeysRise xs → Pairwise KeysRise (put_by is_key_below x xs)
rising_put x [] differ rising = (tt, tt)
rising_put x (y ∷ ys) differ rising = ⊎_elim
    (λ (under : ltb y.key x.key ≡ true). subst (Pairwise KeysRise) (sym (cond-true (ltb y.key x.key) (y ∷ put_by is_key_below x ys) (x ∷ y ∷ ys) under))
    (each-put is_key_below (KeysRise y) x ys (ltb-true y.key x.key under) rising.0, rising_put x ys differ.1 rising.1))
    (λ (above : ltb y.key x.key ≡ false).
    let less : x.key < y.key = let le = ltb-false y.key x.key above in let apart = differ.0 in omega (arith, le, apart) in
    subst (Pairwise KeysRise) (sym (cond-false (ltb y.key x.key) (y ∷ put_by is_key_below x ys) (x ∷ y ∷ ys) above))
    ((less, each-map (KeysRise y) (KeysRise x) (λ z more. omega (arith, less, more)) ys rising.0), rising))
    (cases_Bool (ltb y.key x.key))

rising_sorted : (xs : List Pair) → Pairwise KeysDiffer xs → Pairwise KeysRise (sorted_by is_key_below xs)
rising_sorted [] differ = tt
rising_sorted (x ∷ xs) differ = rising_put x (sorted_by is_key_below xs) (each_sorted xs differ.0) (rising_sorted xs differ.1)
  where
    each_sorted : (ys : List Pair) → Each (KeysDiffer x) ys → Each (KeysDiffer x) (sorted_by is_key_below ys)
    each_sorted [] each = tt
    each_sorted (y ∷ ys) each = each-put is_key_below (KeysDiffer x) y (sorted_by is_key_below ys) each.0 (each_sorted ys each.1)

same_pair : Pair → Pair → Bool
same_pair pair other = eqb pair.key other.key && eqb pair.code other.code

is_same_pair : (pair other : Pair) → same_pair pair other ≡ true → pair ≡ other
unfolding same_pair
is_same_pair pair other is =
    let parts = and_parts (eqb pair.key other.key) (eqb pair.code other.code) is in
    let key : pair.key ≡ other.key = eqb-true pair.key other.key parts.0 in
    let code : pair.code ≡ other.code = eqb-true pair.code other.code parts.1 in
    λ i. record { key = key i; code = code i }

same_as_itself : (pair : Pair) → same_pair pair pair ≡ true
unfolding same_pair
same_as_itself pair = and_from (eqb pair.key pair.key) (eqb pair.code pair.code) (eq-eqb pair.key pair.key refl) (eq-eqb pair.code pair.code refl)

-- ── the pairs of one leaf ──

module _ (words : List ℕ) (low high : Probe) where
  abbrev pub keeps : Pair → Bool
  keeps pair = is_from_to words low high pair.key

  abbrev pub kept_in : ℕ → List Pair
  kept_in leaf = filter keeps (leaf_pairs words leaf)

  -- the pairs of the slots below one that are used
  abbrev pub slot_pairs : ℕ → ℕ → List Pair
  slot_pairs leaf slot = map (pair_at words leaf) (filter (λ s. eqb (bit_at (get_or words leaf 0) s) 1) (range_with_len 0 slot))

  -- the slots that were passed
  pub record Passing (leaf slot : ℕ) (old new : List SlotPair) (room left : ℕ) : Type 0 where
    pub pairs : map without_slot new ≡ map without_slot old ++ filter keeps (slot_pairs leaf slot)
    pub spare : room ≤ left + slot

  pub pass_begins : (leaf : ℕ) (old : List SlotPair) (room : ℕ) → Passing leaf 0 old old room room
  pass_begins leaf old room = record { pairs = sym (append-nil (map without_slot old)); spare = omega arith }

  module _ (leaf slot : ℕ) where
    used_here : Bool
    used_here = eqb (bit_at (get_or words leaf 0) slot) 1

    more_pairs : slot_pairs leaf (slot + 1) ≡ slot_pairs leaf slot ++ map (pair_at words leaf) (filter (λ s. eqb (bit_at (get_or words leaf 0) s) 1) (slot ∷ []))
    more_pairs =
        ap (λ (ks : List ℕ). map (pair_at words leaf) (filter (λ s. eqb (bit_at (get_or words leaf 0) s) 1) ks)) (more_slots slot)
        ∙ ap (map (pair_at words leaf)) (filter-append (λ s. eqb (bit_at (get_or words leaf 0) s) 1) (range_with_len 0 slot) (slot ∷ []))
        ∙ map-append (pair_at words leaf) (filter (λ s. eqb (bit_at (get_or words leaf 0) s) 1) (range_with_len 0 slot)) (filter (λ s. eqb (bit_at (get_or words leaf 0) s) 1) (slot ∷ []))

    pub pass_takes : (old mid new : List SlotPair) (room before left : ℕ) → bit_at (get_or words leaf 0) slot ≡ 1 → map without_slot new ≡ map without_slot mid ++ filter keeps (pair_at words leaf slot ∷ []) → before ≤ left + 1
        → Passing leaf slot old mid room before → Passing leaf (slot + 1) old new room left
    pass_takes old mid new room before left used pushed spare was =
        let one = filter-hit (λ s. eqb (bit_at (get_or words leaf 0) s) 1) slot [] (eq-eqb (bit_at (get_or words leaf 0) slot) 1 used) in
        let all : slot_pairs leaf (slot + 1) ≡ slot_pairs leaf slot ++ pair_at words leaf slot ∷ [] = more_pairs ∙ ap (λ (ks : List ℕ). slot_pairs leaf slot ++ map (pair_at words leaf) ks) one in
        let room_was = was.spare in
        record {
          pairs = pushed ∙ ap (λ (l : List Pair). l ++ filter keeps (pair_at words leaf slot ∷ [])) was.pairs
              ∙ assoc (map without_slot old) (filter keeps (slot_pairs leaf slot)) (filter keeps (pair_at words leaf slot ∷ []))
              ∙ ap (λ (l : List Pair). map without_slot old ++ l) (sym (filter-append keeps (slot_pairs leaf slot) (pair_at words leaf slot ∷ [])) ∙ ap (filter keeps) (sym all));
          spare = omega (arith, room_was, spare);
        }
      where
        assoc : (xs ys zs : List Pair) → (xs ++ ys) ++ zs ≡ xs ++ (ys ++ zs)
        assoc [] ys zs = refl
        assoc (x ∷ xs) ys zs = ap (λ (l : List Pair). x ∷ l) (assoc xs ys zs)

    pub pass_skips : (old new : List SlotPair) (room left : ℕ) → (bit_at (get_or words leaf 0) slot ≡ 1 → ⊥) → Passing leaf slot old new room left → Passing leaf (slot + 1) old new room left
    pass_skips old new room left free was =
        let none = filter-miss (λ s. eqb (bit_at (get_or words leaf 0) s) 1) slot [] (⊎_elim (λ hit. absurd (free (eqb-true (bit_at (get_or words leaf 0) slot) 1 hit))) (λ miss. miss) (cases_Bool (eqb (bit_at (get_or words leaf 0) slot) 1))) in
        let all : slot_pairs leaf (slot + 1) ≡ slot_pairs leaf slot = more_pairs ∙ ap (λ (ks : List ℕ). slot_pairs leaf slot ++ map (pair_at words leaf) ks) none ∙ append-nil (slot_pairs leaf slot) in
        let room_was = was.spare in
        record { pairs = was.pairs ∙ ap (λ (l : List Pair). map without_slot old ++ filter keeps l) (sym all); spare = omega (arith, room_was) }

  pub pass_ends : (leaf : ℕ) (old new : List SlotPair) (room left : ℕ) → Passing leaf 48 old new room left → map without_slot new ≡ map without_slot old ++ kept_in leaf
  unfolding leaf_pairs
  pass_ends leaf old new room left was = was.pairs

-- ── leaf by leaf ──

module _ (words : List ℕ) (low high : Probe) where
  abbrev leaf_sum : (Pair → ℕ) → ℕ → ℕ
  leaf_sum f leaf = sum_by (λ pair. cond (keeps words low high pair) (f pair) 0) (leaf_pairs words leaf)

  leaf_sum_is : (f : Pair → ℕ) (leaf : ℕ) → sum_by f (kept_in words low high leaf) ≡ leaf_sum f leaf
  leaf_sum_is f leaf = sum_filter f (keeps words low high) (leaf_pairs words leaf)

  -- the first leaves of the index were passed, so many of them
  pub record Ranging (leaves : List ℕ) (at : ℕ) (list : List SlotPair) : Type 0 where
    pub sums : (f : Pair → ℕ) → sum_by f (map without_slot list) ≡ sum_by (leaf_sum f) (take at (indexed words leaves))

  pub range_goes_on : (leaves : List ℕ) (at : ℕ) (old new : List SlotPair) → at < length (indexed words leaves) → map without_slot new ≡ map without_slot old ++ kept_in words low high (get_or (indexed words leaves) at 0) → Ranging leaves at old → Ranging leaves (at + 1) new
  range_goes_on leaves at old new within pushed was = record {
    sums = λ f.
        let all = ap (sum_by f) pushed in let both = sum_by-append f (map without_slot old) (kept_in words low high (get_or (indexed words leaves) at 0)) in
        let here = leaf_sum_is f (get_or (indexed words leaves) at 0) in let before = was.sums f in let more = sum_by_more (leaf_sum f) (indexed words leaves) at 0 within in
        omega (arith, all, both, here, before, more);
  }

module _ (words : List ℕ) (tree : TreeState) (leaves : List ℕ) (stands : StandsFor words tree leaves) (low high : Probe) (low_kind : kind_of low ≡ tree.inner.kind) (high_kind : kind_of high ≡ tree.inner.kind) where
  nothing_kept : (f : Pair → ℕ) (leaf : ℕ) → Each (λ pair. keeps words low high pair ≡ false) (leaf_pairs words leaf) → leaf_sum words low high f leaf ≡ 0
  nothing_kept f leaf none = sym (leaf_sum_is words low high f leaf) ∙ ap (sum_by f) (filter-none (keeps words low high) (leaf_pairs words leaf) none)

  low_int : (key : ℕ) × (low ≡ Int key)
  low_int = int_probe low (low_kind ∙ stands.index.kind)

  high_int : (key : ℕ) × (high ≡ Int key)
  high_int = int_probe high (high_kind ∙ stands.index.kind)

  too_low : (lowest key : ℕ) → low ≡ Int lowest → key < lowest → is_from_to words low high key ≡ false
  unfolding is_above key_below
  too_low lowest key is lt = ap (λ (b : Bool). not b && not (is_below words high key)) (ap (λ (p : Probe). is_above words p key) is ∙ lt-ltb key lowest lt)

  too_high : (highest key : ℕ) → high ≡ Int highest → highest < key → is_from_to words low high key ≡ false
  unfolding is_below key_below
  too_high highest key is lt =
      ap (λ (b : Bool). not (is_above words low key) && not b) (ap (λ (p : Probe). is_below words p key) is ∙ lt-ltb highest key lt) ∙ and_false (not (is_above words low key))
    where
      and_false : (b : Bool) → (b && false) ≡ false
      and_false true = refl
      and_false false = refl

  -- the leaf with a number in the index
  pub numbered : (at leaf : ℕ) → at < length tree.inner.leaves → leaf_pointer tree.inner.leaves at ≡ pointer_word leaf → leaf ≡ get_or (indexed words leaves) at 0
  numbered at leaf lt named = same_pointer leaf (get_or (indexed words leaves) at 0) (sym named ∙ pointer_at words tree leaves stands at lt)

  pub of_number : (P : ℕ → Type 0) → Each P leaves → (at leaf : ℕ) → at < length tree.inner.leaves → leaf_pointer tree.inner.leaves at ≡ pointer_word leaf → P leaf
  of_number P each at leaf lt named =
      subst P (sym (numbered at leaf lt named)) (each_at P (indexed words leaves) (each_indexed P words leaves each) at 0 (let same = size words tree leaves stands in omega (arith, same, lt)))

  pub few_leaves : length tree.inner.leaves < length words
  few_leaves = let fewer = stands.in_words.tree_is.fewer in let same = size words tree leaves stands in let most = or_first_shorter (filter (has_pairs words) leaves) leaves (filter_shorter (has_pairs words) leaves) in omega (arith, fewer, same, most)

  pub kinds : (kind_of low ≡ Ints) × (kind_of high ≡ Ints)
  kinds = (low_kind ∙ stands.index.kind, high_kind ∙ stands.index.kind)

  pub nothing_ranged : (list : List SlotPair) → tree.inner.leaves ≡ [] → list ≡ [] → map without_slot list ≡ pairs_from_to words tree.column low high
  nothing_ranged list empty none =
      ap (map without_slot) none ∙ ap (λ (ls : List ℕ). filter (keeps words low high) (pairs_of words ls)) (sym (no_leaves words tree leaves stands empty)) ∙ ap (filter (keeps words low high)) (sym (pairs_are words tree leaves stands))

  module _ (first last : ℕ) (for_low : IsLeafFor words tree.inner.leaves low first) (for_high : IsLeafFor words tree.inner.leaves high last) where
    before_first : (f : Pair → ℕ) (k : ℕ) → k < first → leaf_sum words low high f (get_or (indexed words leaves) k 0) ≡ 0
    before_first f k lt =
        let here : IsLeafAt words tree low (get_or (indexed words leaves) first 0) = record { at = first; for = for_low; named = pointer_at words tree leaves stands first for_low.within } in
        let key : ℕ = wanted words tree leaves stands low low_kind (get_or (indexed words leaves) first 0) here in
        nothing_kept f (get_or (indexed words leaves) k 0)
        (each-map (λ pair. pair.key < key) (λ pair. keeps words low high pair ≡ false) (λ pair less. too_low key pair.key (probe_is words tree leaves stands low low_kind (get_or (indexed words leaves) first 0) here) less)
        (leaf_pairs words (get_or (indexed words leaves) k 0)) (earlier_pairs words tree leaves stands low low_kind (get_or (indexed words leaves) first 0) here k lt))

    behind_last : (f : Pair → ℕ) (k : ℕ) → last < k → k < length (indexed words leaves) → leaf_sum words low high f (get_or (indexed words leaves) k 0) ≡ 0
    behind_last f k above within =
        nothing_kept f (get_or (indexed words leaves) k 0)
        (each-map (λ pair. high_int.0 < pair.key) (λ pair. keeps words low high pair ≡ false) (λ pair more. too_high high_int.0 pair.key high_int.1 more) (leaf_pairs words (get_or (indexed words leaves) k 0))
        (later_leaf words high_int.0 tree.inner.leaves (indexed words leaves) (size words tree leaves stands) stands.index.keys last (subst (λ (p : Probe). IsLeafFor words tree.inner.leaves p last) high_int.1 for_high) k above within))

    pub range_begins : Ranging words low high leaves first []
    range_begins = record { sums = λ f. sym (none_up_to (leaf_sum words low high f) (indexed words leaves) first (λ k lt within. before_first f k lt)) }

    whole_sum : (f : Pair → ℕ) → sum_by f (filter (keeps words low high) (pairs_of words leaves)) ≡ sum_by (leaf_sum words low high f) (indexed words leaves)
    whole_sum f =
        sum_filter f (keeps words low high) (pairs_of words leaves)
        ∙ sum_sorted (λ pair. cond (keeps words low high pair) (f pair) 0) is_key_below (flat_map (leaf_pairs words) leaves)
        ∙ sum_flat (λ pair. cond (keeps words low high pair) (f pair) 0) (leaf_pairs words) leaves
        ∙ sym (sum_or_first (leaf_sum words low high f) (filter (has_pairs words) leaves) leaves
        (sum_kept (leaf_sum words low high f) (has_pairs words) (λ leaf none. ap (sum_by (λ pair. cond (keeps words low high pair) (f pair) 0)) (no_pairs words leaf none)) leaves))

    pub range_ends : (at : ℕ) (old new : List SlotPair) → last < at → Ranging words low high leaves at old → IsPermutation old new → IsNonDecreasingBy (λ pair. pair.key) new → map without_slot new ≡ pairs_from_to words tree.column low high
    range_ends at old new beyond was moved order =
        sym (same_order same_pair is_same_pair same_as_itself (λ pair. pair.key) (filter (keeps words low high) (pairs_of words leaves)) (map without_slot new)
        (pairwise_filter KeysRise (keeps words low high) (pairs_of words leaves) (rising_sorted (flat_map (leaf_pairs words) leaves) (pairwise-sorted-back is_key_below KeysDiffer (λ x y differ same. differ (sym same)) (flat_map (leaf_pairs words) leaves) stands.in_words.tree_is.distinct)))
        (pairwise_mapped (λ s t. s.key ≤ t.key) without_slot new (pairwise_from (λ (pair : SlotPair). pair.key) new order))
        (λ f. whole_sum f ∙ sym (none_from (leaf_sum words low high f) (indexed words leaves) at (λ k from within. behind_last f k (omega (arith, beyond, from)) within)) ∙ sym (was.sums f)
        ∙ sym (sum_by-IsPermutation f (map without_slot old) (map without_slot new) (IsPermutation-map without_slot old new moved))))
        ∙ ap (filter (keeps words low high)) (sym (pairs_are words tree leaves stands))
