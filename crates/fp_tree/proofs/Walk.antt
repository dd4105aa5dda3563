-- A pass over the leaves.
use Rattle.std.proofs.Common.{◌≡◌, ◌≢◌, ◌⊎◌, inl, inr, ⊎_elim, ℕ, zero, suc, ◌+◌, ◌^◌, ◌<◌, ◌≤◌, Bool, true, false, cond, eqb, ltb, List, [], ◌∷◌, ◌++◌, length, get_or, map, min, refl, sym, ◌∙◌, ap, subst, arith, length-append, w64}
use Rattle.std.specs.Prelude.{IsTrue, filter}
use Rattle.std.specs.Int.{bit_at, trailing_zeros}
use Rattle.std.proofs.lemmas.Nat.Bits.{bit_at-trailing_zeros}
use Rattle.fp_tree.proofs.Search.{marked_slot}
use Rattle.std.proofs.lemmas.Bool.{and_from, cases_Bool, cases_eq, cond-false, cond-true, eq-eqb, eqb-true, lt-ltb, ltb-false, ltb-true}
use Rattle.std.proofs.lemmas.List.{append-nil}
use Rattle.image_layout.specs.Places.{is_pointer, place_in}
use Rattle.image_layout.specs.Pointer.{pointer_word}
use Rattle.image_layout.specs.Records.{first_leaf_at, key_at}
use Rattle.image_layout.specs.Trees.{AreLeavesFrom}
use Rattle.fp_inner.specs.Keys.{least_key}
use Rattle.tree_cuts.specs.Lists.{Each}
use Rattle.tree_cuts.specs.Tree.{IsPlaced}
use Rattle.tree_cuts.proofs.Lists.{each-map, each-parts, filter-hit, filter-miss}
use Rattle.fp_tree.specs.Entries.{AreEntries, HasAdded, HasFound, HasLeaves, HaveKeys}
use Rattle.mv_model.specs.declared.shape.Kind.TheVariants.{Int as Ints}
use Rattle.fp_tree.specs.TreeState.{TreeState}
use Rattle.fp_tree.specs.Standing.{HasSoundTree, IsLeastKey, IsSoundLeaf, IsSoundTree, Stands, has_pairs, indexed, or_first}
use Rattle.fp_tree.proofs.Chosen.{slot_pair, slots_each, same_pointer}

pub pointer_here : (words : List ℕ) (word leaf : ℕ) → word ≡ pointer_word leaf → leaf < length words → (IsTrue (is_pointer words word)) × (place_in word ≡ leaf)
pointer_here words word leaf is lt =
    let place : place_in word ≡ leaf = ap place_in is ∙ back leaf in (
      and_from (eqb word (pointer_word (place_in word))) (ltb (place_in word) (length words)) (eq-eqb word (pointer_word (place_in word)) (is ∙ ap pointer_word (sym place))) (lt-ltb (place_in word) (length words) (omega (arith, place, lt))),
      place,
    )
  where
    back : (n : ℕ) → place_in (pointer_word n) ≡ n
    back n = omega arith

have_append : (words : List ℕ) (xs ys : List ℕ) (es fs : List (ℕ × ℕ)) → HaveKeys words xs es → HaveKeys words ys fs → HaveKeys words (xs ++ ys) (es ++ fs)
have_append words [] ys [] fs have more = more
have_append words [] ys (e ∷ es) fs have more = absurd have
have_append words (x ∷ xs) ys [] fs have more = absurd have
have_append words (x ∷ xs) ys (e ∷ es) fs have more = (have.0, have.1, have_append words xs ys es fs have.2 more)

filter_append : (p : ℕ → Bool) (xs ys : List ℕ) → filter p (xs ++ ys) ≡ filter p xs ++ filter p ys
filter_append p [] ys = refl
filter_append p (x ∷ xs) ys = ⊎_elim
    (λ hit. filter-hit p x (xs ++ ys) hit ∙ ap (λ (zs : List ℕ). x ∷ zs) (filter_append p xs ys) ∙ ap (λ (zs : List ℕ). zs ++ filter p ys) (sym (filter-hit p x xs hit)))
    (λ miss. filter-miss p x (xs ++ ys) miss ∙ filter_append p xs ys ∙ ap (λ (zs : List ℕ). zs ++ filter p ys) (sym (filter-miss p x xs miss)))
    (cases_Bool (p x))

append_three : (xs : List ℕ) (y : ℕ) (zs : List ℕ) → (xs ++ y ∷ []) ++ zs ≡ xs ++ y ∷ zs
append_three [] y zs = refl
append_three (x ∷ xs) y zs = ap (λ (ws : List ℕ). x ∷ ws) (append_three xs y zs)

-- the leaves that were passed, and those that are left from the word at a place
pub record Walking (words : List ℕ) (leaves : List ℕ) (at turn : ℕ) (entries : List (ℕ × ℕ)) : Type 0 where
  pub done : List ℕ
  pub rest : List ℕ
  pub is : leaves ≡ done ++ rest
  pub count : length done ≡ turn
  pub within : at < length words
  pub walk : AreLeavesFrom words (get_or words at 0) rest
  pub found : HaveKeys words (filter (has_pairs words) done) entries

pub walk_begins : (words : List ℕ) (column : ℕ) (tree : HasSoundTree words column) → Walking words tree.0 (first_leaf_at column) 0 []
walk_begins words column tree = record {
  done = [];
  rest = tree.0;
  is = refl;
  count = refl;
  within = let within = tree.1.tree_is.column_within in omega (arith, within);
  walk = tree.1.tree_is.walk;
  found = tt;
}

pub record Next (words : List ℕ) (at leaf : ℕ) : Type 0 where
  pub pointer : IsTrue (is_pointer words (get_or words at 0))
  pub place : place_in (get_or words at 0) ≡ leaf
  pub room : leaf + 104 ≤ length words
  pub sound : IsSoundLeaf words leaf

module _ (words : List ℕ) (column at turn : ℕ) (entries : List (ℕ × ℕ)) (tree : HasSoundTree words column) (walking : Walking words tree.0 at turn entries) where
  next_by : (rest : List ℕ) → tree.0 ≡ walking.done ++ rest → AreLeavesFrom words (get_or words at 0) rest → get_or words at 0 ≢ 0 → Next words at (place_in (get_or words at 0))
  next_by [] is walk some = absurd (some walk)
  next_by (leaf ∷ rest) is walk some =
      let placed = (each-parts (IsPlaced (length words) column) walking.done (leaf ∷ rest) (subst (Each (IsPlaced (length words) column)) is tree.1.tree_is.placed)).1.0 in
      let sound = (each-parts (IsSoundLeaf words) walking.done (leaf ∷ rest) (subst (Each (IsSoundLeaf words)) is tree.1.sound)).1.0 in
      let inside = placed.within in
      let here = pointer_here words (get_or words at 0) leaf walk.0 (omega (arith, inside)) in
      record { pointer = here.0; place = refl; room = subst (λ (l : ℕ). l + 104 ≤ length words) (sym here.1) inside; sound = subst (IsSoundLeaf words) (sym here.1) sound }

  pub next_leaf : get_or words at 0 ≢ 0 → Next words at (place_in (get_or words at 0))
  next_leaf some = next_by walking.rest walking.is walking.walk some

  on_by : (leaf : ℕ) (new : List (ℕ × ℕ)) (rest : List ℕ) → tree.0 ≡ walking.done ++ rest → AreLeavesFrom words (get_or words at 0) rest → get_or words at 0 ≢ 0 → leaf ≡ place_in (get_or words at 0) → leaf + 104 ≤ length words → HasAdded words leaf entries new → Walking words tree.0 (leaf + 1) (turn + 1) new
  on_by leaf new [] is walk some place room added = absurd (some walk)
  on_by leaf new (first ∷ rest) is walk some place room added =
      let placed = (each-parts (IsPlaced (length words) column) walking.done (first ∷ rest) (subst (Each (IsPlaced (length words) column)) is tree.1.tree_is.placed)).1.0 in
      let inside = placed.within in
      let same : leaf ≡ first = place ∙ (pointer_here words (get_or words at 0) first walk.0 (omega (arith, inside))).1 in
      let count = walking.count in
      record {
        done = walking.done ++ first ∷ [];
        rest = rest;
        is = is ∙ sym (append_three walking.done first rest);
        count = let more = length-append walking.done (first ∷ []) in omega (arith, more, count);
        within = omega (arith, room);
        walk = subst (λ (l : ℕ). AreLeavesFrom words (get_or words (l + 1) 0) rest) (sym same) walk.1;
        found = subst (λ (xs : List ℕ). HaveKeys words xs new) (sym (filter_append (has_pairs words) walking.done (first ∷ [])))
            (subst (HaveKeys words (filter (has_pairs words) walking.done ++ filter (has_pairs words) (first ∷ []))) (sym added.is)
            (have_append words (filter (has_pairs words) walking.done) (filter (has_pairs words) (first ∷ [])) entries (cond (has_pairs words leaf) ((added.key, pointer_word leaf) ∷ []) []) walking.found
            (⊎_elim
            (λ hit. subst (λ (es : List (ℕ × ℕ)). HaveKeys words (filter (has_pairs words) (first ∷ [])) es) (sym (cond-true (has_pairs words leaf) ((added.key, pointer_word leaf) ∷ []) [] hit))
            (subst (λ (xs : List ℕ). HaveKeys words xs ((added.key, pointer_word leaf) ∷ [])) (sym (filter-hit (has_pairs words) first [] (subst (λ (l : ℕ). has_pairs words l ≡ true) same hit)))
            (ap pointer_word same, subst (λ (l : ℕ). IsLeastKey words l added.key) same (added.least hit), tt)))
            (λ miss. subst (λ (es : List (ℕ × ℕ)). HaveKeys words (filter (has_pairs words) (first ∷ [])) es) (sym (cond-false (has_pairs words leaf) ((added.key, pointer_word leaf) ∷ []) [] miss))
            (subst (λ (xs : List ℕ). HaveKeys words xs []) (sym (filter-miss (has_pairs words) first [] (subst (λ (l : ℕ). has_pairs words l ≡ false) same miss))) tt))
            (cases_Bool (has_pairs words leaf)))));
      }

  pub walks_on : (leaf : ℕ) (new : List (ℕ × ℕ)) → get_or words at 0 ≢ 0 → leaf ≡ place_in (get_or words at 0) → leaf + 104 ≤ length words → HasAdded words leaf entries new → Walking words tree.0 (leaf + 1) (turn + 1) new
  walks_on leaf new = λ some place room added. on_by leaf new walking.rest walking.is walking.walk some place room added

-- two walks from one word are the same
same_walk : (words : List ℕ) (word : ℕ) (xs ys : List ℕ) → AreLeavesFrom words word xs → AreLeavesFrom words word ys → xs ≡ ys
same_walk words word [] [] a b = refl
same_walk words word [] (y ∷ ys) a b = absurd (let none = sym a ∙ b.0 in omega (arith, none))
same_walk words word (x ∷ xs) [] a b = absurd (let none = sym b ∙ a.0 in omega (arith, none))
same_walk words word (x ∷ xs) (y ∷ ys) a b =
    let same = same_pointer x y (sym a.0 ∙ b.0) in
    ap (λ (z : ℕ). z ∷ xs) same ∙ ap (λ (zs : List ℕ). y ∷ zs) (same_walk words (get_or words (y + 1) 0) xs ys (subst (λ (z : ℕ). AreLeavesFrom words (get_or words (z + 1) 0) xs) same a.1) b.1)

pub same_leaves : (words : List ℕ) (column : ℕ) (xs ys : List ℕ) → IsSoundTree words column xs → IsSoundTree words column ys → xs ≡ ys
same_leaves words column xs ys a b = same_walk words (get_or words (first_leaf_at column) 0) xs ys a.tree_is.walk b.tree_is.walk

has_found : (words : List ℕ) (column : ℕ) (tree : HasSoundTree words column) (entries : List (ℕ × ℕ)) → HaveKeys words (filter (has_pairs words) tree.0) entries → HasFound words column entries
has_found words column tree entries have leaves sound = subst (λ (ls : List ℕ). HaveKeys words (filter (has_pairs words) ls) entries) (same_leaves words column tree.0 leaves tree.1 sound) have

pub walk_ends : (words : List ℕ) (column at turn : ℕ) (entries : List (ℕ × ℕ)) (tree : HasSoundTree words column) → Walking words tree.0 at turn entries → (get_or words at 0 ≡ 0) ⊎ (length words ≤ turn) → HasFound words column entries
walk_ends words column at turn entries tree walking ended =
    let all : tree.0 ≡ walking.done = ⊎_elim
    (λ null. walking.is ∙ ap (λ (zs : List ℕ). walking.done ++ zs) (same_walk words (get_or words at 0) walking.rest [] walking.walk null) ∙ append-nil walking.done)
    (λ long. absurd (let few = tree.1.tree_is.fewer in let size = ap length walking.is in let both = length-append walking.done walking.rest in let count = walking.count in omega (arith, few, size, both, count, long)))
    ended in
    has_found words column tree entries (subst (λ (ls : List ℕ). HaveKeys words (filter (has_pairs words) ls) entries) (sym all) walking.found)

-- ── the entries of the index ──

have_pointers : (words : List ℕ) (ls : List ℕ) (es : List (ℕ × ℕ)) → HaveKeys words ls es → map (λ entry. entry.1) es ≡ map pointer_word ls
have_pointers words [] [] have = refl
have_pointers words [] (e ∷ es) have = absurd have
have_pointers words (l ∷ ls) [] have = absurd have
have_pointers words (l ∷ ls) (e ∷ es) have = ap (λ (p : ℕ). p ∷ map (λ entry. entry.1) es) have.0 ∙ ap (λ (ps : List ℕ). pointer_word l ∷ ps) (have_pointers words ls es have.2)

have_keys : (words : List ℕ) (ls : List ℕ) (es : List (ℕ × ℕ)) → HaveKeys words ls es → (at : ℕ) → at < length es → IsLeastKey words (get_or ls at 0) (least_key es at)
have_keys words [] [] have at lt = absurd (omega (arith, lt))
have_keys words [] (e ∷ es) have at lt = absurd have
have_keys words (l ∷ ls) [] have at lt = absurd have
have_keys words (l ∷ ls) (e ∷ es) have zero lt = have.1
have_keys words (l ∷ ls) (e ∷ es) have (suc at) lt = have_keys words ls es have.2 at (omega (arith, lt))

-- the entries of leaves that are known by a list of those with a pair
pub record Indexes (words : List ℕ) (fs leaves : List ℕ) (es : List (ℕ × ℕ)) : Type 0 where
  pub pointers : map (λ entry. entry.1) es ≡ map pointer_word (or_first fs leaves)
  pub keys : (at : ℕ) → 0 < at → at < length es → IsLeastKey words (get_or (or_first fs leaves) at 0) (least_key es at)

indexes_some : (words : List ℕ) (fs leaves : List ℕ) (es : List (ℕ × ℕ)) → length es ≢ 0 → HaveKeys words fs es → Indexes words fs leaves es
indexes_some words [] leaves [] some have = absurd (some refl)
indexes_some words [] leaves (e ∷ es) some have = absurd have
indexes_some words (f ∷ fs) leaves es some have = record { pointers = have_pointers words (f ∷ fs) es have; keys = λ at pos lt. have_keys words (f ∷ fs) es have at lt }

pub some_entries : (words : List ℕ) (column : ℕ) (entries : List (ℕ × ℕ)) → length entries ≢ 0 → HasFound words column entries → AreEntries words column entries
some_entries words column entries some found leaves sound =
    let is = indexes_some words (filter (has_pairs words) leaves) leaves entries some (found leaves sound) in
    record { pointers = is.pointers; keys = is.keys }

none_left : (words : List ℕ) (fs : List ℕ) (es : List (ℕ × ℕ)) → length es ≡ 0 → HaveKeys words fs es → fs ≡ []
none_left words [] es none have = refl
none_left words (f ∷ fs) [] none have = absurd have
none_left words (f ∷ fs) (e ∷ es) none have = absurd (omega (arith, none))

nil_from : (es : List (ℕ × ℕ)) → length es ≡ 0 → es ≡ []
nil_from [] none = refl
nil_from (e ∷ es) none = absurd (omega (arith, none))

pub stands_by : (words : List ℕ) (column : ℕ) (tree : HasSoundTree words column) (entries : List (ℕ × ℕ)) (made : TreeState) → AreEntries words column entries → made.column ≡ column → made.inner.kind ≡ Ints → made.inner.leaves ≡ entries → Stands words made
stands_by words column tree entries made are same kind leaves =
    let has = are tree.0 tree.1 in (
      tree.0,
      record {
        in_words = subst (λ (n : ℕ). IsSoundTree words n tree.0) (sym same) tree.1;
        index = record {
          kind = kind;
          pointers = ap (map (λ (entry : ℕ × ℕ). entry.1)) leaves ∙ has.pointers;
          keys = subst (λ (es : List (ℕ × ℕ)). (at : ℕ) → 0 < at → at < length es → IsLeastKey words (get_or (indexed words tree.0) at 0) (least_key es at)) (sym leaves) has.keys;
        };
      },
    )

module _ (words : List ℕ) (column : ℕ) (tree : HasSoundTree words column) (old new : List (ℕ × ℕ)) (found : HasFound words column old) (empty : length old ≡ 0) where
  pub no_first : get_or words (first_leaf_at column) 0 ≡ 0 → new ≡ old → AreEntries words column new
  no_first null same leaves sound =
      let none : leaves ≡ [] = same_walk words (get_or words (first_leaf_at column) 0) leaves [] sound.tree_is.walk null in
      let nil : new ≡ [] = same ∙ nil_from old empty in
      record {
        pointers = ap (map (λ (entry : ℕ × ℕ). entry.1)) nil ∙ ap (λ (ls : List ℕ). map pointer_word (indexed words ls)) (sym none);
        keys = λ at some lt. absurd (let count = ap length nil in omega (arith, count, lt));
      }

  pub first_found : get_or words (first_leaf_at column) 0 ≢ 0 → IsTrue (is_pointer words (get_or words (first_leaf_at column) 0))
  first_found some = (next_leaf words column (first_leaf_at column) 0 [] tree (walk_begins words column tree) some).pointer

  pub one_first : (leaf : ℕ) → get_or words (first_leaf_at column) 0 ≢ 0 → leaf ≡ place_in (get_or words (first_leaf_at column) 0) → new ≡ old ++ (0, pointer_word leaf) ∷ [] → AreEntries words column new
  one_first leaf some place is leaves sound = by_list leaves sound.tree_is.walk (none_left words (filter (has_pairs words) leaves) old empty (found leaves sound)) (fits leaves sound)
    where
      fits : (ls : List ℕ) → IsSoundTree words column ls → Each (λ l. l < length words) ls
      fits ls sound = each-map (IsPlaced (length words) column) (λ l. l < length words) (λ l placed. let within = placed.within in omega (arith, within)) ls sound.tree_is.placed

      by_list : (ls : List ℕ) → AreLeavesFrom words (get_or words (first_leaf_at column) 0) ls → filter (has_pairs words) ls ≡ [] → Each (λ l. l < length words) ls → HasLeaves words ls new
      by_list [] walk none each = absurd (some walk)
      by_list (x ∷ xs) walk none each =
          let same : leaf ≡ x = place ∙ (pointer_here words (get_or words (first_leaf_at column) 0) x walk.0 each.0).1 in
          let nil : new ≡ (0, pointer_word leaf) ∷ [] = is ∙ ap (λ (es : List (ℕ × ℕ)). es ++ (0, pointer_word leaf) ∷ []) (nil_from old empty) in
          record {
            pointers = ap (map (λ (entry : ℕ × ℕ). entry.1)) nil ∙ ap (λ (l : ℕ). pointer_word l ∷ []) same ∙ ap (λ (fs : List ℕ). map pointer_word (or_first fs (x ∷ xs))) (sym none);
            keys = λ at pos lt. absurd (let count = ap length nil in omega (arith, count, lt, pos));
          }

-- ── the least key of a leaf ──

-- the least key among the slots below one, and that of one slot
pub record Least (words : List ℕ) (leaf count least : ℕ) : Type 0 where
  pub has : (slot : ℕ) × (slot < 48) × (bit_at (get_or words leaf 0) slot ≡ 1) × (least ≡ get_or words (key_at leaf slot) 0)
  pub below : (slot : ℕ) → slot < count → bit_at (get_or words leaf 0) slot ≡ 1 → least ≤ get_or words (key_at leaf slot) 0

pub least_begins : (words : List ℕ) (leaf slot least : ℕ) → slot < 48 → bit_at (get_or words leaf 0) slot ≡ 1 → least ≡ get_or words (key_at leaf slot) 0 → Least words leaf 0 least
least_begins words leaf slot least lt used is = record { has = (slot, lt, used, is); below = λ k none. absurd (omega (arith, none)) }

pub least_passes : (words : List ℕ) (leaf count least : ℕ) → bit_at (get_or words leaf 0) count ≢ 1 → Least words leaf count least → Least words leaf (count + 1) least
least_passes words leaf count least free was = record {
  has = was.has;
  below = λ k lt used. ⊎_elim (λ (same : k ≡ count). absurd (free (ap (bit_at (get_or words leaf 0)) (sym same) ∙ used))) (λ apart. was.below k (omega (arith, lt, apart)) used) (cases_eq k count);
}

pub least_takes : (words : List ℕ) (leaf count least key : ℕ) → count < 48 → bit_at (get_or words leaf 0) count ≡ 1 → key ≡ get_or words (key_at leaf count) 0 → Least words leaf count least → Least words leaf (count + 1) (min least key)
least_takes words leaf count least key lt used is was = record {
  has = ⊎_elim
      (λ (le : least ≤ key). let h = was.has in (h.0, h.1, h.2, let e = h.3 in omega (arith, le, e)))
      (λ (le : key ≤ least). (count, lt, used, omega (arith, le, is)))
      (le_or least key);
  below = λ k below used_k. ⊎_elim
      (λ (same : k ≡ count). let e = is ∙ ap (λ (s : ℕ). get_or words (key_at leaf s) 0) (sym same) in omega (arith, e))
      (λ apart. let le = was.below k (omega (arith, below, apart)) used_k in omega (arith, le))
      (cases_eq k count);
}
  where
    le_or : (a b : ℕ) → (a ≤ b) ⊎ (b ≤ a)
    le_or a b = ⊎_elim (λ hit. inl (let lt = ltb-true a b hit in omega (arith, lt))) (λ miss. inr (ltb-false a b miss)) (cases_Bool (ltb a b))

pub least_is : (words : List ℕ) (leaf least : ℕ) → Least words leaf 48 least → IsLeastKey words leaf least
least_is words leaf least was = record {
  has = slot_pair words leaf was.has.0 (λ pair. pair.key ≡ least) was.has.1 was.has.2 (sym was.has.3);
  least = slots_each words leaf (λ pair. least ≤ pair.key) (λ slot lt used. was.below slot lt (eqb-true (bit_at (get_or words leaf 0) slot) 1 used));
}

pub lowest_used : (words : List ℕ) (leaf bitmap : ℕ) → bitmap ≡ get_or words leaf 0 → get_or words leaf 0 < 2 ^ 48 → get_or words leaf 0 ≢ 0 → (trailing_zeros w64 bitmap < 48) × (bit_at (get_or words leaf 0) (trailing_zeros w64 bitmap) ≡ 1)
lowest_used words leaf bitmap is fits some =
    let bit = (bit_at-trailing_zeros w64 bitmap (positive bitmap (λ none. some (sym is ∙ none))) (omega (arith, is, fits))).1 in (
      marked_slot bitmap (trailing_zeros w64 bitmap) (omega (arith, is, fits)) bit,
      ap (λ (n : ℕ). bit_at n (trailing_zeros w64 bitmap)) (sym is) ∙ bit,
    )
  where
    positive : (n : ℕ) → n ≢ 0 → 0 < n
    positive n some = ⊎_elim (λ none. absurd (some none)) (λ isn't. omega (arith, isn't)) (cases_eq n 0)
