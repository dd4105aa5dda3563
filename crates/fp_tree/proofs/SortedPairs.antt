-- The pairs of a full leaf, put in the order of their keys.
use Rattle.std.proofs.Common.{◌≡◌, ⊎_elim, ℕ, zero, suc, ◌+◌, ◌-◌, ◌*◌, ◌%◌, ◌^◌, ◌<◌, ◌≤◌, Bool, true, false, cond, eqb, List, [], ◌∷◌, ◌++◌, map, get_or, refl, sym, ◌∙◌, ap, ap₂, subst, arith}
use Rattle.std.specs.Prelude.{All, sum_by}
use Rattle.std.specs.List.{range_with_len}
use Rattle.std.specs.List.Sorted.{IsNonDecreasingBy, IsPermutation}
use Rattle.std.specs.Int.{bit_at}
use Rattle.std.proofs.lemmas.Bool.{both_ways, eq-eqb, eqb-true, ltb-true}
use Rattle.std.proofs.lemmas.List.{get_or-map, length-map}
use Rattle.std.proofs.lemmas.List.FromFn.{map-range_with_len_more}
use Rattle.std.proofs.lemmas.List.Sorted.{All-permutation, IsPermutation-map, sum_by-IsPermutation}
use Rattle.std.proofs.lemmas.Nat.Bits.{bit_at_ones}
use Rattle.fp_leaf.specs.Leaf.{bitmap_of, pair_of, pairs_below}
use Rattle.fp_leaf.specs.Slots.{is_used}
use Rattle.fp_leaf.specs.declared.pair_list.Pair.{Pair as SlotPair}
use Rattle.image_layout.specs.Places.{below}
use Rattle.image_layout.specs.Records.{code_at, key_at}
use Rattle.image_layout.specs.Trees.{leaf_pairs, pair_at}
use Rattle.shown_state.specs.Mending.{slots_by_key}
use Rattle.tree_cuts.specs.Lists.{Each, Pairwise}
use Rattle.tree_cuts.specs.Tree.{KeysDiffer, is_key_below}
use Rattle.tree_cuts.proofs.Halves.{differing, full-pairs, ordered-is, sum-sorted}
use Rattle.tree_cuts.proofs.Lists.{each-both, each-mapped}
use Rattle.tree_cuts.proofs.Ordered.{IsSorted, ordered-sorted}
use Rattle.tree_cuts.proofs.Sorting.{Differ, differ-sym, pairwise-sorted}
use Rattle.fp_tree.specs.Halving.{ordered_pairs, slot_pair}
use Rattle.fp_tree.specs.Standing.{IsSoundLeaf}
use Rattle.fp_tree.proofs.Around.{each_from}
use Rattle.fp_tree.proofs.SameOrder.{pairwise_from, same_order}

module _ (words : List ℕ) (leaf : ℕ) (full : get_or words leaf 0 ≡ 2 ^ 48 - 1) where
  abbrev key_of : ℕ → ℕ
  key_of slot = get_or words (key_at leaf slot) 0

  -- the slots rise by their keys
  rising : Pairwise KeysDiffer (leaf_pairs words leaf) → Pairwise (λ s t. key_of s < key_of t) (slots_by_key words false leaf)
  rising distinct = both (slots_by_key words false leaf) (ordered-sorted words leaf full)
      (subst (Pairwise (λ s t. Differ is_key_below (pair_at words leaf s) (pair_at words leaf t))) (sym (ordered-is words leaf full))
      (pairwise-sorted by_key (λ s t. Differ is_key_below (pair_at words leaf s) (pair_at words leaf t)) (λ s t. differ-sym is_key_below (pair_at words leaf s) (pair_at words leaf t)) (below 48)
      (differing (pair_at words leaf) 0 48 (subst (Pairwise KeysDiffer) (full-pairs words leaf full) distinct))))
    where
      by_key : ℕ → ℕ → Bool
      by_key s t = is_key_below (pair_at words leaf s) (pair_at words leaf t)

      strict : (s t : ℕ) → by_key t s ≡ false → Differ is_key_below (pair_at words leaf s) (pair_at words leaf t) → key_of s < key_of t
      strict s t not_under = ⊎_elim (λ h. ltb-true (key_of s) (key_of t) h.0) (λ h. absurd (both_ways (by_key t s) not_under h.1))

      both : (xs : List ℕ) → IsSorted by_key xs → Pairwise (λ s t. Differ is_key_below (pair_at words leaf s) (pair_at words leaf t)) xs → Pairwise (λ s t. key_of s < key_of t) xs
      both [] sorted differ = tt
      both (x ∷ xs) sorted differ = (
        each-both (λ t. by_key t x ≡ false) (λ t. Differ is_key_below (pair_at words leaf x) (pair_at words leaf t)) (λ t. key_of x < key_of t) (λ t. strict x t) xs sorted.0 differ.0,
        both xs sorted.1 differ.1,
      )

  slots_back : (slots : List ℕ) → map (λ pair. pair.slot) (map (slot_pair words leaf) slots) ≡ slots
  slots_back [] = refl
  slots_back (slot ∷ slots) = ap (λ (rest : List ℕ). slot ∷ rest) (slots_back slots)

  abbrev IsOwn : SlotPair → Type 0
  IsOwn pair = pair ≡ slot_pair words leaf pair.slot

  pairs_back : (pairs : List SlotPair) → Each IsOwn pairs → map (slot_pair words leaf) (map (λ pair. pair.slot) pairs) ≡ pairs
  pairs_back [] each = refl
  pairs_back (pair ∷ pairs) each = ap₂ (λ (p : SlotPair) (ps : List SlotPair). p ∷ ps) (sym each.0) (pairs_back pairs each.1)

  own_at : (slots : List ℕ) → All IsOwn (map (slot_pair words leaf) slots)
  own_at slots = λ k d lt. subst IsOwn (sym (get_or-map (slot_pair words leaf) slots k 0 d (let size = length-map slots (slot_pair words leaf) in omega (arith, size, lt)))) refl

  keys_in_order : (pairs : List SlotPair) → Each IsOwn pairs → Pairwise (λ a b. a.key ≤ b.key) pairs → Pairwise (λ s t. key_of s ≤ key_of t) (map (λ pair. pair.slot) pairs)
  keys_in_order [] each order = tt
  keys_in_order (pair ∷ pairs) each order = (
    each-mapped (λ t. key_of pair.slot ≤ key_of t) (λ p. p.slot) pairs
        (each-both IsOwn (λ b. pair.key ≤ b.key) (λ b. key_of pair.slot ≤ key_of b.slot)
        (λ b own le. let key = ap (λ (p : SlotPair). p.key) own in let first = ap (λ (p : SlotPair). p.key) each.0 in omega (arith, key, first, le)) pairs each.1 order.0),
    keys_in_order pairs each.1 order.1,
  )

  -- what a sort of the pairs of all slots gives
  pub sorted_is : Pairwise KeysDiffer (leaf_pairs words leaf) → (old new : List SlotPair) → old ≡ map (slot_pair words leaf) (below 48) → IsPermutation old new → IsNonDecreasingBy (λ pair. pair.key) new → new ≡ ordered_pairs words leaf
  sorted_is distinct old new old_is moved order =
      let own : Each IsOwn new =
      each_from IsOwn (slot_pair words leaf 0) new (λ k lt. All-permutation IsOwn old new moved (subst (All IsOwn) (sym old_is) (own_at (below 48))) k (slot_pair words leaf 0) lt) in
      let slots : List ℕ = map (λ pair. pair.slot) new in
      let shuffled : IsPermutation (below 48) slots = subst (λ (l : List ℕ). IsPermutation l slots) (ap (map (λ pair. pair.slot)) old_is ∙ slots_back (below 48)) (IsPermutation-map (λ (pair : SlotPair). pair.slot) old new moved) in
      let same : slots_by_key words false leaf ≡ slots =
      same_order eqb eqb-true (λ slot. eq-eqb slot slot refl) key_of (slots_by_key words false leaf) slots (rising distinct) (keys_in_order new own (pairwise_from (λ (pair : SlotPair). pair.key) new order))
      (λ f. ap (sum_by f) (ordered-is words leaf full) ∙ sum-sorted f (λ s t. is_key_below (pair_at words leaf s) (pair_at words leaf t)) (below 48) ∙ sym (sum_by-IsPermutation f (below 48) slots shuffled)) in
      sym (pairs_back new own) ∙ ap (map (slot_pair words leaf)) (sym same)

  module _ (found : List ℕ) (copied : (word : ℕ) → word < 104 → get_or found word 0 ≡ get_or words (leaf + word) 0) (sound : IsSoundLeaf words leaf) where
    bitmap_full : bitmap_of found ≡ 2 ^ 48 - 1
    bitmap_full = copied 0 (omega arith) ∙ ap (λ (w : ℕ). get_or words w 0) (omega arith) ∙ full

    used : (slot : ℕ) → slot < 48 → is_used (bitmap_of found) slot ≡ true
    used slot lt = eq-eqb (bit_at (bitmap_of found) slot) 1 (ap (λ (n : ℕ). bit_at n slot) bitmap_full ∙ bit_at_ones 48 slot lt)

    pair_is : (slot : ℕ) → slot < 48 → pair_of found slot ≡ slot_pair words leaf slot
    pair_is slot lt =
        let key : get_or found (8 + 2 * slot) 0 ≡ get_or words (key_at leaf slot) 0 = copied (8 + 2 * slot) (omega (arith, lt)) ∙ ap (λ (w : ℕ). get_or words w 0) (omega arith) in
        let word : get_or found (9 + 2 * slot) 0 ≡ get_or words (code_at leaf slot) 0 = copied (9 + 2 * slot) (omega (arith, lt)) ∙ ap (λ (w : ℕ). get_or words w 0) (omega arith) in
        let small = sound.codes slot lt (ap (λ (n : ℕ). bit_at n slot) full ∙ bit_at_ones 48 slot lt) in
        let code : get_or found (9 + 2 * slot) 0 % 2 ^ 32 ≡ get_or words (code_at leaf slot) 0 = omega (arith, word, small) in
        λ i. record { key = key i; code = code i; slot = slot }

    all_found : (count : ℕ) → count ≤ 48 → pairs_below found count ≡ map (slot_pair words leaf) (range_with_len 0 count)
    unfolding pairs_below
    all_found zero le = refl
    all_found (suc count) le =
        let onward : count + 1 ≡ suc count = omega arith in
        ap₂ (λ (l m : List SlotPair). l ++ m) (all_found count (omega (arith, le)))
        (ap (λ (b : Bool). cond b (pair_of found count ∷ []) []) (used count (omega (arith, le))) ∙ ap (λ (p : SlotPair). p ∷ []) (pair_is count (omega (arith, le))))
        ∙ sym (map-range_with_len_more (slot_pair words leaf) 0 count count (omega arith))
        ∙ ap (λ (n : ℕ). map (slot_pair words leaf) (range_with_len 0 n)) onward

    pub sorted_found : Pairwise KeysDiffer (leaf_pairs words leaf) → (old new : List SlotPair) → old ≡ pairs_below found 48 → IsPermutation old new → IsNonDecreasingBy (λ pair. pair.key) new → new ≡ ordered_pairs words leaf
    sorted_found distinct old new old_is = sorted_is distinct old new (old_is ∙ all_found 48 (omega arith))
