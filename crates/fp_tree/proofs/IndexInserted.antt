-- The index after an insertion: the leaf of the key has one pair more, and its least key is the same.
use Rattle.std.proofs.Common.{◌≡◌, ◌⊎◌, inl, inr, ⊎_elim, ℕ, zero, suc, ◌+◌, ◌^◌, ◌<◌, ◌≤◌, Bool, true, false, not, cond, eqb, List, [], ◌∷◌, ◌++◌, length, get_or, map, refl, sym, ◌∙◌, ap, subst, arith}
use Rattle.std.specs.Prelude.{Any, Option, filter}
use Rattle.std.specs.Int.{bit_at}
use Rattle.std.specs.List.{list_any, range_with_len}
use Rattle.std.proofs.lemmas.Bool.{both_ways, cases_Bool, cond-false, cond-true, eqb-true, ne_eqb, not-true, not_from_false, or_cases}
use Rattle.std.proofs.lemmas.List.Elements.{filter-append}
use Rattle.std.proofs.lemmas.Nat.Bits.{bit_at-zero}
use Rattle.heap_small.specs.Bitmap.{with_bit}
use Rattle.heap_small.proofs.Bitmaps.{with_bit-same}
use Rattle.heap_palloc.proofs.RulesKept.{with_bit-fits}
use Rattle.pm_model.specs.Plans.{finished}
use Rattle.image_layout.specs.Pointer.{pointer_word}
use Rattle.image_layout.specs.Trees.{Pair, leaf_pairs, pair_at}
use Rattle.fp_inner.specs.Keys.{is_below, least_key}
use Rattle.fp_inner.specs.declared.probe.Probe.{Probe}
use Rattle.fp_inner.specs.declared.probe.Probe.TheVariants.{Int}
use Rattle.tree_cuts.specs.Insertion.{Insertion, Lead, MayInsert, insertion_parts}
use Rattle.tree_cuts.specs.Lists.{Each}
use Rattle.tree_cuts.specs.Tree.{KeysBelow}
use Rattle.tree_cuts.proofs.Inserting.{bitmap-done, insertion-prints, insertion-quiet, insertion-tree, others-done, own-has, used-done}
use Rattle.tree_cuts.proofs.Lists.{each-append, each-both, each-map, each-parts, filter-hit, filter-miss, filter-none, filter-same}
use Rattle.tree_cuts.proofs.Reading.{LeafIsSame}
use Rattle.pm_model.specs.declared.action.Action.{Action}
use Rattle.fp_tree.specs.Changes.{IsBetweenLeaves}
use Rattle.fp_tree.specs.Inserted.{GoesOnInserted, IsInserted, IsKeyFor, IsLeadLive, inserted_words}
use Rattle.fp_tree.proofs.Kept.{may_plan}
use Rattle.fp_tree.specs.Standing.{IsIndexOf, IsLeastKey, IsSoundLeaf, StandsFor, has_key_up_to, has_pairs, indexed, is_key, last_up_to, leaf_of, or_first}
use Rattle.fp_tree.specs.TreeState.{TreeState}
use Rattle.fp_tree.proofs.Around.{each_any, each_at, each_indexed, not_below, ordered_indexed, pairwise_at}
use Rattle.fp_tree.proofs.ChangesHold.{insertion_ordered}
use Rattle.fp_tree.proofs.Chosen.{any_cases, list_is, size, slot_pair}
use Rattle.fp_tree.proofs.Search.{int_key, int_probe}
use Rattle.fp_tree.proofs.IndexKept.{codes_each, has_same, least_same, sound_from, sound_same}

-- ── the pair of a slot ──

any_picked : (P : Pair → Type 0) (f : ℕ → Pair) (p : ℕ → Bool) (low n : ℕ) → Any P (map f (filter p (range_with_len low n)))
    → (slot : ℕ) × (slot < low + n) × (p slot ≡ true) × P (f slot)
any_picked P f p low zero any = absurd (let lt = any.2 in omega (arith, lt))
any_picked P f p low (suc n) any = ⊎_elim
    (λ hit. ⊎_elim
    (λ here. (low, omega arith, hit, here))
    (λ rest. further (any_picked P f p (low + 1) n rest))
    (any_cases P (f low) (map f (filter p (range_with_len (low + 1) n))) (subst (λ (xs : List ℕ). Any P (map f xs)) (filter-hit p low (range_with_len (low + 1) n) hit) any)))
    (λ miss. further (any_picked P f p (low + 1) n (subst (λ (xs : List ℕ). Any P (map f xs)) (filter-miss p low (range_with_len (low + 1) n) miss) any)))
    (cases_Bool (p low))
  where
    further : (slot : ℕ) × (slot < low + 1 + n) × (p slot ≡ true) × P (f slot) → (slot : ℕ) × (slot < low + suc n) × (p slot ≡ true) × P (f slot)
    further (slot, lt, is, has) = (slot, omega (arith, lt), is, has)

pub pair_slot : (words : List ℕ) (leaf : ℕ) (P : Pair → Type 0) → Any P (leaf_pairs words leaf) → (slot : ℕ) × (slot < 48) × (bit_at (get_or words leaf 0) slot ≡ 1) × P (pair_at words leaf slot)
unfolding leaf_pairs
pair_slot words leaf P any =
    let (slot, lt, is, has) = any_picked P (pair_at words leaf) (λ s. eqb (bit_at (get_or words leaf 0) s) 1) 0 48 any in
    (slot, omega (arith, lt), eqb-true (bit_at (get_or words leaf 0) slot) 1 is, has)

-- ── the leaf of what is looked for ──

-- it has a key up to it, or it is the one that was found before
last_has : (words : List ℕ) (probe : Probe) (found : ℕ) (leaves : List ℕ) → (last_up_to words probe found leaves ≡ found) ⊎ (has_key_up_to words probe (last_up_to words probe found leaves) ≡ true)
last_has words probe found [] = inl refl
last_has words probe found (leaf ∷ leaves) = ⊎_elim
    (λ hit. ⊎_elim
    (λ same. inr (ap (has_key_up_to words probe) (same ∙ cond-true (has_key_up_to words probe leaf) leaf found hit) ∙ hit))
    (λ has. inr has)
    (last_has words probe (cond (has_key_up_to words probe leaf) leaf found) leaves))
    (λ miss. ⊎_elim
    (λ same. inl (same ∙ cond-false (has_key_up_to words probe leaf) leaf found miss))
    (λ has. inr has)
    (last_has words probe (cond (has_key_up_to words probe leaf) leaf found) leaves))
    (cases_Bool (has_key_up_to words probe leaf))

some_has_key : (words : List ℕ) (wanted leaf key : ℕ) → has_key_up_to words (Int wanted) leaf ≡ true → Each (λ pair. key ≤ pair.key) (leaf_pairs words leaf) → key ≤ wanted
some_has_key words wanted leaf key has least = at (leaf_pairs words leaf) has least
  where
    at : (pairs : List Pair) → list_any (λ pair. not (is_below words (Int wanted) pair.key)) pairs ≡ true → Each (λ pair. key ≤ pair.key) pairs → key ≤ wanted
    at [] has least = absurd (both_ways false refl has)
    at (pair ∷ pairs) has least = ⊎_elim
        (λ here. let up = not_below words wanted pair.key (not-true (is_below words (Int wanted) pair.key) here) in let low = least.0 in omega (arith, up, low))
        (λ there. at pairs there least.1)
        (or_cases (not (is_below words (Int wanted) pair.key)) (list_any (λ pair. not (is_below words (Int wanted) pair.key)) pairs) has)

last_each : (P : ℕ → Type 0) (words : List ℕ) (probe : Probe) (found : ℕ) (leaves : List ℕ) → P found → Each P leaves → P (last_up_to words probe found leaves)
last_each P words probe found [] is each = is
last_each P words probe found (leaf ∷ leaves) is each = last_each P words probe (cond (has_key_up_to words probe leaf) leaf found) leaves (at (has_key_up_to words probe leaf)) each.1
  where
    at : (b : Bool) → P (cond b leaf found)
    at true = each.0
    at false = is

hits : (p : ℕ → Bool) (xs : List ℕ) → Each (λ x. p x ≡ true) (filter p xs)
hits p [] = tt
hits p (x ∷ xs) = ⊎_elim
    (λ hit. subst (Each (λ y. p y ≡ true)) (sym (filter-hit p x xs hit)) (hit, hits p xs))
    (λ miss. subst (Each (λ y. p y ≡ true)) (sym (filter-miss p x xs miss)) (hits p xs)) (cases_Bool (p x))

misses : (p : ℕ → Bool) (xs : List ℕ) → [] ≡ filter p xs → Each (λ x. p x ≡ false) xs
misses p [] is = tt
misses p (x ∷ xs) is = ⊎_elim
    (λ hit. absurd (let count = ap length (is ∙ filter-hit p x xs hit) in omega (arith, count)))
    (λ miss. (miss, misses p xs (is ∙ filter-miss p x xs miss))) (cases_Bool (p x))

-- ── the index ──

module _ (words : List ℕ) (tree : TreeState) (before after : List ℕ) (i : Insertion) (stands : StandsFor words tree (before ++ i.leaf ∷ after))
    (may : MayInsert words tree.column before after i) (between : IsBetweenLeaves words i.key before after)
    (leaf_is : i.leaf ≡ leaf_of words (Int i.key) (indexed words (before ++ i.leaf ∷ after))) (code : i.code < 2 ^ 32) where
  abbrev leaves : List ℕ
  leaves = before ++ i.leaf ∷ after

  done : List ℕ
  done = finished (insertion_parts words i) words

  others : Each (LeafIsSame words done) before × Each (LeafIsSame words done) after
  unfolding done
  others = others-done words tree.column before after i may

  bitmap : get_or done i.leaf 0 ≡ with_bit (get_or words i.leaf 0) i.slot
  unfolding done
  bitmap = bitmap-done words tree.column before after i may

  has_now : has_pairs done i.leaf ≡ true
  has_now = not_from_false (eqb (get_or done i.leaf 0) 0) (ne_eqb (get_or done i.leaf 0) 0 (λ none.
      let one : bit_at (get_or done i.leaf 0) i.slot ≡ 1 = ap (λ (n : ℕ). bit_at n i.slot) bitmap ∙ with_bit-same (get_or words i.leaf 0) i.slot in
      let zero_bit : bit_at (get_or done i.leaf 0) i.slot ≡ 0 = ap (λ (n : ℕ). bit_at n i.slot) none ∙ bit_at-zero i.slot in
      omega (arith, one, zero_bit)))

  -- where its leaf had a pair already
  filter_had : has_pairs words i.leaf ≡ true → filter (has_pairs done) leaves ≡ filter (has_pairs words) leaves
  filter_had had = filter-same (has_pairs done) (has_pairs words) leaves
      (each-append (λ x. has_pairs done x ≡ has_pairs words x) before (i.leaf ∷ after)
      (each-map (LeafIsSame words done) (λ x. has_pairs done x ≡ has_pairs words x) (has_same words done) before others.0)
      (has_now ∙ sym had, each-map (LeafIsSame words done) (λ x. has_pairs done x ≡ has_pairs words x) (has_same words done) after others.1))

  -- where no leaf had one
  filter_none : Each (λ x. has_pairs words x ≡ false) leaves → filter (has_pairs done) leaves ≡ i.leaf ∷ []
  filter_none none =
      let parts = each-parts (λ x. has_pairs words x ≡ false) before (i.leaf ∷ after) none in
      let off : (xs : List ℕ) → Each (LeafIsSame words done) xs → Each (λ x. has_pairs words x ≡ false) xs → filter (has_pairs done) xs ≡ [] =
      λ xs same no. filter-none (has_pairs done) xs (each-both (LeafIsSame words done) (λ x. has_pairs words x ≡ false) (λ x. has_pairs done x ≡ false) (λ x is isn't. has_same words done x is ∙ isn't) xs same no) in
      filter-append (has_pairs done) before (i.leaf ∷ after)
      ∙ ap (λ (xs : List ℕ). xs ++ filter (has_pairs done) (i.leaf ∷ after)) (off before others.0 parts.0)
      ∙ filter-hit (has_pairs done) i.leaf after has_now
      ∙ ap (λ (xs : List ℕ). i.leaf ∷ xs) (off after others.1 parts.1.1)

  first_is : (xs : List ℕ) (x : ℕ) → or_first (x ∷ []) xs ≡ x ∷ []
  first_is xs x = refl

  indexed_is : indexed done leaves ≡ indexed words leaves
  indexed_is = by (filter (has_pairs words) leaves) refl
    where
      by : (fs : List ℕ) → fs ≡ filter (has_pairs words) leaves → indexed done leaves ≡ indexed words leaves
      by (f ∷ fs) is =
          let all : Each (λ x. has_pairs words x ≡ true) (f ∷ fs) = subst (Each (λ x. has_pairs words x ≡ true)) (sym is) (hits (has_pairs words) leaves) in
          let at : i.leaf ≡ last_up_to words (Int i.key) f fs = leaf_is ∙ ap (λ (xs : List ℕ). leaf_of words (Int i.key) (or_first xs leaves)) (sym is) in
          ap (λ (xs : List ℕ). or_first xs leaves) (filter_had (ap (has_pairs words) at ∙ last_each (λ x. has_pairs words x ≡ true) words (Int i.key) f fs all.0 all.1))
      by [] is = by_list leaves refl
        where
          by_list : (xs : List ℕ) → xs ≡ leaves → indexed done leaves ≡ indexed words leaves
          by_list [] none = absurd (no_cons before none)
            where
              no_cons : (ys : List ℕ) → [] ≡ ys ++ i.leaf ∷ after → ⊥
              no_cons [] e = let count = ap length e in omega (arith, count)
              no_cons (y ∷ ys) e = let count = ap length e in omega (arith, count)
          by_list (x ∷ xs) whole =
              let first : i.leaf ≡ x = leaf_is ∙ ap (λ (fs : List ℕ). leaf_of words (Int i.key) (or_first fs leaves)) (sym is) ∙ ap (λ (ls : List ℕ). leaf_of words (Int i.key) (or_first [] ls)) (sym whole) in
              ap (λ (fs : List ℕ). or_first fs leaves) (filter_none (misses (has_pairs words) leaves is))
              ∙ ap (λ (y : ℕ). y ∷ []) first
              ∙ ap (or_first []) whole
              ∙ ap (λ (fs : List ℕ). or_first fs leaves) is

  -- ── its least key ──

  leaf_least : (key : ℕ) → key ≤ i.key → IsLeastKey words i.leaf key → IsLeastKey done i.leaf key
  unfolding done
  leaf_least key up least =
      let (slot, lt, used, has) = pair_slot words i.leaf (λ pair. pair.key ≡ key) least.has in
      let now = used-done words tree.column before after i may slot lt used in
      record {
        has = slot_pair (finished (insertion_parts words i) words) i.leaf slot (λ pair. pair.key ≡ key) lt now.0 (ap (λ (pair : Pair). pair.key) now.1 ∙ has);
        least = own-has words tree.column before after i may (λ pair. key ≤ pair.key) up least.least;
      }

  -- a leaf that isn't the first of the index has a key up to the new one
  up_to : (at : ℕ) → 0 < at → at < length (indexed words leaves) → get_or (indexed words leaves) at 0 ≡ i.leaf → (key : ℕ) → IsLeastKey words i.leaf key → key ≤ i.key
  up_to at some lt here key least = by (indexed words leaves) refl
    where
      by : (xs : List ℕ) → xs ≡ indexed words leaves → key ≤ i.key
      by [] is = absurd (let count = ap length is in omega (arith, lt, count))
      by (x ∷ xs) is = ⊎_elim
          (λ same. absurd
          (let first : get_or (indexed words leaves) 0 0 ≡ i.leaf = ap (λ (ys : List ℕ). get_or ys 0 0) (sym is) ∙ sym (leaf_is ∙ ap (leaf_of words (Int i.key)) (sym is) ∙ same) in
          let apart : KeysBelow words i.leaf i.leaf = subst (λ (leaf : ℕ). KeysBelow words i.leaf leaf) here (subst (λ (leaf : ℕ). KeysBelow words leaf (get_or (indexed words leaves) at 0)) first
          (pairwise_at (KeysBelow words) (indexed words leaves) (ordered_indexed words leaves stands.in_words.ordered) 0 at some lt)) in
          each_any (λ pair. Each (λ next. pair.key < next.key) (leaf_pairs words i.leaf)) (λ pair. pair.key ≡ key) ⊥ (leaf_pairs words i.leaf) apart least.has
          (λ pair each is_key. each_any (λ next. pair.key < next.key) (λ next. next.key ≡ key) ⊥ (leaf_pairs words i.leaf) each least.has (λ next less is_next. omega (arith, is_key, less, is_next)))))
          (λ has. some_has_key words i.key i.leaf key (ap (has_key_up_to words (Int i.key)) (leaf_is ∙ ap (leaf_of words (Int i.key)) (sym is)) ∙ has) least.least)
          (last_has words (Int i.key) x xs)

  -- a leaf of the index is the same, or that of the pair
  same_or_own : Each (λ x. LeafIsSame words done x ⊎ (x ≡ i.leaf)) leaves
  same_or_own = each-append (λ x. LeafIsSame words done x ⊎ (x ≡ i.leaf)) before (i.leaf ∷ after)
      (each-map (LeafIsSame words done) (λ x. LeafIsSame words done x ⊎ (x ≡ i.leaf)) (λ x is. inl is) before others.0)
      (inr refl, each-map (LeafIsSame words done) (λ x. LeafIsSame words done x ⊎ (x ≡ i.leaf)) (λ x is. inl is) after others.1)

  index : IsIndexOf done leaves tree.inner
  index = record {
    kind = stands.index.kind;
    pointers = stands.index.pointers ∙ ap (map pointer_word) (sym indexed_is);
    keys = λ at some lt.
        let within : at < length (indexed words leaves) = (let same = size words tree leaves stands in omega (arith, lt, same)) in
        let was = stands.index.keys at some lt in
        subst (λ (xs : List ℕ). IsLeastKey done (get_or xs at 0) (least_key tree.inner.leaves at)) (sym indexed_is) (⊎_elim
        (λ same. least_same words done (get_or (indexed words leaves) at 0) (least_key tree.inner.leaves at) same was)
        (λ own.
        let here = subst (λ (leaf : ℕ). IsLeastKey words leaf (least_key tree.inner.leaves at)) own was in
        subst (λ (leaf : ℕ). IsLeastKey done leaf (least_key tree.inner.leaves at)) (sym own) (leaf_least (least_key tree.inner.leaves at) (up_to at some within own (least_key tree.inner.leaves at) here) here))
        (each_at (λ x. LeafIsSame words done x ⊎ (x ≡ i.leaf)) (indexed words leaves) (each_indexed (λ x. LeafIsSame words done x ⊎ (x ≡ i.leaf)) words leaves same_or_own) at 0 within));
  }

  -- ── its leaves ──

  sound : Each (IsSoundLeaf done) leaves
  unfolding done
  sound =
      let was = each-parts (IsSoundLeaf words) before (i.leaf ∷ after) stands.in_words.sound in
      each-append (IsSoundLeaf done) before (i.leaf ∷ after)
      (each-both (LeafIsSame words done) (IsSoundLeaf words) (IsSoundLeaf done) (sound_same words done) before others.0 was.0)
      (own was.1.0, each-both (LeafIsSame words done) (IsSoundLeaf words) (IsSoundLeaf done) (sound_same words done) after others.1 was.1.1)
    where
      own : IsSoundLeaf words i.leaf → IsSoundLeaf done i.leaf
      own had = sound_from done i.leaf (subst (λ (n : ℕ). n < 2 ^ 48) (sym bitmap) (with_bit-fits (get_or words i.leaf 0) i.slot 48 may.slot had.bitmap))
          (own-has words tree.column before after i may (λ pair. pair.code < 2 ^ 32) code (codes_each words i.leaf had))

  pub insertion_stands : StandsFor (finished (insertion_parts words i) words) tree (before ++ i.leaf ∷ after)
  unfolding done
  insertion_stands = record {
    in_words = record {
      tree_is = insertion-tree words tree.column before after i may;
      quiet = insertion-quiet words tree.column before after i may;
      ordered = insertion_ordered words tree.column before after i may stands.in_words.ordered between;
      prints = insertion-prints words tree.column before after i may stands.in_words.prints;
      sound = sound;
    };
    index = index;
  }

pub goes_on : (words : List ℕ) (tree : TreeState) (lead : Option Lead) (probe : Probe) (key code : ℕ) (old new : List Action) → IsKeyFor words tree probe key code → (inserted : IsInserted words tree.column lead probe key code old new) → GoesOnInserted words tree lead inserted.pair
goes_on words tree lead probe key code old new is inserted =
    let i = inserted.pair in
    let place = inserted.place in
    let (leaves, stands) = is.stands in
    let listed = sym (list_is words tree leaves stands) ∙ place.leaves_are in
    let (wanted, probe_is) = int_probe probe (is.kind ∙ stands.index.kind) in
    let same : probe ≡ Int i.key = probe_is ∙ ap Int (int_key words wanted key (subst (λ (p : Probe). is_key words p key ≡ true) probe_is is.key_is) ∙ sym inserted.key_is) in
    let after : StandsFor (inserted_words words i) tree (place.before ++ i.leaf ∷ place.after) =
    insertion_stands words tree place.before place.after i (subst (StandsFor words tree) listed stands) inserted.may
    (subst (λ (k : ℕ). IsBetweenLeaves words k place.before place.after) (sym inserted.key_is) place.between)
    (place.leaf_is ∙ ap (λ (ls : List ℕ). leaf_of words probe (indexed words ls)) place.leaves_are ∙ ap (λ (p : Probe). leaf_of words p (indexed words (place.before ++ i.leaf ∷ place.after))) same)
    (subst (λ (n : ℕ). n < 2 ^ 32) (sym inserted.code_is) is.small) in
    record {
      stands = (place.before ++ i.leaf ∷ place.after, after);
      may = λ index lane whole live may.
          may_plan words whole.0 whole.1 tree.column place.before place.after i inserted.may index lane may place.leaves_are
          (subst (IsLeadLive words) (sym inserted.lead_is) live) (list_is (inserted_words words i) tree (place.before ++ i.leaf ∷ place.after) after);
    }
