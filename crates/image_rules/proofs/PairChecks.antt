-- The checks of the pairs along the leaves of trees.
use Rattle.std.proofs.Common.{◌≡◌, ◌⊎◌, ⊎_elim, ℕ, suc, ◌+◌, ◌-◌, ◌<◌, ◌≤◌, Bool, true, false, not, ◌&&◌, ◌||◌, cond, eqb, ltb, List, [], ◌∷◌, ◌++◌, map, length, drop, get_or, refl, sym, ◌∙◌, ap, add-one, arith}
use Rattle.std.specs.Prelude.{Option, None, Some, filter}
use Rattle.std.specs.Option.{is_some}
use Rattle.std.specs.Ordering.{nat_cmp}
use Rattle.std.specs.BTreeSet.{BTreeSet, IsEmpty, Updates, contains}
use Rattle.std.specs.List.{flat_map, list_all, list_any, range_with_len}
use Rattle.std.proofs.lemmas.Bool.{cases_lt, cond-true, cond-false, and_from, and_left, and_right, lt-ltb, le-ltb, not_from_false}
use Rattle.std.proofs.lemmas.List.{drop_more, drop_all, map-append}
use Rattle.std.proofs.lemmas.List.Folds.{list_all-append}
use Rattle.image_layout.specs.Records.{code_at, dictionary_header, key_at}
use Rattle.image_layout.specs.Arrays.{capacity}
use Rattle.image_layout.specs.Trees.{dictionary_length, dictionary_word, key_below, leaf_list, leaf_slots}
use Rattle.image_layout.specs.Checks.{Check, check, first_failing}
use Rattle.image_layout.specs.EntryRules.{is_among}
use Rattle.image_layout.specs.SoundRules.{UsedSlot, code_checks, column_slots, is_code_of, leaf_keys, order_checks, slot_order_checks}
use Rattle.image_layout.proofs.Faults.{fails, pass-all, passes}
use Rattle.image_rules.specs.declared.leaf_lists.LeafSlot.{LeafSlot}
use Rattle.image_rules.specs.ArrayWords.{is_word_at}
use Rattle.image_rules.specs.BuiltOwners.{HasWords}
use Rattle.image_rules.specs.BuiltTrees.{has_key, is_above, is_used, leaf_order_checks, leaf_slot, places_of, used_along, used_in}
use Rattle.image_rules.specs.Parts.{before_of}
use Rattle.image_rules.proofs.Firsts.{first_of, found_none}
use Rattle.image_rules.proofs.OwnerChecks.{held_front, held_none}

-- ── a list, from an index on ──

module _ {X : Type 0} (checks : X → List Check) (xs : List X) (i : ℕ) (d : X) where
  abbrev from : ℕ → Option ℕ
  from k = first_failing (flat_map checks (drop k xs))

  from-is : i < length xs → flat_map checks (drop i xs) ≡ checks (get_or xs i d) ++ flat_map checks (drop (i + 1) xs)
  from-is lt = ap (flat_map checks) (drop_more xs i d lt)

  pub list_found : (found : Option ℕ) → i < length xs → from i ≡ first_failing (flat_map checks xs) → found ≡ first_failing (checks (get_or xs i d)) → is_some found ≡ true → found ≡ first_failing (flat_map checks xs)
  list_found found lt left here some =
      first_of (checks (get_or xs i d)) (flat_map checks (drop (i + 1) xs)) found here some ∙ sym (ap first_failing (from-is lt)) ∙ left

  pub list_passes : (found : Option ℕ) → i < length xs → from i ≡ first_failing (flat_map checks xs) → found ≡ first_failing (checks (get_or xs i d)) → is_some found ≡ false → from (i + 1) ≡ first_failing (flat_map checks xs)
  list_passes found lt left here none =
      sym (ap first_failing (from-is lt) ∙ pass-all (checks (get_or xs i d)) (flat_map checks (drop (i + 1) xs)) (found_none found (first_failing (checks (get_or xs i d))) here none)) ∙ left

  pub list_over : length xs ≤ i → from i ≡ first_failing (flat_map checks xs) → None ≡ first_failing (flat_map checks xs)
  list_over le left = ap (λ (ys : List X). first_failing (flat_map checks ys)) (sym (drop_all i xs le)) ∙ left

module _ {X : Type 0} (checked : X → Check) (xs : List X) (i : ℕ) (d : X) where
  one-is : i < length xs → map checked (drop i xs) ≡ checked (get_or xs i d) ∷ map checked (drop (i + 1) xs)
  one-is lt = ap (map checked) (drop_more xs i d lt)

  pub one_fails : i < length xs → first_failing (map checked (drop i xs)) ≡ first_failing (map checked xs) → (checked (get_or xs i d)).holds ≡ false → Some (checked (get_or xs i d)).place ≡ first_failing (map checked xs)
  one_fails lt left miss = sym (fails (checked (get_or xs i d)) (map checked (drop (i + 1) xs)) miss) ∙ sym (ap first_failing (one-is lt)) ∙ left

  pub one_passes : i < length xs → first_failing (map checked (drop i xs)) ≡ first_failing (map checked xs) → (checked (get_or xs i d)).holds ≡ true → first_failing (map checked (drop (i + 1) xs)) ≡ first_failing (map checked xs)
  one_passes lt left hit = sym (ap first_failing (one-is lt) ∙ passes (checked (get_or xs i d)) (map checked (drop (i + 1) xs)) hit) ∙ left

  pub one_over : length xs ≤ i → first_failing (map checked (drop i xs)) ≡ first_failing (map checked xs) → None ≡ first_failing (map checked xs)
  one_over le left = ap (λ (ys : List X). first_failing (map checked ys)) (sym (drop_all i xs le)) ∙ left

-- ── the keys of a leaf ──

module _ (words : List ℕ) (leaf : ℕ) where
  abbrev key : ℕ → ℕ
  key slot = get_or words (key_at leaf slot) 0

  abbrev slots_from : ℕ → List ℕ
  slots_from slot = filter (is_used words leaf) (range_with_len slot (48 - slot))

  abbrev differs : List ℕ → ℕ → Bool
  differs here k = list_all (λ other. not (eqb other k)) here

  -- the keys before a slot, and what is left of the leaf's checks with them
  pub record LeafSoFar (greatest : Option ℕ) (slot : ℕ) : Type 0 where
    pub here : List ℕ
    pub left : first_failing (leaf_order_checks words greatest here leaf (filter (is_used words leaf) (range_with_len slot (48 - slot)))) ≡ first_failing (leaf_order_checks words greatest [] leaf (leaf_slots words leaf))
    pub keys : (k : ℕ) → list_all (λ other. not (eqb other k)) here ≡ not (list_any (has_key words leaf k) (before_of (λ s. s) slot))

  pub leaf_begins : (greatest : Option ℕ) → LeafSoFar greatest 0
  leaf_begins greatest = record { here = []; left = refl; keys = λ k. refl }

  module _ (greatest : Option ℕ) (slot : ℕ) (lt : slot < 48) (told : LeafSoFar greatest slot) where
    slots-is : slots_from slot ≡ cond (is_used words leaf slot) (slot ∷ slots_from (slot + 1)) (slots_from (slot + 1))
    slots-is =
        let one : 48 - slot ≡ suc (48 - (slot + 1)) = omega (arith, lt) in
        ap (λ (n : ℕ). filter (is_used words leaf) (range_with_len slot n)) one

    before-more : (k : ℕ) → list_any (has_key words leaf k) (before_of (λ s. s) (slot + 1)) ≡ (has_key words leaf k slot || list_any (has_key words leaf k) (before_of (λ s. s) slot))
    before-more k = ap (λ (n : ℕ). list_any (has_key words leaf k) (before_of (λ s. s) n)) (add-one slot)

    pub slot_unused : is_used words leaf slot ≡ false → LeafSoFar greatest (slot + 1)
    slot_unused unused = record {
      here = told.here;
      left = sym (ap (λ (slots : List ℕ). first_failing (leaf_order_checks words greatest told.here leaf slots)) (slots-is ∙ cond-false (is_used words leaf slot) (slot ∷ slots_from (slot + 1)) (slots_from (slot + 1)) unused)) ∙ told.left;
      keys = λ k. told.keys k ∙ ap not (sym (before-more k ∙ ap (λ (b : Bool). b || list_any (has_key words leaf k) (before_of (λ s. s) slot)) (and_left (is_used words leaf slot) (eqb (key slot) k) unused)));
    }

    module _ (used : is_used words leaf slot ≡ true) where
      slot_check : Check
      slot_check = check (key_at leaf slot) (is_above greatest (key slot) && differs told.here (key slot))

      rest : List Check
      rest = leaf_order_checks words greatest (key slot ∷ told.here) leaf (slots_from (slot + 1))

      left-is : first_failing (check (key_at leaf slot) (is_above greatest (key slot) && differs told.here (key slot)) ∷ leaf_order_checks words greatest (key slot ∷ told.here) leaf (slots_from (slot + 1)))
          ≡ first_failing (leaf_order_checks words greatest [] leaf (leaf_slots words leaf))
      left-is = sym (ap (λ (slots : List ℕ). first_failing (leaf_order_checks words greatest told.here leaf slots)) (slots-is ∙ cond-true (is_used words leaf slot) (slot ∷ slots_from (slot + 1)) (slots_from (slot + 1)) used)) ∙ told.left

      pub slot_fails : (is_above greatest (key slot) && not (list_any (has_key words leaf (key slot)) (before_of (λ s. s) slot))) ≡ false → Some (key_at leaf slot) ≡ first_failing (leaf_order_checks words greatest [] leaf (leaf_slots words leaf))
      slot_fails miss =
          sym (fails (check (key_at leaf slot) (is_above greatest (key slot) && differs told.here (key slot))) (leaf_order_checks words greatest (key slot ∷ told.here) leaf (slots_from (slot + 1)))
          (ap (λ (b : Bool). is_above greatest (key slot) && b) (told.keys (key slot)) ∙ miss))
          ∙ left-is

      pub slot_passes : is_above greatest (key slot) ≡ true → list_any (has_key words leaf (key slot)) (before_of (λ s. s) slot) ≡ false → LeafSoFar greatest (slot + 1)
      slot_passes above new = record {
        here = key slot ∷ told.here;
        left = sym (passes (check (key_at leaf slot) (is_above greatest (key slot) && differs told.here (key slot))) (leaf_order_checks words greatest (key slot ∷ told.here) leaf (slots_from (slot + 1)))
            (and_from _ _ above (told.keys (key slot) ∙ not_from_false _ new)))
            ∙ left-is;
        keys = λ k. one_more (eqb (key slot) k) (differs told.here k) (list_any (has_key words leaf k) (before_of (λ s. s) slot)) (told.keys k)
            ∙ ap (λ (b : Bool). not (b && eqb (key slot) k || list_any (has_key words leaf k) (before_of (λ s. s) slot))) (sym used)
            ∙ ap not (sym (before-more k));
      }
        where
          one_more : (a b c : Bool) → b ≡ not c → (not a && b) ≡ not (a || c)
          one_more true b c is = refl
          one_more false b c is = is

  pub leaf_over : (greatest : Option ℕ) (slot : ℕ) → 48 ≤ slot → LeafSoFar greatest slot → None ≡ first_failing (leaf_order_checks words greatest [] leaf (leaf_slots words leaf))
  leaf_over greatest slot le told =
      let none : 48 - slot ≡ 0 = omega (arith, le) in
      sym (ap (λ (n : ℕ). first_failing (leaf_order_checks words greatest told.here leaf (filter (is_used words leaf) (range_with_len slot n)))) none) ∙ told.left

-- ── the greatest key ──

pub greater_none : (key other : ℕ) → is_above (Some key) other ≡ (is_above None other && ltb key other)
greater_none key other = refl

pub above_both : (most key other : ℕ) (greater : ℕ) → (most ≤ greater) → (key ≤ greater) → ((greater ≡ most) ⊎ (greater ≡ key)) → ltb greater other ≡ (ltb most other && ltb key other)
above_both most key other greater low high is = ⊎_elim
    (λ (lt : greater < other). lt-ltb greater other lt ∙ sym (and_from (ltb most other) (ltb key other) (lt-ltb most other (omega (arith, low, lt))) (lt-ltb key other (omega (arith, high, lt)))))
    (λ le. le-ltb greater other le ∙ sym (⊎_elim
    (λ (e : greater ≡ most). and_left (ltb most other) (ltb key other) (le-ltb most other (omega (arith, e, le))))
    (λ (e : greater ≡ key). and_right (ltb most other) (ltb key other) (le-ltb key other (omega (arith, e, le)))) is))
    (cases_lt greater other)

-- ── the keys along a list ──

module _ (words : List ℕ) where
  -- the checks of a leaf by the keys of the leaves before, and by the greatest of these
  leaf-checks-is : (before : List ℕ) (greatest : Option ℕ) (leaf : ℕ) (here slots : List ℕ) → ((k : ℕ) → list_all (λ other. ltb other k) before ≡ is_above greatest k)
      → slot_order_checks words false before here leaf slots ≡ leaf_order_checks words greatest here leaf slots
  unfolding key_below
  leaf-checks-is before greatest leaf here [] keys = refl
  leaf-checks-is before greatest leaf here (slot ∷ slots) keys =
      let k : ℕ = get_or words (key_at leaf slot) 0 in
      ap (λ (b : Bool). check (key_at leaf slot) b ∷ slot_order_checks words false before (k ∷ here) leaf slots)
      (ap (λ (b : Bool). b && list_all (λ other. ltb other k || ltb k other) here) (keys k) ∙ ap (λ (b : Bool). is_above greatest k && b) (all_differ here k))
      ∙ ap (λ (cs : List Check). check (key_at leaf slot) (is_above greatest k && list_all (λ other. not (eqb other k)) here) ∷ cs) (leaf-checks-is before greatest leaf (k ∷ here) slots keys)
    where
      differ : (a b : ℕ) → (ltb a b || ltb b a) ≡ not (eqb a b)
      differ a b = grind arith

      all_differ : (here : List ℕ) (k : ℕ) → list_all (λ other. ltb other k || ltb k other) here ≡ list_all (λ other. not (eqb other k)) here
      all_differ [] k = refl
      all_differ (other ∷ here) k = ap (λ (b : Bool). b && list_all (λ other. ltb other k || ltb k other) here) (differ other k) ∙ ap (λ (b : Bool). not (eqb other k) && b) (all_differ here k)

  -- the keys of the leaves before an index, and what is left of the column's checks with them
  pub record ListSoFar (leaves : List ℕ) (i : ℕ) (greatest : Option ℕ) : Type 0 where
    pub before : List ℕ
    pub left : first_failing (order_checks words false before (drop i leaves)) ≡ first_failing (order_checks words false [] leaves)
    pub keys : (k : ℕ) → list_all (λ other. ltb other k) before ≡ is_above greatest k

  pub keys_begin : (leaves : List ℕ) → ListSoFar leaves 0 None
  keys_begin leaves = record { before = []; left = refl; keys = λ k. refl }

  module _ (leaves : List ℕ) (i : ℕ) (greatest : Option ℕ) (lt : i < length leaves) (told : ListSoFar leaves i greatest) (found : Option ℕ)
      (here : found ≡ first_failing (leaf_order_checks words greatest [] (get_or leaves i 0) (leaf_slots words (get_or leaves i 0)))) where
    abbrev leaf : ℕ
    leaf = get_or leaves i 0

    abbrev later : List Check
    later = order_checks words false (told.before ++ leaf_keys words (get_or leaves i 0)) (drop (i + 1) leaves)

    list-is : first_failing (slot_order_checks words false told.before [] leaf (leaf_slots words leaf) ++ later) ≡ first_failing (order_checks words false [] leaves)
    list-is = sym (ap (λ (ls : List ℕ). first_failing (order_checks words false told.before ls)) (drop_more leaves i 0 lt)) ∙ told.left

    here-is : found ≡ first_failing (slot_order_checks words false told.before [] leaf (leaf_slots words leaf))
    here-is = here ∙ sym (ap first_failing (leaf-checks-is told.before greatest leaf [] (leaf_slots words leaf) told.keys))

    pub leaf_found : is_some found ≡ true → found ≡ first_failing (order_checks words false [] leaves)
    leaf_found some = first_of (slot_order_checks words false told.before [] leaf (leaf_slots words leaf)) later found here-is some ∙ list-is

    pub leaf_passes : is_some found ≡ false → (next : Option ℕ) → ((k : ℕ) → is_above next k ≡ (is_above greatest k && list_all (λ other. ltb other k) (leaf_keys words leaf))) → ListSoFar leaves (i + 1) next
    leaf_passes none next keys = record {
      before = told.before ++ leaf_keys words leaf;
      left = sym (pass-all (slot_order_checks words false told.before [] leaf (leaf_slots words leaf)) later (found_none found _ here-is none)) ∙ list-is;
      keys = λ k. list_all-append (λ other. ltb other k) told.before (leaf_keys words leaf)
          ∙ ap (λ (b : Bool). b && list_all (λ other. ltb other k) (leaf_keys words leaf)) (told.keys k)
          ∙ sym (keys k);
    }

  pub list_end : (leaves : List ℕ) (i : ℕ) (greatest : Option ℕ) → length leaves ≤ i → ListSoFar leaves i greatest → None ≡ first_failing (order_checks words false [] leaves)
  list_end leaves i greatest le told = sym (ap (λ (ls : List ℕ). first_failing (order_checks words false told.before ls)) (drop_all i leaves le)) ∙ told.left

  -- ── codes ──

  module _ (column : ℕ) (used : List LeafSlot) where
    abbrev codes_from : List ℕ → ℕ → List Check
    codes_from before i = code_checks words column before (map places_of (drop i used))

    -- the codes before an index are in the set, and what is left of the column's checks with them
    pub record CodesSoFar (i : ℕ) (seen : BTreeSet ℕ) : Type 0 where
      pub before : List ℕ
      pub held : HasWords seen before
      pub left : first_failing (code_checks words column before (map places_of (drop i used))) ≡ first_failing (code_checks words column [] (map places_of used))

    pub codes_begin : (seen : BTreeSet ℕ) → IsEmpty seen → CodesSoFar 0 seen
    codes_begin seen empty = record { before = []; held = held_none seen empty; left = refl }

    module _ (i key code : ℕ) (d : LeafSlot) (seen : BTreeSet ℕ) (lt : i < length used) (told : CodesSoFar i seen) (key-at : key ≡ key_at (get_or used i d).leaf (get_or used i d).slot) (code-at : code ≡ code_at (get_or used i d).leaf (get_or used i d).slot) where
      abbrev key_word : ℕ
      key_word = get_or words key 0

      abbrev code_word : ℕ
      code_word = get_or words code 0

      abbrev is_code : Bool
      is_code = is_code_of words column (get_or words key 0) (get_or words code 0)

      abbrev code_check : Check
      code_check = check code (is_code_of words column (get_or words key 0) (get_or words code 0) && not (is_among told.before (get_or words code 0)))

      codes-is : first_failing (check code (is_code_of words column (get_or words key 0) (get_or words code 0) && not (is_among told.before (get_or words code 0))) ∷ code_checks words column (get_or words code 0 ∷ told.before) (map places_of (drop (i + 1) used)))
          ≡ first_failing (code_checks words column [] (map places_of used))
      codes-is =
          ap (λ (p : ℕ). first_failing (check code (is_code_of words column (get_or words p 0) code_word && not (is_among told.before code_word)) ∷ codes_from (code_word ∷ told.before) (i + 1))) key-at
          ∙ ap (λ (p : ℕ). first_failing (check p (is_code_of words column (get_or words (key_at (get_or used i d).leaf (get_or used i d).slot) 0) (get_or words p 0) && not (is_among told.before (get_or words p 0))) ∷ codes_from (get_or words p 0 ∷ told.before) (i + 1))) code-at
          ∙ sym (ap (λ (s : List LeafSlot). first_failing (code_checks words column told.before (map places_of s))) (drop_more used i d lt))
          ∙ told.left

      pub code_none : is_code_of words column (get_or words key 0) (get_or words code 0) ≡ false → Some code ≡ first_failing (code_checks words column [] (map places_of used))
      code_none none = sym (fails code_check (codes_from (code_word ∷ told.before) (i + 1)) (and_left is_code (not (is_among told.before code_word)) none)) ∙ codes-is

      module _ (is_first : Bool) (first_is : is_first ≡ not (contains nat_cmp seen (get_or words code 0))) where
        first_told : is_first ≡ not (is_among told.before code_word)
        first_told = first_is ∙ ap not (told.held.each code_word)

        pub code_again : is_first ≡ false → Some code ≡ first_failing (code_checks words column [] (map places_of used))
        code_again again = sym (fails code_check (codes_from (code_word ∷ told.before) (i + 1)) (and_right is_code (not (is_among told.before code_word)) (sym first_told ∙ again))) ∙ codes-is

        pub code_next : is_code_of words column (get_or words key 0) (get_or words code 0) ≡ true → is_first ≡ true → (next : BTreeSet ℕ) → Updates nat_cmp seen next (get_or words code 0) true → CodesSoFar (i + 1) next
        code_next hit new next updates = record {
          before = code_word ∷ told.before;
          held = held_front seen next code_word updates told.before told.held;
          left = sym (passes code_check (codes_from (code_word ∷ told.before) (i + 1)) (and_from is_code (not (is_among told.before code_word)) hit (sym first_told ∙ new))) ∙ codes-is;
        }

    pub codes_end : (i : ℕ) (seen : BTreeSet ℕ) → length used ≤ i → CodesSoFar i seen → None ≡ first_failing (code_checks words column [] (map places_of used))
    codes_end i seen le told = sym (ap (λ (ss : List LeafSlot). first_failing (code_checks words column told.before (map places_of ss))) (drop_all i used le)) ∙ told.left

  -- ── whether a code is that of a key word ──

  module _ (column count code key : ℕ) (is : count ≡ dictionary_length words column) where
    code-is : is_code_of words column key code ≡ (ltb code (dictionary_length words column) && is_word_at words column code key)
    code-is = regroup (ltb code (dictionary_length words column)) (ltb code (capacity words (dictionary_header column))) (eqb (dictionary_word words column code) key)
      where
        regroup : (a b c : Bool) → (a && b && c) ≡ (a && (b && c))
        regroup true b c = refl
        regroup false b c = refl

    pub code_under : code < count → is_word_at words column code key ≡ is_code_of words column key code
    code_under lt = ap (λ (b : Bool). b && is_word_at words column code key) (sym (lt-ltb code (dictionary_length words column) (omega (arith, lt, is)))) ∙ sym code-is

    pub code_over : count ≤ code → ltb code count ≡ is_code_of words column key code
    code_over le = le-ltb code count le ∙ sym (code-is ∙ and_left (ltb code (dictionary_length words column)) (is_word_at words column code key) (le-ltb code (dictionary_length words column) (omega (arith, le, is))))

  -- ── the used slots of a column ──

  slots-leaf : (leaf : ℕ) (slots : List ℕ) → map (λ slot. record { key = key_at leaf slot; code = code_at leaf slot }) slots ≡ map places_of (map (leaf_slot leaf) slots)
  slots-leaf _ [] = refl
  slots-leaf leaf (slot ∷ slots) = ap (λ (ss : List UsedSlot). record { key = key_at leaf slot; code = code_at leaf slot } ∷ ss) (slots-leaf leaf slots)

  slots-along : (leaves : List ℕ) → flat_map (λ leaf. map (λ slot. record { key = key_at leaf slot; code = code_at leaf slot }) (leaf_slots words leaf)) leaves ≡ map places_of (used_along words leaves)
  slots-along [] = refl
  slots-along (leaf ∷ leaves) =
      ap (λ (ss : List UsedSlot). ss ++ flat_map (λ leaf. map (λ slot. record { key = key_at leaf slot; code = code_at leaf slot }) (leaf_slots words leaf)) leaves) (slots-leaf leaf (leaf_slots words leaf))
      ∙ ap (λ (ss : List UsedSlot). map places_of (used_in words leaf) ++ ss) (slots-along leaves)
      ∙ sym (map-append places_of (used_in words leaf) (used_along words leaves))

  pub column-slots-is : (column : ℕ) → column_slots words column ≡ map places_of (used_along words (leaf_list words column))
  unfolding column_slots
  column-slots-is column = slots-along (leaf_list words column)
