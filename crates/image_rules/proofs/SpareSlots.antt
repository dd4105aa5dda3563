-- The checks of the slots of dictionaries behind the values of their columns.
use Rattle.std.proofs.Common.{◌≡◌, ◌≢◌, ⊎_elim, ℕ, ◌+◌, ◌-◌, ◌<◌, ◌≤◌, true, false, eqb, ltb, List, [], map, length, get_or, sym, ◌∙◌, ap, arith}
use Rattle.std.specs.Prelude.{Option, None, Some}
use Rattle.std.specs.List.{flat_map, range_with_len}
use Rattle.std.proofs.lemmas.Bool.{cases_lt, cond-false, cond-true, eq-eqb, lt-ltb, ne_eqb}
use Rattle.std.proofs.lemmas.Simd.{map-map}
use Rattle.image_layout.specs.Records.{dictionary_header}
use Rattle.image_layout.specs.Arrays.{capacity, place_of}
use Rattle.image_layout.specs.Tables.{all_columns, is_text}
use Rattle.image_layout.specs.Trees.{dictionary_length, leaf_list}
use Rattle.image_layout.specs.Checks.{Check, first_failing}
use Rattle.image_layout.specs.SoundRules.{spare_slot_rule, spare_slots, zero_check}
use Rattle.image_rules.specs.declared.leaf_lists.LeafSlot.{LeafSlot}
use Rattle.image_rules.specs.ArrayWords.{word_place}
use Rattle.image_rules.specs.BuiltTrees.{column_spare_checks, used_along}
use Rattle.image_rules.specs.Stamps.{stamp_of}
use Rattle.image_rules.proofs.Firsts.{flat_map-filter, map-flat_map, map_none_from, map_some_from}
use Rattle.image_rules.proofs.Gathered.{count-is}

module _ (words : List ℕ) where
  -- ── one array ──

  module _ (header count : ℕ) where
    abbrev spare_check : ℕ → Check
    spare_check index = zero_check words (place_of words header index)

    abbrev pub ZeroFrom : ℕ → Type 0
    ZeroFrom k = (x : ℕ) → count ≤ x → x < k → eqb (get_or words (place_of words header x) 0) 0 ≡ true

    abbrev pub of_array : List Check
    of_array = map (zero_check words) (map (place_of words header) (range_with_len count (capacity words header - count)))

    spare-is : of_array ≡ map spare_check (range_with_len count (capacity words header - count))
    spare-is = map-map (zero_check words) (place_of words header) (range_with_len count (capacity words header - count))

    at_index : (index : ℕ) (found : Option ℕ) → index < capacity words header → found ≡ word_place words header index → found ≡ Some (place_of words header index)
    at_index index found lt is = is ∙ cond-true (ltb index (capacity words header)) (Some (place_of words header index)) None (lt-ltb index (capacity words header) lt)

    pub spare_found : (index word : ℕ) (found : Option ℕ) → count ≤ index → index < capacity words header → ZeroFrom index → found ≡ word_place words header index → word ≡ stamp_of words found → word ≢ 0
        → found ≡ first_failing (map (zero_check words) (map (place_of words header) (range_with_len count (capacity words header - count))))
    spare_found index word found low lt zeros is word_is other =
        let at = at_index index found lt is in
        at
        ∙ sym (ap first_failing spare-is
        ∙ map_some_from spare_check (capacity words header - count) count index low (omega (arith, low, lt)) zeros
        (ne_eqb (get_or words (place_of words header index) 0) 0 (λ e. other (word_is ∙ ap (stamp_of words) at ∙ e))))

    pub zero_more : (index word : ℕ) (found : Option ℕ) → index < capacity words header → ZeroFrom index → found ≡ word_place words header index → word ≡ stamp_of words found → word ≡ 0 → ZeroFrom (index + 1)
    zero_more index word found lt zeros is word_is zero x low high = ⊎_elim
        (λ (before : x < index). zeros x low before)
        (λ (from : index ≤ x).
        let here : x ≡ index = omega (arith, high, from) in
        ap (λ (k : ℕ). eqb (get_or words (place_of words header k) 0) 0) here
        ∙ eq-eqb (get_or words (place_of words header index) 0) 0 (sym (word_is ∙ ap (stamp_of words) (at_index index found lt is)) ∙ zero))
        (cases_lt x index)

    pub zero_over : (end : ℕ) → capacity words header ≤ end → ZeroFrom end → None ≡ first_failing (map (zero_check words) (map (place_of words header) (range_with_len count (capacity words header - count))))
    zero_over end le zeros =
        sym (ap first_failing spare-is
        ∙ map_none_from spare_check (capacity words header - count) count (λ x low high. zeros x low (omega (arith, low, high, le))))

  -- ── a column ──

  pub texts : (used : List LeafSlot) (column count header : ℕ) → is_text words column ≡ true → count ≡ length used → used ≡ used_along words (leaf_list words column) → header ≡ dictionary_header column
      → first_failing (map (zero_check words) (map (place_of words header) (range_with_len count (capacity words header - count)))) ≡ first_failing (column_spare_checks words column)
  texts used column count header kind len are at =
      let is : count ≡ dictionary_length words column = len ∙ ap (λ (s : List LeafSlot). length s) are ∙ count-is words (leaf_list words column) in
      ap (λ (h : ℕ). first_failing (map (zero_check words) (map (place_of words h) (range_with_len count (capacity words h - count))))) at
      ∙ ap (λ (n : ℕ). first_failing (map (zero_check words) (map (place_of words (dictionary_header column)) (range_with_len n (capacity words (dictionary_header column) - n))))) is
      ∙ sym (ap first_failing (cond-true (is_text words column) (map (zero_check words) (spare_slots words column)) [] kind))

  pub integers : (column : ℕ) → is_text words column ≡ false → None ≡ first_failing (column_spare_checks words column)
  integers column kind = sym (ap first_failing (cond-false (is_text words column) (map (zero_check words) (spare_slots words column)) [] kind))

  -- ── all columns ──

  pub spare-rule-is : spare_slot_rule words ≡ flat_map (column_spare_checks words) (all_columns words)
  unfolding spare_slot_rule
  spare-rule-is =
      map-flat_map (zero_check words) (spare_slots words) (Rattle.std.specs.Prelude.filter (is_text words) (all_columns words))
      ∙ flat_map-filter (λ column. map (zero_check words) (spare_slots words column)) (is_text words) (all_columns words)
