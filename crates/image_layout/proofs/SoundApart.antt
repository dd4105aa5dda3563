-- In an intact image owner words are apart.
use Rattle.std.proofs.Common.{◌≡◌, ◌≢◌, ◌⊎◌, ⊎_elim, ℕ, ◌-◌, true, not, ◌&&◌, eqb, ltb, List, [], ◌∷◌, ◌++◌, get_or, map, refl, sym, ◌∙◌, ap, subst, arith}
use Rattle.std.specs.Prelude.{All, AllPairs, Contains}
use Rattle.std.specs.List.{flat_map, range_with_len}
use Rattle.std.proofs.lemmas.Bool.{both_ways, cases_Bool, eqb-true, eq-eqb, ltb-true, not-true, and_parts}
use Rattle.std.proofs.lemmas.List.{map-append, append_assoc}
use Rattle.std.proofs.lemmas.List.Kept.{AllPairs-cons}
use Rattle.std.proofs.lemmas.List.Elements.{All-contains, All-head, All-tail, Contains-append_cases, Contains-append_left, Contains-append_right, Contains-get_or}
use Rattle.std.proofs.lemmas.List.FromFn.{length-range_with_len, get_or-range_with_len}
use Rattle.image_layout.specs.Fixed.{lane_op_at}
use Rattle.image_layout.specs.Pointer.{pointer_word}
use Rattle.image_layout.specs.Places.{below, place_in, is_pointer}
use Rattle.image_layout.specs.Records.{dictionary_header, new_leaf_at, split_leaf_at}
use Rattle.image_layout.specs.Arrays.{capacity, place_of}
use Rattle.image_layout.specs.Blocks.{Block, is_live, live_blocks}
use Rattle.image_layout.specs.Checks.{check}
use Rattle.image_layout.specs.Tables.{all_columns, is_text}
use Rattle.image_layout.specs.Trees.{dictionary_length}
use Rattle.image_layout.specs.EntryRules.{is_among, text_columns}
use Rattle.image_layout.specs.SoundRules.{zero_check, idle_rule, split_log_rule, owner_rule, distinct_checks, single_owner_rule, spare_slots, spare_slot_rule, IsIntact}
use Rattle.image_layout.specs.Owners.{Owner, word_of, named_block, names_one, owns_block, owner_words, leaf_owner, new_leaf_owners, next_table_slots, next_text_slots, unfinished_slots, firm_owners, owner_places, NameApart, busy_lanes, lane_owner, lane_block, lane_targets, OwnersAreApart}
use Rattle.image_layout.proofs.Faults.{Holds}
use Rattle.image_layout.proofs.Members.{Contains-here, Contains-there, Contains-cons, Contains-nil, Contains-flat_map, flat_map-Contains, Contains-map, map-Contains, Contains-filter, filter-Contains}
use Rattle.image_layout.proofs.OwnersApart.{all_from}

-- a word that is tried to be 0 is
zero_at : (words places : List ℕ) (at : ℕ) → All Holds (map (zero_check words) places) → Contains places at → get_or words at 0 ≡ 0
zero_at words places at holds is =
    let zero_is : eqb (get_or words at 0) 0 ≡ true = All-contains Holds (map (zero_check words) places) (zero_check words at) holds (map-Contains (zero_check words) places at is) in
    eqb-true (get_or words at 0) 0 zero_is

-- words that differ from those before them
differs : (words before places : List ℕ) (word at : ℕ) → All Holds (distinct_checks words before places) → Contains before word → Contains places at → get_or words at 0 ≢ word
differs words before [] word at holds known is = absurd (Contains-nil at is)
differs words before (first ∷ places) word at holds known is = ⊎_elim
    (λ here same.
    let check_is = check first (not (is_among before (get_or words first 0))) in
    let fresh : not (is_among before (get_or words first 0)) ≡ true = All-head Holds check_is (distinct_checks words (get_or words first 0 ∷ before) places) holds in
    let word_is : get_or words first 0 ≡ word = ap (λ (k : ℕ). get_or words k 0) here ∙ same in
    both_ways (is_among before (get_or words first 0)) (not-true (is_among before (get_or words first 0)) fresh) (among before (get_or words first 0) word known (sym word_is)))
    (λ there same. differs words (get_or words first 0 ∷ before) places word at
    (All-tail Holds (check first (not (is_among before (get_or words first 0)))) (distinct_checks words (get_or words first 0 ∷ before) places) holds)
    (Contains-there (get_or words first 0) word before known) there same)
    (Contains-cons first at places is)
  where
    among : (numbers : List ℕ) (number other : ℕ) → Contains numbers other → other ≡ number → is_among numbers number ≡ true
    among [] number other is same = absurd (Contains-nil other is)
    among (n ∷ numbers) number other is same = ⊎_elim
        (λ here. let hit = eq-eqb n number (here ∙ same) in rw hit refl)
        (λ there. let rest = among numbers number other there same in ⊎_elim (λ hit. rw hit refl) (λ miss. rw miss rest) (cases_Bool (eqb n number)))
        (Contains-cons n other numbers is)

-- Words that differ and are pointers name blocks apart, and so do words that are 0.
pairs_apart : (words before places zeros : List ℕ) → All Holds (distinct_checks words before places) → ((at : ℕ) → Contains places at → is_pointer words (get_or words at 0) ≡ true)
    → ((at : ℕ) → Contains zeros at → get_or words at 0 ≡ 0) → AllPairs (NameApart words) (places ++ zeros)
pairs_apart words before [] zeros holds pointers none = λ i j d order lt first second replaced same. second (none (get_or zeros j d) (Contains-get_or zeros j d lt))
pairs_apart words before (at ∷ places) zeros holds pointers none =
    let rest_holds = All-tail Holds (check at (not (is_among before (get_or words at 0)))) (distinct_checks words (get_or words at 0 ∷ before) places) holds in
    AllPairs-cons (NameApart words) at (places ++ zeros)
    (all_from (NameApart words at) (places ++ zeros) (λ other is. ⊎_elim
    (λ later first second replaced same.
    differs words (get_or words at 0 ∷ before) places (get_or words at 0) other rest_holds (Contains-here (get_or words at 0) before) later
    (sym (one_place other (at_pointer at (Contains-here at places)) (at_pointer other (Contains-there at other places later)) same)))
    (λ past first second replaced same. second (none other past))
    (Contains-append_cases places zeros other is)))
    (pairs_apart words (get_or words at 0 ∷ before) places zeros rest_holds (λ other is. pointers other (Contains-there at other places is)) none)
  where
    at_pointer : (other : ℕ) → Contains (at ∷ places) other → get_or words other 0 ≡ pointer_word (place_in (get_or words other 0))
    at_pointer other is = eqb-true (get_or words other 0) (pointer_word (place_in (get_or words other 0)))
        (and_parts (eqb (get_or words other 0) (pointer_word (place_in (get_or words other 0)))) _ (pointers other is)).0

    one_place : (other : ℕ) → get_or words at 0 ≡ pointer_word (place_in (get_or words at 0)) → get_or words other 0 ≡ pointer_word (place_in (get_or words other 0))
        → place_in (get_or words at 0) ≡ place_in (get_or words other 0) → get_or words at 0 ≡ get_or words other 0
    one_place other first second same = first ∙ ap pointer_word same ∙ sym second

module _ (words : List ℕ) (intact : IsIntact words) where
  owns : (owner : Owner) → Contains (owner_words words) owner → owns_block words owner ≡ true
  unfolding owner_rule
  owns owner is = All-contains Holds (owner_rule words) (check owner.at (owns_block words owner)) intact.owners.checks (map-Contains (λ (o : Owner). check o.at (owns_block words o)) (owner_words words) owner is)

  split_logs : List ℕ
  split_logs = flat_map (λ column. split_leaf_at column ∷ new_leaf_at column ∷ []) (all_columns words)

  logs_zero : (at : ℕ) → Contains (split_logs ++ next_table_slots words) at → get_or words at 0 ≡ 0
  unfolding split_log_rule split_logs
  logs_zero at is = zero_at words (split_logs ++ next_table_slots words) at intact.split_logs.checks is

  leaf_zero : (owner : Owner) → Contains (new_leaf_owners words) owner → word_of words owner ≡ 0
  unfolding split_logs
  leaf_zero owner is =
      let (column, among, here) = Contains-map (λ (c : ℕ). leaf_owner (new_leaf_at c)) (all_columns words) owner is in
      ap (λ (o : Owner). word_of words o) (sym here)
      ∙ logs_zero (new_leaf_at column) (Contains-append_left split_logs (next_table_slots words) (new_leaf_at column)
      (flat_map-Contains (λ c. split_leaf_at c ∷ new_leaf_at c ∷ []) (all_columns words) column (new_leaf_at column) among
      (Contains-there (split_leaf_at column) (new_leaf_at column) (new_leaf_at column ∷ []) (Contains-here (new_leaf_at column) []))))

  text_zero : (column at : ℕ) → Contains (all_columns words) column → Contains (next_text_slots words column) at → get_or words at 0 ≡ 0
  unfolding spare_slot_rule
  text_zero column at among is = ⊎_elim found (λ miss. absurd (Contains-nil at (rw miss at is))) (cases_Bool (is_text words column && ltb index (capacity words header)))
    where
      header : ℕ
      header = dictionary_header column

      index : ℕ
      index = dictionary_length words column

      found : is_text words column && ltb index (capacity words header) ≡ true → get_or words at 0 ≡ 0
      found hit =
          let parts = and_parts (is_text words column) (ltb index (capacity words header)) hit in
          let lt = ltb-true index (capacity words header) parts.1 in
          let first : Contains (range_with_len index (capacity words header - index)) index =
          (0, omega (arith, lt, length-range_with_len index (capacity words header - index)), omega (arith, get_or-range_with_len index (capacity words header - index) 0 index (omega (arith, lt)))) in
          let spare : Contains (spare_slots words column) (place_of words header index) = map-Contains (place_of words header) (range_with_len index (capacity words header - index)) index first in
          let texts : Contains (text_columns words) column = filter-Contains (is_text words) (all_columns words) column among parts.0 in
          ⊎_elim
          (λ (here : place_of words header index ≡ at). ap (λ (k : ℕ). get_or words k 0) (sym here)
          ∙ zero_at words (flat_map (spare_slots words) (text_columns words)) (place_of words header index) intact.spare_slots.checks
          (flat_map-Contains (spare_slots words) (text_columns words) column (place_of words header index) texts spare))
          (λ none. absurd (Contains-nil at none)) (Contains-cons (place_of words header index) at [] (rw hit at is))

  unfinished_zero : (at : ℕ) → Contains (unfinished_slots words) at → get_or words at 0 ≡ 0
  unfinished_zero at is = ⊎_elim
      (λ slot. logs_zero at (Contains-append_right split_logs (next_table_slots words) at slot))
      (λ text. let (column, among, here) = Contains-flat_map (next_text_slots words) (all_columns words) at text in text_zero column at among here)
      (Contains-append_cases (next_table_slots words) (flat_map (next_text_slots words) (all_columns words)) at is)

  no_busy : (lane : ℕ) → Contains (busy_lanes words) lane → ⊥
  unfolding idle_rule
  no_busy lane is =
      let parts = Contains-filter (λ l. not (eqb (get_or words (lane_op_at l) 0) 0)) (below 16) lane is in
      let idle : eqb (get_or words (lane_op_at lane) 0) 0 ≡ true = All-contains Holds (idle_rule words) (zero_check words (lane_op_at lane)) intact.idle.checks
      (map-Contains (λ l. zero_check words (lane_op_at l)) (below 16) lane parts.0) in
      both_ways (eqb (get_or words (lane_op_at lane) 0) 0) (not-true (eqb (get_or words (lane_op_at lane) 0) 0) parts.1) idle

  none_busy : (P : ℕ → Type 0) → All P (busy_lanes words)
  none_busy P = all_from P (busy_lanes words) (λ lane is. absurd (no_busy lane is))

  abbrev owned_places : List ℕ
  owned_places = map (λ (o : Owner). o.at) (owner_words words)

  abbrev unowned_places : List ℕ
  unowned_places = map (λ (o : Owner). o.at) (new_leaf_owners words) ++ unfinished_slots words

  all_places : owner_places words ≡ owned_places ++ unowned_places
  all_places =
      ap (λ (l : List ℕ). l ++ unfinished_slots words) (map-append (λ (o : Owner). o.at) (owner_words words) (new_leaf_owners words))
      ∙ append_assoc owned_places (map (λ (o : Owner). o.at) (new_leaf_owners words)) (unfinished_slots words)

  pointer_at : (at : ℕ) → Contains owned_places at → is_pointer words (get_or words at 0) ≡ true
  pointer_at at is =
      let (owner, among, here) = Contains-map (λ (o : Owner). o.at) (owner_words words) at is in
      let P : ℕ → Type 0 = λ k. is_pointer words (get_or words k 0) ≡ true in
      subst P here (and_parts (is_pointer words (word_of words owner)) (is_live words (named_block words owner) owner.block_words) (owns owner among)).0

  unowned_zero : (at : ℕ) → Contains unowned_places at → get_or words at 0 ≡ 0
  unowned_zero at is = ⊎_elim
      (λ leaf. let (owner, among, here) = Contains-map (λ (o : Owner). o.at) (new_leaf_owners words) at leaf in ap (λ (k : ℕ). get_or words k 0) (sym here) ∙ leaf_zero owner among)
      (λ slot. unfinished_zero at slot)
      (Contains-append_cases (map (λ (o : Owner). o.at) (new_leaf_owners words)) (unfinished_slots words) at is)

  pub intact_apart : OwnersAreApart words
  unfolding single_owner_rule
  intact_apart = record {
    firm = all_from (λ owner. names_one words owner ≡ true → owns_block words owner ≡ true) (firm_owners words) (λ owner is. ⊎_elim
        (λ stored named. owns owner stored)
        (λ leaf named. absurd (both_ways (eqb (word_of words owner) 0) (not-true (eqb (word_of words owner) 0) named) (eq-eqb (word_of words owner) 0 (leaf_zero owner leaf))))
        (Contains-append_cases (owner_words words) (new_leaf_owners words) owner is));
    unfinished = all_from (λ at. get_or words at 0 ≢ 0 → (is_pointer words (get_or words at 0) ≡ true) × Contains (map (λ (block : Block). block.first) (live_blocks words)) (place_in (get_or words at 0)))
        (unfinished_slots words) (λ at is some. absurd (some (unfinished_zero at is)));
    apart = subst (AllPairs (NameApart words)) (sym all_places) (pairs_apart words [] owned_places unowned_places intact.single_owners.checks pointer_at unowned_zero);
    targets = none_busy (λ lane. Contains (lane_targets words) (lane_owner words lane));
    lanes = λ i j d order lt. absurd (no_busy (get_or (busy_lanes words) j d) (Contains-get_or (busy_lanes words) j d lt));
    alone = none_busy (λ lane. All (λ at. (at ≡ lane_owner words lane) ⊎ (get_or words at 0 ≢ lane_block words lane)) (owner_places words));
  }
