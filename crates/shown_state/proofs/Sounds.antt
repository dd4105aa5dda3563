-- An intact image fits, and so does a sound one.
use Rattle.std.proofs.Common.{◌≡◌, inl, inr, ⊎_elim, ℕ, ◌+◌, ◌-◌, ◌<◌, ◌≤◌, max, min, Bool, true, false, not, ◌&&◌, ◌||◌, eqb, leb, ltb, List, [], ◌∷◌, ◌++◌, get_or, map, refl, sym, ◌∙◌, ap, subst, arith}
use Rattle.std.specs.Prelude.{All, Contains, fold}
use Rattle.std.specs.List.{flat_map, list_all, range_with_len}
use Rattle.std.proofs.lemmas.Bool.{both_ways, cases_Bool, cond-false, cond-true, eqb-true, eq-eqb, ltb-true, lt-ltb, leb-true, le-leb, ne_eqb, not-true, and_parts, and_from, or_cases}
use Rattle.std.proofs.lemmas.List.Elements.{All-contains, All-head, All-tail, Contains-append_cases, Contains-append_left, Contains-append_right, Contains-get_or}
use Rattle.std.proofs.lemmas.List.FromFn.{length-range_with_len, get_or-range_with_len}
use Rattle.image_layout.specs.Fixed.{commit_word_at, lane_op_at, last_at, state_at, version_at}
use Rattle.image_layout.specs.Pointer.{pointer_word}
use Rattle.image_layout.specs.Places.{below}
use Rattle.image_layout.specs.Records.{codes_header, created_header, dictionary_header, ended_header, high_at, new_leaf_at, split_leaf_at}
use Rattle.image_layout.specs.Arrays.{capacity, place_of, array_word}
use Rattle.image_layout.specs.Blocks.{Block, live_blocks}
use Rattle.image_layout.specs.Checks.{Check, check}
use Rattle.image_layout.specs.Tables.{table_count, table_block, table_blocks, columns_of, columns_with, all_columns, is_first_version, is_text, since_of}
use Rattle.image_layout.specs.Objects.{is_open, open_commit, entry_places, last_commit}
use Rattle.image_layout.specs.Trees.{dictionary_length, is_about_to_link}
use Rattle.image_layout.specs.EntryRules.{is_among, text_columns}
use Rattle.image_layout.specs.SoundRules.{zero_check, idle_rule, split_log_rule, closed_rule, owned_rule, spare_slots, spare_slot_rule, no_commit, is_commit, is_created, is_ended, row_check, row_checks, is_row_bound, stamp_checks, stamp_rule, row_code_check, committed_rows, row_code_rule, latest_version_rule, IsIntact, IsSound}
use Rattle.image_layout.specs.Owners.{Owner, word_of, owner_words, new_leaf_owners, next_table_slots, next_text_slots, unfinished_slots, firm_owners, owner_places, busy_lanes, lane_block}
use Rattle.image_layout.proofs.Faults.{Holds, mapped_hold}
use Rattle.image_layout.proofs.Members.{Contains-below, below-Contains, Contains-here, Contains-there, Contains-cons, Contains-nil, Contains-flat_map, flat_map-Contains, Contains-map, map-Contains, Contains-filter, filter-Contains}
use Rattle.image_layout.proofs.OwnersApart.{all_from}
use Rattle.image_layout.proofs.SoundApart.{intact_apart}
use Rattle.shown_state.specs.LogicalState.{created_rows, row_bound, open_bound}
use Rattle.shown_state.specs.Logs.{LaneFits, SlotFits, SplitFits, LogsFit}
use Rattle.shown_state.specs.Fits.{spoken_for, later_slots, later_slot_rule, is_undecided, undecided_bound, used_up, CreatorFits, EnderFits, HasValue, RowsFit}
use Rattle.shown_state.specs.StepLaws.{IntactFits, SoundFits}
use Rattle.shown_state.proofs.Ends.{none_filtered}

-- a sound image is of version 2
pub is_latest : (words : List ℕ) → IsSound words → is_first_version words ≡ false
unfolding latest_version_rule
is_latest words sound =
    let rule = sound.latest in
    let is : eqb (get_or words version_at 0) 2 ≡ true = All-head Holds (check version_at (eqb (get_or words version_at 0) 2)) [] rule.checks in
    let two = eqb-true (get_or words version_at 0) 2 is in
    ne_eqb (get_or words version_at 0) 1 (λ one. omega (arith, one, two))

module _ (words : List ℕ) (intact : IsIntact words) where
  zero_at : (places : List ℕ) (at : ℕ) → All Holds (map (zero_check words) places) → Contains places at → get_or words at 0 ≡ 0
  zero_at places at holds is = eqb-true (get_or words at 0) 0 (All-contains Holds (map (zero_check words) places) (zero_check words at) holds (map-Contains (zero_check words) places at is))

  -- ── logs ──

  abbrev logs_of : ℕ → List ℕ
  logs_of column = split_leaf_at column ∷ new_leaf_at column ∷ []

  log_zero : (at : ℕ) → Contains (flat_map logs_of (all_columns words) ++ next_table_slots words) at → get_or words at 0 ≡ 0
  unfolding split_log_rule
  log_zero at is = let rule = intact.split_logs in zero_at (flat_map logs_of (all_columns words) ++ next_table_slots words) at rule.checks is

  column_log : (column at : ℕ) → Contains (all_columns words) column → Contains (logs_of column) at → get_or words at 0 ≡ 0
  column_log column at is log = log_zero at (Contains-append_left (flat_map logs_of (all_columns words)) (next_table_slots words) at (flat_map-Contains logs_of (all_columns words) column at is log))

  -- a published slot from the length on
  spare_zero : (column k : ℕ) → Contains (text_columns words) column → dictionary_length words column ≤ k → k < capacity words (dictionary_header column) → get_or words (place_of words (dictionary_header column) k) 0 ≡ 0
  unfolding spare_slot_rule
  spare_zero column k text low high =
      let first = dictionary_length words column in
      let count = capacity words (dictionary_header column) - first in
      let at = get_or-range_with_len first count (k - first) k (omega (arith, low, high)) in
      let within : Contains (range_with_len first count) k = (k - first, omega (arith, low, high, length-range_with_len first count), omega (arith, at, low)) in
      let rule = intact.spare_slots in
      zero_at (flat_map (spare_slots words) (text_columns words)) (place_of words (dictionary_header column) k) rule.checks
      (flat_map-Contains (spare_slots words) (text_columns words) column (place_of words (dictionary_header column) k) text (map-Contains (place_of words (dictionary_header column)) (range_with_len first count) k within))

  pub slot_zero : (at : ℕ) → Contains (unfinished_slots words) at → get_or words at 0 ≡ 0
  slot_zero at is = ⊎_elim
      (λ slot. log_zero at (Contains-append_right (flat_map logs_of (all_columns words)) (next_table_slots words) at slot))
      (λ text. let (column, one, here) = Contains-flat_map (next_text_slots words) (all_columns words) at text in next_zero column at one here)
      (Contains-append_cases (next_table_slots words) (flat_map (next_text_slots words) (all_columns words)) at is)
    where
      next_zero : (column at : ℕ) → Contains (all_columns words) column → Contains (next_text_slots words column) at → get_or words at 0 ≡ 0
      next_zero column at one here = ⊎_elim
          (λ (hit : (is_text words column && ltb (dictionary_length words column) (capacity words (dictionary_header column))) ≡ true).
          let parts = and_parts (is_text words column) (ltb (dictionary_length words column) (capacity words (dictionary_header column))) hit in
          let lt = ltb-true (dictionary_length words column) (capacity words (dictionary_header column)) parts.1 in
          ⊎_elim (λ (e : place_of words (dictionary_header column) (dictionary_length words column) ≡ at). ap (λ (k : ℕ). get_or words k 0) (sym e)
          ∙ spare_zero column (dictionary_length words column) (filter-Contains (is_text words) (all_columns words) column one parts.0) (omega arith) lt)
          (λ none. absurd (Contains-nil at none)) (Contains-cons (place_of words (dictionary_header column) (dictionary_length words column)) at [] (rw hit at here)))
          (λ miss. absurd (Contains-nil at (rw miss at here)))
          (cases_Bool (is_text words column && ltb (dictionary_length words column) (capacity words (dictionary_header column))))

  no_busy : (lane : ℕ) → Contains (busy_lanes words) lane → ⊥
  unfolding idle_rule
  no_busy lane is =
      let parts = Contains-filter (λ l. not (eqb (get_or words (lane_op_at l) 0) 0)) (below 16) lane is in
      let rule = intact.idle in
      both_ways (eqb (get_or words (lane_op_at lane) 0) 0) (not-true (eqb (get_or words (lane_op_at lane) 0) 0) parts.1)
      (All-contains Holds (map (λ l. zero_check words (lane_op_at l)) (below 16)) (zero_check words (lane_op_at lane)) rule.checks (map-Contains (λ l. zero_check words (lane_op_at l)) (below 16) lane parts.0))

  pub intact_logs : LogsFit words
  intact_logs = record {
    lanes = all_from (LaneFits words) (busy_lanes words) (λ lane is. absurd (no_busy lane is));
    blocks = λ i j d order lt. absurd (no_busy (get_or (busy_lanes words) j d) (Contains-get_or (busy_lanes words) j d lt));
    slots = all_from (SlotFits words) (unfinished_slots words) (λ at is some. absurd (some (slot_zero at is)));
    splits = all_from (SplitFits words) (all_columns words) (λ column is.
        let leaf = column_log column (split_leaf_at column) is (Contains-here (split_leaf_at column) (new_leaf_at column ∷ [])) in
        let new = column_log column (new_leaf_at column) is (Contains-there (split_leaf_at column) (new_leaf_at column) (new_leaf_at column ∷ []) (Contains-here (new_leaf_at column) [])) in
        record {
          unlinked = λ some. absurd (some leaf);
          goes_on = λ about. absurd (not_about column leaf about);
          bitmap = λ about. absurd (not_about column leaf about);
          first = λ none some. absurd (some new);
          later = λ some. absurd (some leaf);
        });
  }
    where
      not_about : (column : ℕ) → get_or words (split_leaf_at column) 0 ≡ 0 → is_about_to_link words column ≡ true → ⊥
      not_about column leaf about =
          let all = and_parts _ _ about in
          let three = and_parts _ _ all.0 in
          let two = and_parts _ _ three.0 in
          both_ways (eqb (get_or words (split_leaf_at column) 0) 0) (not-true (eqb (get_or words (split_leaf_at column) 0) 0) two.0) (eq-eqb (get_or words (split_leaf_at column) 0) 0 leaf)

  -- ── blocks ──

  named : (numbers : List ℕ) (number : ℕ) → is_among numbers number ≡ true → Contains numbers number
  named [] number is = absurd (cc)
  named (n ∷ numbers) number is = ⊎_elim
      (λ here. subst (λ (z : ℕ). Contains (n ∷ numbers) z) (eqb-true n number here) (Contains-here n numbers))
      (λ there. Contains-there n number numbers (named numbers number there))
      (or_cases (eqb n number) (is_among numbers number) is)

  pub intact_held : All (λ block. Contains (spoken_for words) (pointer_word block.first)) (live_blocks words)
  unfolding owned_rule
  intact_held = λ k d lt.
      let block = get_or (live_blocks words) k d in
      let live = Contains-get_or (live_blocks words) k d lt in
      let made : Block → Check = λ b. check b.first (is_among (map (word_of words) (owner_words words)) (pointer_word b.first)) in
      let rule = intact.owned in
      let is = named (map (word_of words) (owner_words words)) (pointer_word block.first) (All-contains Holds (map made (live_blocks words)) (made block) rule.checks (map-Contains made (live_blocks words) block live)) in
      let (owner, among, here) = Contains-map (word_of words) (owner_words words) (pointer_word block.first) is in
      let firm = map-Contains (λ (o : Owner). o.at) (firm_owners words) owner (Contains-append_left (owner_words words) (new_leaf_owners words) owner among) in
      let place = Contains-append_left (map (λ (o : Owner). o.at) (firm_owners words)) (unfinished_slots words) owner.at firm in
      Contains-append_left (map (λ (a : ℕ). get_or words a 0) (owner_places words)) (map (lane_block words) (busy_lanes words)) (pointer_word block.first)
      (subst (λ (w : ℕ). Contains (map (λ (a : ℕ). get_or words a 0) (owner_places words)) w) here (map-Contains (λ (a : ℕ). get_or words a 0) (owner_places words) owner.at place))

  -- ── rows ──

  state_zero : (object : ℕ) → object < 16 → get_or words (state_at object) 0 ≡ 0
  unfolding closed_rule
  state_zero object lt =
      let own : ℕ → List ℕ = λ o. state_at o ∷ commit_word_at o ∷ entry_places words o in
      let rule = intact.closed in
      zero_at (flat_map own (below 16)) (state_at object) rule.checks
      (flat_map-Contains own (below 16) object (state_at object) (below-Contains 16 object lt) (Contains-here (state_at object) (commit_word_at object ∷ entry_places words object)))

  not_open : (object : ℕ) → object < 16 → is_open words object ≡ false
  not_open object lt = rw (state_zero object lt) refl

  last_is : last_commit words ≡ get_or words last_at 0
  last_is = zeros (below 16) (get_or words last_at 0) (λ object is. rw (not_open object (Contains-below 16 object is)) refl)
    where
      max_zero : (n : ℕ) → max n 0 ≡ n
      max_zero n = omega arith

      zeros : (xs : List ℕ) (n : ℕ) → ((x : ℕ) → Contains xs x → open_commit words x ≡ 0) → fold max n (map (open_commit words) xs) ≡ n
      zeros [] n each = refl
      zeros (x ∷ xs) n each = ap (λ m. fold max m (map (open_commit words) xs)) (ap (max n) (each x (Contains-here x xs)) ∙ max_zero n) ∙ zeros xs n (λ y is. each y (Contains-there x y xs is))

  bound_zero : (table : ℕ) → open_bound words table ≡ 0
  bound_zero table = ap (λ (xs : List ℕ). fold max 0 (map (λ object. row_bound (created_rows words object table)) xs)) (none_filtered (is_open words) (below 16) (λ object is. not_open object (Contains-below 16 object is)))

  undecided_zero : (table : ℕ) → undecided_bound words table ≡ 0
  undecided_zero table = ap (λ (xs : List ℕ). fold max 0 (map (λ object. row_bound (created_rows words object table)) xs))
      (none_filtered (is_undecided words) (below 16) (λ object is. rw (not_open object (Contains-below 16 object is)) refl))

  module _ (table : ℕ) (published : table < table_count words) where
    abbrev block : ℕ
    block = table_block words table

    abbrev high : ℕ
    high = get_or words (high_at block) 0

    used_is : used_up words table ≡ high
    used_is = let none = undecided_zero table in omega (arith, none)

    block_in : Contains (table_blocks words) block
    block_in = map-Contains (table_block words) (below (table_count words)) table (below-Contains (table_count words) table published)

    checks : All Holds (stamp_checks words block)
    unfolding stamp_rule
    checks = λ k d lt. let rule = intact.stamps in All-contains Holds (flat_map (stamp_checks words) (table_blocks words)) (get_or (stamp_checks words block) k d) rule.checks
        (flat_map-Contains (stamp_checks words) (table_blocks words) block (get_or (stamp_checks words block) k d) block_in (Contains-get_or (stamp_checks words block) k d lt))

    abbrev rows : List ℕ
    rows = below (max (capacity words (created_header block)) (capacity words (ended_header block)))

    bound_holds : is_row_bound words block high ≡ true
    unfolding stamp_checks
    bound_holds = All-head Holds (check (high_at block) (is_row_bound words block high)) (flat_map (row_checks words block) rows) checks

    bound_parts : (leb high (capacity words (created_header block)) && leb high (capacity words (ended_header block)) ≡ true) × (list_all (λ column. leb (since_of words column) high) (columns_of words block) ≡ true)
    bound_parts = and_parts (leb high (capacity words (created_header block)) && leb high (capacity words (ended_header block))) (list_all (λ column. leb (since_of words column) high) (columns_of words block)) bound_holds

    reach_parts : (leb high (capacity words (created_header block)) ≡ true) × (leb high (capacity words (ended_header block)) ≡ true)
    reach_parts = and_parts (leb high (capacity words (created_header block))) (leb high (capacity words (ended_header block))) bound_parts.0

    column_begun : (column : ℕ) → Contains (columns_of words block) column → since_of words column ≤ high
    column_begun column is = each (columns_of words block) bound_parts.1 is
      where
        each : (columns : List ℕ) → list_all (λ c. leb (since_of words c) high) columns ≡ true → Contains columns column → since_of words column ≤ high
        each [] all is = absurd (Contains-nil column is)
        each (c ∷ columns) all is =
            let parts = and_parts (leb (since_of words c) high) (list_all (λ o. leb (since_of words o) high) columns) all in
            ⊎_elim (λ (e : c ≡ column). subst (λ (o : ℕ). since_of words o ≤ high) e (leb-true (since_of words c) high parts.0)) (λ there. each columns parts.1 there) (Contains-cons c column columns is)

    row_holds : (row : ℕ) (c : Check) → Contains rows row → Contains (row_checks words block row) c → Holds c
    unfolding stamp_checks
    row_holds row c is one = All-contains Holds (flat_map (row_checks words block) rows) c (All-tail Holds (check (high_at block) (is_row_bound words block high)) (flat_map (row_checks words block) rows) checks)
        (flat_map-Contains (row_checks words block) rows row c is one)

    abbrev born : ℕ → ℕ
    born row = array_word words (created_header block) row

    abbrev dies : ℕ → ℕ
    dies row = array_word words (ended_header block) row

    published_check : (header row : ℕ) (holds : Bool) → row < capacity words header → Contains (row_check words header row holds) (check (place_of words header row) holds)
    published_check header row holds lt = rw (lt-ltb row (capacity words header) lt) (Contains-here (check (place_of words header row) holds) [])

    born_holds : (row : ℕ) → row < capacity words (created_header block) → is_created words (ltb row high) (born row) ≡ true
    born_holds row lt = row_holds row (check (place_of words (created_header block) row) (is_created words (ltb row high) (born row)))
        (below-Contains (max (capacity words (created_header block)) (capacity words (ended_header block))) row (omega (arith, lt)))
        (Contains-append_left (row_check words (created_header block) row (is_created words (ltb row high) (born row))) (row_check words (ended_header block) row (is_ended words (ltb row high) (born row) (dies row)))
        (check (place_of words (created_header block) row) (is_created words (ltb row high) (born row))) (published_check (created_header block) row (is_created words (ltb row high) (born row)) lt))

    dies_holds : (row : ℕ) → row < capacity words (ended_header block) → is_ended words (ltb row high) (born row) (dies row) ≡ true
    dies_holds row lt = row_holds row (check (place_of words (ended_header block) row) (is_ended words (ltb row high) (born row) (dies row)))
        (below-Contains (max (capacity words (created_header block)) (capacity words (ended_header block))) row (omega (arith, lt)))
        (Contains-append_right (row_check words (created_header block) row (is_created words (ltb row high) (born row))) (row_check words (ended_header block) row (is_ended words (ltb row high) (born row) (dies row)))
        (check (place_of words (ended_header block) row) (is_ended words (ltb row high) (born row) (dies row))) (published_check (ended_header block) row (is_ended words (ltb row high) (born row) (dies row)) lt))

    commit_parts : (stamp : ℕ) → is_commit words stamp ≡ true → (1 ≤ stamp) × (stamp ≤ last_commit words)
    commit_parts stamp is =
        let both = and_parts (leb 1 stamp) (leb stamp (get_or words last_at 0)) is in
        let most = leb-true stamp (get_or words last_at 0) both.1 in
        let last = last_is in
        (leb-true 1 stamp both.0, omega (arith, most, last))

    creator_fits : (row : ℕ) → row < capacity words (created_header block) → CreatorFits words table row
    creator_fits row lt = ⊎_elim
        (λ none. inl (eqb-true (born row) 0 none))
        (λ some. let parts = and_parts (ltb row high) ((eqb (born row) no_commit) || is_commit words (born row)) some in
        let low = ltb-true row high parts.0 in
        let used = used_is in
        inr (inl (omega (arith, low, used), ⊎_elim (λ dead. inl (eqb-true (born row) no_commit dead)) (λ commit. inr (commit_parts (born row) commit).1) (or_cases (eqb (born row) no_commit) (is_commit words (born row)) parts.1))))
        (or_cases (eqb (born row) 0) (ltb row high && ((eqb (born row) no_commit) || is_commit words (born row))) (born_holds row lt))

    ender_fits : (row : ℕ) → row < capacity words (ended_header block) → EnderFits words table row
    ender_fits row lt = ⊎_elim
        (λ none. inl (eqb-true (dies row) 0 none))
        (λ some. let outer = and_parts (ltb row high && is_commit words (born row) && is_commit words (dies row)) (leb (born row) (dies row)) some in
        let three = and_parts (ltb row high && is_commit words (born row)) (is_commit words (dies row)) outer.0 in
        let two = and_parts (ltb row high) (is_commit words (born row)) three.0 in
        let low = ltb-true row high two.0 in
        let used = used_is in
        inr (inl (record {
          given = omega (arith, low, used);
          first = (commit_parts (born row) two.1).0;
          later = leb-true (born row) (dies row) outer.1;
          last = (commit_parts (dies row) three.1).1;
        })))
        (or_cases (eqb (dies row) 0) (ltb row high && is_commit words (born row) && is_commit words (dies row) && leb (born row) (dies row)) (dies_holds row lt))

    code_is : (row column : ℕ) → Holds (row_code_check words row column) → HasValue words row column
    code_is row column holds =
        let header = codes_header column in
        let size = dictionary_length words column in
        let place = check (place_of words header row) (ltb (array_word words header row) size) in
        ⊎_elim
        (λ (hit : ltb row (capacity words header) ≡ true).
        let known = subst Holds (cond-true (ltb row (capacity words header)) place (check header false) hit) holds in
        record { published = ltb-true row (capacity words header) hit; known = ltb-true (array_word words header row) size known })
        (λ (miss : ltb row (capacity words header) ≡ false).
        absurd (both_ways false refl (subst Holds (cond-false (ltb row (capacity words header)) place (check header false) miss) holds)))
        (cases_Bool (ltb row (capacity words header)))

    value_is : (row column : ℕ) → row < capacity words (created_header block) → 1 ≤ born row → born row ≤ last_commit words → Contains (columns_with words block row) column → HasValue words row column
    unfolding row_code_rule
    value_is row column lt some most is =
        let last = last_is in
        let low : row < high = ⊎_elim
        (λ none. let zero_is = eqb-true (born row) 0 none in omega (arith, zero_is, some))
        (λ stamped. ltb-true row high (and_parts (ltb row high) ((eqb (born row) no_commit) || is_commit words (born row)) stamped).0)
        (or_cases (eqb (born row) 0) (ltb row high && ((eqb (born row) no_commit) || is_commit words (born row))) (born_holds row lt)) in
        let commit : is_commit words (born row) ≡ true = and_from (leb 1 (born row)) (leb (born row) (get_or words last_at 0)) (le-leb 1 (born row) some) (le-leb (born row) (get_or words last_at 0) (omega (arith, most, last))) in
        let row_in : Contains (committed_rows words block) row = filter-Contains (λ r. is_commit words (born r)) (below (min high (capacity words (created_header block)))) row
        (below-Contains (min high (capacity words (created_header block))) row (omega (arith, low, lt))) commit in
        let codes : ℕ → List Check = λ r. map (row_code_check words r) (columns_with words block r) in
        let rule = intact.row_codes in
        let known = All-contains Holds (flat_map (λ b. flat_map (λ r. map (row_code_check words r) (columns_with words b r)) (committed_rows words b)) (table_blocks words)) (row_code_check words row column) rule.checks
        (flat_map-Contains (λ b. flat_map (λ r. map (row_code_check words r) (columns_with words b r)) (committed_rows words b)) (table_blocks words) block (row_code_check words row column) block_in
        (flat_map-Contains codes (committed_rows words block) row (row_code_check words row column) row_in (map-Contains (row_code_check words row) (columns_with words block row) column is))) in
        code_is row column known

    pub intact_rows : RowsFit words table
    intact_rows = record {
      rows = let none = bound_zero table in let undecided = undecided_zero table in omega (arith, none, undecided);
      created_room = let reach = leb-true high (capacity words (created_header block)) reach_parts.0 in let used = used_is in omega (arith, reach, used);
      ended_room = let reach = leb-true high (capacity words (ended_header block)) reach_parts.1 in let used = used_is in omega (arith, reach, used);
      begun = all_from (λ (column : ℕ). since_of words column ≤ high) (columns_of words block) column_begun;
      created = creator_fits;
      ended = ender_fits;
      values = λ row lt some most. all_from (HasValue words row) (columns_with words block row) (λ column is. value_is row column lt some most is);
    }

  pub intact_later : All Holds (map (zero_check words) (flat_map (later_slots words) (text_columns words)))
  intact_later = mapped_hold (zero_check words) (flat_map (later_slots words) (text_columns words)) (λ at is.
      let (column, text, here) = Contains-flat_map (later_slots words) (text_columns words) at is in
      let first = dictionary_length words column + 1 in
      let count = capacity words (dictionary_header column) - first in
      let (k, within, place) = Contains-map (place_of words (dictionary_header column)) (range_with_len first count) at here in
      let (i, lt, same) = within in
      let size = length-range_with_len first count in
      let value = get_or-range_with_len first count i k (omega (arith, lt, size)) in
      eq-eqb (get_or words at 0) 0 (ap (λ (p : ℕ). get_or words p 0) (sym place) ∙ spare_zero column k text (omega (arith, value, same)) (omega (arith, value, same, lt, size))))

pub intact_fits : IntactFits
unfolding later_slot_rule
intact_fits words image intact first = record {
  entry = intact.entry;
  apart = intact_apart words intact;
  logs = intact_logs words intact;
  held = intact_held words intact;
  owners = intact.owners;
  order = intact.order;
  fingerprints = intact.fingerprints;
  codes = intact.codes;
  texts = intact.texts;
  later_slots = record { checks = intact_later words intact };
  given_back = intact.given_back;
  names = intact.names;
  rows = λ table lt. intact_rows words intact table lt;
  first = first;
}

pub sound_fits : SoundFits
sound_fits words image sound =
    intact_fits words image sound.intact (λ version table lt. absurd (both_ways (is_first_version words) (is_latest words sound) version))
