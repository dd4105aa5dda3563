-- One more entry of an undecided transaction keeps what fits together, and gives out the row that it says was created.
use Rattle.std.proofs.Common.{◌≡◌, ◌≢◌, ◌⊎◌, inl, inr, ⊎_elim, ℕ, ◌+◌, ◌-◌, ◌*◌, ◌^◌, ◌<◌, ◌≤◌, max, min, Bool, true, cond, not, ◌&&◌, ◌||◌, eqb, leb, ltb, List, [], ◌∷◌, length, get_or, map, set, refl, sym, ◌∙◌, ap, subst, arith}
use Rattle.std.specs.Prelude.{All, Contains, filter, fold}
use Rattle.std.specs.List.{flat_map}
use Rattle.std.proofs.lemmas.Bool.{and_parts, both_ways, cases_Bool, cases_eq, cond-false, cond-true, cond_both, eq-eqb, eqb-true, ltb-true, ne_eqb, not-true, or_cases}
use Rattle.std.proofs.lemmas.List.{get_or-set_other, get_or-set_same, length-set}
use Rattle.std.proofs.lemmas.List.Elements.{All-contains, Contains-get_or}
use Rattle.mv_model.specs.State.{all_idle, State, Table, WriteSet}
use Rattle.pm_model.specs.Plans.{EachCut}
use Rattle.pm_model.proofs.Cuts.{cut-one_store}
use Rattle.image_layout.specs.Arrays.{array_word, capacity, place_of}
use Rattle.image_layout.specs.Checks.{Check, check, Keeps}
use Rattle.image_layout.specs.EntryRules.{entries_rule, entry_checks, is_entry, stamped_capacity}
use Rattle.image_layout.specs.Fixed.{last_at, state_at}
use Rattle.image_layout.specs.Objects.{commit_word, entries, entry_kind, entry_places, entry_row, entry_table, entry_word, is_open, last_commit, open_commit}
use Rattle.image_layout.specs.Places.{below}
use Rattle.image_layout.specs.Records.{created_header, ended_header, high_at}
use Rattle.image_layout.specs.Tables.{table_block, table_count}
use Rattle.image_layout.proofs.Faults.{Holds}
use Rattle.image_layout.proofs.Members.{below-Contains, Contains-below, Contains-filter, Contains-flat_map, Contains-map, filter-Contains, flat_map-Contains, map-Contains}
use Rattle.image_layout.proofs.OwnersApart.{all_from}
use Rattle.shown_state.specs.Fits.{Fits, is_undecided, undecided_bound}
use Rattle.shown_state.specs.LogicalState.{commit_of, created_rows, logical_state, next_row_of, open_bound, row_bound, table_of}
use Rattle.shown_state.proofs.Alike.{map_alike, map_below}
use Rattle.shown_state.proofs.ReadsStand.{reads_keep_off}
use Rattle.shown_state.proofs.SameLeaves.{values_same}
use Rattle.shown_state.proofs.SameTables.{created_is, ended_is, IsHeader}
use Rattle.opening_steps.proofs.Beside.{ChangesOnly, KeepsStamps, MayChange, places}
use Rattle.opening_steps.proofs.Closer.{commit_low, fold_max-each, fold_max-most, state_low}
use Rattle.opening_steps.proofs.Fitting.{still_fits, TransactionsFit}
use Rattle.opening_steps.proofs.NoneNew.{entry_apart, entry_behind, entry_word as entry_is_own}
use Rattle.opening_steps.proofs.Objects.{entry_places_same}
use Rattle.opening_steps.proofs.ObjectWords.{IsObjectWord, objects_keep_stamps, objects_may_change, objects_only}
use Rattle.opening_steps.proofs.ReadRules.{objects_kept}
use Rattle.opening_steps.proofs.Rows.{rows_alike, rows_same, StampsSame}
use Rattle.opening_steps.proofs.Showing.{CommitsAlike, commits_same, shape_same}
use Rattle.opening_steps.proofs.Silent.{rows_of}
use Rattle.opening_steps.proofs.Structure.{SamePlaces, same_tree}
use Rattle.opening_steps.proofs.Tables.{block_same, count_same, place_same}
use Rattle.opening_steps.proofs.ValueRules.{entry_checks_same, entry_same}
use Rattle.whole_view.specs.Roles.{an_entry, Role}
use Rattle.whole_view.specs.TransactionParts.{entry_parts}
use Rattle.whole_view.proofs.WordsApart.{words-apart}
use Rattle.fitting_plans.specs.Transactions.{FitsOrGives, IsObjectOf, MayEnter, next_with, shown_with}
use Rattle.fitting_plans.proofs.EntriesApart.{entries_once}
use Rattle.fitting_plans.proofs.EntryChecks.{AddsOne, checks_enter}

nth_of : Role → ℕ
nth_of (an_entry object nth) = nth
nth_of role = 0

-- what an entry says
record Says (words : List ℕ) (word : ℕ) : Type 0 where
  table : entry_table word < table_count words
  created : entry_row word < capacity words (created_header (table_block words (entry_table word)))
  ended : entry_row word < capacity words (ended_header (table_block words (entry_table word)))
  some : word ≢ 0

says_of : (words : List ℕ) (word : ℕ) → is_entry words word ≡ true → Says words word
says_of words word is =
    let block = table_block words (entry_table word) in
    let kinds = eqb (entry_kind word) 1 || eqb (entry_kind word) 2 in
    let outer = and_parts (kinds && ltb (entry_table word) (table_count words)) (ltb (entry_row word) (stamped_capacity words block)) is in
    let inner = and_parts kinds (ltb (entry_table word) (table_count words)) outer.0 in
    let row : entry_row word < min (capacity words (created_header block)) (capacity words (ended_header block)) = ltb-true (entry_row word) (stamped_capacity words block) outer.1 in
    record {
      table = ltb-true (entry_table word) (table_count words) inner.1;
      created = omega (arith, row);
      ended = omega (arith, row);
      some = λ none. ⊎_elim
          (λ one. let kind = eqb-true (entry_kind word) 1 one in omega (arith, kind, none))
          (λ two. let kind = eqb-true (entry_kind word) 2 two in omega (arith, kind, none)) (or_cases (eqb (entry_kind word) 1) (eqb (entry_kind word) 2) inner.0);
    }

module _ (words : List ℕ) (object nth word : ℕ) (may : MayEnter words object nth word) where
  abbrev its : IsObjectOf words object
  its = may.its

  abbrev fits : Fits words
  fits = (may.its).fits

  abbrev number : object < 16
  number = (may.its).number

  abbrev spots : List ℕ
  spots = entry_places words object

  abbrev place : ℕ
  place = get_or (entry_places words object) nth 0

  abbrev stored : List ℕ
  stored = set words (get_or (entry_places words object) nth 0) word

  says : Says words word
  says = says_of words word may.says

  listed : Contains spots place
  listed = Contains-get_or spots nth 0 may.room

  may_change : MayChange words (IsObjectWord words)
  may_change = objects_may_change words fits

  stamps : KeepsStamps words (IsObjectWord words)
  stamps = objects_keep_stamps words fits

  inside : place < length words
  inside = (reads_keep_off words its.image fits place (may_change.read place (entry_is_own words object place number listed))).0.in_image

  other : (w : ℕ) → w ≢ place → get_or stored w 0 ≡ get_or words w 0
  other w apart = get_or-set_other words place w word 0 apart

  here : get_or stored place 0 ≡ word
  here = get_or-set_same words place word 0 inside

  size : length stored ≡ length words
  size = length-set words place word

  only : ChangesOnly (IsObjectWord words) words stored
  only = objects_only words fits stored size (λ w. ⊎_elim (λ (e : w ≡ place). inr (subst (IsObjectWord words) (sym e) (entry_is_own words object place number listed))) (λ apart. inl (other w apart)) (cases_eq w place))

  same : SamePlaces words stored
  same = places words stored (IsObjectWord words) its.image fits may_change only

  -- ── words of objects ──

  own_other : (one offset : ℕ) → one < 16 → offset < 4 → get_or stored (1024 + 64 * one + offset) 0 ≡ get_or words (1024 + 64 * one + offset) 0
  own_other one offset lt few = other (1024 + 64 * one + offset) (λ e. entry_apart words fits object place one offset number listed lt few (sym e))

  state_same : (one : ℕ) → one < 16 → get_or stored (state_at one) 0 ≡ get_or words (state_at one) 0
  state_same one lt = own_other one 0 lt (omega arith)

  commit_same : (one : ℕ) → one < 16 → commit_word stored one ≡ commit_word words one
  commit_same one lt = own_other one 1 lt (omega arith)

  open_same : (one : ℕ) → one < 16 → is_open stored one ≡ is_open words one
  open_same one lt = ap (λ (state : ℕ). eqb state 1) (state_same one lt)

  undecided_same : (one : ℕ) → one < 16 → is_undecided stored one ≡ is_undecided words one
  undecided_same one lt = ap (λ (b : Bool). b && eqb (commit_word stored one) 0) (open_same one lt) ∙ ap (λ (n : ℕ). is_open words one && eqb n 0) (commit_same one lt)

  last_word : get_or stored last_at 0 ≡ get_or words last_at 0
  last_word = other last_at (λ e. let behind = entry_behind words fits object place number listed in omega (arith, behind, e))

  last_same : last_commit stored ≡ last_commit words
  last_same =
      ap (λ (xs : List ℕ). fold max (get_or stored last_at 0) xs) (map_below (open_commit stored) (open_commit words) 16 16 refl
      (λ one lt. ap (λ (b : Bool). cond b (commit_word stored one) 0) (open_same one lt) ∙ ap (λ (n : ℕ). cond (is_open words one) n 0) (commit_same one lt)))
      ∙ ap (λ (last : ℕ). fold max last (map (open_commit words) (below 16))) last_word

  -- ── entries ──

  entries_other : (one : ℕ) → one < 16 → one ≢ object → (at : ℕ) → Contains (entry_places words one) at → get_or stored at 0 ≡ get_or words at 0
  entries_other one lt apart at is = other at (λ e. apart (entries_once words fits one object place lt number (subst (Contains (entry_places words one)) e is) listed))

  entries_at : (one : ℕ) → one < 16 → entries stored one ≡ filter (λ w. not (eqb w 0)) (map (λ at. get_or stored at 0) (entry_places words one))
  entries_at one lt = ap (λ (at : List ℕ). filter (λ w. not (eqb w 0)) (map (λ p. get_or stored p 0) at)) (entry_places_same words stored same one lt)

  entries_same : (one : ℕ) → one < 16 → one ≢ object → entries stored one ≡ entries words one
  entries_same one lt apart = entries_at one lt ∙ ap (filter (λ w. not (eqb w 0))) (map_alike (λ at. get_or stored at 0) (λ at. get_or words at 0) (entry_places words one) (entry_places words one) refl (entries_other one lt apart))

  grows : (entry : ℕ) → Contains (entries words object) entry → Contains (entries stored object) entry
  grows entry is =
      let (among, some) = Contains-filter (λ w. not (eqb w 0)) (map (λ at. get_or words at 0) spots) entry is in
      let (at, has, there) = Contains-map (λ p. get_or words p 0) spots entry among in
      let apart : at ≢ place = λ e. both_ways (eqb entry 0) (not-true (eqb entry 0) some) (eq-eqb entry 0 (sym there ∙ ap (λ (p : ℕ). get_or words p 0) e ∙ may.free)) in
      subst (λ (xs : List ℕ). Contains xs entry) (sym (entries_at object number))
      (filter-Contains (λ w. not (eqb w 0)) (map (λ p. get_or stored p 0) spots) entry
      (subst (Contains (map (λ p. get_or stored p 0) spots)) (other at apart ∙ there) (map-Contains (λ p. get_or stored p 0) spots at has)) some)

  is_new : Contains (entries stored object) word
  is_new = subst (λ (xs : List ℕ). Contains xs word) (sym (entries_at object number))
      (filter-Contains (λ w. not (eqb w 0)) (map (λ p. get_or stored p 0) spots) word
      (subst (Contains (map (λ p. get_or stored p 0) spots)) here (map-Contains (λ p. get_or stored p 0) spots place listed)) (ap not (ne_eqb word 0 says.some)))

  most : (entry : ℕ) → Contains (entries stored object) entry → Contains (entries words object) entry ⊎ (entry ≡ word)
  most entry is =
      let (among, some) = Contains-filter (λ w. not (eqb w 0)) (map (λ at. get_or stored at 0) spots) entry (subst (λ (xs : List ℕ). Contains xs entry) (entries_at object number) is) in
      let (at, has, there) = Contains-map (λ p. get_or stored p 0) spots entry among in
      ⊎_elim
      (λ (e : at ≡ place). inr (sym there ∙ ap (λ (p : ℕ). get_or stored p 0) e ∙ here))
      (λ apart. inl (filter-Contains (λ w. not (eqb w 0)) (map (λ p. get_or words p 0) spots) entry
      (subst (Contains (map (λ p. get_or words p 0) spots)) (sym (other at apart) ∙ there) (map-Contains (λ p. get_or words p 0) spots at has)) some))
      (cases_eq at place)

  -- ── the rows given out ──

  -- one more than the row that the entry says was created in the table
  abbrev given : ℕ → ℕ
  given table = cond (eqb (entry_kind word) 1 && eqb (entry_table word) table) (entry_row word + 1) 0

  abbrev bound : List ℕ → ℕ → ℕ → ℕ
  bound ws one table = row_bound (created_rows ws one table)

  abbrev test : ℕ → ℕ → Bool
  test table entry = eqb (entry_kind entry) 1 && eqb (entry_table entry) table

  bound_from : (ws : List ℕ) (table entry : ℕ) → Contains (entries ws object) entry → test table entry ≡ true → entry_row entry + 1 ≤ bound ws object table
  bound_from ws table entry is hit =
      fold_max-each 0 (map (λ row. row + 1) (created_rows ws object table)) (entry_row entry + 1)
      (map-Contains (λ row. row + 1) (created_rows ws object table) (entry_row entry) (map-Contains entry_row (filter (test table) (entries ws object)) entry (filter-Contains (test table) (entries ws object) entry is hit)))

  bound_most : (ws : List ℕ) (table n : ℕ) → ((entry : ℕ) → Contains (entries ws object) entry → test table entry ≡ true → entry_row entry + 1 ≤ n) → bound ws object table ≤ n
  bound_most ws table n each = fold_max-most 0 n (map (λ row. row + 1) (created_rows ws object table)) (omega arith) (λ x is.
      let (row, among, at) = Contains-map (λ r. r + 1) (created_rows ws object table) x is in
      let (entry, has, row_is) = Contains-map entry_row (filter (test table) (entries ws object)) row among in
      let parts = Contains-filter (test table) (entries ws object) entry has in
      let low = each entry parts.0 parts.1 in
      omega (arith, low, at, row_is))

  own_bound : (table : ℕ) → bound stored object table ≡ max (bound words object table) (given table)
  own_bound table =
      let less = bound_most stored table (max (bound words object table) (given table)) (λ entry is hit. ⊎_elim
      (λ was. let low = bound_from words table entry was hit in omega (arith, low))
      (λ (new : entry ≡ word).
      let of_word = ap (test table) (sym new) ∙ hit in
      let value : given table ≡ entry_row word + 1 = cond-true (test table word) (entry_row word + 1) 0 of_word in
      let row = ap entry_row new in
      omega (arith, value, row))
      (most entry is)) in
      let more = bound_most words table (bound stored object table) (λ entry is hit. bound_from stored table entry (grows entry is) hit) in
      let one_more : given table ≤ bound stored object table = cond_both (test table word) (entry_row word + 1) 0 (λ (n : ℕ). n ≤ bound stored object table) (λ hit. bound_from stored table word is_new hit) (λ miss. omega arith) in
      omega (arith, less, more, one_more)

  bound_other : (one table : ℕ) → one < 16 → one ≢ object → bound stored one table ≡ bound words one table
  bound_other one table lt apart = ap (λ (xs : List ℕ). rows_of xs table) (entries_same one lt apart)

  abbrev bounds_of : List ℕ → (ℕ → Bool) → ℕ → List ℕ
  bounds_of ws on table = map (λ one. row_bound (created_rows ws one table)) (filter on (below 16))

  all_bounds : (on was : ℕ → Bool) → ((one : ℕ) → one < 16 → on one ≡ was one) → was object ≡ true → (table : ℕ) → fold max 0 (bounds_of stored on table) ≡ max (fold max 0 (bounds_of words was table)) (given table)
  all_bounds on was alike own table =
      let own_is = own_bound table in
      let counted = filter-Contains was (below 16) object (below-Contains 16 object number) own in
      let own_old = fold_max-each 0 (bounds_of words was table) (bound words object table) (map-Contains (λ one. bound words one table) (filter was (below 16)) object counted) in
      let own_new = fold_max-each 0 (bounds_of stored on table) (bound stored object table)
      (map-Contains (λ one. bound stored one table) (filter on (below 16)) object (filter-Contains on (below 16) object (below-Contains 16 object number) (alike object number ∙ own))) in
      let less = fold_max-most 0 (max (fold max 0 (bounds_of words was table)) (given table)) (bounds_of stored on table) (omega arith) (λ n is.
      let (one, among, at) = Contains-map (λ o. bound stored o table) (filter on (below 16)) n is in
      let parts = Contains-filter on (below 16) one among in
      let lt = Contains-below 16 one parts.0 in
      ⊎_elim
      (λ (e : one ≡ object). let there = ap (λ (o : ℕ). bound stored o table) e in omega (arith, at, there, own_is, own_old))
      (λ apart.
      let kept = bound_other one table lt apart in
      let low = fold_max-each 0 (bounds_of words was table) (bound words one table) (map-Contains (λ o. bound words o table) (filter was (below 16)) one (filter-Contains was (below 16) one parts.0 (sym (alike one lt) ∙ parts.1))) in
      omega (arith, at, kept, low))
      (cases_eq one object)) in
      let more = fold_max-most 0 (fold max 0 (bounds_of stored on table)) (bounds_of words was table) (omega arith) (λ n is.
      let (one, among, at) = Contains-map (λ o. bound words o table) (filter was (below 16)) n is in
      let parts = Contains-filter was (below 16) one among in
      let lt = Contains-below 16 one parts.0 in
      ⊎_elim
      (λ (e : one ≡ object). let there = ap (λ (o : ℕ). bound words o table) e in omega (arith, at, there, own_is, own_new))
      (λ apart.
      let kept = bound_other one table lt apart in
      let low = fold_max-each 0 (bounds_of stored on table) (bound stored one table) (map-Contains (λ o. bound stored o table) (filter on (below 16)) one (filter-Contains on (below 16) one parts.0 (alike one lt ∙ parts.1))) in
      omega (arith, at, kept, low))
      (cases_eq one object)) in
      omega (arith, less, more, own_is, own_new)

  undecided_more : (table : ℕ) → undecided_bound stored table ≡ max (undecided_bound words table) (given table)
  undecided_more table = all_bounds (is_undecided stored) (is_undecided words) undecided_same may.undecided table

  open_more : (table : ℕ) → open_bound stored table ≡ max (open_bound words table) (given table)
  open_more table = all_bounds (is_open stored) (is_open words) open_same (and_parts (is_open words object) (eqb (commit_word words object) 0) may.undecided).0 table

  kept : (w : ℕ) → (IsObjectWord words w → ⊥) → get_or stored w 0 ≡ get_or words w 0
  kept w none = ⊎_elim (λ e. e) (λ hit. absurd (none hit)) (only.each w)

  stamp_same : (header row : ℕ) → IsHeader words header → row < capacity words header → array_word stored header row ≡ array_word words header row
  stamp_same header row is lt =
      ap (λ (at : ℕ). get_or stored at 0) (place_same words stored same fits.entry.arrays header row is lt) ∙ kept (place_of words header row) (stamps.chunk header row is lt)

  high_same : (table : ℕ) → table < table_count words → get_or stored (high_at (table_block stored table)) 0 ≡ get_or words (high_at (table_block words table)) 0
  high_same table lt = ap (λ (block : ℕ). get_or stored (high_at block) 0) (block_same words stored same table lt) ∙ kept (high_at (table_block words table)) (stamps.bound table lt)

  next_more : (table : ℕ) → table < table_count words → next_row_of stored table ≡ max (next_row_of words table) (given table)
  next_more table lt = let high = high_same table lt in let open_is = open_more table in omega (arith, high, open_is)

  next_is : (table : ℕ) → table < table_count words → next_row_of stored table ≡ next_with words word table
  next_is table lt =
      let more = next_more table lt in
      ⊎_elim
      (λ (hit : test table word ≡ true).
      let value : given table ≡ entry_row word + 1 = cond-true (test table word) (entry_row word + 1) 0 hit in
      let with : next_with words word table ≡ max (next_row_of words table) (entry_row word + 1) = cond-true (test table word) (max (next_row_of words table) (entry_row word + 1)) (next_row_of words table) hit in
      omega (arith, more, value, with))
      (λ miss.
      let value : given table ≡ 0 = cond-false (test table word) (entry_row word + 1) 0 miss in
      let with : next_with words word table ≡ next_row_of words table = cond-false (test table word) (max (next_row_of words table) (entry_row word + 1)) (next_row_of words table) miss in
      omega (arith, more, value, with))
      (cases_Bool (test table word))

  -- a row that is given out has words for its stamps
  given_room : (table : ℕ) → (given table ≤ capacity words (created_header (table_block words table))) × (given table ≤ capacity words (ended_header (table_block words table)))
  given_room table = ⊎_elim
      (λ (hit : test table word ≡ true).
      let value : given table ≡ entry_row word + 1 = cond-true (test table word) (entry_row word + 1) 0 hit in
      let at : entry_table word ≡ table = eqb-true (entry_table word) table (and_parts (eqb (entry_kind word) 1) (eqb (entry_table word) table) hit).1 in
      let created = says.created in
      let ended = says.ended in
      let created_at = ap (λ (t : ℕ). capacity words (created_header (table_block words t))) at in
      let ended_at = ap (λ (t : ℕ). capacity words (ended_header (table_block words t))) at in
      (omega (arith, value, created, created_at), omega (arith, value, ended, ended_at)))
      (λ miss. let value : given table ≡ 0 = cond-false (test table word) (entry_row word + 1) 0 miss in (omega (arith, value), omega (arith, value)))
      (cases_Bool (test table word))

  -- ── rules ──

  -- places of entries are different words
  once : (i j : ℕ) → i < length spots → j < length spots → get_or spots i 0 ≡ get_or spots j 0 → i ≡ j
  unfolding nth_of
  once i j less also at =
      let whole = its.image in
      let far = words-apart words fits.entry fits.apart whole.one_or_more whole.segments in
      ap nth_of (far.apart (an_entry object i) (an_entry object j) (number, less) (number, also) at)

  adds : AddsOne words stored word spots nth
  adds = record {
    room = may.room;
    before = may.before;
    free = may.free;
    here = here;
    others = λ i lt apart. other (get_or spots i 0) (λ e. apart (once i nth lt may.room e));
  }

  entries_kept : Keeps stored entries_rule
  unfolding entries_rule
  entries_kept = record {
    checks = all_from Holds (flat_map (λ one. entry_checks stored 1 (entry_places stored one)) (filter (is_open stored) (below 16))) (λ c is.
        let (one, among, at) = Contains-flat_map (λ o. entry_checks stored 1 (entry_places stored o)) (filter (is_open stored) (below 16)) c is in
        let parts = Contains-filter (is_open stored) (below 16) one among in
        let lt = Contains-below 16 one parts.0 in
        let was = sym (open_same one lt) ∙ parts.1 in
        let inside : Contains (entry_checks stored 1 (entry_places words one)) c = subst (λ (at : List ℕ). Contains (entry_checks stored 1 at) c) (entry_places_same words stored same one lt) at in
        ⊎_elim
        (λ (e : one ≡ object). All-contains Holds (entry_checks stored 1 spots) c own_checks (subst (λ (o : ℕ). Contains (entry_checks stored 1 (entry_places words o)) c) e inside))
        (λ apart. All-contains Holds (entry_checks words 1 (entry_places words one)) c (old_checks one lt was)
        (subst (λ (cs : List Check). Contains cs c) (entry_checks_same words stored same 1 (entry_places words one) (entries_other one lt apart)) inside))
        (cases_eq one object));
  }
    where
      old_checks : (one : ℕ) → one < 16 → is_open words one ≡ true → All Holds (entry_checks words 1 (entry_places words one))
      old_checks one lt opens = all_from Holds (entry_checks words 1 (entry_places words one)) (λ c inside.
          let rule = fits.entry.entries in
          All-contains Holds (flat_map (λ o. entry_checks words 1 (entry_places words o)) (filter (is_open words) (below 16))) c rule.checks
          (flat_map-Contains (λ o. entry_checks words 1 (entry_places words o)) (filter (is_open words) (below 16)) one c (filter-Contains (is_open words) (below 16) one (below-Contains 16 one lt) opens) inside))

      own_checks : All Holds (entry_checks stored 1 spots)
      own_checks = checks_enter words stored word 1 spots nth (λ e. omega (arith, e)) adds (entry_same words stored same word ∙ may.says) (entry_same words stored same)
          (old_checks object number (and_parts (is_open words object) (eqb (commit_word words object) 0) may.undecided).0)

  transactions : TransactionsFit words stored
  transactions = record {
    last = record { checks = let rule = fits.entry.last in subst (λ (last : ℕ). All Holds (check last_at (leb last (2 ^ 40 - 1)) ∷ [])) (sym last_word) rule.checks };
    objects = objects_kept words stored same fits.entry.objects
        (λ one lt. let low = state_low words fits one lt in let kept = state_same one lt in omega (arith, low, kept))
        (λ one lt. let low = commit_low words fits one lt in let kept = commit_same one lt in let last = last_word in omega (arith, low, kept, last));
    entries = entries_kept;
    rows = λ table lt. rows_same words stored same table lt fits.entry.arrays (rows_alike words stored same table lt fits.entry.arrays (alike table lt)) (λ column is. values_same words stored fits.entry.trees column is (same_tree words stored same column is)) (fits.rows table lt);
  }
    where
      alike : (table : ℕ) → table < table_count words → StampsSame words stored table
      alike table lt = record {
        last = last_same;
        used = let high = high_same table lt in let more = undecided_more table in omega (arith, high, more);
        created_room = λ room. let high = high_same table lt in let more = undecided_more table in let few = (given_room table).0 in omega (arith, high, more, few, room);
        ended_room = λ room. let high = high_same table lt in let more = undecided_more table in let few = (given_room table).1 in omega (arith, high, more, few, room);
        next =
            let next = open_more table in
            let rows = fits.rows table lt in
            let room = rows.rows in
            let high = high_same table lt in
            let more = undecided_more table in
            omega (arith, next, room, high, more);
        high = high_same table lt;
        created = λ row within. stamp_same (created_header (table_block words table)) row (created_is words table lt) within;
        ended = λ row within. stamp_same (ended_header (table_block words table)) row (ended_is words table lt) within;
        undecided = λ kind row is. record {
          object = is.object;
          object_is = is.object_is;
          undecided = undecided_same is.object is.object_is ∙ is.undecided;
          entry = ⊎_elim
              (λ (e : is.object ≡ object). subst (λ (o : ℕ). Contains (entries stored o) (entry_word kind table row)) (sym e) (grows (entry_word kind table row) (subst (λ (o : ℕ). Contains (entries words o) (entry_word kind table row)) e is.entry)))
              (λ apart. subst (λ (xs : List ℕ). Contains xs (entry_word kind table row)) (sym (entries_same is.object is.object_is apart)) is.entry)
              (cases_eq is.object object);
        };
      }

  fits_still : Fits stored
  fits_still = still_fits words stored (IsObjectWord words) its.image fits may_change only transactions

  -- ── what is shown ──

  abbrev state_with : List Table → List WriteSet → State
  state_with tables commits = record { tables = tables; commits = commits; begun = 0; running = all_idle }

  abbrev table_with : ℕ → ℕ → Table
  table_with table next = record { name = (table_of words table).name; columns = (table_of words table).columns; next_row = next }

  commits_are : CommitsAlike words stored
  commits_are = record {
    last = last_same;
    created = λ table row commit lt within first most. ap (λ (stamp : ℕ). eqb stamp commit) (stamp_same (created_header (table_block words table)) row (created_is words table lt) within);
    ended = λ table row commit lt within first most. ap (λ (stamp : ℕ). eqb stamp commit) (stamp_same (ended_header (table_block words table)) row (ended_is words table lt) within);
  }

  shows_given : logical_state stored ≡ shown_with words word
  unfolding logical_state
  shows_given =
      ap (λ (tables : List Table). state_with tables (map (λ n. commit_of stored (n + 1)) (below (last_commit stored))))
      (map_below (table_of stored) (λ table. table_with table (next_with words word table)) (table_count stored) (table_count words) (count_same words stored same)
      (λ table lt. shape_same words stored same table lt ∙ ap (table_with table) (next_is table lt)))
      ∙ ap (state_with (map (λ table. table_with table (next_with words word table)) (below (table_count words)))) (commits_same words stored same fits.entry.arrays fits.codes commits_are fits.rows)

pub enter_keeps : (words : List ℕ) (object nth word : ℕ) → MayEnter words object nth word → EachCut (FitsOrGives words word) (entry_parts words object nth word) words
enter_keeps words object nth word may =
    let its = may.its in
    let place = get_or (entry_places words object) nth 0 in
    let start : FitsOrGives words word words = record { fits = its.fits; shows = inl refl } in
    let end : FitsOrGives words word (set words place word) = record { fits = fits_still words object nth word may; shows = inr (shows_given words object nth word may) } in
    (cut-one_store (FitsOrGives words word) place word words start end, end)
