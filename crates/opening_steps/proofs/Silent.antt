-- Words of objects change, but none of a transaction that wrote something: an object is opened that has no commit word and no entry,
-- or closed, or a closed one's entries and commit word are cleared. This keeps what fits, and shows the same.
use Rattle.std.proofs.Common.{◌≡◌, ◌⊎◌, inl, inr, ⊎_elim, ℕ, ◌-◌, ◌^◌, ◌<◌, ◌≤◌, max, Bool, true, cond, not, ◌&&◌, ◌||◌, eqb, leb, List, [], ◌∷◌, get_or, map, refl, sym, ◌∙◌, ap, subst, arith}
use Rattle.std.specs.Prelude.{All, Contains, filter, fold}
use Rattle.std.specs.List.{flat_map}
use Rattle.std.proofs.lemmas.Bool.{and_from, and_parts, cases_Bool, cond-false, cond-true, eq-eqb, or_left}
use Rattle.std.proofs.lemmas.List.Elements.{All-cons, All-contains, All-nil}
use Rattle.image_layout.specs.Checks.{Check, check, Keeps}
use Rattle.image_layout.specs.EntryRules.{entries_rule, entry_checks, is_entry}
use Rattle.image_layout.specs.Fixed.{last_at, state_at}
use Rattle.image_layout.specs.Objects.{commit_word, entries, entry_kind, entry_places, entry_row, entry_table, entry_word, is_open, last_commit, open_commit}
use Rattle.image_layout.specs.Places.{below}
use Rattle.image_layout.specs.Arrays.{array_word, capacity, place_of}
use Rattle.image_layout.specs.Records.{created_header, ended_header, high_at}
use Rattle.image_layout.specs.Tables.{table_block, table_count}
use Rattle.image_layout.proofs.Faults.{Holds}
use Rattle.image_layout.proofs.Members.{below-Contains, Contains-below, Contains-filter, Contains-flat_map, Contains-here, Contains-map, Contains-nil, Contains-there, filter-Contains, flat_map-Contains, map-Contains}
use Rattle.image_layout.proofs.OwnersApart.{all_from}
use Rattle.shown_state.specs.Fits.{Fits, is_undecided, undecided_bound}
use Rattle.shown_state.specs.LogicalState.{created_rows, open_bound, row_bound}
use Rattle.shown_state.specs.OpeningParts.{FitsStill, IsImage}
use Rattle.shown_state.proofs.Alike.{map_alike, map_below}
use Rattle.shown_state.proofs.SameLeaves.{values_same}
use Rattle.shown_state.proofs.SameTables.{created_is, ended_is, IsHeader}
use Rattle.opening_steps.proofs.Beside.{ChangesOnly, KeepsStamps, MayChange, places}
use Rattle.opening_steps.proofs.Closer.{commit_low, fold_max-each, fold_max-most}
use Rattle.opening_steps.proofs.Fitting.{still_fits, TransactionsFit}
use Rattle.opening_steps.proofs.Objects.{entry_places_same}
use Rattle.opening_steps.proofs.ObjectWords.{IsObjectWord, objects_keep_stamps, objects_may_change}
use Rattle.opening_steps.proofs.ReadRules.{objects_kept}
use Rattle.opening_steps.proofs.Rows.{rows_alike, rows_same, StampsSame}
use Rattle.opening_steps.proofs.Showing.{StampsAlike, state_same}
use Rattle.opening_steps.proofs.Structure.{SamePlaces, same_tree}
use Rattle.opening_steps.proofs.Tables.{block_same, place_same}
use Rattle.opening_steps.proofs.ValueRules.{entry_checks_same}

-- the object has no commit word, and none of these words is an entry
pub record SaysNothing (words places : List ℕ) (object : ℕ) : Type 0 where
  pub commit : commit_word words object ≡ 0
  pub none : (at : ℕ) → Contains places at → get_or words at 0 ≡ 0

-- An object is open in both or in neither, and if it is, it says the same; or where it is open, it says nothing.
pub data GoesOn (old new : List ℕ) (object : ℕ) : Type 0 where
  stays : is_open new object ≡ is_open old object → (is_open old object ≡ true → (commit_word new object ≡ commit_word old object) × ((at : ℕ) → Contains (entry_places old object) at → get_or new at 0 ≡ get_or old at 0)) → GoesOn old new object
  silent : (is_open old object ≡ true → SaysNothing old (entry_places old object) object) → (is_open new object ≡ true → SaysNothing new (entry_places old object) object) → GoesOn old new object

pub record IsSilent (old new : List ℕ) : Type 0 where
  pub only : ChangesOnly (IsObjectWord old) old new
  pub last : get_or new last_at 0 ≡ get_or old last_at 0
  pub states : (object : ℕ) → object < 16 → get_or new (state_at object) 0 ≤ 1
  pub commits : (object : ℕ) → object < 16 → (commit_word new object ≡ commit_word old object) ⊎ (commit_word new object ≡ 0)
  pub each : (object : ℕ) → object < 16 → GoesOn old new object

-- ── an object that says nothing ──

none_left : (words places : List ℕ) → ((at : ℕ) → Contains places at → get_or words at 0 ≡ 0) → filter (λ word. not (eqb word 0)) (map (λ at. get_or words at 0) places) ≡ []
none_left words [] none = refl
none_left words (at ∷ places) none =
    let rest = none_left words places (λ other is. none other (Contains-there at other places is)) in
    let kept : List ℕ → Bool → List ℕ = λ later test. cond test (get_or words at 0 ∷ later) later in
    ap (λ (w : ℕ). cond (not (eqb w 0)) (get_or words at 0 ∷ filter (λ word. not (eqb word 0)) (map (λ a. get_or words a 0) places)) (filter (λ word. not (eqb word 0)) (map (λ a. get_or words a 0) places))) (none at (Contains-here at places))
    ∙ rest

pub zero_checks : (words : List ℕ) (before : ℕ) (places : List ℕ) → ((at : ℕ) → Contains places at → get_or words at 0 ≡ 0) → All Holds (entry_checks words before places)
zero_checks words before [] none = All-nil Holds
zero_checks words before (at ∷ places) none =
    let word = get_or words at 0 in
    All-cons Holds (check at ((eqb word 0) || (not (eqb before 0) && is_entry words word))) (entry_checks words word places)
    (or_left (eqb word 0) (not (eqb before 0) && is_entry words word) (eq-eqb word 0 (none at (Contains-here at places))))
    (zero_checks words word places (λ other is. none other (Contains-there at other places is)))

abbrev bounds_of : List ℕ → (ℕ → Bool) → ℕ → List ℕ
bounds_of words test table = map (λ object. row_bound (created_rows words object table)) (filter test (below 16))

-- a bound isn't less where each object is among those counted with the same rows, or has none
pub bounds_least : (one other : List ℕ) (test on : ℕ → Bool) (table : ℕ)
    → ((object : ℕ) → object < 16 → test object ≡ true → ((on object ≡ true) × (row_bound (created_rows one object table) ≡ row_bound (created_rows other object table))) ⊎ (row_bound (created_rows one object table) ≡ 0))
    → fold max 0 (bounds_of one test table) ≤ fold max 0 (bounds_of other on table)
bounds_least one other test on table each = fold_max-most 0 (fold max 0 (bounds_of other on table)) (bounds_of one test table) (omega arith) (λ n is.
    let (object, among, here) = Contains-map (λ o. row_bound (created_rows one o table)) (filter test (below 16)) n is in
    let parts = Contains-filter test (below 16) object among in
    ⊎_elim
    (λ same.
    let bound = same.1 in
    let most = fold_max-each 0 (bounds_of other on table) (row_bound (created_rows other object table))
    (map-Contains (λ o. row_bound (created_rows other o table)) (filter on (below 16)) object (filter-Contains on (below 16) object parts.0 same.0)) in
    omega (arith, here, bound, most))
    (λ none. omega (arith, here, none))
    (each object (Contains-below 16 object parts.0) parts.1))

abbrev pub rows_of : List ℕ → ℕ → ℕ
rows_of words table = row_bound (map entry_row (filter (λ word. eqb (entry_kind word) 1 && eqb (entry_table word) table) words))

module _ (old new : List ℕ) (image : IsImage old) (fits : Fits old) (silent_is : IsSilent old new) where
  may : MayChange old (IsObjectWord old)
  may = objects_may_change old fits

  stamps : KeepsStamps old (IsObjectWord old)
  stamps = objects_keep_stamps old fits

  same : SamePlaces old new
  same = places old new (IsObjectWord old) image fits may silent_is.only

  kept : (w : ℕ) → (IsObjectWord old w → ⊥) → get_or new w 0 ≡ get_or old w 0
  kept w none = let only = silent_is.only in ⊎_elim (λ e. e) (λ hit. absurd (none hit)) (only.each w)

  entries_here : (object : ℕ) → object < 16 → entries new object ≡ filter (λ word. not (eqb word 0)) (map (λ at. get_or new at 0) (entry_places old object))
  entries_here object lt = ap (λ (spots : List ℕ). filter (λ word. not (eqb word 0)) (map (λ at. get_or new at 0) spots)) (entry_places_same old new same object lt)

  entries_same : (object : ℕ) → object < 16 → ((at : ℕ) → Contains (entry_places old object) at → get_or new at 0 ≡ get_or old at 0) → entries new object ≡ entries old object
  entries_same object lt words = entries_here object lt ∙ ap (filter (λ word. not (eqb word 0))) (map_alike (λ at. get_or new at 0) (λ at. get_or old at 0) (entry_places old object) (entry_places old object) refl words)

  none_new : (object : ℕ) → object < 16 → SaysNothing new (entry_places old object) object → entries new object ≡ []
  none_new object lt nothing = entries_here object lt ∙ none_left new (entry_places old object) nothing.none

  none_old : (object : ℕ) → SaysNothing old (entry_places old object) object → entries old object ≡ []
  none_old object nothing = none_left old (entry_places old object) nothing.none

  -- ── the last commit ──

  commit_same : (object : ℕ) → object < 16 → open_commit new object ≡ open_commit old object
  commit_same object lt = by (silent_is.each object lt)
    where
      nothing : (words : List ℕ) → (is_open words object ≡ true → commit_word words object ≡ 0) → open_commit words object ≡ 0
      nothing words none = ⊎_elim (λ hit. cond-true (is_open words object) (commit_word words object) 0 hit ∙ none hit) (λ miss. cond-false (is_open words object) (commit_word words object) 0 miss) (cases_Bool (is_open words object))

      by : GoesOn old new object → open_commit new object ≡ open_commit old object
      by (stays opened says) = ⊎_elim
          (λ hit. cond-true (is_open new object) (commit_word new object) 0 (opened ∙ hit) ∙ (says hit).0 ∙ sym (cond-true (is_open old object) (commit_word old object) 0 hit))
          (λ miss. cond-false (is_open new object) (commit_word new object) 0 (opened ∙ miss) ∙ sym (cond-false (is_open old object) (commit_word old object) 0 miss))
          (cases_Bool (is_open old object))
      by (silent before after) = nothing new (λ hit. (after hit).commit) ∙ sym (nothing old (λ hit. (before hit).commit))

  pub last_same : last_commit new ≡ last_commit old
  last_same =
      ap (λ (xs : List ℕ). fold max (get_or new last_at 0) xs) (map_below (open_commit new) (open_commit old) 16 16 refl commit_same)
      ∙ ap (λ (last : ℕ). fold max last (map (open_commit old) (below 16))) silent_is.last

  -- ── stamps and bounds ──

  stamp_same : (header row : ℕ) → IsHeader old header → row < capacity old header → array_word new header row ≡ array_word old header row
  stamp_same header row is lt =
      ap (λ (place : ℕ). get_or new place 0) (place_same old new same fits.entry.arrays header row is lt) ∙ kept (place_of old header row) (stamps.chunk header row is lt)

  high_same : (table : ℕ) → table < table_count old → get_or new (high_at (table_block new table)) 0 ≡ get_or old (high_at (table_block old table)) 0
  high_same table lt = ap (λ (block : ℕ). get_or new (high_at block) 0) (block_same old new same table lt) ∙ kept (high_at (table_block old table)) (stamps.bound table lt)

  -- an object that is open in one of them has the same rows in the other, or none
  on_new : (object table : ℕ) → object < 16 → is_open old object ≡ true
      → ((is_open new object ≡ true) × (commit_word new object ≡ commit_word old object) × (entries new object ≡ entries old object)) ⊎ ((commit_word old object ≡ 0) × (entries old object ≡ []))
  on_new object table lt hit = by (silent_is.each object lt)
    where
      by : GoesOn old new object → ((is_open new object ≡ true) × (commit_word new object ≡ commit_word old object) × (entries new object ≡ entries old object)) ⊎ ((commit_word old object ≡ 0) × (entries old object ≡ []))
      by (stays opened says) = inl (opened ∙ hit, (says hit).0, entries_same object lt (says hit).1)
      by (silent before after) = inr ((before hit).commit, none_old object (before hit))

  on_old : (object table : ℕ) → object < 16 → is_open new object ≡ true
      → ((is_open old object ≡ true) × (commit_word new object ≡ commit_word old object) × (entries new object ≡ entries old object)) ⊎ (entries new object ≡ [])
  on_old object table lt hit = by (silent_is.each object lt)
    where
      by : GoesOn old new object → ((is_open old object ≡ true) × (commit_word new object ≡ commit_word old object) × (entries new object ≡ entries old object)) ⊎ (entries new object ≡ [])
      by (stays opened says) = let was = sym opened ∙ hit in inl (was, (says was).0, entries_same object lt (says was).1)
      by (silent before after) = inr (none_new object lt (after hit))

  open_same : (table : ℕ) → open_bound new table ≡ open_bound old table
  open_same table =
      let less = bounds_least new old (is_open new) (is_open old) table (λ object lt hit. ⊎_elim (λ on. inl (on.0, ap (λ (words : List ℕ). rows_of words table) on.2)) (λ none. inr (ap (λ (words : List ℕ). rows_of words table) none)) (on_old object table lt hit)) in
      let more = bounds_least old new (is_open old) (is_open new) table (λ object lt hit. ⊎_elim (λ on. inl (on.0, ap (λ (words : List ℕ). rows_of words table) (sym on.2))) (λ none. inr (ap (λ (words : List ℕ). rows_of words table) none.1)) (on_new object table lt hit)) in
      omega (arith, less, more)

  undecided_same : (table : ℕ) → undecided_bound new table ≡ undecided_bound old table
  undecided_same table =
      let less = bounds_least new old (is_undecided new) (is_undecided old) table (λ object lt hit.
      let parts = and_parts (is_open new object) (eqb (commit_word new object) 0) hit in
      ⊎_elim (λ on. inl (and_from (is_open old object) (eqb (commit_word old object) 0) on.0 (ap (λ (n : ℕ). eqb n 0) (sym on.1) ∙ parts.1), ap (λ (words : List ℕ). rows_of words table) on.2)) (λ none. inr (ap (λ (words : List ℕ). rows_of words table) none)) (on_old object table lt parts.0)) in
      let more = bounds_least old new (is_undecided old) (is_undecided new) table (λ object lt hit.
      let parts = and_parts (is_open old object) (eqb (commit_word old object) 0) hit in
      ⊎_elim (λ on. inl (and_from (is_open new object) (eqb (commit_word new object) 0) on.0 (ap (λ (n : ℕ). eqb n 0) on.1 ∙ parts.1), ap (λ (words : List ℕ). rows_of words table) (sym on.2))) (λ none. inr (ap (λ (words : List ℕ). rows_of words table) none.1)) (on_new object table lt parts.0)) in
      omega (arith, less, more)

  -- ── rules ──

  entries_kept : Keeps new entries_rule
  unfolding entries_rule
  entries_kept = record {
    checks = all_from Holds (flat_map (λ object. entry_checks new 1 (entry_places new object)) (filter (is_open new) (below 16))) (λ c is.
        let (object, among, here) = Contains-flat_map (λ o. entry_checks new 1 (entry_places new o)) (filter (is_open new) (below 16)) c is in
        let parts = Contains-filter (is_open new) (below 16) object among in
        let lt = Contains-below 16 object parts.0 in
        by object lt parts.1 (silent_is.each object lt) c (subst (λ (spots : List ℕ). Contains (entry_checks new 1 spots) c) (entry_places_same old new same object lt) here));
  }
    where
      by : (object : ℕ) → object < 16 → is_open new object ≡ true → GoesOn old new object → (c : Check) → Contains (entry_checks new 1 (entry_places old object)) c → Holds c
      by object lt hit (stays opened says) c is =
          let was = sym opened ∙ hit in
          let checks = entry_checks_same old new same 1 (entry_places old object) (says was).1 in
          let rule = fits.entry.entries in
          All-contains Holds (flat_map (λ o. entry_checks old 1 (entry_places old o)) (filter (is_open old) (below 16))) c rule.checks
          (flat_map-Contains (λ o. entry_checks old 1 (entry_places old o)) (filter (is_open old) (below 16)) object c (filter-Contains (is_open old) (below 16) object (below-Contains 16 object lt) was)
          (subst (λ (cs : List Check). Contains cs c) checks is))
      by object lt hit (silent before after) c is =
          let nothing = after hit in
          All-contains Holds (entry_checks new 1 (entry_places old object)) c (zero_checks new 1 (entry_places old object) nothing.none) is

  transactions : TransactionsFit old new
  transactions = record {
    last = record {
      checks = let rule = fits.entry.last in subst (λ (last : ℕ). All Holds (check last_at (leb last (2 ^ 40 - 1)) ∷ [])) (sym silent_is.last) rule.checks;
    };
    objects = objects_kept old new same fits.entry.objects silent_is.states (λ object lt.
        let low = commit_low old fits object lt in
        let last = silent_is.last in
        ⊎_elim (λ e. omega (arith, e, low, last)) (λ e. omega (arith, e)) (silent_is.commits object lt));
    entries = entries_kept;
    rows = λ table lt. rows_same old new same table lt fits.entry.arrays (rows_alike old new same table lt fits.entry.arrays (alike table lt)) (λ column is. values_same old new fits.entry.trees column is (same_tree old new same column is)) (fits.rows table lt);
  }
    where
      alike : (table : ℕ) → table < table_count old → StampsSame old new table
      alike table lt = record {
        last = last_same;
        used = let high = high_same table lt in let bound = undecided_same table in omega (arith, high, bound);
        created_room = λ room. let high = high_same table lt in let bound = undecided_same table in omega (arith, high, bound, room);
        ended_room = λ room. let high = high_same table lt in let bound = undecided_same table in omega (arith, high, bound, room);
        next =
            let next = open_same table in
            let rows = fits.rows table lt in
            let room = rows.rows in
            let high = high_same table lt in
            let bound = undecided_same table in
            omega (arith, next, room, high, bound);
        high = high_same table lt;
        created = λ row within. stamp_same (created_header (table_block old table)) row (created_is old table lt) within;
        ended = λ row within. stamp_same (ended_header (table_block old table)) row (ended_is old table lt) within;
        undecided = λ kind row is.
            let parts = and_parts (is_open old is.object) (eqb (commit_word old is.object) 0) is.undecided in
            ⊎_elim
            (λ on. record {
              object = is.object;
              object_is = is.object_is;
              undecided = and_from (is_open new is.object) (eqb (commit_word new is.object) 0) on.0 (ap (λ (n : ℕ). eqb n 0) on.1 ∙ parts.1);
              entry = subst (λ (words : List ℕ). Contains words (entry_word kind table row)) (sym on.2) is.entry;
            })
            (λ none. absurd (Contains-nil (entry_word kind table row) (subst (λ (words : List ℕ). Contains words (entry_word kind table row)) none.1 is.entry)))
            (on_new is.object table is.object_is parts.0);
      }

  pub silent_still : FitsStill old new
  silent_still = record {
    fits = still_fits old new (IsObjectWord old) image fits may silent_is.only transactions;
    shows = state_same old new same fits.entry.arrays fits.codes alike fits.rows;
  }
    where
      alike : StampsAlike old new
      alike = record {
        last = last_same;
        next = λ table lt. let next = open_same table in let high = high_same table lt in omega (arith, next, high);
        created = λ table row number lt within first most. ap (λ (stamp : ℕ). eqb stamp number) (stamp_same (created_header (table_block old table)) row (created_is old table lt) within);
        ended = λ table row number lt within first most. ap (λ (stamp : ℕ). eqb stamp number) (stamp_same (ended_header (table_block old table)) row (ended_is old table lt) within);
      }
