-- Of transactions that are decided less is left: objects are closed, their entries and commit words cleared, and the last number is
-- that of the last commit. This keeps what fits, and shows the same.
use Rattle.std.proofs.Common.{◌≡◌, ◌⊎◌, ⊎_elim, ℕ, ◌+◌, ◌-◌, ◌^◌, ◌<◌, ◌≤◌, max, min, Bool, true, false, not, ◌&&◌, eqb, leb, List, [], ◌∷◌, ◌++◌, get_or, map, refl, sym, ◌∙◌, ap, subst, arith}
use Rattle.std.specs.Prelude.{Contains, filter, fold}
use Rattle.std.specs.List.{flat_map}
use Rattle.std.proofs.lemmas.Bool.{and_from, and_parts, both_ways, cases_Bool, cond-true, cond_both, le-leb, leb-true}
use Rattle.std.proofs.lemmas.List.Elements.{All-cons, All-contains, All-head, All-nil}
use Rattle.image_layout.specs.Fixed.{commit_word_at, last_at, ready_at, state_at}
use Rattle.image_layout.specs.Places.{below, is_null_or_pointer_to}
use Rattle.image_layout.specs.Records.{created_header, ended_header, high_at}
use Rattle.image_layout.specs.Arrays.{array_word, capacity, place_of}
use Rattle.image_layout.specs.Checks.{Check, check, Keeps}
use Rattle.image_layout.specs.EntryRules.{entries_rule, entry_checks, is_segment_pointer, object_rule}
use Rattle.image_layout.specs.Objects.{commit_word, entries, entry_kind, entry_places, entry_row, entry_table, entry_word, is_open, last_commit, open_commit, pointer_after, ready_count, segment_pointer_at}
use Rattle.image_layout.specs.Tables.{table_block, table_count}
use Rattle.image_layout.proofs.Faults.{Holds}
use Rattle.image_layout.proofs.Members.{below-Contains, Contains-below, Contains-cons, Contains-filter, Contains-flat_map, Contains-here, Contains-map, Contains-nil, Contains-there, filter-Contains, flat_map-Contains, map-Contains}
use Rattle.image_layout.proofs.OwnedBlocks.{one_object}
use Rattle.image_layout.proofs.OwnersApart.{all_from}
use Rattle.shown_state.specs.Fits.{Fits, is_undecided, undecided_bound}
use Rattle.shown_state.specs.LogicalState.{created_rows, next_row_of, open_bound, row_bound}
use Rattle.shown_state.specs.OpeningParts.{IsImage}
use Rattle.shown_state.specs.StepLaws.{HaveNoNew}
use Rattle.shown_state.proofs.Alike.{filter_below, map_alike}
use Rattle.shown_state.proofs.SameTables.{created_is, ended_is, IsHeader}
use Rattle.opening_steps.proofs.Fitting.{still_fits, TransactionsFit}
use Rattle.opening_steps.proofs.Beside.{ChangesOnly, KeepsStamps, MayChange, places}
use Rattle.opening_steps.specs.QuietImages.{StaysQuiet}
use Rattle.opening_steps.proofs.NoneNew.{none_new}
use Rattle.opening_steps.proofs.Objects.{entry_places_same}
use Rattle.opening_steps.proofs.ReadRules.{objects_kept}
use Rattle.opening_steps.proofs.Rows.{rows_alike, rows_same, StampsSame}
use Rattle.opening_steps.proofs.Showing.{StampsAlike, state_same}
use Rattle.opening_steps.proofs.Structure.{SamePlaces, same_tree}
use Rattle.opening_steps.proofs.Tables.{block_same, place_same}
use Rattle.opening_steps.proofs.ValueRules.{entry_checks_same}
use Rattle.shown_state.proofs.SameLeaves.{values_same}

-- ── the greatest of some numbers ──

pub fold_max-from : (a : ℕ) (xs : List ℕ) → a ≤ fold max a xs
fold_max-from a [] = omega arith
fold_max-from a (x ∷ xs) = omega (arith, fold_max-from (max a x) xs)

pub fold_max-each : (a : ℕ) (xs : List ℕ) (x : ℕ) → Contains xs x → x ≤ fold max a xs
fold_max-each a [] x has = absurd (Contains-nil x has)
fold_max-each a (y ∷ ys) x has = ⊎_elim (λ (here : y ≡ x). omega (arith, here, fold_max-from (max a y) ys)) (λ there. fold_max-each (max a y) ys x there) (Contains-cons y x ys has)

pub fold_max-most : (a n : ℕ) (xs : List ℕ) → a ≤ n → ((x : ℕ) → Contains xs x → x ≤ n) → fold max a xs ≤ n
fold_max-most a n [] le each = le
fold_max-most a n (x ∷ xs) le each = let here = each x (Contains-here x xs) in fold_max-most (max a x) n xs (omega (arith, le, here)) (λ y is. each y (Contains-there x y xs is))

-- ── what changes ──

-- An object is as it was, or closed; an open one has its commit word and its entries still; and one that is undecided is open
-- still. A commit word is the one that it was, or none.
pub record IsCloser (changed : ℕ → Type 0) (old new : List ℕ) : Type 0 where
  pub only : ChangesOnly changed old new
  pub last : get_or new last_at 0 ≡ last_commit old
  pub states : (object : ℕ) → object < 16 → (get_or new (state_at object) 0 ≡ get_or old (state_at object) 0) ⊎ (get_or new (state_at object) 0 ≡ 0)
  pub commits : (object : ℕ) → object < 16 → (commit_word new object ≡ commit_word old object) ⊎ (commit_word new object ≡ 0)
  pub opens : (object : ℕ) → object < 16 → is_open new object ≡ true
      → (is_open old object ≡ true) × (commit_word new object ≡ commit_word old object) × ((at : ℕ) → Contains (entry_places old object) at → get_or new at 0 ≡ get_or old at 0)
  pub undecided : (object : ℕ) → object < 16 → is_undecided old object ≡ true → is_open new object ≡ true

-- ── what the rules say of one object ──

pub last_low : (words : List ℕ) → Fits words → get_or words last_at 0 ≤ 2 ^ 40 - 1
last_low words fits = leb-true (get_or words last_at 0) (2 ^ 40 - 1) (let rule = fits.entry.last in All-head Holds (check last_at (leb (get_or words last_at 0) (2 ^ 40 - 1))) [] rule.checks)

-- the checks of an object behind that of its commit word
abbrev later_of : List ℕ → ℕ → List Check
later_of words object =
    check (ready_at object) (leb (ready_count words object) 32)
    ∷ map (λ segment. check (segment_pointer_at words object segment) (is_segment_pointer words object segment)) (below (ready_count words object))
    ++ check (pointer_after words object) (is_null_or_pointer_to words 256 (get_or words (pointer_after words object) 0)) ∷ []

pub state_low : (words : List ℕ) → Fits words → (object : ℕ) → object < 16 → get_or words (state_at object) 0 ≤ 1
unfolding object_rule
state_low words fits object lt =
    let rule = one_object words object fits.entry.objects lt in
    let first = check (state_at object) (leb (get_or words (state_at object) 0) 1) in
    let second = check (commit_word_at object) (leb (commit_word words object) (min (get_or words last_at 0 + 1) (2 ^ 40 - 1))) in
    leb-true (get_or words (state_at object) 0) 1 (All-contains Holds (object_rule object words) first rule.checks (Contains-here first (second ∷ later_of words object)))

pub commit_low : (words : List ℕ) → Fits words → (object : ℕ) → object < 16 → commit_word words object ≤ min (get_or words last_at 0 + 1) (2 ^ 40 - 1)
unfolding object_rule
commit_low words fits object lt =
    let rule = one_object words object fits.entry.objects lt in
    let bound = min (get_or words last_at 0 + 1) (2 ^ 40 - 1) in
    let first = check (state_at object) (leb (get_or words (state_at object) 0) 1) in
    let second = check (commit_word_at object) (leb (commit_word words object) bound) in
    leb-true (commit_word words object) bound (All-contains Holds (object_rule object words) second rule.checks (Contains-there first second (second ∷ later_of words object) (Contains-here second (later_of words object))))

open_low : (words : List ℕ) → Fits words → (object : ℕ) → object < 16 → open_commit words object ≤ 2 ^ 40 - 1
open_low words fits object lt =
    let low = commit_low words fits object lt in
    cond_both (is_open words object) (commit_word words object) 0 (λ (n : ℕ). n ≤ 2 ^ 40 - 1) (λ opened. omega (arith, low)) (λ closed. omega arith)

pub last_commit_low : (words : List ℕ) → Fits words → last_commit words ≤ 2 ^ 40 - 1
last_commit_low words fits = fold_max-most (get_or words last_at 0) (2 ^ 40 - 1) (map (open_commit words) (below 16)) (last_low words fits) (λ n is.
    let (object, among, here) = Contains-map (open_commit words) (below 16) n is in
    let low = open_low words fits object (Contains-below 16 object among) in
    omega (arith, low, here))

pub last_least : (words : List ℕ) → get_or words last_at 0 ≤ last_commit words
last_least words = fold_max-from (get_or words last_at 0) (map (open_commit words) (below 16))

pub open_least : (words : List ℕ) (object : ℕ) → object < 16 → open_commit words object ≤ last_commit words
open_least words object lt = fold_max-each (get_or words last_at 0) (map (open_commit words) (below 16)) (open_commit words object) (map-Contains (open_commit words) (below 16) object (below-Contains 16 object lt))

module _ (old new : List ℕ) (changed : ℕ → Type 0) (image : IsImage old) (fits : Fits old) (clear : HaveNoNew 512 old)
    (may : MayChange old changed) (stamps : KeepsStamps old changed) (closer : IsCloser changed old new) where
  same : SamePlaces old new
  same = places old new changed image fits may closer.only

  -- ── the last commit ──

  open_commit_most : (object : ℕ) → object < 16 → open_commit new object ≤ last_commit old
  open_commit_most object lt = cond_both (is_open new object) (commit_word new object) 0 (λ (n : ℕ). n ≤ last_commit old)
      (λ opened.
      let was = closer.opens object lt opened in
      let least = open_least old object lt in
      let is : open_commit old object ≡ commit_word old object = cond-true (is_open old object) (commit_word old object) 0 was.0 in
      let commit = was.1 in
      omega (arith, least, is, commit))
      (λ closed. omega arith)

  pub last_same : last_commit new ≡ last_commit old
  last_same =
      let last = closer.last in
      let least = last_least new in
      let most = fold_max-most (get_or new last_at 0) (last_commit old) (map (open_commit new) (below 16)) (omega (arith, last)) (λ n is.
      let (object, among, here) = Contains-map (open_commit new) (below 16) n is in
      let low = open_commit_most object (Contains-below 16 object among) in
      omega (arith, low, here)) in
      omega (arith, last, least, most)

  -- ── stamps and bounds ──

  kept : (w : ℕ) → (changed w → ⊥) → get_or new w 0 ≡ get_or old w 0
  kept w none = let only = closer.only in ⊎_elim (λ e. e) (λ hit. absurd (none hit)) (only.each w)

  stamp_same : (header row : ℕ) → IsHeader old header → row < capacity old header → array_word new header row ≡ array_word old header row
  stamp_same header row is lt =
      ap (λ (place : ℕ). get_or new place 0) (place_same old new same fits.entry.arrays header row is lt) ∙ kept (place_of old header row) (stamps.chunk header row is lt)

  high_same : (table : ℕ) → table < table_count old → get_or new (high_at (table_block new table)) 0 ≡ get_or old (high_at (table_block old table)) 0
  high_same table lt = ap (λ (block : ℕ). get_or new (high_at block) 0) (block_same old new same table lt) ∙ kept (high_at (table_block old table)) (stamps.bound table lt)

  -- ── rows that were given out ──

  entries_same : (object : ℕ) → object < 16 → is_open new object ≡ true → entries new object ≡ entries old object
  entries_same object lt opened = ap (filter (λ word. not (eqb word 0)))
      (map_alike (λ at. get_or new at 0) (λ at. get_or old at 0) (entry_places new object) (entry_places old object) (entry_places_same old new same object lt) (closer.opens object lt opened).2)

  bound_same : (object table : ℕ) → object < 16 → is_open new object ≡ true → row_bound (created_rows new object table) ≡ row_bound (created_rows old object table)
  bound_same object table lt opened =
      ap (λ (words : List ℕ). row_bound (map entry_row (filter (λ word. eqb (entry_kind word) 1 && eqb (entry_table word) table) words))) (entries_same object lt opened)

  undecided_back : (object : ℕ) → object < 16 → is_undecided new object ≡ true → is_undecided old object ≡ true
  undecided_back object lt is =
      let parts = and_parts (is_open new object) (eqb (commit_word new object) 0) is in
      let was = closer.opens object lt parts.0 in
      and_from (is_open old object) (eqb (commit_word old object) 0) was.0 (ap (λ (n : ℕ). eqb n 0) (sym was.1) ∙ parts.1)

  undecided_on : (object : ℕ) → object < 16 → is_undecided old object ≡ true → is_undecided new object ≡ true
  undecided_on object lt is =
      let opened = closer.undecided object lt is in
      let was = closer.opens object lt opened in
      and_from (is_open new object) (eqb (commit_word new object) 0) opened (ap (λ (n : ℕ). eqb n 0) was.1 ∙ (and_parts (is_open old object) (eqb (commit_word old object) 0) is).1)

  pub undecided_same : (object : ℕ) → object < 16 → is_undecided new object ≡ is_undecided old object
  undecided_same object lt = ⊎_elim
      (λ (hit : is_undecided old object ≡ true). undecided_on object lt hit ∙ sym hit)
      (λ (miss : is_undecided old object ≡ false). ⊎_elim
      (λ (is : is_undecided new object ≡ true). absurd (both_ways (is_undecided old object) miss (undecided_back object lt is)))
      (λ none. none ∙ sym miss)
      (cases_Bool (is_undecided new object)))
      (cases_Bool (is_undecided old object))

  undecided_bound_same : (table : ℕ) → undecided_bound new table ≡ undecided_bound old table
  undecided_bound_same table = ap (fold max 0)
      (map_alike (λ object. row_bound (created_rows new object table)) (λ object. row_bound (created_rows old object table)) (filter (is_undecided new) (below 16)) (filter (is_undecided old) (below 16))
      (filter_below (is_undecided new) (is_undecided old) 16 16 refl undecided_same)
      (λ object is.
      let parts = Contains-filter (is_undecided old) (below 16) object is in
      let lt = Contains-below 16 object parts.0 in
      bound_same object table lt (closer.undecided object lt parts.1)))

  abbrev bounds_of : List ℕ → (ℕ → Bool) → ℕ → List ℕ
  bounds_of words test table = map (λ object. row_bound (created_rows words object table)) (filter test (below 16))

  open_less : (table : ℕ) → open_bound new table ≤ open_bound old table
  open_less table = fold_max-most 0 (open_bound old table) (bounds_of new (is_open new) table) (omega arith) (λ n is.
      let (object, among, here) = Contains-map (λ o. row_bound (created_rows new o table)) (filter (is_open new) (below 16)) n is in
      let parts = Contains-filter (is_open new) (below 16) object among in
      let lt = Contains-below 16 object parts.0 in
      let was = (closer.opens object lt parts.1).0 in
      let bound = bound_same object table lt parts.1 in
      let most = fold_max-each 0 (bounds_of old (is_open old) table) (row_bound (created_rows old object table))
      (map-Contains (λ o. row_bound (created_rows old o table)) (filter (is_open old) (below 16)) object (filter-Contains (is_open old) (below 16) object parts.0 was)) in
      omega (arith, here, bound, most))

  undecided_less : (table : ℕ) → undecided_bound old table ≤ open_bound new table
  undecided_less table = fold_max-most 0 (open_bound new table) (bounds_of old (is_undecided old) table) (omega arith) (λ n is.
      let (object, among, here) = Contains-map (λ o. row_bound (created_rows old o table)) (filter (is_undecided old) (below 16)) n is in
      let parts = Contains-filter (is_undecided old) (below 16) object among in
      let lt = Contains-below 16 object parts.0 in
      let opened = closer.undecided object lt parts.1 in
      let bound = bound_same object table lt opened in
      let most = fold_max-each 0 (bounds_of new (is_open new) table) (row_bound (created_rows new object table))
      (map-Contains (λ o. row_bound (created_rows new o table)) (filter (is_open new) (below 16)) object (filter-Contains (is_open new) (below 16) object parts.0 opened)) in
      omega (arith, here, bound, most))

  next_same : (table : ℕ) → table < table_count old → next_row_of new table ≡ next_row_of old table
  next_same table lt =
      let high = high_same table lt in
      let less = open_less table in
      let least = undecided_less table in
      let rows = fits.rows table lt in
      let room = rows.rows in
      omega (arith, high, less, least, room)

  -- ── rules ──

  entries_kept : Keeps new entries_rule
  unfolding entries_rule
  entries_kept = record {
    checks = all_from Holds (flat_map (λ object. entry_checks new 1 (entry_places new object)) (filter (is_open new) (below 16))) (λ c is.
        let (object, among, here) = Contains-flat_map (λ o. entry_checks new 1 (entry_places new o)) (filter (is_open new) (below 16)) c is in
        let parts = Contains-filter (is_open new) (below 16) object among in
        let lt = Contains-below 16 object parts.0 in
        let was = closer.opens object lt parts.1 in
        let checks : entry_checks new 1 (entry_places new object) ≡ entry_checks old 1 (entry_places old object) =
        ap (entry_checks new 1) (entry_places_same old new same object lt) ∙ entry_checks_same old new same 1 (entry_places old object) was.2 in
        let rule = fits.entry.entries in
        All-contains Holds (flat_map (λ o. entry_checks old 1 (entry_places old o)) (filter (is_open old) (below 16))) c rule.checks
        (flat_map-Contains (λ o. entry_checks old 1 (entry_places old o)) (filter (is_open old) (below 16)) object c (filter-Contains (is_open old) (below 16) object parts.0 was.0)
        (subst (λ (cs : List Check). Contains cs c) checks here)));
  }

  transactions : TransactionsFit old new
  transactions = record {
    last = record {
      checks = All-cons Holds (check last_at (leb (get_or new last_at 0) (2 ^ 40 - 1))) []
          (le-leb (get_or new last_at 0) (2 ^ 40 - 1) (let last = closer.last in let low = last_commit_low old fits in omega (arith, last, low))) (All-nil Holds);
    };
    objects = objects_kept old new same fits.entry.objects
        (λ object lt. let low = state_low old fits object lt in ⊎_elim (λ e. omega (arith, e, low)) (λ e. omega (arith, e)) (closer.states object lt))
        (λ object lt.
        let low = commit_low old fits object lt in
        let last = closer.last in
        let least = last_least old in
        ⊎_elim (λ e. omega (arith, e, low, last, least)) (λ e. omega (arith, e)) (closer.commits object lt));
    entries = entries_kept;
    rows = λ table lt. rows_same old new same table lt fits.entry.arrays (rows_alike old new same table lt fits.entry.arrays (alike table lt)) (λ column is. values_same old new fits.entry.trees column is (same_tree old new same column is)) (fits.rows table lt);
  }
    where
      alike : (table : ℕ) → table < table_count old → StampsSame old new table
      alike table lt = record {
        last = last_same;
        used = let high = high_same table lt in let bound = undecided_bound_same table in omega (arith, high, bound);
        created_room = λ room. let high = high_same table lt in let bound = undecided_bound_same table in omega (arith, high, bound, room);
        ended_room = λ room. let high = high_same table lt in let bound = undecided_bound_same table in omega (arith, high, bound, room);
        next =
            let next = next_same table lt in
            let rows = fits.rows table lt in
            let room = rows.rows in
            let high = high_same table lt in
            let bound = undecided_bound_same table in
            omega (arith, next, room, high, bound);
        high = high_same table lt;
        created = λ row within. stamp_same (created_header (table_block old table)) row (created_is old table lt) within;
        ended = λ row within. stamp_same (ended_header (table_block old table)) row (ended_is old table lt) within;
        undecided = λ kind row is. record {
          object = is.object;
          object_is = is.object_is;
          undecided = undecided_on is.object is.object_is is.undecided;
          entry = subst (λ (words : List ℕ). Contains words (entry_word kind table row)) (sym (entries_same is.object is.object_is (closer.undecided is.object is.object_is is.undecided))) is.entry;
        };
      }

  pub closer_stays : StaysQuiet old new
  closer_stays = record {
    still = record {
      fits = still_fits old new changed image fits may closer.only transactions;
      shows = state_same old new same fits.entry.arrays fits.codes alike fits.rows;
    };
    quiet = none_new old new changed image fits clear may closer.only;
  }
    where
      alike : StampsAlike old new
      alike = record {
        last = last_same;
        next = next_same;
        created = λ table row number lt within first most. ap (λ (stamp : ℕ). eqb stamp number) (stamp_same (created_header (table_block old table)) row (created_is old table lt) within);
        ended = λ table row number lt within first most. ap (λ (stamp : ℕ). eqb stamp number) (stamp_same (ended_header (table_block old table)) row (ended_is old table lt) within);
      }
