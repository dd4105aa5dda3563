-- Taking back a transaction that no commit has decided keeps what fits, and shows the same.
use Rattle.std.proofs.Common.{◌≡◌, ◌≢◌, ◌⊎◌, inl, inr, ⊎_elim, ℕ, ◌+◌, ◌<◌, ◌≤◌, max, min, Bool, true, false, not, ◌&&◌, ◌||◌, cond, eqb, ltb, List, [], ◌∷◌, ◌++◌, length, get_or, map, set, refl, sym, ◌∙◌, ap, subst, arith}
use Rattle.std.specs.Prelude.{All, Contains, filter}
use Rattle.std.specs.List.{flat_map}
use Rattle.std.proofs.lemmas.Bool.{and_parts, both_ways, cases_Bool, cases_eq, cases_lt, cond-false, cond-true, cond_both, eq-eqb, eqb-true, ltb-false, ltb-true, ne_eqb, not-true, or_cases, or_left, or_parts, or_right}
use Rattle.std.proofs.lemmas.List.{get_or-set_other, get_or-set_same, get_or_past, length-set}
use Rattle.std.proofs.lemmas.List.Elements.{All-contains, All-head, All-tail}
use Rattle.pm_model.specs.Device.{IsBetween}
use Rattle.pm_model.specs.Needed.{AllStores, Stores}
use Rattle.pm_model.specs.Plans.{footprint, one_store, Part, store, words_after}
use Rattle.pm_model.proofs.Cuts.{between-end, cut-one_store}
use Rattle.pm_model.proofs.NeededStores.{after-written, cut-written, stores-append, stores-map}
use Rattle.image_layout.specs.Fixed.{last_at, state_at}
use Rattle.image_layout.specs.Places.{below}
use Rattle.image_layout.specs.Records.{created_header, ended_header, high_at}
use Rattle.image_layout.specs.Arrays.{capacity}
use Rattle.image_layout.specs.Checks.{check}
use Rattle.image_layout.specs.EntryRules.{entries_rule, entry_checks, is_entry, stamped_capacity}
use Rattle.image_layout.specs.Objects.{commit_word, entries, entry_kind, entry_places, entry_row, entry_table, entry_word, is_open, last_commit}
use Rattle.image_layout.specs.SoundRules.{no_commit}
use Rattle.image_layout.specs.Tables.{table_block, table_count}
use Rattle.image_layout.proofs.Faults.{Holds}
use Rattle.image_layout.proofs.Members.{below-Contains, Contains-below, Contains-cons, Contains-filter, Contains-here, Contains-map, Contains-nil, Contains-there, filter-Contains, flat_map-Contains}
use Rattle.image_layout.proofs.OwnersApart.{all_from}
use Rattle.image_layout.proofs.TableSlots.{few_tables}
use Rattle.shown_state.specs.Fits.{Fits, is_undecided}
use Rattle.shown_state.specs.LogicalState.{created_rows, row_bound}
use Rattle.shown_state.specs.Mending.{raise_bound, undo_entry, undo_mending, undo_parts}
use Rattle.shown_state.specs.OpeningParts.{IsImage}
use Rattle.shown_state.specs.StepLaws.{AreUndone, HaveNoNew, UndosKeep}
use Rattle.shown_state.proofs.ReadsStand.{reads_keep_off}
use Rattle.shown_state.proofs.SameTables.{created_is, ended_is}
use Rattle.opening_steps.specs.QuietImages.{StaysQuiet}
use Rattle.opening_steps.proofs.NoneNew.{none_new}
use Rattle.opening_steps.proofs.StampWords.{a_bound, a_creator, a_state, an_ender, bound_behind, bounds_once, creators as in_creators, enders as in_enders, few_rows, IsUndoWord, stamp_behind, stamp_or_bound, stamps_once, undo_may_change, undo_only}
use Rattle.opening_steps.proofs.Steps.{as_it_is, step_by, step_keeps, StepStays}
use Rattle.opening_steps.proofs.Undone.{birth_at, end_at, HasEntry, IsAllTaken, IsFreed, IsKilled, IsTaken, last_kept, last_same, taken_stays, was_undecided}

-- ── parts of stores ──

stores_each : (Q : ℕ → ℕ → Type 0) (part_of : ℕ → Part) (xs : List ℕ) → ((x : ℕ) → Contains xs x → Stores Q (part_of x)) → Stores Q (flat_map part_of xs)
stores_each Q part_of [] each = tt
stores_each Q part_of (x ∷ xs) each = stores-append Q (part_of x) (flat_map part_of xs) (each x (Contains-here x xs)) (stores_each Q part_of xs (λ y is. each y (Contains-there x y xs is)))

stores_at : (Q : ℕ → ℕ → Type 0) (place value : ℕ → ℕ) (xs : List ℕ) → ((x : ℕ) → Contains xs x → Q (place x) (value x)) → Stores Q (map (λ x. store (place x) (value x)) xs)
stores_at Q place value [] each = tt
stores_at Q place value (x ∷ xs) each = (each x (Contains-here x xs), stores_at Q place value xs (λ y is. each y (Contains-there x y xs is)))

written_left : (xs ys : Part) (w : ℕ) → footprint xs w ≡ true → footprint (xs ++ ys) w ≡ true
written_left [] ys w hit = absurd (both_ways false refl hit)
written_left (x ∷ xs) ys w hit = ⊎_elim
    (λ here. or_left _ (footprint (xs ++ ys) w) here)
    (λ later. or_right _ (footprint (xs ++ ys) w) (written_left xs ys w later))
    (or_cases _ (footprint xs w) hit)

written_right : (xs ys : Part) (w : ℕ) → footprint ys w ≡ true → footprint (xs ++ ys) w ≡ true
written_right [] ys w hit = hit
written_right (x ∷ xs) ys w hit = or_right _ (footprint (xs ++ ys) w) (written_right xs ys w hit)

written_each : (part_of : ℕ → Part) (xs : List ℕ) (x w : ℕ) → Contains xs x → footprint (part_of x) w ≡ true → footprint (flat_map part_of xs) w ≡ true
written_each part_of [] x w is hit = absurd (Contains-nil x is)
written_each part_of (first ∷ xs) x w is hit = ⊎_elim
    (λ (here : first ≡ x). written_left (part_of first) (flat_map part_of xs) w (ap (λ (y : ℕ). footprint (part_of y) w) here ∙ hit))
    (λ later. written_right (part_of first) (flat_map part_of xs) w (written_each part_of xs x w later hit))
    (Contains-cons first x xs is)

written_at : (place value : ℕ → ℕ) (xs : List ℕ) (x : ℕ) → Contains xs x → footprint (map (λ y. store (place y) (value y)) xs) (place x) ≡ true
written_at place value [] x is = absurd (Contains-nil x is)
written_at place value (first ∷ xs) x is = ⊎_elim
    (λ (here : first ≡ x). or_left (eqb (place x) (place first)) _ (eq-eqb (place x) (place first) (ap place (sym here))))
    (λ later. or_right (eqb (place x) (place first)) _ (written_at place value xs x later))
    (Contains-cons first x xs is)

written_one : (place value : ℕ) → footprint (one_store place value) place ≡ true
written_one place value = or_left (eqb place place) false (eq-eqb place place refl)

-- ── entries ──

-- a word of the places that are checked is none, or an entry
entry_checked : (words : List ℕ) (before : ℕ) (spots : List ℕ) → All Holds (entry_checks words before spots) → (at : ℕ) → Contains spots at → (get_or words at 0 ≡ 0) ⊎ (is_entry words (get_or words at 0) ≡ true)
entry_checked words before [] holds at is = absurd (Contains-nil at is)
entry_checked words before (spot ∷ spots) holds at is =
    let word = get_or words spot 0 in
    let first = check spot (eqb word 0 || (not (eqb before 0) && is_entry words word)) in
    let rest = entry_checks words word spots in
    ⊎_elim
    (λ (here : spot ≡ at). subst (λ (p : ℕ). (get_or words p 0 ≡ 0) ⊎ (is_entry words (get_or words p 0) ≡ true)) here (⊎_elim
    (λ none. inl (eqb-true word 0 none)) (λ both. inr (and_parts (not (eqb before 0)) (is_entry words word) both).1)
    (or_cases (eqb word 0) (not (eqb before 0) && is_entry words word) (All-head Holds first rest holds))))
    (λ later. entry_checked words word spots (All-tail Holds first rest holds) at later)
    (Contains-cons spot at spots is)

-- what an entry says
record IsEntryOf (words : List ℕ) (word : ℕ) : Type 0 where
  table : entry_table word < table_count words
  created : entry_row word < capacity words (created_header (table_block words (entry_table word)))
  ended : entry_row word < capacity words (ended_header (table_block words (entry_table word)))
  kind : (entry_kind word ≡ 1) ⊎ (entry_kind word ≡ 2)

entry_parts : (words : List ℕ) (word : ℕ) → is_entry words word ≡ true → IsEntryOf words word
entry_parts words word is =
    let block = table_block words (entry_table word) in
    let kinds = eqb (entry_kind word) 1 || eqb (entry_kind word) 2 in
    let outer = and_parts (kinds && ltb (entry_table word) (table_count words)) (ltb (entry_row word) (stamped_capacity words block)) is in
    let inner = and_parts kinds (ltb (entry_table word) (table_count words)) outer.0 in
    let row : entry_row word < min (capacity words (created_header block)) (capacity words (ended_header block)) = ltb-true (entry_row word) (stamped_capacity words block) outer.1 in
    record {
      table = ltb-true (entry_table word) (table_count words) inner.1;
      created = omega (arith, row);
      ended = omega (arith, row);
      kind = ⊎_elim (λ one. inl (eqb-true (entry_kind word) 1 one)) (λ two. inr (eqb-true (entry_kind word) 2 two)) (or_cases (eqb (entry_kind word) 1) (eqb (entry_kind word) 2) inner.0);
    }

module _ (words : List ℕ) (object : ℕ) (image : IsImage words) (number : object < 16) (fits : Fits words) (has : AreUndone object words) (open_is : is_undecided words object ≡ true) where
  clear : HaveNoNew 512 words
  clear = has.0

  opened : is_open words object ≡ true
  opened = (and_parts (is_open words object) (eqb (commit_word words object) 0) open_is).0

  entry_of : (word : ℕ) → Contains (entries words object) word → IsEntryOf words word
  unfolding entries_rule
  entry_of word is =
      let (among, some) = Contains-filter (λ w. not (eqb w 0)) (map (λ at. get_or words at 0) (entry_places words object)) word is in
      let (at, listed, here) = Contains-map (λ a. get_or words a 0) (entry_places words object) word among in
      let rule = fits.entry.entries in
      let holds : All Holds (entry_checks words 1 (entry_places words object)) = all_from Holds (entry_checks words 1 (entry_places words object)) (λ c inside.
      All-contains Holds (flat_map (λ o. entry_checks words 1 (entry_places words o)) (filter (is_open words) (below 16))) c rule.checks
      (flat_map-Contains (λ o. entry_checks words 1 (entry_places words o)) (filter (is_open words) (below 16)) object c (filter-Contains (is_open words) (below 16) object (below-Contains 16 object number) opened) inside)) in
      entry_parts words word (⊎_elim
      (λ (none : get_or words at 0 ≡ 0). absurd (both_ways (eqb word 0) (not-true (eqb word 0) some) (eq-eqb word 0 (sym here ∙ none))))
      (λ (entry : is_entry words (get_or words at 0) ≡ true). subst (λ (w : ℕ). is_entry words w ≡ true) here entry)
      (entry_checked words 1 (entry_places words object) holds at listed))

  spelled : (word : ℕ) → entry_word (entry_kind word) (entry_table word) (entry_row word) ≡ word
  spelled word = omega arith

  has_entry : (word kind : ℕ) → Contains (entries words object) word → entry_kind word ≡ kind → HasEntry words object kind (entry_table word) (entry_row word)
  has_entry word kind is same = subst (Contains (entries words object)) (let at = spelled word in omega (arith, at, same)) is

  -- ── what is stored ──

  pub data IsUndoStore (place value : ℕ) : Type 0 where
    kills : (table row : ℕ) → table < table_count words → row < capacity words (created_header (table_block words table)) → place ≡ birth_at words table row → value ≡ no_commit
        → (get_or words place 0 ≡ 0) ⊎ (last_commit words < get_or words place 0) → HasEntry words object 1 table row → IsUndoStore place value
    frees : (table row : ℕ) → table < table_count words → row < capacity words (ended_header (table_block words table)) → place ≡ end_at words table row → value ≡ 0
        → last_commit words < get_or words place 0 → IsUndoStore place value
    raises : (table : ℕ) → table < table_count words → place ≡ high_at (table_block words table) → value ≡ max (get_or words place 0) (row_bound (created_rows words object table)) → IsUndoStore place value

  stored_word : (place value : ℕ) → IsUndoStore place value → IsUndoWord words place
  stored_word place value (kills table row lt less at is was entry) = a_creator table row lt less at
  stored_word place value (frees table row lt less at is was) = an_ender table row lt less at
  stored_word place value (raises table lt at is) = a_bound table lt at

  inside : (place value : ℕ) → IsUndoStore place value → place < length words
  inside place value is =
      let may = undo_may_change words fits in
      let spot = (reads_keep_off words image fits place (may.read place (stored_word place value is))).0 in spot.in_image

  abbrev kill_test : ℕ → Bool
  kill_test place = eqb (get_or words place 0) 0 || ltb (get_or words last_at 0) (get_or words place 0)

  kill_reason : (place : ℕ) → kill_test place ≡ true → (get_or words place 0 ≡ 0) ⊎ (last_commit words < get_or words place 0)
  kill_reason place hit = ⊎_elim
      (λ none. inl (eqb-true (get_or words place 0) 0 none))
      (λ above. let less = ltb-true (get_or words last_at 0) (get_or words place 0) above in let last = has.1 in inr (omega (arith, less, last)))
      (or_cases (eqb (get_or words place 0) 0) (ltb (get_or words last_at 0) (get_or words place 0)) hit)

  abbrev kill_part : ℕ → Part
  kill_part place = cond (kill_test place) (one_store place no_commit) []

  abbrev free_part : ℕ → Part
  free_part place = cond (ltb (get_or words last_at 0) (get_or words place 0)) (one_store place 0) []

  undo_stores : (word : ℕ) → Contains (entries words object) word → Stores IsUndoStore (undo_entry words word)
  undo_stores word is =
      let of = entry_of word is in
      let table = entry_table word in
      let row = entry_row word in
      let birth = birth_at words table row in
      let end = end_at words table row in
      cond_both (eqb (entry_kind word) 1) (kill_part birth) (free_part end) (Stores IsUndoStore)
      (λ one. cond_both (kill_test birth) (one_store birth no_commit) [] (Stores IsUndoStore)
      (λ hit. (kills table row of.table of.created refl refl (kill_reason birth hit) (has_entry word 1 is (eqb-true (entry_kind word) 1 one)), tt)) (λ miss. tt))
      (λ other. cond_both (ltb (get_or words last_at 0) (get_or words end 0)) (one_store end 0) [] (Stores IsUndoStore)
      (λ hit.
      let above = ltb-true (get_or words last_at 0) (get_or words end 0) hit in
      let last = has.1 in
      (frees table row of.table of.ended refl refl (omega (arith, above, last)), tt)) (λ miss. tt))

  abbrev stamps : Part
  stamps = flat_map (undo_entry words) (entries words object)

  abbrev bounds : Part
  bounds = map (raise_bound words object) (below (table_count words))

  abbrev part : Part
  part = stamps ++ bounds

  part_stores : Stores IsUndoStore part
  part_stores = stores-append IsUndoStore stamps bounds (stores_each IsUndoStore (undo_entry words) (entries words object) undo_stores)
      (stores_at IsUndoStore (λ table. high_at (table_block words table)) (λ table. max (get_or words (high_at (table_block words table)) 0) (row_bound (created_rows words object table))) (below (table_count words))
      (λ table is. raises table (Contains-below (table_count words) table is) refl refl))

  -- ── what a store at a place can be ──

  killed_there : (table row value : ℕ) → table < table_count words → row < capacity words (created_header (table_block words table)) → IsUndoStore (birth_at words table row) value
      → (value ≡ no_commit) × ((get_or words (birth_at words table row) 0 ≡ 0) ⊎ (last_commit words < get_or words (birth_at words table row) 0)) × HasEntry words object 1 table row
  killed_there table row value lt published (kills other before less known at is was entry) =
      let found = stamps_once words fits table 8 (created_header (table_block words table)) row other 8 (created_header (table_block words other)) before
      (in_creators words fits table lt) (in_creators words fits other less) published known at in
      (is, was, subst (λ (r : ℕ). HasEntry words object 1 table r) (sym found.row_is) (subst (λ (t : ℕ). HasEntry words object 1 t before) (sym found.table_is) entry))
  killed_there table row value lt published (frees other before less known at is was) =
      let found = stamps_once words fits table 8 (created_header (table_block words table)) row other 24 (ended_header (table_block words other)) before
      (in_creators words fits table lt) (in_enders words fits other less) published known at in
      let bases = found.base_is in absurd (omega (arith, bases))
  killed_there table row value lt published (raises other less at is) =
      absurd (stamp_or_bound words fits table 8 (created_header (table_block words table)) row other (in_creators words fits table lt) published less at)

  freed_there : (table row value : ℕ) → table < table_count words → row < capacity words (ended_header (table_block words table)) → IsUndoStore (end_at words table row) value
      → (value ≡ 0) × (last_commit words < get_or words (end_at words table row) 0)
  freed_there table row value lt published (frees other before less known at is was) = (is, was)
  freed_there table row value lt published (kills other before less known at is was entry) =
      let found = stamps_once words fits table 24 (ended_header (table_block words table)) row other 8 (created_header (table_block words other)) before
      (in_enders words fits table lt) (in_creators words fits other less) published known at in
      let bases = found.base_is in absurd (omega (arith, bases))
  freed_there table row value lt published (raises other less at is) =
      absurd (stamp_or_bound words fits table 24 (ended_header (table_block words table)) row other (in_enders words fits table lt) published less at)

  raised_there : (table value : ℕ) → table < table_count words → IsUndoStore (high_at (table_block words table)) value
      → value ≡ max (get_or words (high_at (table_block words table)) 0) (row_bound (created_rows words object table))
  raised_there table value lt (raises other less at is) =
      let one = bounds_once words fits table other lt less at in is ∙ ap (λ (t : ℕ). max (get_or words (high_at (table_block words table)) 0) (row_bound (created_rows words object t))) (sym one)
  raised_there table value lt (kills other before less known at is was entry) =
      absurd (stamp_or_bound words fits other 8 (created_header (table_block words other)) before table (in_creators words fits other less) known lt (sym at))
  raised_there table value lt (frees other before less known at is was) =
      absurd (stamp_or_bound words fits other 24 (ended_header (table_block words other)) before table (in_enders words fits other less) known lt (sym at))

  stored_behind : (place value : ℕ) → IsUndoStore place value → 2048 ≤ place
  stored_behind place value (kills other before less known at is was entry) =
      let behind = stamp_behind words fits other 8 (created_header (table_block words other)) before (in_creators words fits other less) known in omega (arith, behind, at)
  stored_behind place value (frees other before less known at is was) =
      let behind = stamp_behind words fits other 24 (ended_header (table_block words other)) before (in_enders words fits other less) known in omega (arith, behind, at)
  stored_behind place value (raises other less at is) = let behind = bound_behind words fits other less in omega (arith, behind, at)

  -- ── a cut of the part ──

  -- Of each word that the part stores: it is as it was, or stored.
  pub record IsCut (cut : List ℕ) : Type 0 where
    pub size : length cut ≡ length words
    pub each : (w : ℕ) → (get_or cut w 0 ≡ get_or words w 0) ⊎ IsUndoStore w (get_or cut w 0)

  cut_is : (cut : List ℕ) → IsBetween words (words_after part words) cut → IsCut cut
  cut_is cut between = record {
    size = between.size;
    each = λ w. ⊎_elim
        (λ lt. cut-written IsUndoStore part words cut w part_stores lt between)
        (λ past. let size = between.size in inl (get_or_past cut w 0 (omega (arith, past, size)) ∙ sym (get_or_past words w 0 past)))
        (cases_lt w (length words));
  }

  module _ (cut : List ℕ) (is : IsCut cut) where
    born : (table row : ℕ) → table < table_count words → row < capacity words (created_header (table_block words table))
        → (get_or cut (birth_at words table row) 0 ≡ get_or words (birth_at words table row) 0) ⊎ IsKilled words cut object table row
    born table row lt published = ⊎_elim (λ kept. inl kept)
        (λ stored. let found = killed_there table row (get_or cut (birth_at words table row) 0) lt published stored in inr (record { dead = found.0; was = found.1; entry = found.2 }))
        (is.each (birth_at words table row))

    ended : (table row : ℕ) → table < table_count words → row < capacity words (ended_header (table_block words table))
        → (get_or cut (end_at words table row) 0 ≡ get_or words (end_at words table row) 0) ⊎ IsFreed words cut object table row
    ended table row lt published = ⊎_elim (λ kept. inl kept)
        (λ stored. let found = freed_there table row (get_or cut (end_at words table row) 0) lt published stored in inr (record { none = found.0; was = found.1 }))
        (is.each (end_at words table row))

    abbrev bound_was : ℕ → ℕ
    bound_was table = get_or words (high_at (table_block words table)) 0

    bound_is : (table : ℕ) → table < table_count words → (get_or cut (high_at (table_block words table)) 0 ≡ bound_was table)
        ⊎ (get_or cut (high_at (table_block words table)) 0 ≡ max (bound_was table) (row_bound (created_rows words object table)))
    bound_is table lt = ⊎_elim (λ kept. inl kept) (λ stored. inr (raised_there table (get_or cut (high_at (table_block words table)) 0) lt stored)) (is.each (high_at (table_block words table)))

    state_kept : (one : ℕ) → one < 16 → get_or cut (state_at one) 0 ≡ get_or words (state_at one) 0
    state_kept one lt = ⊎_elim (λ kept. kept)
        (λ stored. let behind = stored_behind (state_at one) (get_or cut (state_at one) 0) stored in absurd (omega (arith, behind, lt)))
        (is.each (state_at one))

    cut_taken : IsTaken words cut object
    cut_taken = record {
      only = undo_only words fits cut (λ w. ⊎_elim (λ e. inl e) (λ stored. inr (stored_word w (get_or cut w 0) stored)) (is.each w)) is.size;
      creators = born;
      enders = ended;
      rises = λ table lt. ⊎_elim (λ e. omega (arith, e)) (λ e. omega (arith, e)) (bound_is table lt);
      most = λ table lt. ⊎_elim (λ e. omega (arith, e)) (λ e. omega (arith, e)) (bound_is table lt);
      states = λ one lt. inl (state_kept one lt);
    }

    pub cut_still : StaysQuiet words cut
    cut_still = taken_stays words cut object image number fits open_is cut_taken clear

  -- ── all of it ──

  abbrev undone : List ℕ
  undone = words_after part words

  undone_is : IsCut undone
  undone_is = cut_is undone (between-end part words)

  written : (w : ℕ) → w < length words → footprint part w ≡ true → IsUndoStore w (get_or undone w 0)
  written w lt hit = after-written IsUndoStore part words w part_stores lt hit

  kill_is : (table row : ℕ) → table < table_count words → row < capacity words (created_header (table_block words table)) → undo_entry words (entry_word 1 table row) ≡ kill_part (birth_at words table row)
  kill_is table row lt published =
      let few = few_tables words fits.entry.table_count in
      let rows = few_rows words fits (created_header (table_block words table)) (created_is words table lt) in
      let word = entry_word 1 table row in
      let kind : entry_kind word ≡ 1 = omega (arith, lt, few, published, rows) in
      let of : entry_table word ≡ table = omega (arith, lt, few, published, rows) in
      let at : entry_row word ≡ row = omega (arith, published, rows) in
      cond-true (eqb (entry_kind word) 1) (kill_part (birth_at words (entry_table word) (entry_row word))) (free_part (end_at words (entry_table word) (entry_row word))) (eq-eqb (entry_kind word) 1 kind)
      ∙ ap (λ (t : ℕ). kill_part (birth_at words t (entry_row word))) of ∙ ap (λ (r : ℕ). kill_part (birth_at words table r)) at

  free_is : (table row : ℕ) → table < table_count words → row < capacity words (ended_header (table_block words table)) → undo_entry words (entry_word 2 table row) ≡ free_part (end_at words table row)
  free_is table row lt published =
      let few = few_tables words fits.entry.table_count in
      let rows = few_rows words fits (ended_header (table_block words table)) (ended_is words table lt) in
      let word = entry_word 2 table row in
      let kind : entry_kind word ≡ 2 = omega (arith, lt, few, published, rows) in
      let of : entry_table word ≡ table = omega (arith, lt, few, published, rows) in
      let at : entry_row word ≡ row = omega (arith, published, rows) in
      cond-false (eqb (entry_kind word) 1) (kill_part (birth_at words (entry_table word) (entry_row word))) (free_part (end_at words (entry_table word) (entry_row word))) (ne_eqb (entry_kind word) 1 (λ one. omega (arith, one, kind)))
      ∙ ap (λ (t : ℕ). free_part (end_at words t (entry_row word))) of ∙ ap (λ (r : ℕ). free_part (end_at words table r)) at

  entry_written : (word w : ℕ) (stored : Part) → Contains (entries words object) word → undo_entry words word ≡ stored → footprint stored w ≡ true → footprint part w ≡ true
  entry_written word w stored is same hit = written_left stamps bounds w (written_each (undo_entry words) (entries words object) word w is (ap (λ (p : Part). footprint p w) same ∙ hit))

  spot_inside : (w : ℕ) → IsUndoWord words w → w < length words
  spot_inside w is =
      let may = undo_may_change words fits in
      let spot = (reads_keep_off words image fits w (may.read w is)).0 in spot.in_image

  all_born : (table row : ℕ) → table < table_count words → row < capacity words (created_header (table_block words table)) → HasEntry words object 1 table row
      → (get_or undone (birth_at words table row) 0 ≡ no_commit) ⊎ (get_or undone (birth_at words table row) 0 ≤ last_commit words)
  all_born table row lt published entry =
      let birth = birth_at words table row in
      ⊎_elim
      (λ (hit : kill_test birth ≡ true).
      let stored = written birth (spot_inside birth (a_creator table row lt published refl)) (entry_written (entry_word 1 table row) birth (one_store birth no_commit) entry
      (kill_is table row lt published ∙ cond-true (kill_test birth) (one_store birth no_commit) [] hit) (written_one birth no_commit)) in
      inl (killed_there table row (get_or undone birth 0) lt published stored).0)
      (λ (miss : kill_test birth ≡ false). ⊎_elim
      (λ kept.
      let parts = or_parts (eqb (get_or words birth 0) 0) (ltb (get_or words last_at 0) (get_or words birth 0)) miss in
      let low = ltb-false (get_or words last_at 0) (get_or words birth 0) parts.1 in
      let last = has.1 in
      inr (omega (arith, kept, low, last)))
      (λ (killed : IsKilled words undone object table row). inl killed.dead)
      (born undone undone_is table row lt published))
      (cases_Bool (kill_test birth))

  all_ended : (table row : ℕ) → table < table_count words → row < capacity words (ended_header (table_block words table)) → HasEntry words object 2 table row → get_or undone (end_at words table row) 0 ≤ last_commit words
  all_ended table row lt published entry =
      let end = end_at words table row in
      let test = ltb (get_or words last_at 0) (get_or words end 0) in
      ⊎_elim
      (λ (hit : test ≡ true).
      let stored = written end (spot_inside end (an_ender table row lt published refl)) (entry_written (entry_word 2 table row) end (one_store end 0) entry
      (free_is table row lt published ∙ cond-true test (one_store end 0) [] hit) (written_one end 0)) in
      let none = (freed_there table row (get_or undone end 0) lt published stored).0 in
      omega (arith, none))
      (λ (miss : test ≡ false). ⊎_elim
      (λ kept.
      let low = ltb-false (get_or words last_at 0) (get_or words end 0) miss in
      let last = has.1 in
      omega (arith, kept, low, last))
      (λ (freed : IsFreed words undone object table row). let none = freed.none in omega (arith, none))
      (ended undone undone_is table row lt published))
      (cases_Bool test)

  all_raised : (table : ℕ) → table < table_count words → row_bound (created_rows words object table) ≤ get_or undone (high_at (table_block words table)) 0
  all_raised table lt =
      let at = high_at (table_block words table) in
      let hit = written_right stamps bounds at (written_at (λ t. high_at (table_block words t)) (λ t. max (get_or words (high_at (table_block words t)) 0) (row_bound (created_rows words object t))) (below (table_count words)) table
      (below-Contains (table_count words) table lt)) in
      let value = raised_there table (get_or undone at 0) lt (written at (spot_inside at (a_bound table lt refl)) hit) in
      omega (arith, value)

  -- ── the object closed ──

  abbrev at_state : ℕ
  at_state = state_at object

  abbrev closed : List ℕ
  closed = set undone at_state 0

  closed_other : (w : ℕ) → w ≢ at_state → get_or closed w 0 ≡ get_or undone w 0
  closed_other w apart = get_or-set_other undone at_state w 0 0 apart

  closed_here : get_or closed at_state 0 ≡ 0
  closed_here = get_or-set_same undone at_state 0 0 (let large = image.one_or_more in let size = undone_is.size in omega (arith, large, size, number))

  birth_other : (table row : ℕ) → table < table_count words → row < capacity words (created_header (table_block words table)) → get_or closed (birth_at words table row) 0 ≡ get_or undone (birth_at words table row) 0
  birth_other table row lt published = closed_other (birth_at words table row) (λ e.
      let behind = stamp_behind words fits table 8 (created_header (table_block words table)) row (in_creators words fits table lt) published in omega (arith, behind, e, number))

  end_other : (table row : ℕ) → table < table_count words → row < capacity words (ended_header (table_block words table)) → get_or closed (end_at words table row) 0 ≡ get_or undone (end_at words table row) 0
  end_other table row lt published = closed_other (end_at words table row) (λ e.
      let behind = stamp_behind words fits table 24 (ended_header (table_block words table)) row (in_enders words fits table lt) published in omega (arith, behind, e, number))

  bound_other : (table : ℕ) → table < table_count words → get_or closed (high_at (table_block words table)) 0 ≡ get_or undone (high_at (table_block words table)) 0
  bound_other table lt = closed_other (high_at (table_block words table)) (λ e. let behind = bound_behind words fits table lt in omega (arith, behind, e, number))

  all_taken : IsAllTaken words closed object
  all_taken = record {
    creators = λ table row lt published entry.
        let same = birth_other table row lt published in
        ⊎_elim (λ dead. inl (same ∙ dead)) (λ low. inr (omega (arith, same, low))) (all_born table row lt published entry);
    enders = λ table row lt published entry. let same = end_other table row lt published in let low = all_ended table row lt published entry in omega (arith, same, low);
    bounds = λ table lt. let same = bound_other table lt in let raised = all_raised table lt in omega (arith, same, raised);
  }

  closed_taken : IsTaken words closed object
  closed_taken = record {
    only = undo_only words fits closed (λ w. ⊎_elim (λ here. inr (a_state object number here))
        (λ apart. ⊎_elim (λ e. inl (closed_other w apart ∙ e)) (λ stored. inr (stored_word w (get_or undone w 0) stored)) (undone_is.each w)) (cases_eq w at_state))
        (length-set undone at_state 0 ∙ undone_is.size);
    creators = λ table row lt published.
        let same = birth_other table row lt published in
        ⊎_elim (λ kept. inl (same ∙ kept)) (λ (killed : IsKilled words undone object table row). inr (record { dead = same ∙ killed.dead; was = killed.was; entry = killed.entry })) (born undone undone_is table row lt published);
    enders = λ table row lt published.
        let same = end_other table row lt published in
        ⊎_elim (λ kept. inl (same ∙ kept)) (λ (freed : IsFreed words undone object table row). inr (record { none = same ∙ freed.none; was = freed.was })) (ended undone undone_is table row lt published);
    rises = λ table lt. let same = bound_other table lt in ⊎_elim (λ e. omega (arith, e, same)) (λ e. omega (arith, e, same)) (bound_is undone undone_is table lt);
    most = λ table lt. let same = bound_other table lt in ⊎_elim (λ e. omega (arith, e, same)) (λ e. omega (arith, e, same)) (bound_is undone undone_is table lt);
    states = λ one lt. ⊎_elim
        (λ (e : one ≡ object). inr (e, ap (λ (o : ℕ). get_or closed (state_at o) 0) e ∙ closed_here, all_taken))
        (λ apart. inl (closed_other (state_at one) (λ e. apart (omega (arith, e))) ∙ state_kept undone undone_is one lt))
        (cases_eq one object);
  }

  pub closed_still : StaysQuiet words closed
  closed_still = taken_stays words closed object image number fits open_is closed_taken clear

  none_undecided : (one : ℕ) → one < object + 1 → is_undecided closed one ≡ false
  none_undecided one lt = ⊎_elim
      (λ (is : is_undecided closed one ≡ true). absurd (⊎_elim
      (λ (e : one ≡ object).
      let state = eqb-true (get_or closed (state_at one) 0) 1 (and_parts (is_open closed one) (eqb (commit_word closed one) 0) is).0 in
      let none = ap (λ (o : ℕ). get_or closed (state_at o) 0) e ∙ closed_here in
      omega (arith, state, none))
      (λ apart. both_ways (is_undecided words one) (has.2 one (omega (arith, lt, apart)))
      (was_undecided words closed object image number fits open_is closed_taken one (omega (arith, lt, number)) is))
      (cases_eq one object)))
      (λ none. none)
      (cases_Bool (is_undecided closed one))

  pub goes_on : AreUndone (object + 1) closed
  goes_on = (
    none_new words closed (IsUndoWord words) image fits clear (undo_may_change words fits) closed_taken.only,
    last_kept words closed object image number fits open_is closed_taken ∙ has.1 ∙ sym (last_same words closed object image number fits open_is closed_taken),
    none_undecided,
  )

  pub all_stores : AllStores (length words) (undo_parts words object)
  all_stores = (
    stores-map IsUndoStore (λ place value. place < length words) part inside part_stores,
    ((let large = image.one_or_more in omega (arith, large, number), tt), tt),
  )

pub undos_stay : (words : List ℕ) (object : ℕ) → IsImage words → object < 16 → Fits words → AreUndone object words → StepStays (AreUndone (object + 1)) (undo_mending object) words
undos_stay words object image number fits has =
    let test = is_undecided words object in
    let parts = undo_parts words object in
    ⊎_elim
    (λ (hit : test ≡ true). step_by (AreUndone (object + 1)) (undo_mending object) words parts (cond-true test parts [] hit)
    (all_stores words object image number fits has hit) (
      λ cut between. cut_still words object image number fits has hit cut (cut_is words object image number fits has hit cut between),
      (
        cut-one_store (StaysQuiet words) (state_at object) 0 (undone words object image number fits has hit)
            (cut_still words object image number fits has hit (undone words object image number fits has hit) (undone_is words object image number fits has hit))
            (closed_still words object image number fits has hit),
        closed_still words object image number fits has hit,
      ),
    )
    (goes_on words object image number fits has hit))
    (λ (miss : test ≡ false). step_by (AreUndone (object + 1)) (undo_mending object) words [] (cond-false test parts [] miss) tt
    (as_it_is words fits has.0)
    (has.0, has.1, λ one lt. ⊎_elim (λ (e : one ≡ object). ap (is_undecided words) e ∙ miss) (λ apart. has.2 one (omega (arith, lt, apart))) (cases_eq one object)))
    (cases_Bool test)

pub undos_keep : UndosKeep
undos_keep words object image number fits has = step_keeps (AreUndone (object + 1)) (undo_mending object) words (undos_stay words object image number fits has)
