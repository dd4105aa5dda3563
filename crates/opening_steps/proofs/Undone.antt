-- Of a transaction that no commit has decided, any of the stamps are taken back and any of the bounds raised; and its object is
-- closed once all of them are. This keeps what fits, and shows the same.
use Rattle.std.proofs.Common.{◌≡◌, ◌≢◌, ◌⊎◌, inl, inr, ⊎_elim, ℕ, ◌+◌, ◌-◌, ◌^◌, ◌<◌, ◌≤◌, max, Bool, true, not, ◌&&◌, cond, eqb, leb, List, [], ◌∷◌, get_or, map, refl, sym, ◌∙◌, ap, subst, arith}
use Rattle.std.specs.Prelude.{All, Contains, filter, fold}
use Rattle.std.specs.List.{flat_map}
use Rattle.std.proofs.lemmas.Bool.{and_from, and_parts, both_ways, cond_both, eq-eqb, eqb-true, ne_eqb}
use Rattle.std.proofs.lemmas.List.Elements.{All-contains}
use Rattle.image_layout.specs.Fixed.{commit_word_at, last_at, state_at}
use Rattle.image_layout.specs.Places.{below}
use Rattle.image_layout.specs.Records.{created_header, ended_header, high_at}
use Rattle.image_layout.specs.Arrays.{array_word, capacity, place_of}
use Rattle.image_layout.specs.Checks.{check, Check, Keeps}
use Rattle.image_layout.specs.EntryRules.{entries_rule, entry_checks}
use Rattle.image_layout.specs.Objects.{commit_word, entries, entry_kind, entry_places, entry_row, entry_table, entry_word, is_open, last_commit, open_commit}
use Rattle.image_layout.specs.SoundRules.{no_commit}
use Rattle.image_layout.specs.Tables.{table_block, table_count}
use Rattle.image_layout.proofs.Faults.{Holds}
use Rattle.image_layout.proofs.Members.{below-Contains, Contains-below, Contains-filter, Contains-flat_map, Contains-map, filter-Contains, flat_map-Contains, map-Contains}
use Rattle.image_layout.proofs.OwnersApart.{all_from}
use Rattle.image_layout.proofs.TableSlots.{few_tables}
use Rattle.shown_state.specs.Fits.{CreatorFits, creator, ender, EnderFits, Fits, IsEnded, IsUndecided, is_undecided, used_up}
use Rattle.shown_state.specs.LogicalState.{created_rows, next_row_of, row_bound}
use Rattle.shown_state.specs.OpeningParts.{FitsStill, IsImage}
use Rattle.shown_state.specs.StepLaws.{HaveNoNew}
use Rattle.shown_state.proofs.Alike.{map_alike, map_below}
use Rattle.shown_state.proofs.SameLeaves.{values_same}
use Rattle.shown_state.proofs.SameTables.{created_is, ended_is}
use Rattle.opening_steps.proofs.Closer.{commit_low, fold_max-each, fold_max-most, last_commit_low, state_low}
use Rattle.opening_steps.proofs.Fitting.{still_fits, TransactionsFit}
use Rattle.opening_steps.proofs.Beside.{ChangesOnly, MayChange, places}
use Rattle.opening_steps.proofs.NoneNew.{entry_apart, entry_word as entry_is_own, none_new}
use Rattle.opening_steps.proofs.ObjectWords.{IsObjectWord, objects_keep_stamps, of_own, the_last}
use Rattle.opening_steps.specs.QuietImages.{StaysQuiet}
use Rattle.opening_steps.proofs.Objects.{entry_places_same}
use Rattle.opening_steps.proofs.ReadRules.{objects_kept}
use Rattle.opening_steps.proofs.Rows.{creator_at, ender_at, RowsAlike, rows_same}
use Rattle.opening_steps.proofs.Showing.{StampsAlike, state_same}
use Rattle.opening_steps.proofs.StampWords.{a_bound, a_creator, a_state, an_ender, few_rows, IsUndoWord, undo_may_change}
use Rattle.opening_steps.proofs.Structure.{SamePlaces, same_tree}
use Rattle.opening_steps.proofs.Tables.{block_same, place_same}
use Rattle.opening_steps.proofs.ValueRules.{entry_checks_same}

-- an object's transaction says so of a row
abbrev pub HasEntry : List ℕ → ℕ → ℕ → ℕ → ℕ → Type 0
HasEntry words object kind table row = Contains (entries words object) (entry_word kind table row)

-- where the stamps of a row stand
abbrev pub birth_at : List ℕ → ℕ → ℕ → ℕ
birth_at words table row = place_of words (created_header (table_block words table)) row

abbrev pub end_at : List ℕ → ℕ → ℕ → ℕ
end_at words table row = place_of words (ended_header (table_block words table)) row

-- a row that the transaction created is dead, and one that it ended isn't ended
pub record IsKilled (old new : List ℕ) (object table row : ℕ) : Type 0 where
  pub dead : get_or new (birth_at old table row) 0 ≡ no_commit
  pub was : (get_or old (birth_at old table row) 0 ≡ 0) ⊎ (last_commit old < get_or old (birth_at old table row) 0)
  pub entry : HasEntry old object 1 table row

pub record IsFreed (old new : List ℕ) (object table row : ℕ) : Type 0 where
  pub none : get_or new (end_at old table row) 0 ≡ 0
  pub was : last_commit old < get_or old (end_at old table row) 0

-- all that it did is taken back
pub record IsAllTaken (old new : List ℕ) (object : ℕ) : Type 0 where
  pub creators : (table row : ℕ) → table < table_count old → row < capacity old (created_header (table_block old table)) → HasEntry old object 1 table row
      → (get_or new (birth_at old table row) 0 ≡ no_commit) ⊎ (get_or new (birth_at old table row) 0 ≤ last_commit old)
  pub enders : (table row : ℕ) → table < table_count old → row < capacity old (ended_header (table_block old table)) → HasEntry old object 2 table row
      → get_or new (end_at old table row) 0 ≤ last_commit old
  pub bounds : (table : ℕ) → table < table_count old → row_bound (created_rows old object table) ≤ get_or new (high_at (table_block old table)) 0

-- some of it is, and the object is closed once all is
pub record IsTaken (old new : List ℕ) (object : ℕ) : Type 0 where
  pub only : ChangesOnly (IsUndoWord old) old new
  pub creators : (table row : ℕ) → table < table_count old → row < capacity old (created_header (table_block old table))
      → (get_or new (birth_at old table row) 0 ≡ get_or old (birth_at old table row) 0) ⊎ IsKilled old new object table row
  pub enders : (table row : ℕ) → table < table_count old → row < capacity old (ended_header (table_block old table))
      → (get_or new (end_at old table row) 0 ≡ get_or old (end_at old table row) 0) ⊎ IsFreed old new object table row
  pub rises : (table : ℕ) → table < table_count old → get_or old (high_at (table_block old table)) 0 ≤ get_or new (high_at (table_block old table)) 0
  pub most : (table : ℕ) → table < table_count old
      → get_or new (high_at (table_block old table)) 0 ≤ max (get_or old (high_at (table_block old table)) 0) (row_bound (created_rows old object table))
  pub states : (one : ℕ) → one < 16 → (get_or new (state_at one) 0 ≡ get_or old (state_at one) 0)
      ⊎ ((one ≡ object) × (get_or new (state_at one) 0 ≡ 0) × IsAllTaken old new object)

-- a row whose creation is an entry lies below the bound of the rows created
pub created_below : (words : List ℕ) (object table row : ℕ) → table < 2 ^ 24 → row < 2 ^ 32 → HasEntry words object 1 table row → row < row_bound (created_rows words object table)
created_below words object table row low few has =
    let word = entry_word 1 table row in
    let test : ℕ → Bool = λ w. eqb (entry_kind w) 1 && eqb (entry_table w) table in
    let kind : entry_kind word ≡ 1 = omega (arith, low, few) in
    let of : entry_table word ≡ table = omega (arith, low, few) in
    let at : entry_row word ≡ row = omega (arith, few) in
    let among = filter-Contains test (entries words object) word has (and_from (eqb (entry_kind word) 1) (eqb (entry_table word) table) (eq-eqb (entry_kind word) 1 kind) (eq-eqb (entry_table word) table of)) in
    let rows = map-Contains entry_row (filter test (entries words object)) word among in
    let bound = fold_max-each 0 (map (λ r. r + 1) (created_rows words object table)) (entry_row word + 1) (map-Contains (λ r. r + 1) (created_rows words object table) (entry_row word) rows) in
    omega (arith, bound, at)

module _ (old new : List ℕ) (object : ℕ) (image : IsImage old) (number : object < 16) (fits : Fits old)
    (open_is : is_undecided old object ≡ true) (taken : IsTaken old new object) where
  may : MayChange old (IsUndoWord old)
  may = undo_may_change old fits

  same : SamePlaces old new
  same = places old new (IsUndoWord old) image fits may taken.only

  -- ── words of objects ──

  object_kept : (w : ℕ) → IsObjectWord old w → ((one : ℕ) → one < 16 → w ≢ state_at one) → get_or new w 0 ≡ get_or old w 0
  object_kept w own states = let only = taken.only in ⊎_elim (λ e. e) (λ hit. absurd (none hit)) (only.each w)
    where
      none : IsUndoWord old w → ⊥
      none (a_creator table row lt less at) = let stamps = objects_keep_stamps old fits in
          stamps.chunk (created_header (table_block old table)) row (created_is old table lt) less (subst (IsObjectWord old) at own)
      none (an_ender table row lt less at) = let stamps = objects_keep_stamps old fits in
          stamps.chunk (ended_header (table_block old table)) row (ended_is old table lt) less (subst (IsObjectWord old) at own)
      none (a_bound table lt at) = let stamps = objects_keep_stamps old fits in stamps.bound table lt (subst (IsObjectWord old) at own)
      none (a_state one lt at) = states one lt at

  pub last_kept : get_or new last_at 0 ≡ get_or old last_at 0
  last_kept = object_kept last_at (the_last refl) (λ one lt e. omega (arith, e))

  commit_kept : (one : ℕ) → one < 16 → commit_word new one ≡ commit_word old one
  commit_kept one lt = object_kept (commit_word_at one) (of_own one 1 lt (omega arith) (λ two. omega (arith, two)) (λ three. omega (arith, three)) refl) (λ other less e. omega (arith, e))

  entry_kept : (one at : ℕ) → one < 16 → Contains (entry_places old one) at → get_or new at 0 ≡ get_or old at 0
  entry_kept one at lt is = object_kept at (entry_is_own old one at lt is) (λ other less e. entry_apart old fits one at other 0 lt is less (omega arith) e)

  entries_same : (one : ℕ) → one < 16 → entries new one ≡ entries old one
  entries_same one lt = ap (filter (λ word. not (eqb word 0)))
      (map_alike (λ at. get_or new at 0) (λ at. get_or old at 0) (entry_places new one) (entry_places old one) (entry_places_same old new same one lt) (λ at is. entry_kept one at lt is))

  bound_same : (one table : ℕ) → one < 16 → row_bound (created_rows new one table) ≡ row_bound (created_rows old one table)
  bound_same one table lt =
      ap (λ (words : List ℕ). row_bound (map entry_row (filter (λ word. eqb (entry_kind word) 1 && eqb (entry_table word) table) words))) (entries_same one lt)

  -- ── which are open ──

  was_open : (one : ℕ) → one < 16 → is_open new one ≡ true → is_open old one ≡ true
  was_open one lt opened = ⊎_elim
      (λ kept. ap (λ (state : ℕ). eqb state 1) (sym kept) ∙ opened)
      (λ closed. absurd (closed_open closed.1 opened))
      (taken.states one lt)
    where
      closed_open : get_or new (state_at one) 0 ≡ 0 → is_open new one ≡ true → ⊥
      closed_open zero_is opened = both_ways (is_open new one) (ne_eqb (get_or new (state_at one) 0) 1 (λ one_is. omega (arith, zero_is, one_is))) opened

  pub was_undecided : (one : ℕ) → one < 16 → is_undecided new one ≡ true → is_undecided old one ≡ true
  was_undecided one lt is =
      let parts = and_parts (is_open new one) (eqb (commit_word new one) 0) is in
      and_from (is_open old one) (eqb (commit_word old one) 0) (was_open one lt parts.0) (ap (λ (n : ℕ). eqb n 0) (sym (commit_kept one lt)) ∙ parts.1)

  still_open : (one : ℕ) → get_or new (state_at one) 0 ≡ get_or old (state_at one) 0 → is_open old one ≡ true → is_open new one ≡ true
  still_open one kept opened = ap (λ (state : ℕ). eqb state 1) kept ∙ opened

  still_undecided : (one : ℕ) → one < 16 → get_or new (state_at one) 0 ≡ get_or old (state_at one) 0 → is_undecided old one ≡ true → is_undecided new one ≡ true
  still_undecided one lt kept is =
      let parts = and_parts (is_open old one) (eqb (commit_word old one) 0) is in
      and_from (is_open new one) (eqb (commit_word new one) 0) (still_open one kept parts.0) (ap (λ (n : ℕ). eqb n 0) (commit_kept one lt) ∙ parts.1)

  -- ── the last commit ──

  open_commit_same : (one : ℕ) → one < 16 → open_commit new one ≡ open_commit old one
  open_commit_same one lt = ⊎_elim
      (λ kept. ap (λ (state : ℕ). cond (eqb state 1) (commit_word new one) 0) kept ∙ ap (λ (c : ℕ). cond (is_open old one) c 0) (commit_kept one lt))
      (λ closed.
      let parts = and_parts (is_open old object) (eqb (commit_word old object) 0) open_is in
      let none : commit_word old one ≡ 0 = ap (commit_word old) closed.0 ∙ eqb-true (commit_word old object) 0 parts.1 in
      zero_both (is_open new one) (commit_word new one) (commit_kept one lt ∙ none) ∙ sym (zero_both (is_open old one) (commit_word old one) none))
      (taken.states one lt)
    where
      zero_both : (b : Bool) (c : ℕ) → c ≡ 0 → cond b c 0 ≡ 0
      zero_both b c none = cond_both b c 0 (λ (n : ℕ). n ≡ 0) (λ hit. none) (λ miss. refl)

  pub last_same : last_commit new ≡ last_commit old
  last_same =
      ap (λ (n : ℕ). fold max n (map (open_commit new) (below 16))) last_kept
      ∙ ap (fold max (get_or old last_at 0)) (map_below (open_commit new) (open_commit old) 16 16 refl open_commit_same)

  -- ── bounds ──

  abbrev high : ℕ → ℕ
  high table = get_or new (high_at (table_block old table)) 0

  high_is : (table : ℕ) → table < table_count old → get_or new (high_at (table_block new table)) 0 ≡ high table
  high_is table lt = ap (λ (block : ℕ). get_or new (high_at block) 0) (block_same old new same table lt)

  abbrev bounds_of : List ℕ → (ℕ → Bool) → ℕ → List ℕ
  bounds_of words test table = map (λ one. row_bound (created_rows words one table)) (filter test (below 16))

  bound_among : (words : List ℕ) (test : ℕ → Bool) (table one : ℕ) → one < 16 → test one ≡ true → row_bound (created_rows words one table) ≤ fold max 0 (bounds_of words test table)
  bound_among words test table one lt is = fold_max-each 0 (bounds_of words test table) (row_bound (created_rows words one table))
      (map-Contains (λ o. row_bound (created_rows words o table)) (filter test (below 16)) one (filter-Contains test (below 16) one (below-Contains 16 one lt) is))

  bounds_most : (words : List ℕ) (test : ℕ → Bool) (table n : ℕ) → ((one : ℕ) → one < 16 → test one ≡ true → row_bound (created_rows words one table) ≤ n) → fold max 0 (bounds_of words test table) ≤ n
  bounds_most words test table n each = fold_max-most 0 n (bounds_of words test table) (omega arith) (λ x is.
      let (one, among, here) = Contains-map (λ o. row_bound (created_rows words o table)) (filter test (below 16)) x is in
      let parts = Contains-filter test (below 16) one among in
      let low = each one (Contains-below 16 one parts.0) parts.1 in
      omega (arith, low, here))

  -- of both tests, that an object is open and that it is undecided
  module _ (before after : ℕ → Bool) (back : (one : ℕ) → one < 16 → after one ≡ true → before one ≡ true)
      (on : (one : ℕ) → one < 16 → get_or new (state_at one) 0 ≡ get_or old (state_at one) 0 → before one ≡ true → after one ≡ true) where
    no_more : (table : ℕ) → fold max 0 (bounds_of new after table) ≤ fold max 0 (bounds_of old before table)
    no_more table = bounds_most new after table (fold max 0 (bounds_of old before table)) (λ one lt is.
        let bound = bound_same one table lt in
        let among = bound_among old before table one lt (back one lt is) in
        omega (arith, bound, among))

    no_less : (table : ℕ) → table < table_count old → fold max 0 (bounds_of old before table) ≤ max (high table) (fold max 0 (bounds_of new after table))
    no_less table lt = bounds_most old before table (max (high table) (fold max 0 (bounds_of new after table))) (λ one less is. ⊎_elim
        (λ kept.
        let bound = bound_same one table less in
        let among = bound_among new after table one less (on one less kept is) in
        omega (arith, bound, among))
        (λ closed.
        let all : IsAllTaken old new object = closed.2 in
        let raised = all.bounds table lt in
        let same_bound = ap (λ (o : ℕ). row_bound (created_rows old o table)) closed.0 in
        omega (arith, raised, same_bound))
        (taken.states one less))

    pub bounds_same : (table : ℕ) → table < table_count old → before object ≡ true
        → max (high table) (fold max 0 (bounds_of new after table)) ≡ max (get_or old (high_at (table_block old table)) 0) (fold max 0 (bounds_of old before table))
    bounds_same table lt is =
        let more = no_more table in
        let less = no_less table lt in
        let rises = taken.rises table lt in
        let most = taken.most table lt in
        let own = bound_among old before table object number is in
        omega (arith, more, less, rises, most, own)

  used_same : (table : ℕ) → table < table_count old → used_up new table ≡ used_up old table
  used_same table lt =
      let bounds = bounds_same (is_undecided old) (is_undecided new) was_undecided still_undecided table lt open_is in
      let at = high_is table lt in
      omega (arith, bounds, at)

  next_same : (table : ℕ) → table < table_count old → next_row_of new table ≡ next_row_of old table
  next_same table lt =
      let opened = (and_parts (is_open old object) (eqb (commit_word old object) 0) open_is).0 in
      let bounds = bounds_same (is_open old) (is_open new) was_open (λ one less kept is. still_open one kept is) table lt opened in
      let at = high_is table lt in
      omega (arith, bounds, at)

  -- ── stamps ──

  -- a row that the transaction created is used up
  own_used : (table row : ℕ) → table < table_count old → row < capacity old (created_header (table_block old table)) → HasEntry old object 1 table row → row < used_up new table
  own_used table row lt published has =
      let few = few_tables old fits.entry.table_count in
      let rows = few_rows old fits (created_header (table_block old table)) (created_is old table lt) in
      let under = created_below old object table row (omega (arith, lt, few)) (omega (arith, published, rows)) has in
      let bound = bound_among old (is_undecided old) table object number open_is in
      let used = used_same table lt in
      omega (arith, under, bound, used)

  module _ (table : ℕ) (lt : table < table_count old) where
    abbrev block : ℕ
    block = table_block old table

    born : (row : ℕ) → row < capacity old (created_header block) → creator new table row ≡ get_or new (birth_at old table row) 0
    born row published = creator_at old new same table lt fits.entry.arrays row published

    ended : (row : ℕ) → row < capacity old (ended_header block) → ender new table row ≡ get_or new (end_at old table row) 0
    ended row published = ender_at old new same table lt fits.entry.arrays row published

    undecided_on : (kind row : ℕ) (is : IsUndecided old kind table row) → get_or new (state_at is.object) 0 ≡ get_or old (state_at is.object) 0 → IsUndecided new kind table row
    undecided_on kind row is kept = record {
      object = is.object;
      object_is = is.object_is;
      undecided = still_undecided is.object is.object_is kept is.undecided;
      entry = subst (λ (words : List ℕ). Contains words (entry_word kind table row)) (sym (entries_same is.object is.object_is)) is.entry;
    }

    dead_fits : (row : ℕ) → row < capacity old (created_header block) → HasEntry old object 1 table row → get_or new (birth_at old table row) 0 ≡ no_commit → CreatorFits new table row
    dead_fits row published has dead = inr (inl (own_used table row lt published has, inl (born row published ∙ dead)))

    creator_fits : (row : ℕ) → row < capacity old (created_header block) → CreatorFits old table row → CreatorFits new table row
    creator_fits row published was = ⊎_elim
        (λ kept. kept_fits kept was)
        (λ (killed : IsKilled old new object table row). dead_fits row published killed.entry killed.dead)
        (taken.creators table row lt published)
      where
        kept_fits : get_or new (birth_at old table row) 0 ≡ get_or old (birth_at old table row) 0 → CreatorFits old table row → CreatorFits new table row
        kept_fits kept was =
            let stamp : creator new table row ≡ creator old table row = born row published ∙ kept in
            let used = used_same table lt in
            let last = last_same in
            ⊎_elim (λ none. inl (stamp ∙ none))
            (λ rest. ⊎_elim
            (λ given.
            let low = given.0 in
            inr (inl (omega (arith, low, used), ⊎_elim (λ dead. inl (stamp ∙ dead)) (λ commit. inr (omega (arith, commit, stamp, last))) given.1)))
            (λ later. later_fits stamp later.0 later.1) rest)
            was
          where
            later_fits : creator new table row ≡ creator old table row → last_commit old < creator old table row → IsUndecided old 1 table row → CreatorFits new table row
            later_fits stamp above is = ⊎_elim
                (λ still. let last = last_same in inr (inr (omega (arith, above, stamp, last), undecided_on 1 row is still)))
                (λ closed.
                let all : IsAllTaken old new object = closed.2 in
                let has : HasEntry old object 1 table row = subst (λ (o : ℕ). HasEntry old o 1 table row) closed.0 is.entry in
                ⊎_elim (λ dead. dead_fits row published has dead) (λ low. let at = born row published in absurd (omega (arith, low, at, stamp, above))) (all.creators table row lt published has))
                (taken.states is.object is.object_is)

    -- a row that a commit created has its stamp still
    committed_kept : (row : ℕ) → row < capacity old (created_header block) → 1 ≤ get_or old (birth_at old table row) 0 → get_or old (birth_at old table row) 0 ≤ last_commit old → creator new table row ≡ creator old table row
    committed_kept row published first most = ⊎_elim
        (λ kept. born row published ∙ kept)
        (λ (killed : IsKilled old new object table row). absurd (⊎_elim (λ none. omega (arith, none, first)) (λ above. omega (arith, above, most)) killed.was))
        (taken.creators table row lt published)

    ender_fits : (row : ℕ) → (row < used_up old table → row < capacity old (created_header block)) → row < capacity old (ended_header block) → EnderFits old table row → EnderFits new table row
    ender_fits row room published was = ⊎_elim
        (λ kept. kept_fits kept was)
        (λ (freed : IsFreed old new object table row). inl (ended row published ∙ freed.none))
        (taken.enders table row lt published)
      where
        kept_fits : get_or new (end_at old table row) 0 ≡ get_or old (end_at old table row) 0 → EnderFits old table row → EnderFits new table row
        kept_fits kept was =
            let stamp : ender new table row ≡ ender old table row = ended row published ∙ kept in
            let used = used_same table lt in
            let last = last_same in
            ⊎_elim (λ none. inl (stamp ∙ none))
            (λ rest. ⊎_elim
            (λ (ends : IsEnded old table row).
            let given = ends.given in let first = ends.first in let later = ends.later in let most = ends.last in
            let birth = committed_kept row (room ends.given) first (omega (arith, later, most)) in
            inr (inl (record { given = omega (arith, given, used); first = omega (arith, first, birth); later = omega (arith, later, birth, stamp); last = omega (arith, most, stamp, last) })))
            (λ later. later_fits stamp later.0 later.1) rest)
            was
          where
            later_fits : ender new table row ≡ ender old table row → last_commit old < ender old table row → IsUndecided old 2 table row → EnderFits new table row
            later_fits stamp above is = ⊎_elim
                (λ still. let last = last_same in inr (inr (omega (arith, above, stamp, last), undecided_on 2 row is still)))
                (λ closed.
                let all : IsAllTaken old new object = closed.2 in
                let has : HasEntry old object 2 table row = subst (λ (o : ℕ). HasEntry old o 2 table row) closed.0 is.entry in
                let low = all.enders table row lt published has in
                let at = ended row published in
                absurd (omega (arith, low, at, stamp, above)))
                (taken.states is.object is.object_is)

    alike : RowsAlike old new table
    alike = record {
      last = last_same;
      created_room = λ room. let used = used_same table lt in omega (arith, room, used);
      ended_room = λ room. let used = used_same table lt in omega (arith, room, used);
      next =
          let next = next_same table lt in
          let used = used_same table lt in
          let rows = fits.rows table lt in
          let room = rows.rows in
          omega (arith, next, used, room);
      high = let rises = taken.rises table lt in let at = high_is table lt in omega (arith, rises, at);
      created = creator_fits;
      ended = ender_fits;
      committed = λ row published first most. ⊎_elim
          (λ kept. born row published ∙ kept)
          (λ (killed : IsKilled old new object table row).
          let dead = killed.dead in
          let at = born row published in
          let low = last_commit_low old fits in
          let last = last_same in
          absurd (omega (arith, dead, at, most, last, low)))
          (taken.creators table row lt published);
    }

  -- ── rules ──

  entries_kept : Keeps new entries_rule
  unfolding entries_rule
  entries_kept = record {
    checks = all_from Holds (flat_map (λ o. entry_checks new 1 (entry_places new o)) (filter (is_open new) (below 16))) (λ c is.
        let (one, among, here) = Contains-flat_map (λ o. entry_checks new 1 (entry_places new o)) (filter (is_open new) (below 16)) c is in
        let parts = Contains-filter (is_open new) (below 16) one among in
        let lt = Contains-below 16 one parts.0 in
        let was = was_open one lt parts.1 in
        let checks : entry_checks new 1 (entry_places new one) ≡ entry_checks old 1 (entry_places old one) =
        ap (entry_checks new 1) (entry_places_same old new same one lt) ∙ entry_checks_same old new same 1 (entry_places old one) (λ at has. entry_kept one at lt has) in
        let rule = fits.entry.entries in
        All-contains Holds (flat_map (λ o. entry_checks old 1 (entry_places old o)) (filter (is_open old) (below 16))) c rule.checks
        (flat_map-Contains (λ o. entry_checks old 1 (entry_places old o)) (filter (is_open old) (below 16)) one c (filter-Contains (is_open old) (below 16) one parts.0 was)
        (subst (λ (cs : List Check). Contains cs c) checks here)));
  }

  transactions : TransactionsFit old new
  transactions = record {
    last = record { checks = subst (λ (n : ℕ). All Holds (check last_at (leb n (2 ^ 40 - 1)) ∷ [])) (sym last_kept) fits.entry.last.checks };
    objects = objects_kept old new same fits.entry.objects
        (λ one lt. let low = state_low old fits one lt in ⊎_elim (λ e. omega (arith, e, low)) (λ closed. let none = closed.1 in omega (arith, none)) (taken.states one lt))
        (λ one lt. let low = commit_low old fits one lt in let kept = commit_kept one lt in let last = last_kept in omega (arith, low, kept, last));
    entries = entries_kept;
    rows = λ table lt. rows_same old new same table lt fits.entry.arrays (alike table lt) (λ column is. values_same old new fits.entry.trees column is (same_tree old new same column is)) (fits.rows table lt);
  }

  pub taken_still : FitsStill old new
  taken_still = record {
    fits = still_fits old new (IsUndoWord old) image fits may taken.only transactions;
    shows = state_same old new same fits.entry.arrays fits.codes stamps fits.rows;
  }
    where
      stamps : StampsAlike old new
      stamps = record {
        last = last_same;
        next = next_same;
        created = λ table row commit lt within first most. ⊎_elim
            (λ kept. ap (λ (stamp : ℕ). eqb stamp commit) (ap (λ (place : ℕ). get_or new place 0) (place_same old new same fits.entry.arrays (created_header (table_block old table)) row (created_is old table lt) within) ∙ kept))
            (λ (killed : IsKilled old new object table row).
            let place = ap (λ (p : ℕ). get_or new p 0) (place_same old new same fits.entry.arrays (created_header (table_block old table)) row (created_is old table lt) within) in
            let dead = killed.dead in
            let low = last_commit_low old fits in
            ne_eqb (array_word new (created_header (table_block old table)) row) commit (λ e. omega (arith, e, place, dead, most, low))
            ∙ sym (ne_eqb (array_word old (created_header (table_block old table)) row) commit (λ e. ⊎_elim (λ none. omega (arith, none, e, first)) (λ above. omega (arith, above, e, most)) killed.was)))
            (taken.creators table row lt within);
        ended = λ table row commit lt within first most. ⊎_elim
            (λ kept. ap (λ (stamp : ℕ). eqb stamp commit) (ap (λ (place : ℕ). get_or new place 0) (place_same old new same fits.entry.arrays (ended_header (table_block old table)) row (ended_is old table lt) within) ∙ kept))
            (λ (freed : IsFreed old new object table row).
            let place = ap (λ (p : ℕ). get_or new p 0) (place_same old new same fits.entry.arrays (ended_header (table_block old table)) row (ended_is old table lt) within) in
            let none = freed.none in
            let above = freed.was in
            ne_eqb (array_word new (ended_header (table_block old table)) row) commit (λ e. omega (arith, e, place, none, first))
            ∙ sym (ne_eqb (array_word old (ended_header (table_block old table)) row) commit (λ e. omega (arith, above, e, most))))
            (taken.enders table row lt within);
      }

  pub taken_stays : HaveNoNew 512 old → StaysQuiet old new
  taken_stays clear = record { still = taken_still; quiet = none_new old new (IsUndoWord old) image fits clear may taken.only }
