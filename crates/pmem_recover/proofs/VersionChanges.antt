-- Opening's step from version 1 to version 2: the words that it changes, what each cut of it shows, and its end.
use Rattle.std.proofs.Common.{◌≡◌, ◌≢◌, ◌⊎◌, inl, inr, ⊎_elim, ℕ, ◌+◌, ◌%◌, ◌<◌, ◌≤◌, true, false, ◌||◌, eqb, List, [], ◌∷◌, ◌++◌, length, get_or, map, set, refl, sym, ◌∙◌, ap, subst, arith}
use Rattle.std.specs.Prelude.{All, Contains}
use Rattle.std.proofs.lemmas.Bool.{cases_Bool, cases_eq, cond-false, cond-true, eqb-true, eq-eqb, ne_eqb, or_cases, or_from, or_left, or_right, both_ways}
use Rattle.std.proofs.lemmas.List.{get_or-set_other, get_or-set_same, length-set, map-append}
use Rattle.std.proofs.lemmas.List.Elements.{All-contains, Contains-append_cases, Contains-append_left}
use Rattle.image_layout.specs.Fixed.{table_slot_at, version_at}
use Rattle.image_layout.specs.Places.{below, place_in}
use Rattle.image_layout.specs.Records.{column_at}
use Rattle.image_layout.specs.Tables.{column_count, column_record, columns_of, inner_columns, is_first_version, table_block, table_blocks, table_count}
use Rattle.image_layout.specs.Checks.{check, Keeps}
use Rattle.image_layout.specs.EntryRules.{KeepsEntryRules, table_count_rule, table_slot_rule, version_rule}
use Rattle.image_layout.proofs.Heap.{Holds}
use Rattle.image_layout.proofs.Members.{below-Contains, Contains-below, Contains-cons, Contains-here, Contains-map, Contains-nil, Contains-there, map-Contains}
use Rattle.image_layout.proofs.OwnersApart.{all_from}
use Rattle.image_layout.proofs.Ranges.{map_same}
use Rattle.image_layout.proofs.TableParts.{common, first_inner, inner_record, second_inner, table_live}
use Rattle.image_layout.proofs.TableSlots.{PointsToTable, few_tables, one_table, table_in_image}
use Rattle.pm_model.specs.Changes.{HoldsOnWords}
use Rattle.pm_model.specs.Needed.{Stores, StoresOfParts, after_mending, needed_parts}
use Rattle.pm_model.specs.Plans.{EachCut, IsPlan, Part, finished, footprint, one_store, words_after}
use Rattle.pm_model.proofs.Cuts.{cut-one_store}
use Rattle.pm_model.proofs.NeededStores.{after-hit, after-written, needed-cuts, needed-finished, needed-plan}
use Rattle.pm_model.proofs.Alone.{length-words_after}
use Rattle.pm_model.proofs.PlanLaw.{words_after-kept}
use Rattle.pm_model.proofs.Words.{ext_words}
use Rattle.shown_state.specs.Mending.{count_columns, version_mending}
use Rattle.pmem_recover.specs.declared.change.WordChange.{WordChange}
use Rattle.pmem_recover.specs.Changes.{change, change_part, change_parts}
use Rattle.pmem_recover.specs.LaneStep.{IsApartImage}
use Rattle.pmem_recover.specs.Steps.{step_parts}
use Rattle.pmem_recover.specs.VersionStep.{EndsVersionStep, IsBesideStep, ShowsVersionStep, count_change, version_changes, version_step}
use Rattle.pmem_recover.proofs.Changes.{word_after-hit}
use Rattle.pmem_recover.proofs.Parts.{parts-one}
use Rattle.pmem_recover.proofs.Steps.{step-by}

-- ── changes as stores ──

pub stored_by : (Q : ℕ → ℕ → Type 0) (changes : List WordChange) → ((c : WordChange) → Contains changes c → Q c.place.0 c.value) → Stores Q (change_part changes)
stored_by Q [] each = tt
stored_by Q (c ∷ changes) each = (each c (Contains-here c changes), stored_by Q changes (λ d there. each d (Contains-there c d changes there)))

pub stored_parts : (Q : ℕ → ℕ → Type 0) (changes : List WordChange) → ((c : WordChange) → Contains changes c → Q c.place.0 c.value) → StoresOfParts Q (change_parts changes)
stored_parts Q [] each = tt
stored_parts Q (c ∷ changes) each = ((each c (Contains-here c changes), tt), stored_parts Q changes (λ d there. each d (Contains-there c d changes there)))

pub written : (changes : List WordChange) (c : WordChange) → Contains changes c → footprint (change_part changes) c.place.0 ≡ true
written [] c is = absurd (Contains-nil c is)
written (d ∷ changes) c is = ⊎_elim
    (λ (here : d ≡ c). or_left (eqb c.place.0 d.place.0) (footprint (change_part changes) c.place.0) (eq-eqb c.place.0 d.place.0 (ap (λ (x : WordChange). x.place.0) (sym here))))
    (λ there. or_right (eqb c.place.0 d.place.0) (footprint (change_part changes) c.place.0) (written changes c there))
    (Contains-cons d c changes is)

pub unwritten : (changes : List WordChange) (w : ℕ) → ((c : WordChange) → Contains changes c → w ≢ c.place.0) → footprint (change_part changes) w ≡ false
unwritten [] w apart = refl
unwritten (c ∷ changes) w apart =
    or_from (eqb w c.place.0) (footprint (change_part changes) w) (ne_eqb w c.place.0 (apart c (Contains-here c changes)))
    (unwritten changes w (λ d there. apart d (Contains-there c d changes there)))

-- ── the version as it is read ──

pub first_read : (words : List ℕ) (at word : ℕ) → at ≡ version_at → word ≡ get_or words at 0 → word ≡ 1 → is_first_version words ≡ true
first_read words at word here is one = eq-eqb (get_or words version_at 0) 1 (ap (λ (k : ℕ). get_or words k 0) (sym here) ∙ sym is ∙ one)

pub later_read : (words : List ℕ) (at word : ℕ) → at ≡ version_at → word ≡ get_or words at 0 → word ≢ 1 → is_first_version words ≡ false
later_read words at word here is other = ne_eqb (get_or words version_at 0) 1 (λ one. other (is ∙ ap (λ (k : ℕ). get_or words k 0) here ∙ one))

-- ── the step's parts ──

module _ (words : List ℕ) where
  abbrev counted : List WordChange
  counted = map (count_change words) (below (table_count words))

  each_part : (tables : List ℕ) → change_parts (map (count_change words) tables) ≡ map (count_columns words) tables
  each_part [] = refl
  each_part (table ∷ tables) = ap (λ (parts : List Part). count_columns words table ∷ parts) (each_part tables)

  pub changes_are : is_first_version words ≡ true → version_mending words ≡ change_parts (version_changes words)
  changes_are first =
      cond-true (is_first_version words) (map (count_columns words) (below (table_count words)) ++ one_store version_at 2 ∷ []) [] first
      ∙ ap (λ (parts : List Part). parts ++ one_store version_at 2 ∷ []) (sym (each_part (below (table_count words))))
      ∙ sym (map-append (λ (c : WordChange). one_store c.place.0 c.value) counted (change version_at 2 ∷ []))

  pub none_later : is_first_version words ≡ false → version_mending words ≡ []
  none_later second = cond-false (is_first_version words) (map (count_columns words) (below (table_count words)) ++ one_store version_at 2 ∷ []) [] second

  pub no_parts : is_first_version words ≡ false → (number : ℕ) → step_parts (λ n. version_mending) words number ≡ []
  no_parts second number = step-by (λ n. version_mending) words number [] (none_later second)

  pub parts_are : is_first_version words ≡ true → step_parts (λ n. version_mending) words 0 ≡ needed_parts words (change_parts (version_changes words))
  parts_are first = step-by (λ n. version_mending) words 0 (change_parts (version_changes words)) (changes_are first)

  abbrev AnyStore : ℕ → ℕ → Type 0
  AnyStore place value = Unit {0}

  any_stores : StoresOfParts AnyStore (change_parts (version_changes words))
  any_stores = stored_parts AnyStore (version_changes words) (λ c is. tt)

  -- the words after it
  abbrev pub upgraded : List ℕ
  upgraded = finished (change_parts (version_changes words)) words

  pub upgraded_is : is_first_version words ≡ true → after_mending version_mending words ≡ upgraded
  upgraded_is first =
      ap (λ (parts : List Part). finished (needed_parts words parts) words) (changes_are first)
      ∙ needed-finished AnyStore (change_parts (version_changes words)) words any_stores

  -- a change of the step: a table's, or the version's
  pub change_is : (c : WordChange) → Contains (version_changes words) c → ((table : ℕ) × (table < table_count words) × (count_change words table ≡ c)) ⊎ (change version_at 2 ≡ c)
  change_is c is = ⊎_elim
      (λ among. let (table, within, here) = Contains-map (count_change words) (below (table_count words)) c among in inl (table, Contains-below (table_count words) table within, here))
      (λ last. ⊎_elim (λ here. inr here) (λ none. absurd (Contains-nil c none)) (Contains-cons (change version_at 2) c [] last))
      (Contains-append_cases counted (change version_at 2 ∷ []) c is)

  pub among : (table : ℕ) → table < table_count words → Contains (version_changes words) (count_change words table)
  among table lt = Contains-append_left counted (change version_at 2 ∷ []) (count_change words table) (map-Contains (count_change words) (below (table_count words)) table (below-Contains (table_count words) table lt))

-- they lie in the image
pub in_image : (words : List ℕ) → length words % 32768 ≡ 0 → 32768 ≤ length words → Keeps words table_count_rule → Keeps words table_slot_rule
    → All (λ (c : WordChange). c.place.0 < length words) (version_changes words)
in_image words whole some counted slots = all_from (λ (c : WordChange). c.place.0 < length words) (version_changes words) (λ c is. ⊎_elim
    (λ one. let (table, lt, here) = one in
    let points = one_table words table counted slots lt in
    let fits = table_in_image words (get_or words (table_slot_at table) 0) whole points in
    let least = points.least in
    subst (λ (d : WordChange). d.place.0 < length words) here (omega (arith, fits, least)))
    (λ last. subst (λ (d : WordChange). d.place.0 < length words) last (omega (arith, some)))
    (change_is words c is))

-- where the version is 1, something is to be stored
pub some_parts : (words : List ℕ) → 32768 ≤ length words → is_first_version words ≡ true → step_parts (λ n. version_mending) words 0 ≢ []
some_parts words some first none =
    let same : words ≡ upgraded words = ap (λ (parts : List Part). finished parts words) (sym none ∙ parts_are words first) ∙ needed-finished (AnyStore words) (change_parts (version_changes words)) words (any_stores words) in
    let two : get_or (upgraded words) version_at 0 ≡ 2 = word_after-hit (counted words) (change version_at 2) words version_at refl (omega (arith, some)) in
    let one = eqb-true (get_or words version_at 0) 1 first in
    let word : get_or words version_at 0 ≡ get_or (upgraded words) version_at 0 = ap (λ (ws : List ℕ). get_or ws version_at 0) same in
    omega (arith, two, one, word)

-- ── where owner words are apart ──

module _ (base : List ℕ) (asked : IsApartImage base) where
  rules : KeepsEntryRules base
  rules = asked.rules

  abbrev block : ℕ → ℕ
  block table = table_block base table

  table_at : (table : ℕ) → table < table_count base → PointsToTable base (get_or base (table_slot_at table) 0)
  table_at table lt = one_table base table rules.table_count rules.table_slots lt

  behind : (table : ℕ) → table < table_count base → 2048 ≤ block table
  behind table lt = (table_live base rules.reserved rules.descriptors rules.table_count rules.table_slots asked.owners table lt).behind

  within : (table : ℕ) → table < table_count base → block table + 80 ≤ length base
  within table lt =
      let points = table_at table lt in
      let fits = table_in_image base (get_or base (table_slot_at table) 0) asked.segments points in
      let least = points.least in
      omega (arith, fits, least)

  few : (table : ℕ) → table < table_count base → table < 32
  few table lt = let most = few_tables base rules.table_count in omega (arith, lt, most)

  -- the first word of a table's block isn't the word of another that counts the columns in it
  heads_apart : (table other : ℕ) → table < table_count base → other < table_count base → block other ≢ block table + 6
  heads_apart table other one two same =
      let a = table_live base rules.reserved rules.descriptors rules.table_count rules.table_slots asked.owners table one in
      let b = table_live base rules.reserved rules.descriptors rules.table_count rules.table_slots asked.owners other two in
      let a_holds = a.holds in let b_holds = b.holds in
      let here = common base rules.reserved rules.descriptors rules.table_count rules.table_slots asked.owners (block table) a.size (block other) b.size (block other) a.live b.live
      (omega (arith, same)) (omega (arith, same, a_holds)) (omega arith) (omega (arith, b_holds)) in
      omega (arith, here, same)

  -- words that the step doesn't write
  fixed_beside : (w : ℕ) → w < 2048 → w ≢ version_at → IsBesideStep base w
  fixed_beside w low no_version = record { no_version = no_version; no_count = λ table lt same. let high = behind table lt in omega (arith, low, high, same) }

  head_beside : (table : ℕ) → table < table_count base → IsBesideStep base (block table)
  head_beside table lt = record {
    no_version = λ same. let high = behind table lt in omega (arith, same, high);
    no_count = λ other published same. heads_apart other table published lt same;
  }

  beside_kept : (w : ℕ) → IsBesideStep base w → get_or (upgraded base) w 0 ≡ get_or base w 0
  beside_kept w beside =
      ap (λ (ws : List ℕ). get_or ws w 0) (parts-one (version_changes base) base)
      ∙ words_after-kept (change_part (version_changes base)) base w (unwritten (version_changes base) w (λ c is same. ⊎_elim
      (λ one. let (table, lt, here) = one in beside.no_count table lt (same ∙ ap (λ (d : WordChange). d.place.0) (sym here)))
      (λ last. beside.no_version (same ∙ ap (λ (d : WordChange). d.place.0) (sym last)))
      (change_is base c is)))

  -- the word of a table that counts the columns in its block has its count
  abbrev HasCount : ℕ → ℕ → Type 0
  HasCount w value = (table : ℕ) → table < table_count base → w ≡ block table + 6 → value ≡ column_count base (block table)

  each_counts : (c : WordChange) → Contains (version_changes base) c → HasCount c.place.0 c.value
  each_counts c is table lt same = ⊎_elim
      (λ one. let (other, published, here) = one in
      let place : block other + 6 ≡ c.place.0 = ap (λ (d : WordChange). d.place.0) here in
      let value : column_count base (block other) ≡ c.value = ap (λ (d : WordChange). d.value) here in
      let blocks : block other ≡ block table = omega (arith, place, same) in
      sym value ∙ ap (column_count base) blocks)
      (λ last. absurd (let place : version_at ≡ c.place.0 = ap (λ (d : WordChange). d.place.0) last in let high = behind table lt in omega (arith, place, same, high)))
      (change_is base c is)

  count_stored : (table : ℕ) → table < table_count base → get_or (upgraded base) (block table + 6) 0 ≡ column_count base (block table)
  count_stored table lt =
      ap (λ (ws : List ℕ). get_or ws (block table + 6) 0) (parts-one (version_changes base) base)
      ∙ after-written HasCount (change_part (version_changes base)) base (block table + 6) (stored_by HasCount (version_changes base) each_counts)
      (let fits = within table lt in omega (arith, fits)) (written (version_changes base) (count_change base table) (among base table lt)) table lt refl

  version_stored : get_or (upgraded base) version_at 0 ≡ 2
  version_stored = let some = asked.some in word_after-hit (counted base) (change version_at 2) base version_at refl (omega (arith, some))

  -- ── a stage of the step: some of its words are stored, and the version isn't ──

  record IsStage (now : List ℕ) : Type 0 where
    pub size : length now ≡ length base
    pub each : (w : ℕ) → (get_or now w 0 ≡ get_or base w 0) ⊎ (get_or now w 0 ≡ get_or (upgraded base) w 0)
    pub version : get_or now version_at 0 ≡ 1

  -- words whose words beside the step are the same have the same tables
  module _ (now : List ℕ) (size : length now ≡ length base) (kept : (w : ℕ) → IsBesideStep base w → get_or now w 0 ≡ get_or base w 0) where
    count_kept : table_count now ≡ table_count base
    count_kept = kept 515 (fixed_beside 515 (omega arith) (λ e. omega (arith, e)))

    block_kept : (table : ℕ) → table < table_count base → table_block now table ≡ block table
    block_kept table lt = let low = few table lt in ap place_in (kept (table_slot_at table) (fixed_beside (table_slot_at table) (omega (arith, low)) (λ e. omega (arith, e))))

    columns_kept : (table : ℕ) → table < table_count base → column_count now (block table) ≡ column_count base (block table)
    columns_kept table lt = kept (block table) (head_beside table lt)

    tables_kept : table_blocks now ≡ table_blocks base
    tables_kept =
        ap (λ (n : ℕ). map (table_block now) (below n)) count_kept
        ∙ map_same (table_block now) (table_block base) 0 (table_count base) (λ k le lt. block_kept k (omega (arith, lt)))

    -- all columns of a table stand in its block
    all_inside : (words : List ℕ) (table : ℕ) → table < table_count base → column_count words (block table) ≡ column_count base (block table) → inner_columns words (block table) ≡ column_count base (block table)
        → columns_of words (block table) ≡ map (column_at (block table)) (below (column_count base (block table)))
    all_inside words table lt count inner =
        ap (λ (n : ℕ). map (column_record words (block table)) (below n)) count
        ∙ map_same (column_record words (block table)) (column_at (block table)) 0 (column_count base (block table)) (λ k le under. inner_record words (block table) k (omega (arith, under, inner)))

  module _ (first : is_first_version base ≡ true) where
    one_version : get_or base version_at 0 ≡ 1
    one_version = eqb-true (get_or base version_at 0) 1 first

    base_columns : (table : ℕ) → table < table_count base → columns_of base (block table) ≡ map (column_at (block table)) (below (column_count base (block table)))
    base_columns table lt = all_inside base refl (λ w is. refl) base table lt refl (first_inner base (block table) first)

    -- it shows what the words before it show
    module _ (now : List ℕ) (stage : IsStage now) where
      beside_stage : (w : ℕ) → IsBesideStep base w → get_or now w 0 ≡ get_or base w 0
      beside_stage w is = ⊎_elim (λ same. same) (λ stored. stored ∙ beside_kept w is) (stage.each w)

      stage_first : is_first_version now ≡ true
      stage_first = eq-eqb (get_or now version_at 0) 1 stage.version

      changes_same : version_changes now ≡ version_changes base
      changes_same =
          ap (λ (n : ℕ). map (count_change now) (below n) ++ change version_at 2 ∷ []) (count_kept now stage.size beside_stage)
          ∙ ap (λ (cs : List WordChange). cs ++ change version_at 2 ∷ []) (map_same (count_change now) (count_change base) 0 (table_count base) (λ k le lt.
          let published : k < table_count base = omega (arith, lt) in
          ap (λ (b : ℕ). change (b + 6) (column_count now b)) (block_kept now stage.size beside_stage k published)
          ∙ ap (change (block k + 6)) (columns_kept now stage.size beside_stage k published)))

      stage_again : upgraded now ≡ upgraded base
      stage_again =
          ap (λ (cs : List WordChange). finished (change_parts cs) now) changes_same
          ∙ parts-one (version_changes base) now
          ∙ ext_words (words_after part now) (words_after part base) (length-words_after part now ∙ stage.size ∙ sym (length-words_after part base)) each
          ∙ sym (parts-one (version_changes base) base)
        where
          part : Part
          part = change_part (version_changes base)

          each : (w : ℕ) → get_or (words_after part now) w 0 ≡ get_or (words_after part base) w 0
          each w = ⊎_elim
              (λ hit. after-hit (AnyStore base) part now base w (stored_by (AnyStore base) (version_changes base) (λ c is. tt)) stage.size hit)
              (λ miss.
              let kept = words_after-kept part base w miss in
              words_after-kept part now w miss
              ∙ ⊎_elim (λ same. same) (λ stored. stored ∙ ap (λ (ws : List ℕ). get_or ws w 0) (parts-one (version_changes base) base) ∙ kept) (stage.each w)
              ∙ sym kept)
              (cases_Bool (footprint part w))

      stage_shows : ShowsVersionStep base now
      stage_shows = record {
        size = stage.size;
        beside = beside_stage;
        tables = tables_kept now stage.size beside_stage;
        columns = λ table lt. let count = columns_kept now stage.size beside_stage table lt in
            all_inside now stage.size beside_stage now table lt count (first_inner now (block table) stage_first ∙ count) ∙ sym (base_columns table lt);
        again = upgraded_is now stage_first ∙ stage_again ∙ sym (upgraded_is base first);
      }

    -- ── its end ──

    end_size : length (upgraded base) ≡ length base
    end_size = ap (length {A = ℕ}) (parts-one (version_changes base) base) ∙ length-words_after (change_part (version_changes base)) base

    end_second : is_first_version (upgraded base) ≡ false
    end_second = ne_eqb (get_or (upgraded base) version_at 0) 1 (λ one. let two = version_stored in omega (arith, one, two))

    end_shows : ShowsVersionStep base (upgraded base)
    end_shows = record {
      size = end_size;
      beside = beside_kept;
      tables = tables_kept (upgraded base) end_size beside_kept;
      columns = λ table lt.
          all_inside (upgraded base) end_size beside_kept (upgraded base) table lt (columns_kept (upgraded base) end_size beside_kept table lt)
          (second_inner (upgraded base) (block table) end_second ∙ count_stored table lt) ∙ sym (base_columns table lt);
      again = ap (λ (parts : List Part). finished (needed_parts (upgraded base) parts) (upgraded base)) (none_later (upgraded base) end_second) ∙ sym (upgraded_is base first);
    }

    -- ── each cut ──

    -- a change of another word than the version, to what stands there at the end
    record IsOwn (c : WordChange) : Type 0 where
      pub apart : c.place.0 ≢ version_at
      pub stands : get_or (upgraded base) c.place.0 0 ≡ c.value
      pub inside : c.place.0 < length base

    next_stage : (now : List ℕ) (c : WordChange) → IsOwn c → IsStage now → IsStage (set now c.place.0 c.value)
    next_stage now c own stage = record {
      size = length-set now c.place.0 c.value ∙ stage.size;
      each = λ w. ⊎_elim
          (λ (here : w ≡ c.place.0). inr (ap (λ (k : ℕ). get_or (set now c.place.0 c.value) k 0) here
          ∙ get_or-set_same now c.place.0 c.value 0 (let size = stage.size in let lt = own.inside in omega (arith, size, lt)) ∙ sym own.stands ∙ ap (λ (k : ℕ). get_or (upgraded base) k 0) (sym here)))
          (λ apart. let kept = get_or-set_other now c.place.0 w c.value 0 apart in ⊎_elim (λ same. inl (kept ∙ same)) (λ stored. inr (kept ∙ stored)) (stage.each w))
          (cases_eq w c.place.0);
      version = get_or-set_other now c.place.0 version_at c.value 0 (λ same. own.apart (sym same)) ∙ stage.version;
    }

    stage_cuts : (changes : List WordChange) (now : List ℕ) → ((c : WordChange) → Contains changes c → IsOwn c) → IsStage now → finished (change_parts (changes ++ change version_at 2 ∷ [])) now ≡ upgraded base
        → EachCut (ShowsVersionStep base) (change_parts (changes ++ change version_at 2 ∷ [])) now
    stage_cuts [] now own stage ends =
        let last = subst (ShowsVersionStep base) (sym ends) end_shows in
        (cut-one_store (ShowsVersionStep base) version_at 2 now (stage_shows now stage) last, last)
    stage_cuts (c ∷ changes) now own stage ends =
        let next = next_stage now c (own c (Contains-here c changes)) stage in (
          cut-one_store (ShowsVersionStep base) c.place.0 c.value now (stage_shows now stage) (stage_shows (set now c.place.0 c.value) next),
          stage_cuts changes (set now c.place.0 c.value) (λ d there. own d (Contains-there c d changes there)) next ends,
        )

    own_change : (c : WordChange) → Contains (counted base) c → IsOwn c
    own_change c is =
        let (table, within_tables, here) = Contains-map (count_change base) (below (table_count base)) c is in
        let lt = Contains-below (table_count base) table within_tables in
        let high = behind table lt in
        let fits = within table lt in
        subst IsOwn here (record { apart = λ same. omega (arith, same, high); stands = count_stored table lt; inside = omega (arith, fits) })

    first_cuts : EachCut (ShowsVersionStep base) (step_parts (λ n. version_mending) base 0) base
    first_cuts = subst (λ (parts : List Part). EachCut (ShowsVersionStep base) parts base) (sym (parts_are base first))
        (needed-cuts (ShowsVersionStep base) (AnyStore base) (change_parts (version_changes base)) base (any_stores base)
        (stage_cuts (counted base) base own_change (record { size = refl; each = λ w. inl refl; version = one_version }) refl))

    first_plan : IsPlan (length base) (step_parts (λ n. version_mending) base 0)
    first_plan = subst (IsPlan (length base)) (sym (parts_are base first))
        (needed-plan (length base) (change_parts (version_changes base)) base (stored_parts (λ place value. place < length base) (version_changes base)
        (λ c is. All-contains (λ (d : WordChange). d.place.0 < length base) (version_changes base) c (in_image base asked.segments asked.some rules.table_count rules.table_slots) is)))

    first_end : EndsVersionStep base (finished (step_parts (λ n. version_mending) base 0) base)
    first_end =
        let reached : finished (step_parts (λ n. version_mending) base 0) base ≡ upgraded base =
        ap (λ (parts : List Part). finished parts base) (parts_are base first) ∙ needed-finished (AnyStore base) (change_parts (version_changes base)) base (any_stores base) in
        subst (EndsVersionStep base) (sym reached) (record { shows = end_shows; mended = sym (upgraded_is base first); version = version_stored })

  -- in version 2 it has no part
  module _ (second : is_first_version base ≡ false) where
    same_shows : ShowsVersionStep base base
    same_shows = record { size = refl; beside = λ w is. refl; tables = refl; columns = λ table lt. refl; again = refl }

    two_version : get_or base version_at 0 ≡ 2
    two_version =
        let holds = All-contains Holds (version_rule base) (check version_at (eqb (get_or base version_at 0) 1 || eqb (get_or base version_at 0) 2)) rules.version.checks
        (Contains-here (check version_at (eqb (get_or base version_at 0) 1 || eqb (get_or base version_at 0) 2)) []) in
        eqb-true (get_or base version_at 0) 2 (⊎_elim (λ one. absurd (both_ways (is_first_version base) second one)) (λ two. two) (or_cases (eqb (get_or base version_at 0) 1) (eqb (get_or base version_at 0) 2) holds))

    later_end : EndsVersionStep base base
    later_end = record { shows = same_shows; mended = sym (ap (λ (parts : List Part). finished (needed_parts base parts) base) (none_later base second)); version = two_version }

  pub step_plan : IsPlan (length base) (step_parts (λ n. version_mending) base 0)
  step_plan = ⊎_elim first_plan (λ second. subst (IsPlan (length base)) (sym (no_parts base second 0)) tt) (cases_Bool (is_first_version base))

  pub step_cuts : EachCut (ShowsVersionStep base) (step_parts (λ n. version_mending) base 0) base
  step_cuts = ⊎_elim first_cuts (λ second. subst (λ (parts : List Part). EachCut (ShowsVersionStep base) parts base) (sym (no_parts base second 0)) (same_shows second)) (cases_Bool (is_first_version base))

  pub step_end : EndsVersionStep base (finished (step_parts (λ n. version_mending) base 0) base)
  step_end = ⊎_elim first_end (λ second. subst (λ (parts : List Part). EndsVersionStep base (finished parts base)) (sym (no_parts base second 0)) (later_end second)) (cases_Bool (is_first_version base))

pub version_holds : HoldsOnWords version_step
version_holds = record {
  plan = λ base asked. step_plan base asked;
  cuts = λ base asked. step_cuts base asked;
  end = λ base asked. step_end base asked;
  stable = λ old new same asked. (subst IsApartImage (sym same) asked, ap (λ (words : List ℕ). step_parts (λ n. version_mending) words 0) same);
}
