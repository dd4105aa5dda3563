-- Raising the version keeps what fits, and shows the same: first each table's block says how many columns stand in it, and
-- then the version is 2.
use Rattle.std.proofs.Common.{◌≡◌, ◌≢◌, ◌⊎◌, inl, inr, ⊎_elim, ℕ, ◌<◌, true, false, ◌||◌, eqb, List, [], ◌∷◌, ◌++◌, length, get_or, map, set, refl, sym, ◌∙◌, ap, subst, arith}
use Rattle.std.specs.Prelude.{All, Contains}
use Rattle.std.proofs.lemmas.Bool.{both_ways, cases_Bool, cases_eq, cond-false, cond-true, eqb-true, or_cases}
use Rattle.std.proofs.lemmas.List.{get_or-set_other, get_or-set_same, length-set}
use Rattle.std.proofs.lemmas.List.Elements.{All-contains, All-head}
use Rattle.pm_model.specs.Needed.{AllStores}
use Rattle.pm_model.specs.Plans.{EachCut, finished, one_store, Part}
use Rattle.pm_model.proofs.Cuts.{cut-one_store}
use Rattle.image_layout.specs.Checks.{check}
use Rattle.image_layout.specs.Fixed.{commit_word_at, last_at, state_at, version_at}
use Rattle.image_layout.specs.Places.{below}
use Rattle.image_layout.specs.Records.{inner_columns_at}
use Rattle.image_layout.specs.Objects.{commit_word, entry_places, is_open}
use Rattle.image_layout.specs.Tables.{column_count, is_first_version, table_block, table_count}
use Rattle.image_layout.proofs.Faults.{Holds}
use Rattle.image_layout.proofs.Members.{below-Contains, Contains-below, Contains-cons, Contains-here, Contains-nil, Contains-there}
use Rattle.image_layout.proofs.OwnersApart.{all_from}
use Rattle.image_layout.proofs.TableParts.{first_inner, second_inner}
use Rattle.shown_state.specs.Fits.{Fits, is_undecided}
use Rattle.shown_state.specs.Mending.{count_columns, version_mending}
use Rattle.shown_state.specs.OpeningParts.{IsImage}
use Rattle.shown_state.specs.StepLaws.{AreClear, AreMended, VersionKeeps}
use Rattle.shown_state.proofs.ReadsStand.{reads_keep_off}
use Rattle.shown_state.proofs.ValuesApart.{at_behind}
use Rattle.opening_steps.specs.QuietImages.{StaysQuiet}
use Rattle.opening_steps.proofs.Closer.{closer_stays, IsCloser, last_same, undecided_same}
use Rattle.opening_steps.proofs.Beside.{ChangesOnly, KeepsStamps, MayChange, places}
use Rattle.opening_steps.proofs.NoneNew.{entry_word, none_new}
use Rattle.opening_steps.proofs.ObjectWords.{IsObjectWord, of_own, the_last}
use Rattle.opening_steps.proofs.Objects.{entry_places_same}
use Rattle.opening_steps.proofs.Steps.{as_it_is, step_by, step_keeps, StepStays}
use Rattle.opening_steps.proofs.Structure.{of_table, SamePlaces}
use Rattle.opening_steps.proofs.Versions.{first_is, raised, same_version, second_is}
use Rattle.opening_steps.proofs.VersionWords.{count_spot, IsVersionWord, object_or_version, of_count, the_version, versions_keep_stamps, versions_may_change}

module _ (words : List ℕ) (image : IsImage words) (fits : Fits words) (has : AreClear 16 words) where
  abbrev block : ℕ → ℕ
  block table = table_block words table

  may : MayChange words (IsVersionWord words)
  may = versions_may_change words fits

  stamps : KeepsStamps words (IsVersionWord words)
  stamps = versions_keep_stamps words fits

  -- ── words in which only those of the version differ ──

  module _ (now : List ℕ) (only : ChangesOnly (IsVersionWord words) words now) where
    -- the words of transactions are as they were
    kept : (w : ℕ) → IsObjectWord words w → get_or now w 0 ≡ get_or words w 0
    kept w object = ⊎_elim (λ e. e) (λ hit. absurd (object_or_version words fits w object hit)) (only.each w)

    state_kept : (object : ℕ) → object < 16 → get_or now (state_at object) 0 ≡ get_or words (state_at object) 0
    state_kept object lt = kept (state_at object) (of_own object 0 lt (omega arith) (λ e. omega (arith, e)) (λ e. omega (arith, e)) (omega arith))

    commit_kept : (object : ℕ) → object < 16 → commit_word now object ≡ commit_word words object
    commit_kept object lt = kept (commit_word_at object) (of_own object 1 lt (omega arith) (λ e. omega (arith, e)) (λ e. omega (arith, e)) (omega arith))

    none_open : (object : ℕ) → object < 16 → is_open now object ≡ true → ⊥
    none_open object lt opened =
        let state = eqb-true (get_or now (state_at object) 0) 1 opened in
        let same = state_kept object lt in
        let shut = has.0.1 object lt in
        omega (arith, state, same, shut)

    closer : IsCloser (IsVersionWord words) words now
    closer = record {
      only = only;
      last = kept last_at (the_last refl) ∙ has.0.0.1;
      states = λ object lt. inl (state_kept object lt);
      commits = λ object lt. inl (commit_kept object lt);
      opens = λ object lt opened. absurd (none_open object lt opened);
      undecided = λ object lt is. absurd (both_ways (is_undecided words object) (has.0.0.2 object lt) is);
    }

    still : StaysQuiet words now
    still = closer_stays words now (IsVersionWord words) image fits has.0.0.0 may stamps closer

    same : SamePlaces words now
    same = places words now (IsVersionWord words) image fits may only

    still_clear : AreClear 16 now
    still_clear = (
      (
        (
          none_new words now (IsVersionWord words) image fits has.0.0.0 may only,
          closer.last ∙ sym (last_same words now (IsVersionWord words) image fits has.0.0.0 may stamps closer),
          λ object lt. undecided_same words now (IsVersionWord words) image fits has.0.0.0 may stamps closer object lt ∙ has.0.0.2 object lt,
        ),
        λ object lt. state_kept object lt ∙ has.0.1 object lt,
      ),
      λ object lt. (
        commit_kept object lt ∙ (has.1 object lt).0,
        subst (All (λ (at : ℕ). get_or now at 0 ≡ 0)) (sym (entry_places_same words now same object lt))
            (all_from (λ (at : ℕ). get_or now at 0 ≡ 0) (entry_places words object) (λ at is.
            kept at (entry_word words object at lt is) ∙ All-contains (λ a. get_or words a 0 ≡ 0) (entry_places words object) at (has.1 object lt).1 is)),
      ),
    )

  -- ── from version 1 ──

  module _ (one : get_or words version_at 0 ≡ 1) where
    first : is_first_version words ≡ true
    first = first_is words one

    abbrev at : ℕ → ℕ
    at table = inner_columns_at (block table)

    abbrev count : ℕ → ℕ
    count table = column_count words (block table)

    -- some tables say how many columns stand in their blocks
    record IsStage (now : List ℕ) : Type 0 where
      pub size : length now ≡ length words
      pub each : (w : ℕ) → (get_or now w 0 ≡ get_or words w 0) ⊎ ((table : ℕ) × (table < table_count words) × (w ≡ at table))
      pub version : get_or now version_at 0 ≡ 1

    -- these have still to say it
    abbrev Left : List ℕ → List ℕ → Type 0
    Left now left = (table : ℕ) → table < table_count words → Contains left table ⊎ (get_or now (at table) 0 ≡ count table)

    columns_kept : (now : List ℕ) (only : (w : ℕ) → (get_or now w 0 ≡ get_or words w 0) ⊎ IsVersionWord words w) → (table : ℕ) → table < table_count words → column_count now (block table) ≡ count table
    columns_kept now only table lt = ⊎_elim (λ e. e)
        (λ hit. absurd (may.no_place (block table) (of_table table 0 lt (omega arith) (λ e. omega (arith, e)) (omega arith)) hit)) (only (block table))

    stage_words : (now : List ℕ) → IsStage now → (w : ℕ) → (get_or now w 0 ≡ get_or words w 0) ⊎ IsVersionWord words w
    stage_words now stage w = ⊎_elim (λ e. inl e) (λ hit. let (table, lt, here) = hit in inr (of_count table lt here)) (stage.each w)

    stage_only : (now : List ℕ) → IsStage now → ChangesOnly (IsVersionWord words) words now
    stage_only now stage = record {
      size = stage.size;
      each = stage_words now stage;
      inner = λ table lt. first_inner now (block table) (first_is now stage.version) ∙ columns_kept now (stage_words now stage) table lt ∙ sym (first_inner words (block table) first);
      version = same_version (stage.version ∙ sym one);
    }

    stage_still : (now : List ℕ) → IsStage now → StaysQuiet words now
    stage_still now stage = still now (stage_only now stage)

    inside : (table : ℕ) → table < table_count words → at table < length words
    inside table lt = let spot = (reads_keep_off words image fits (at table) (may.read (at table) (of_count table lt refl))).0 in spot.in_image

    apart : (table : ℕ) → table < table_count words → version_at ≢ at table
    apart table lt here =
        let behind = at_behind words fits table 0 6 (at table) (count_spot words fits table (at table) lt refl) in
        omega (arith, here, behind)

    next_stage : (now : List ℕ) (table : ℕ) → table < table_count words → IsStage now → IsStage (set now (at table) (count table))
    next_stage now table lt stage = record {
      size = length-set now (at table) (count table) ∙ stage.size;
      each = λ w. ⊎_elim (λ (here : w ≡ at table). inr (table, lt, here)) (λ other. ⊎_elim (λ e. inl (get_or-set_other now (at table) w (count table) 0 other ∙ e)) (λ hit. inr hit) (stage.each w)) (cases_eq w (at table));
      version = get_or-set_other now (at table) version_at (count table) 0 (apart table lt) ∙ stage.version;
    }

    next_left : (now : List ℕ) (table : ℕ) (left : List ℕ) → table < table_count words → IsStage now → Left now (table ∷ left) → Left (set now (at table) (count table)) left
    next_left now table left lt stage rest other under = ⊎_elim
        (λ (same : at other ≡ at table). inr (
        ap (λ (k : ℕ). get_or (set now (at table) (count table)) k 0) same
        ∙ get_or-set_same now (at table) (count table) 0 (let within = inside table lt in let size = stage.size in omega (arith, within, size))
        ∙ ap (column_count words) (blocks_same same)))
        (λ apart. ⊎_elim
        (λ left_still. ⊎_elim (λ (here : table ≡ other). absurd (apart (ap at (sym here)))) (λ there. inl there) (Contains-cons table other left left_still))
        (λ said. inr (get_or-set_other now (at table) (at other) (count table) 0 apart ∙ said))
        (rest other under))
        (cases_eq (at other) (at table))
      where
        blocks_same : at other ≡ at table → block table ≡ block other
        blocks_same same = omega (arith, same)

    -- ── version 2 ──

    module _ (now : List ℕ) (stage : IsStage now) (said : Left now []) where
      abbrev upgraded : List ℕ
      upgraded = set now version_at 2

      version_stored : get_or upgraded version_at 0 ≡ 2
      version_stored = get_or-set_same now version_at 2 0 (let size = stage.size in let large = image.one_or_more in omega (arith, size, large))

      upgraded_words : (w : ℕ) → (get_or upgraded w 0 ≡ get_or words w 0) ⊎ IsVersionWord words w
      upgraded_words w = ⊎_elim (λ here. inr (the_version here))
          (λ other. ⊎_elim (λ e. inl (get_or-set_other now version_at w 2 0 other ∙ e)) (λ hit. inr hit) (stage_words now stage w)) (cases_eq w version_at)

      upgraded_only : ChangesOnly (IsVersionWord words) words upgraded
      upgraded_only = record {
        size = length-set now version_at 2 ∙ stage.size;
        each = upgraded_words;
        inner = λ table lt.
            second_inner upgraded (block table) (second_is upgraded version_stored)
            ∙ get_or-set_other now version_at (at table) 2 0 (λ same. apart table lt (sym same))
            ∙ ⊎_elim (λ none. absurd (Contains-nil table none)) (λ (e : get_or now (at table) 0 ≡ count table). e) (said table lt)
            ∙ sym (first_inner words (block table) first);
        version = raised one version_stored;
      }

      upgraded_still : StaysQuiet words upgraded
      upgraded_still = still upgraded upgraded_only

      upgraded_mended : AreMended upgraded
      upgraded_mended = (still_clear upgraded upgraded_only, version_stored)

    abbrev parts_for : List ℕ → List Part
    parts_for left = map (count_columns words) left ++ one_store version_at 2 ∷ []

    each_cut : (left now : List ℕ) → ((table : ℕ) → Contains left table → table < table_count words) → IsStage now → Left now left
        → EachCut (StaysQuiet words) (parts_for left) now × AreMended (finished (parts_for left) now)
    each_cut [] now published stage said = (
      (cut-one_store (StaysQuiet words) version_at 2 now (stage_still now stage) (upgraded_still now stage said), upgraded_still now stage said),
      upgraded_mended now stage said,
    )
    each_cut (table ∷ left) now published stage rest =
        let lt = published table (Contains-here table left) in
        let next = next_stage now table lt stage in
        let later = each_cut left (set now (at table) (count table)) (λ other is. published other (Contains-there table other left is)) next (next_left now table left lt stage rest) in
        ((cut-one_store (StaysQuiet words) (at table) (count table) now (stage_still now stage) (stage_still (set now (at table) (count table)) next), later.0), later.1)

    abbrev tables : List ℕ
    tables = below (table_count words)

    all_cuts : EachCut (StaysQuiet words) (parts_for tables) words × AreMended (finished (parts_for tables) words)
    all_cuts = each_cut tables words (λ table is. Contains-below (table_count words) table is)
        (record { size = refl; each = λ w. inl refl; version = one }) (λ table lt. inl (below-Contains (table_count words) table lt))

    all_stores : (left : List ℕ) → ((table : ℕ) → Contains left table → table < table_count words) → AllStores (length words) (parts_for left)
    all_stores [] published = ((let large = image.one_or_more in omega (arith, large), tt), tt)
    all_stores (table ∷ left) published = ((inside table (published table (Contains-here table left)), tt), all_stores left (λ other is. published other (Contains-there table other left is)))

  -- in version 2 nothing is left to do
  two_version : is_first_version words ≡ false → get_or words version_at 0 ≡ 2
  two_version second =
      let version = get_or words version_at 0 in
      let rule = fits.entry.version in
      let holds = All-head Holds (check version_at (eqb version 1 || eqb version 2)) [] rule.checks in
      eqb-true version 2 (⊎_elim (λ first. absurd (both_ways (is_first_version words) second first)) (λ two. two) (or_cases (eqb version 1) (eqb version 2) holds))

pub version_stays : (words : List ℕ) → IsImage words → Fits words → AreClear 16 words → StepStays AreMended version_mending words
version_stays words image fits has = ⊎_elim
    (λ (hit : is_first_version words ≡ true).
    let one = eqb-true (get_or words version_at 0) 1 hit in
    let parts = map (count_columns words) (below (table_count words)) ++ one_store version_at 2 ∷ [] in
    let cuts = all_cuts words image fits has one in
    step_by AreMended version_mending words parts (cond-true (is_first_version words) parts [] hit)
    (all_stores words image fits has one (below (table_count words)) (λ table is. Contains-below (table_count words) table is)) cuts.0 cuts.1)
    (λ (miss : is_first_version words ≡ false).
    step_by AreMended version_mending words [] (cond-false (is_first_version words) (map (count_columns words) (below (table_count words)) ++ one_store version_at 2 ∷ []) [] miss) tt
    (as_it_is words fits has.0.0.0) (has, two_version words image fits has miss))
    (cases_Bool (is_first_version words))

pub version_keeps : VersionKeeps
version_keeps words image fits has = step_keeps AreMended version_mending words (version_stays words image fits has)
