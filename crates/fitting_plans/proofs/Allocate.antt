-- Each cut of an allocation, and of a freeing, shows the same.
use Rattle.std.proofs.Common.{◌≡◌, ◌≢◌, inl, inr, ⊎_elim, ℕ, ◌<◌, ◌≤◌, false, not, leb, List, get_or, sym, ◌∙◌, ap, subst, arith}
use Rattle.std.proofs.lemmas.Bool.{and_from, both_ways, cases_eq, le-leb}
use Rattle.pm_model.specs.Plans.{EachCut}
use Rattle.pm_model.proofs.Cuts.{each_cut-map}
use Rattle.image_layout.specs.Blocks.{descriptor_of, is_free_page, is_inside, is_small_page}
use Rattle.image_layout.specs.Places.{page_at, page_of}
use Rattle.heap_palloc.specs.Changes.{AllocationStage, before, choice_lane, choice_owner, disowned, freed_lane, freed_owner, FreeingStage, held, let_go, logged, made, marked, noted, owned, ShowsAllocation, ShowsRelease, unmarked}
use Rattle.heap_palloc.specs.Choice.{Choice, choice_page, choice_pages, choice_parts, Freed, freed_page, freed_pages, freed_parts, in_page, in_run, MayMake, MayRelease, of_pages, of_slot, on_new_page}
use Rattle.heap_palloc.specs.Law.{IsOwnerPlace, KeepsElsewhere}
use Rattle.heap_palloc.proofs.ChangesHold.{allocation_holds, freeing_holds}
use Rattle.shown_state.specs.Fits.{Fits}
use Rattle.shown_state.specs.OpeningParts.{IsImage}
use Rattle.shown_state.specs.Reads.{IsRead, OwnsAlone, SameReadsBut}
use Rattle.shown_state.proofs.ReadLaw.{changes_decide, values_decide}
use Rattle.shown_state.proofs.ReadsStand.{reads_keep_off}
use Rattle.shown_state.proofs.UnfinishedUnread.{unfinished_are_unread}
use Rattle.fitting_plans.specs.Allocations.{MayAllocate, MayBeHalfDone, MayFree, ShowsStill}

-- a word that structures read stands as it was, where it is the first one of a block's page and not the owner's
abbrev FirstStays : List ℕ → ℕ → ℕ → List ℕ → Type 0
FirstStays words owner page image = (w : ℕ) → IsRead words w → w ≢ owner → w ≡ page_at page → get_or image w 0 ≡ get_or words w 0

module _ (words : List ℕ) (lane owner page pages : ℕ) (whole : IsImage words) (fits : Fits words) (few : lane < 16) (half : MayBeHalfDone words owner) where
  shows : (image : List ℕ) → KeepsElsewhere lane owner page pages words image → FirstStays words owner page image → ShowsStill words image
  shows image keeps first =
      let (values, prints, trees) = changes_decide words image fits but in
      let (read, rules) = values_decide words image fits values in
      read.state
    where
      alone : (w : ℕ) → IsRead words w → w ≡ owner → OwnsAlone words w
      alone w read own = ⊎_elim
          (λ slot. absurd (unfinished_are_unread words fits owner slot (subst (IsRead words) own read)))
          (λ owns. subst (OwnsAlone words) (sym own) owns) half

      kept : (w : ℕ) → IsRead words w → w ≢ owner → get_or image w 0 ≡ get_or words w 0
      kept w read other =
          let (place, used) = reads_keep_off words whole fits w read in
          let far = place.outside_lanes in
          let high_word = place.no_descriptor in
          ⊎_elim (λ at. first w read other at)
          (λ apart. keeps.each w (record {
            outside_lane = (
              λ e. ⊎_elim (λ low. omega (arith, e, low)) (λ high. omega (arith, e, high, few)) far,
              λ e. ⊎_elim (λ low. omega (arith, e, low)) (λ high. omega (arith, e, high, few)) far,
              λ e. ⊎_elim (λ low. omega (arith, e, low)) (λ high. omega (arith, e, high, few)) far,
            );
            no_owner = other;
            no_descriptor = λ k from to e. omega (arith, e, high_word);
            no_bitmap = apart;
          }))
          (cases_eq w (page_at page))

      but : SameReadsBut (OwnsAlone words) words image
      but = record { size = keeps.size; each = λ w read. ⊎_elim (λ own. inr (alone w read own)) (λ other. inl (kept w read other)) (cases_eq w owner) }

-- ── an allocation ──

lane_few : (words : List ℕ) (choice : Choice) → MayMake words choice → choice_lane choice < 16
lane_few words (in_page s) may = may.idle.lane_is
lane_few words (on_new_page s) may = may.idle.lane_is
lane_few words (in_run r) may = may.idle.lane_is

-- A word that structures read isn't the first one of the new block's page: that is a bitmap, or of a free page.
no_first : (words : List ℕ) (choice : Choice) → MayMake words choice → (w : ℕ) → IsOwnerPlace words w → is_free_page words (page_of w) ≡ false → w ≢ page_at (choice_page choice)
no_first words (in_page s) may w place used at =
    let here : page_of w ≡ s.page = omega (arith, at) in
    place.no_bitmap (ap (is_small_page words) here ∙ may.page_is.small) (omega (arith, at))
no_first words (on_new_page s) may w place used at =
    let here : page_of w ≡ s.page = omega (arith, at) in
    both_ways (is_free_page words (page_of w)) used (ap (is_free_page words) here ∙ may.is_free)
no_first words (in_run r) may w place used at =
    let here : page_of w ≡ r.first = omega (arith, at) in
    let low = may.are_free 0 may.run.some in
    both_ways (is_free_page words (page_of w)) used (ap (is_free_page words) here
    ∙ and_from (not (is_inside words r.first)) (leb (descriptor_of words r.first) 1) (ap not may.run.not_inside)
    (le-leb (descriptor_of words r.first) 1 (subst (λ (page : ℕ). descriptor_of words page ≤ 1) (omega arith) low)))

-- at each stage the words elsewhere are the same
stage_keeps : (words : List ℕ) (choice : Choice) (image : List ℕ) → AllocationStage words choice image → KeepsElsewhere (choice_lane choice) (choice_owner choice) (choice_page choice) (choice_pages choice) words image
stage_keeps words choice image (before lane is) = is.keeps
stage_keeps words choice image (logged lane is) = is.keeps
stage_keeps words choice image (marked lane is) = is.keeps
stage_keeps words choice image (owned lane is) = is.keeps
stage_keeps words choice image (made lane is) = is.keeps

pub allocation_shows : (words : List ℕ) (choice : Choice) → MayAllocate words choice → EachCut (ShowsStill words) (choice_parts words choice) words
allocation_shows words choice may =
    let holds = allocation_holds choice in
    each_cut-map (ShowsAllocation choice words) (ShowsStill words) (choice_parts words choice) words
    (λ image cut. shows words (choice_lane choice) (choice_owner choice) (choice_page choice) (choice_pages choice) may.image may.fits (lane_few words choice may.may) may.owner image
    (stage_keeps words choice image cut.stage)
    (λ w read other at. let (place, used) = reads_keep_off words may.image may.fits w read in absurd (no_first words choice may.may w place used at)))
    (holds.cuts words may.may)

-- ── a freeing ──

freed_few : (words : List ℕ) (freed : Freed) → MayRelease words freed → freed_lane freed < 16
freed_few words (of_slot s) may = may.idle.lane_is
freed_few words (of_pages r) may = may.idle.lane_is

freeing_keeps : (words : List ℕ) (freed : Freed) (image : List ℕ) → FreeingStage words freed image → KeepsElsewhere (freed_lane freed) (freed_owner freed) (freed_page freed) (freed_pages freed) words image
freeing_keeps words freed image (held lane is) = is.keeps
freeing_keeps words freed image (noted lane is) = is.keeps
freeing_keeps words freed image (disowned lane is) = is.keeps
freeing_keeps words freed image (unmarked lane is) = is.keeps
freeing_keeps words freed image (let_go lane is) = is.keeps

-- the first word of a small page is its bitmap, and a big block keeps its own
first_stays : (words : List ℕ) (freed : Freed) (image : List ℕ) → IsImage words → Fits words → MayRelease words freed → ShowsRelease freed words image → FirstStays words (freed_owner freed) (freed_page freed) image
first_stays words (of_slot s) image whole fits may cut w read other at =
    let (place, used) = reads_keep_off words whole fits w read in
    let here : page_of w ≡ s.page = omega (arith, at) in
    absurd (place.no_bitmap (ap (is_small_page words) here ∙ may.page_is.small) (omega (arith, at)))
first_stays words (of_pages r) image whole fits may cut w read other at =
    ap (λ (place : ℕ). get_or image place 0) at ∙ cut.first_word (λ e. other (at ∙ e)) ∙ sym (ap (λ (place : ℕ). get_or words place 0) at)

pub freeing_shows : (words : List ℕ) (freed : Freed) → MayFree words freed → EachCut (ShowsStill words) (freed_parts words freed) words
freeing_shows words freed may =
    let holds = freeing_holds freed in
    each_cut-map (ShowsRelease freed words) (ShowsStill words) (freed_parts words freed) words
    (λ image cut. shows words (freed_lane freed) (freed_owner freed) (freed_page freed) (freed_pages freed) may.image may.fits (freed_few words freed may.may) may.owner image
    (freeing_keeps words freed image cut.stage) (first_stays words freed image may.image may.fits may.may cut))
    (holds.cuts words may.may)
