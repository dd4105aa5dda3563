-- A creation through each power cut: mended, each image shows the tables before or after.
use Rattle.std.proofs.Common.{◌≡◌, ◌≢◌, ◌⊎◌, inl, inr, ⊎_elim, ℕ, ◌+◌, ◌*◌, ◌%◌, ◌<◌, ◌≤◌, true, false, ltb, eqb, cond, List, [], ◌∷◌, length, get_or, map, set, refl, sym, ◌∙◌, ap, subst, append-nil, arith}
use Rattle.std.specs.Prelude.{Contains, filter}
use Rattle.std.specs.List.{flat_map, range_with_len}
use Rattle.std.proofs.lemmas.Bool.{cases_eq, cases_lt, cond-true, cond-false, lt-ltb, le-ltb, eq-eqb, ne_eqb, or_from}
use Rattle.std.proofs.lemmas.List.{get_or-set_same, get_or-set_other, length-set}
use Rattle.pm_model.specs.declared.action.Action.{Action}
use Rattle.pm_model.specs.Device.{IsBetween}
use Rattle.image_layout.specs.Fixed.{descriptor_at, lane_op_at, table_count_at, table_slot_at}
use Rattle.image_layout.specs.Pointer.{pointer_word}
use Rattle.image_layout.specs.Places.{page_of, page_at}
use Rattle.pm_model.specs.Plans.{Part, EachCut, IsPlan, finished, footprint, words_after, store, unless_empty}
use Rattle.image_layout.specs.Blocks.{Block, descriptor_of, live_blocks}
use Rattle.image_layout.specs.Tables.{table_count}
use Rattle.pm_model.proofs.Cuts.{between-kept, between-end, cut-one_store, each_cut-append, each_cut-end, each_cut-map, each_cut-unless_empty, finished-unless_empty}
use Rattle.heap_palloc.specs.Choice.{Choice, in_page, on_new_page, in_run, choice_allocation, choice_block, choice_page, choice_pages, choice_parts, IsThrough, MayMake, Freed, of_slot, of_pages, freed_allocation, freed_block, freed_page, freed_pages, freed_parts, freed_named}
use Rattle.heap_palloc.specs.Lane.{mended_lane}
use Rattle.heap_palloc.specs.Law.{Allocates, ChangesShown, Frees, IsElsewhere, IsIdle, Shows, Slot, slot_allocation, taking, Pages, pages_allocation, MayTakeNewSlot, MayTakeRun}
use Rattle.heap_small.specs.Bitmap.{with_bit}
use Rattle.heap_palloc.proofs.PagePlans.{new_bitmap, new_slot_may}
use Rattle.heap_palloc.proofs.SlotPlans.{take_slot_may}
use Rattle.heap_palloc.specs.Parts.{Allocation, allocation_parts, new_page_parts, forget_given_back}
use Rattle.heap_palloc.specs.Shown.{GainsOne, MayAllocate}
use Rattle.heap_palloc.proofs.Atomic.{allocation_atomic}
use Rattle.heap_palloc.proofs.BigPlans.{take_pages_may, take_heads}
use Rattle.heap_palloc.proofs.Changes.{change_settles}
use Rattle.heap_palloc.proofs.Choices.{freed_frees}
use Rattle.heap_palloc.proofs.GivenBack.{cleaned, cleaned_may}
use Rattle.heap_palloc.proofs.LiveBlocks.{live_blocks-same}
use Rattle.heap_palloc.proofs.Slots.{descriptor_outside-lane}
use Rattle.heap_palloc.proofs.Stages.{mended-idle, pointer-some}
use Rattle.shown_state.specs.Mending.{fill_from, free_table, free_block, slot_mending}
use Rattle.shown_state.proofs.OneOwner.{blocks_differ}
use Rattle.image_layout.specs.Owners.{next_table_slots}
use Rattle.catalog.specs.Creation.{Creation, new_block, table_record, publishing_parts, creation_parts}
use Rattle.catalog.specs.Shown.{mended, IsUntouched, IsUncreated, IsCreated, MayCreateOn}
use Rattle.catalog.proofs.Blocks.{IsChoiceBlock, choice_is_block, IsFreeable, IsFreeing, freeing_is, taken_back}
use Rattle.catalog.proofs.Creating.{Same, allocates, taken_live, same_heap, published_same, ends_published, creation_plan, record_within}
use Rattle.catalog.proofs.Filled.{filled-out, filled-word}
use Rattle.catalog.proofs.LaneOps.{creation_low, steps_mend}

-- the words once a lane was mended, and then the table slot at the count
abbrev mended_slot : List ℕ → List ℕ
mended_slot words = finished (slot_mending words) words

abbrev mended_all : ℕ → List ℕ → List ℕ
mended_all lane words = mended_slot (mended_lane lane words)

each_cut-all : (P : List ℕ → Type 0) → ((image : List ℕ) → P image) → (parts : List Part) (words : List ℕ) → EachCut P parts words
each_cut-all P all [] words = all words
each_cut-all P all (part ∷ parts) words = (λ image between. all image, each_cut-all P all parts (words_after part words))

each_cut-both : (P Q : List ℕ → Type 0) (parts : List Part) (words : List ℕ) → EachCut P parts words → EachCut Q parts words → EachCut (λ image. P image × Q image) parts words
each_cut-both P Q [] words p q = (p, q)
each_cut-both P Q (part ∷ parts) words p q = (λ image between. (p.0 image between, q.0 image between), each_cut-both P Q parts (words_after part words) p.1 q.1)

-- what a choice through a lane and an owner's word is
through_idle : (base : List ℕ) (lane owner : ℕ) (choice : Choice) → IsThrough lane owner choice → MayMake base choice → IsIdle base lane owner × (get_or base owner 0 ≡ 0)
through_idle base lane owner (in_page s) is may = (subst (λ (l : ℕ). IsIdle base l owner) is.0 (subst (λ (o : ℕ). IsIdle base s.lane o) is.1 may.idle), subst (λ (o : ℕ). get_or base o 0 ≡ 0) is.1 may.unowned)
through_idle base lane owner (on_new_page s) is may = (subst (λ (l : ℕ). IsIdle base l owner) is.0 (subst (λ (o : ℕ). IsIdle base s.lane o) is.1 may.idle), subst (λ (o : ℕ). get_or base o 0 ≡ 0) is.1 may.unowned)
through_idle base lane owner (in_run r) is may = (subst (λ (l : ℕ). IsIdle base l owner) is.0 (subst (λ (o : ℕ). IsIdle base r.lane o) is.1 may.idle), subst (λ (o : ℕ). get_or base o 0 ≡ 0) is.1 may.unowned)

abbrev ChangesAt : List ℕ → ℕ → ℕ → Choice → Type 0
ChangesAt base lane owner choice = ChangesShown lane owner (choice_page choice) (choice_pages choice) base (live_blocks base) 0 (live_blocks (finished (choice_parts base choice) base)) (pointer_word (choice_block choice).first) (choice_parts base choice) base

through_changes : (base : List ℕ) (lane owner : ℕ) (choice : Choice) → IsThrough lane owner choice
    → Allocates (choice_allocation base choice) (choice_page choice) (choice_pages choice) (choice_block choice).words (choice_parts base choice) base → ChangesAt base lane owner choice
through_changes base lane owner (in_page s) is a = subst (λ (l : ℕ). ChangesAt base l owner (in_page s)) is.0 (subst (λ (o : ℕ). ChangesAt base s.lane o (in_page s)) is.1 a.changes)
through_changes base lane owner (on_new_page s) is a = subst (λ (l : ℕ). ChangesAt base l owner (on_new_page s)) is.0 (subst (λ (o : ℕ). ChangesAt base s.lane o (on_new_page s)) is.1 a.changes)
through_changes base lane owner (in_run r) is a = subst (λ (l : ℕ). ChangesAt base l owner (in_run r)) is.0 (subst (λ (o : ℕ). ChangesAt base r.lane o (in_run r)) is.1 a.changes)

choice_gains : (base : List ℕ) (choice : Choice) → Allocates (choice_allocation base choice) (choice_page choice) (choice_pages choice) (choice_block choice).words (choice_parts base choice) base
    → GainsOne (live_blocks base) (choice_block choice) (live_blocks (finished (choice_parts base choice) base))
choice_gains base (in_page s) a = a.gains
choice_gains base (on_new_page s) a = a.gains
choice_gains base (in_run r) a = a.gains

freed_loses : (words : List ℕ) (freed : Freed) → Frees (freed_allocation words freed) (freed_page freed) (freed_pages freed) (freed_block freed).words (freed_parts words freed) words
    → GainsOne (live_blocks (finished (freed_parts words freed) words)) (freed_block freed) (live_blocks words)
freed_loses words (of_slot s) f = f.loses
freed_loses words (of_pages r) f = f.loses

-- ── the pages behind the block's first one have the descriptor 0 ──

abbrev CleanBehind : ℕ → ℕ → List ℕ → Type 0
CleanBehind first pages words = (k : ℕ) → 0 < k → k < pages → descriptor_of words (first + k) ≡ 0

abbrev CleanOrNone : ℕ → ℕ → Choice → List ℕ → Type 0
CleanOrNone lane owner choice image = (get_or (mended_lane lane image) owner 0 ≡ 0) ⊎ CleanBehind (choice_page choice) (choice_pages choice) (mended_lane lane image)

one_page : (first pages : ℕ) (words : List ℕ) → pages ≡ 1 → CleanBehind first pages words
one_page first pages words one k some lt = absurd (omega (arith, one, some, lt))

descriptors_out : (xs : List ℕ) (w : ℕ) → 64 ≤ w % 32768 → footprint (map (λ (page : ℕ). store (descriptor_at page) 0) xs) w ≡ false
descriptors_out [] w high = refl
descriptors_out (x ∷ xs) w high = or_from (eqb w (descriptor_at x)) _ (ne_eqb w (descriptor_at x) (λ e. omega (arith, e, high))) (descriptors_out xs w high)

forget_out : (words xs : List ℕ) (w : ℕ) → 64 ≤ w % 32768 → footprint (forget_given_back words xs) w ≡ false
forget_out words xs w high = descriptors_out (filter (λ page. eqb (get_or words (descriptor_at page) 0) 1) xs) w high

abbrev forgetting : List ℕ → Pages → Part
forgetting base r = forget_given_back base (range_with_len (page_of (page_at r.first)) r.pages)

run_clean : (base : List ℕ) (r : Pages) → MayTakeRun base r → EachCut (CleanOrNone r.lane r.owner (in_run r)) (choice_parts base (in_run r)) base
run_clean base r may =
    let Q : List ℕ → Type 0 = CleanOrNone r.lane r.owner (in_run r) in
    let a = pages_allocation r in
    let start = cleaned base r may in
    let can = cleaned_may base r may in
    let atomic = allocation_atomic start a (take_pages_may start r can) in
    let heads = take_heads start r can in
    each_cut-append Q (unless_empty (forgetting base r)) (allocation_parts a) base
    (each_cut-unless_empty Q (forgetting base r) base (λ image between.
    let op = between-kept (forgetting base r) base image (lane_op_at r.lane) between (forget_out base (range_with_len (page_of (page_at r.first)) r.pages) (lane_op_at r.lane) (omega (arith, may.idle.lane_is))) ∙ may.idle.op in
    let word = between-kept (forgetting base r) base image r.owner between (forget_out base (range_with_len (page_of (page_at r.first)) r.pages) r.owner may.idle.owner_is.no_descriptor) ∙ may.unowned in
    inl (ap (λ (ws : List ℕ). get_or ws r.owner 0) (mended-idle r.lane image op) ∙ word)))
    (subst (EachCut Q (allocation_parts a)) (sym (finished-unless_empty (forgetting base r) base))
    (each_cut-map _ Q (allocation_parts a) start (λ image. ⊎_elim
    (λ before. inl (before.each r.owner (owner_out 1 (omega arith)) (owner_out 2 (omega arith)) ∙ can.unowned))
    (λ after. inr (λ k some lt. let out = descriptor_outside-lane r.lane (r.first + k) may.idle.lane_is in
    after.each (descriptor_at (r.first + k)) out.1 out.2 ∙ heads.others (r.first + k) (λ e. omega (arith, e, some)) ∙ can.clean k lt)))
    atomic.cuts))
  where
    owner_out : (k : ℕ) → k < 3 → r.owner ≢ 576 + 8 * r.lane + k
    owner_out k lt e = ⊎_elim (λ low. omega (arith, low, e)) (λ high. omega (arith, high, e, lt, may.idle.lane_is)) may.idle.owner_is.outside_lanes

choice_clean : (base : List ℕ) (lane owner : ℕ) (choice : Choice) → IsThrough lane owner choice → MayMake base choice → EachCut (CleanOrNone lane owner choice) (choice_parts base choice) base
choice_clean base lane owner (in_page s) is may = each_cut-all (CleanOrNone lane owner (in_page s)) (λ image. inr (one_page s.page 1 (mended_lane lane image) refl)) (choice_parts base (in_page s)) base
choice_clean base lane owner (on_new_page s) is may = each_cut-all (CleanOrNone lane owner (on_new_page s)) (λ image. inr (one_page s.page 1 (mended_lane lane image) refl)) (choice_parts base (on_new_page s)) base
choice_clean base lane owner (in_run r) is may = subst (λ (l : ℕ). EachCut (CleanOrNone l owner (in_run r)) (choice_parts base (in_run r)) base) is.0 (subst (λ (o : ℕ). EachCut (CleanOrNone r.lane o (in_run r)) (choice_parts base (in_run r)) base) is.1 (run_clean base r may))

-- ── the lane is idle once it is mended ──

abbrev OpIdle : ℕ → List ℕ → Type 0
OpIdle lane image = get_or (mended_lane lane image) (lane_op_at lane) 0 ≡ 0

idle_image : (lane : ℕ) (image : List ℕ) → get_or image (lane_op_at lane) 0 ≡ 0 → OpIdle lane image
idle_image lane image idle = ap (λ (words : List ℕ). get_or words (lane_op_at lane) 0) (mended-idle lane image idle) ∙ idle

allocation_idle : (base : List ℕ) (a : Allocation) → MayAllocate base a → EachCut (OpIdle a.lane) (allocation_parts a) base
allocation_idle base a may =
    let atomic = allocation_atomic base a may in
    each_cut-map _ (OpIdle a.lane) (allocation_parts a) base (λ image. ⊎_elim
    (λ before. before.each (lane_op_at a.lane) (λ e. omega (arith, e)) (λ e. omega (arith, e)) ∙ may.idle)
    (λ after. after.each (lane_op_at a.lane) (λ e. omega (arith, e)) (λ e. omega (arith, e)) ∙ atomic.idle))
    atomic.cuts

new_page_idle : (base : List ℕ) (s : Slot) → MayTakeNewSlot base s → EachCut (OpIdle s.lane) (choice_parts base (on_new_page s)) base
new_page_idle base s may =
    let P : List ℕ → Type 0 = OpIdle s.lane in
    let blank = set base (page_at s.page) 0 in
    let new = set blank (descriptor_at s.page) (2 + s.class) in
    let a = slot_allocation s (with_bit 0 s.slot) in
    let first : get_or blank (lane_op_at s.lane) 0 ≡ 0 = get_or-set_other base (page_at s.page) (lane_op_at s.lane) 0 0 (λ e. omega (arith, e, may.idle.lane_is, may.page_is.behind_fixed)) ∙ may.idle.op in
    let second : get_or new (lane_op_at s.lane) 0 ≡ 0 = get_or-set_other blank (descriptor_at s.page) (lane_op_at s.lane) (2 + s.class) 0 (λ e. omega (arith, e, may.idle.lane_is)) ∙ first in
    let start = idle_image s.lane base may.idle.op in
    let then = idle_image s.lane blank first in
    let last = idle_image s.lane new second in
    each_cut-append P (new_page_parts s.page s.class) (allocation_parts a) base
    (cut-one_store P (page_at s.page) 0 base start then, (cut-one_store P (descriptor_at s.page) (2 + s.class) blank then last, last))
    (subst (λ (x : Allocation). EachCut P (allocation_parts x) new) (ap (λ (b : ℕ). slot_allocation s (with_bit b s.slot)) (new_bitmap base s may))
    (allocation_idle new (taking new s) (take_slot_may new s (new_slot_may base s may))))

run_idle : (base : List ℕ) (r : Pages) → MayTakeRun base r → EachCut (OpIdle r.lane) (choice_parts base (in_run r)) base
run_idle base r may =
    let P : List ℕ → Type 0 = OpIdle r.lane in
    let a = pages_allocation r in
    each_cut-append P (unless_empty (forgetting base r)) (allocation_parts a) base
    (each_cut-unless_empty P (forgetting base r) base (λ image between. idle_image r.lane image
    (between-kept (forgetting base r) base image (lane_op_at r.lane) between (forget_out base (range_with_len (page_of (page_at r.first)) r.pages) (lane_op_at r.lane) (omega (arith, may.idle.lane_is))) ∙ may.idle.op)))
    (subst (EachCut P (allocation_parts a)) (sym (finished-unless_empty (forgetting base r) base)) (allocation_idle (cleaned base r may) a (take_pages_may (cleaned base r may) r (cleaned_may base r may))))

choice_idle : (base : List ℕ) (lane owner : ℕ) (choice : Choice) → IsThrough lane owner choice → MayMake base choice → EachCut (OpIdle lane) (choice_parts base choice) base
choice_idle base lane owner (in_page s) is may = subst (λ (l : ℕ). EachCut (OpIdle l) (choice_parts base (in_page s)) base) is.0 (allocation_idle base (taking base s) (take_slot_may base s may))
choice_idle base lane owner (on_new_page s) is may = subst (λ (l : ℕ). EachCut (OpIdle l) (choice_parts base (on_new_page s)) base) is.0 (new_page_idle base s may)
choice_idle base lane owner (in_run r) is may = subst (λ (l : ℕ). EachCut (OpIdle l) (choice_parts base (in_run r)) base) is.0 (run_idle base r may)

-- ── the law ──

module _ (base : List ℕ) (c : Creation) (on : MayCreateOn base c) where
  abbrev slot : ℕ
  slot = table_slot_at (table_count base)

  abbrev page : ℕ
  page = choice_page c.choice

  abbrev pages : ℕ
  pages = choice_pages c.choice

  abbrev taken : List ℕ
  taken = finished (choice_parts base c.choice) base

  idle_slot : IsIdle base c.lane slot × (get_or base slot 0 ≡ 0)
  idle_slot = through_idle base c.lane (table_slot_at (table_count base)) c.choice on.may.through on.may.may

  block_is : IsChoiceBlock base c.choice
  block_is = choice_is_block base c.choice on.may.may

  pub lane_low : c.lane < 16
  lane_low = idle_slot.0.lane_is

  pub gains : GainsOne (live_blocks base) (choice_block c.choice) (live_blocks taken)
  gains = choice_gains base c.choice (allocates base on.segments on.one_or_more on.rules c on.may)

  changes : ChangesAt base c.lane slot c.choice
  changes = through_changes base c.lane (table_slot_at (table_count base)) c.choice on.may.through (allocates base on.segments on.one_or_more on.rules c on.may)

  -- the block lies behind the fixed pages
  pub block_high : 2048 ≤ new_block c
  block_high = let e = block_is.first_page in let fixed = block_is.page_is.behind_fixed in omega (arith, e, fixed)

  pub page_high : 4 ≤ choice_page c.choice
  page_high = block_is.page_is.behind_fixed

  -- words of the first segment's second page are elsewhere, but for lanes and the slot
  pub fixed_elsewhere : (lane w : ℕ) → 512 ≤ w → w < 576 → w ≢ slot → IsElsewhere lane slot page pages w
  fixed_elsewhere lane w low high apart = record {
    outside_lane = (λ e. omega (arith, e, high), λ e. omega (arith, e, high), λ e. omega (arith, e, high));
    no_owner = apart;
    no_descriptor = λ k _ _ e. omega (arith, e, low, high);
    no_bitmap = λ e. let fixed = block_is.page_is.behind_fixed in omega (arith, e, high, fixed);
  }

  count_elsewhere : (lane : ℕ) → IsElsewhere lane slot page pages table_count_at
  count_elsewhere lane = fixed_elsewhere lane table_count_at (omega arith) (omega arith) (λ e. omega (arith, e))

  -- ── words in which the block is allocated and the table isn't published ──

  pub record IsTaken (words : List ℕ) : Type 0 where
    pub size : length words ≡ length base
    pub blocks_are : live_blocks words ≡ live_blocks (finished (choice_parts base c.choice) base)
    pub named : get_or words (table_slot_at (table_count base)) 0 ≡ pointer_word (new_block c)
    pub clean : CleanBehind (choice_page c.choice) (choice_pages c.choice) words
    pub count : table_count words ≡ table_count base
    pub idle : get_or words (lane_op_at 0) 0 ≡ 0
    pub keeps : (w : ℕ) → IsUntouched base c w → get_or words w 0 ≡ get_or base w 0

  next_slot_is : (words : List ℕ) → table_count words ≡ table_count base → next_table_slots words ≡ slot ∷ []
  next_slot_is words same =
      ap (λ (m : ℕ). cond (ltb m 32) (table_slot_at m ∷ []) []) same
      ∙ cond-true (ltb (table_count base) 32) (table_slot_at (table_count base) ∷ []) [] (lt-ltb (table_count base) 32 on.may.count)

  mends_by : (words : List ℕ) → table_count words ≡ table_count base → mended_slot words ≡ finished (free_table words slot) words
  mends_by words same =
      ap (λ (slots : List ℕ). finished (flat_map (free_table words) slots) words) (next_slot_is words same)
      ∙ ap (λ (parts : List Part). finished parts words) (append-nil (free_table words (table_slot_at (table_count base))))

  mends_none : (words : List ℕ) → table_count words ≡ table_count base → get_or words slot 0 ≡ 0 → mended_slot words ≡ words
  mends_none words same none =
      mends_by words same ∙ ap (λ (parts : List Part). finished parts words) (cond-true (eqb (get_or words (table_slot_at (table_count base)) 0) 0) [] (free_block words (table_slot_at (table_count base))) (eq-eqb (get_or words (table_slot_at (table_count base)) 0) 0 none))

  slot_place : (words : List ℕ) → length words ≡ length base → get_or words (lane_op_at 0) 0 ≡ 0 → IsIdle words 0 slot
  slot_place words size idle =
      let low = on.may.count in
      let many = on.one_or_more in
      record {
        lane_is = omega arith;
        op = idle;
        owner_is = record { in_image = omega (arith, size, low, many); outside_lanes = inl (omega (arith, low)); no_descriptor = omega (arith, low); no_bitmap = λ _ e. omega (arith, e, low) };
      }

  module _ (words : List ℕ) (is : IsTaken words) where
    freeable : IsFreeable words slot page pages (choice_block c.choice)
    freeable =
        let size = is.size in
        record {
          idle = slot_place words is.size is.idle;
          live = subst (λ (blocks : List Block). Contains blocks (choice_block c.choice)) (sym is.blocks_are) (taken_live base on.segments on.one_or_more on.rules c on.may);
          named = is.named;
          page_is = record { in_image = let e = block_is.page_is.in_image in omega (arith, e, size); behind_header = block_is.page_is.behind_header; behind_fixed = block_is.page_is.behind_fixed };
          first_page = block_is.first_page;
          small = block_is.small;
          big = λ big. let fits = block_is.big big in (fits.0, omega (arith, fits, size), fits.2);
          clean = is.clean;
        }

    freed : Freed
    freed = freed_named words 0 (table_slot_at (table_count base))

    freeing : IsFreeing words slot freed page pages (choice_block c.choice)
    unfolding freed
    freeing = freeing_is words (table_slot_at (table_count base)) (choice_page c.choice) (choice_pages c.choice) (choice_block c.choice) freeable

    frees : Frees (freed_allocation words freed) (freed_page freed) (freed_pages freed) (freed_block freed).words (freed_parts words freed) words
    frees = freed_frees words freed freeing.may

    after : List ℕ
    after = finished (freed_parts words freed) words

    after_shows : Shows 0 slot page pages words (live_blocks after) 0 after
    unfolding after
    after_shows =
        let n = live_blocks (finished (freed_parts words freed) words) in
        let end = finished (freed_parts words freed) words in
        let a = freed_allocation words freed in
        let all = change_settles a.lane a.owner (freed_page freed) (freed_pages freed) words (live_blocks words) (pointer_word a.block) n 0 (freed_parts words freed) words frees.changes in
        subst (λ (k : ℕ). Shows 0 (table_slot_at (table_count base)) (choice_page c.choice) k words n 0 end) freeing.pages_are
        (subst (λ (p : ℕ). Shows 0 (table_slot_at (table_count base)) p (freed_pages freed) words n 0 end) freeing.page_is
        (subst (λ (o : ℕ). Shows 0 o (freed_page freed) (freed_pages freed) words n 0 end) freeing.owner_is
        (subst (λ (l : ℕ). Shows l a.owner (freed_page freed) (freed_pages freed) words n 0 end) freeing.lane_is all)))

    after_blocks : live_blocks after ≡ live_blocks base
    unfolding after
    after_blocks = taken_back (live_blocks words) (live_blocks base) (live_blocks (finished (freed_parts words freed) words)) (choice_block c.choice) (blocks_differ words)
        (subst (λ (xs : List Block). GainsOne (live_blocks base) (choice_block c.choice) xs) (sym is.blocks_are) gains)
        (subst (λ (b : Block). GainsOne (live_blocks (finished (freed_parts words freed) words)) b (live_blocks words)) freeing.block_is (freed_loses words freed frees))

    mends_after : mended_slot words ≡ after
    unfolding after freed
    mends_after = mends_by words is.count
        ∙ ap (λ (parts : List Part). finished parts words) (cond-false (eqb (get_or words (table_slot_at (table_count base)) 0) 0) [] (free_block words (table_slot_at (table_count base)))
        (ne_eqb (get_or words (table_slot_at (table_count base)) 0) 0 (λ e. pointer-some (new_block c) (sym is.named ∙ e))))

    pub taken_uncreated : IsUncreated base c (mended_slot words)
    taken_uncreated = subst (IsUncreated base c) (sym mends_after) (record {
      keeps = record { size = after_shows.keeps.size ∙ is.size; each = λ w u. after_shows.keeps.each w u.lane_zero ∙ is.keeps w u };
      count = after_shows.keeps.each table_count_at (count_elsewhere 0) ∙ is.count;
      slot = after_shows.word_is;
      blocks_are = after_blocks;
    })

  -- ── while the block is allocated ──

  -- lane 0 is idle once the creation's lane is mended
  op_zero : (words : List ℕ) → get_or words (lane_op_at c.lane) 0 ≡ 0 → ((w : ℕ) → IsElsewhere c.lane slot page pages w → get_or words w 0 ≡ get_or base w 0) → get_or words (lane_op_at 0) 0 ≡ 0
  op_zero words op each = ⊎_elim
      (λ (same : 0 ≡ c.lane). ap (λ (l : ℕ). get_or words (lane_op_at l) 0) same ∙ op)
      (λ apart. each (lane_op_at 0) (record {
        outside_lane = (λ e. omega (arith, e, apart), λ e. omega (arith, e), λ e. omega (arith, e));
        no_owner = λ e. let low = on.may.count in omega (arith, e, low);
        no_descriptor = λ k _ _ e. omega (arith, e);
        no_bitmap = λ e. let fixed = block_is.page_is.behind_fixed in omega (arith, e, fixed);
      }) ∙ on.idle)
      (cases_eq 0 c.lane)

  shows_before : (words : List ℕ) → Shows c.lane slot page pages base (live_blocks base) 0 words → IsUncreated base c (mended_slot words)
  shows_before words shows =
      let same = shows.keeps.each table_count_at (count_elsewhere c.lane) in
      subst (IsUncreated base c) (sym (mends_none words same shows.word_is)) (record {
        keeps = record { size = shows.keeps.size; each = λ w u. shows.keeps.each w u.lane };
        count = same;
        slot = shows.word_is;
        blocks_are = shows.blocks_are;
      })

  shows_taken : (words : List ℕ) → Shows c.lane slot page pages base (live_blocks taken) (pointer_word (new_block c)) words → get_or words (lane_op_at c.lane) 0 ≡ 0 → CleanBehind page pages words → IsTaken words
  shows_taken words shows op clean = record {
    size = shows.keeps.size;
    blocks_are = shows.blocks_are;
    named = shows.word_is;
    clean = clean;
    count = shows.keeps.each table_count_at (count_elsewhere c.lane);
    idle = op_zero words op shows.keeps.each;
    keeps = λ w u. shows.keeps.each w u.lane;
  }

  abbrev Mended : List ℕ → Type 0
  Mended image = IsUncreated base c (mended_all c.lane image) ⊎ IsCreated base c (mended_all c.lane image)

  clean_some : (words : List ℕ) → get_or words slot 0 ≡ pointer_word (new_block c) → ((get_or words slot 0 ≡ 0) ⊎ CleanBehind page pages words) → CleanBehind page pages words
  clean_some words named either = ⊎_elim (λ none. absurd (pointer-some (new_block c) (sym named ∙ none))) (λ clean. clean) either

  both_cuts : EachCut (λ image. OpIdle c.lane image × CleanOrNone c.lane slot c.choice image) (choice_parts base c.choice) base
  both_cuts = each_cut-both (OpIdle c.lane) (CleanOrNone c.lane (table_slot_at (table_count base)) c.choice) (choice_parts base c.choice) base
      (choice_idle base c.lane (table_slot_at (table_count base)) c.choice on.may.through on.may.may)
      (choice_clean base c.lane (table_slot_at (table_count base)) c.choice on.may.through on.may.may)

  abbrev Facts : List ℕ → Type 0
  Facts image = OpIdle c.lane image × CleanOrNone c.lane (table_slot_at (table_count base)) c.choice image

  abbrev Either : List ℕ → Type 0
  Either image = (Shows c.lane (table_slot_at (table_count base)) (choice_page c.choice) (choice_pages c.choice) base (live_blocks base) 0 (mended_lane c.lane image))
      ⊎ (Shows c.lane (table_slot_at (table_count base)) (choice_page c.choice) (choice_pages c.choice) base (live_blocks (finished (choice_parts base c.choice) base)) (pointer_word (new_block c)) (mended_lane c.lane image))

  taking_cuts : EachCut (λ image. IsUncreated base c (mended_all c.lane image) ⊎ IsCreated base c (mended_all c.lane image)) (choice_parts base c.choice) base
  taking_cuts = each_cut-map (λ image. Either image × Facts image) (λ image. IsUncreated base c (mended_all c.lane image) ⊎ IsCreated base c (mended_all c.lane image)) (choice_parts base c.choice) base
      (λ image both. ⊎_elim
      (λ before. inl (shows_before (mended_lane c.lane image) before))
      (λ after. inl (taken_uncreated (mended_lane c.lane image) (shows_taken (mended_lane c.lane image) after both.1.0 (clean_some (mended_lane c.lane image) after.word_is both.1.1))))
      both.0)
      (each_cut-both Either Facts (choice_parts base c.choice) base changes.cuts both_cuts)

  -- ── the words once the block is allocated ──

  taken_op : get_or taken (lane_op_at c.lane) 0 ≡ 0
  taken_op = changes.idle

  taken_mends : mended_lane c.lane taken ≡ taken
  taken_mends = mended-idle c.lane (finished (choice_parts base c.choice) base) taken_op

  taken_shows : Shows c.lane slot page pages base (live_blocks taken) (pointer_word (new_block c)) taken
  taken_shows = change_settles c.lane (table_slot_at (table_count base)) (choice_page c.choice) (choice_pages c.choice) base (live_blocks base) 0 (live_blocks (finished (choice_parts base c.choice) base)) (pointer_word (new_block c)) (choice_parts base c.choice) base changes

  taken_is : IsTaken taken
  taken_is =
      let facts = each_cut-end Facts (choice_parts base c.choice) base both_cuts in
      shows_taken (finished (choice_parts base c.choice) base) taken_shows taken_op
      (clean_some (finished (choice_parts base c.choice) base) taken_shows.word_is
      (subst (λ (words : List ℕ). (get_or words (table_slot_at (table_count base)) 0 ≡ 0) ⊎ CleanBehind (choice_page c.choice) (choice_pages c.choice) words) taken_mends facts.1))

  -- words that differ from them in the block's record alone
  module _ (words : List ℕ) (same : Same base on.segments on.one_or_more on.rules c on.may words) where
    kept_low : (w : ℕ) → w < 2048 → w ≢ table_count_at → get_or words w 0 ≡ get_or taken w 0
    kept_low w low apart = same.each w (inl (let high = block_high in omega (arith, low, high))) apart

    pub same_op : get_or words (lane_op_at c.lane) 0 ≡ 0
    same_op = let low = lane_low in kept_low (lane_op_at c.lane) (omega (arith, low)) (λ e. omega (arith, e)) ∙ taken_op

    pub same_mends : mended_lane c.lane words ≡ words
    same_mends = mended-idle c.lane words same_op

    pub same_keeps : (w : ℕ) → IsUntouched base c w → get_or words w 0 ≡ get_or base w 0
    same_keeps w u = same.each w u.no_record u.no_count ∙ taken_is.keeps w u

    pub same_named : get_or words slot 0 ≡ pointer_word (new_block c)
    same_named = let low = on.may.count in kept_low (table_slot_at (table_count base)) (omega (arith, low)) (λ e. omega (arith, e)) ∙ taken_is.named

    pub same_blocks : live_blocks words ≡ live_blocks taken
    same_blocks = live_blocks-same (finished (choice_parts base c.choice) base) words (same_heap base on.segments on.one_or_more on.rules c on.may words same)

    pub same_taken : get_or words table_count_at 0 ≡ get_or taken table_count_at 0 → IsTaken words
    same_taken count = record {
      size = same.size ∙ taken_is.size;
      blocks_are = same_blocks;
      named = same_named;
      clean = λ k some lt. ((same_heap base on.segments on.one_or_more on.rules c on.may words same).pages (choice_page c.choice + k)).descriptor ∙ taken_is.clean k some lt;
      count = count ∙ taken_is.count;
      idle = kept_low (lane_op_at 0) (omega arith) (λ e. omega (arith, e)) ∙ taken_is.idle;
      keeps = same_keeps;
    }

  -- ── while the table is published ──

  abbrev part : List Action
  part = fill_from (new_block c) (table_record c.name c.columns)

  abbrev full : List ℕ
  full = words_after (fill_from (new_block c) (table_record c.name c.columns)) (finished (choice_parts base c.choice) base)

  abbrev last : List ℕ
  last = set (words_after (fill_from (new_block c) (table_record c.name c.columns)) (finished (choice_parts base c.choice) base)) table_count_at (table_count base + 1)

  fill_same : (image : List ℕ) → IsBetween taken full image → Same base on.segments on.one_or_more on.rules c on.may image
  fill_same image between = record {
    size = between.size;
    each = λ w out _. between-kept (fill_from (new_block c) (table_record c.name c.columns)) (finished (choice_parts base c.choice) base) image w between (filled-out (new_block c) (table_record c.name c.columns) w out);
  }

  fill_count : (image : List ℕ) → IsBetween taken full image → get_or image table_count_at 0 ≡ get_or taken table_count_at 0
  fill_count image between = between-kept (fill_from (new_block c) (table_record c.name c.columns)) (finished (choice_parts base c.choice) base) image table_count_at between
      (filled-out (new_block c) (table_record c.name c.columns) table_count_at (inl (let high = block_high in omega (arith, high))))

  filling : (image : List ℕ) → IsBetween taken full image → IsUncreated base c (mended_all c.lane image) ⊎ IsCreated base c (mended_all c.lane image)
  filling image between =
      let same = fill_same image between in
      inl (subst (λ (words : List ℕ). IsUncreated base c (mended_slot words)) (sym (same_mends image same)) (taken_uncreated image (same_taken image same (fill_count image between))))

  last_same : Same base on.segments on.one_or_more on.rules c on.may last
  last_same = published_same base on.segments on.one_or_more on.rules c on.may

  last_size : length last ≡ length base
  last_size = last_same.size ∙ taken_is.size

  last_count : table_count last ≡ table_count base + 1
  last_count =
      let size = last_size in
      let many = on.one_or_more in
      let long = length-set full table_count_at (table_count base + 1) in
      get_or-set_same full table_count_at (table_count base + 1) 0 (omega (arith, size, many, long))

  -- no table slot is to be mended any more
  last_slot : mended_slot last ≡ last
  last_slot = ⊎_elim more none (cases_lt (table_count base + 1) 32)
    where
      slots_by : (b : _) → ltb (table_count base + 1) 32 ≡ b → next_table_slots last ≡ cond b (table_slot_at (table_count base + 1) ∷ []) []
      slots_by b is =
          ap (λ (m : ℕ). cond (ltb m 32) (table_slot_at m ∷ []) []) last_count ∙ ap (λ v. cond v (table_slot_at (table_count base + 1) ∷ []) []) is

      none : 32 ≤ table_count base + 1 → mended_slot last ≡ last
      none many = ap (λ (slots : List ℕ). finished (flat_map (free_table last) slots) last) (slots_by false (le-ltb (table_count base + 1) 32 many))

      more : table_count base + 1 < 32 → mended_slot last ≡ last
      more few =
          let at = table_slot_at (table_count base + 1) in
          let kept = kept_low last last_same at (omega (arith, few)) (λ e. omega (arith, e)) in
          let base_word = taken_shows.keeps.each at (fixed_elsewhere c.lane at (omega arith) (omega (arith, few)) (λ e. omega (arith, e))) in
          let null : get_or last at 0 ≡ 0 = kept ∙ base_word ∙ on.next few in
          ap (λ (slots : List ℕ). finished (flat_map (free_table last) slots) last) (slots_by true (lt-ltb (table_count base + 1) 32 few))
          ∙ ap (λ (parts : List Part). finished parts last) (append-nil (free_table last at))
          ∙ ap (λ (parts : List Part). finished parts last) (cond-true (eqb (get_or last at 0) 0) [] (free_block last at) (eq-eqb (get_or last at 0) 0 null))

  last_created : IsCreated base c last
  last_created = record {
    keeps = record { size = last_size; each = same_keeps last last_same };
    count = last_count;
    slot = same_named last last_same;
    record_is = λ k lt.
        let high = block_high in
        let within = record_within base on.segments on.one_or_more on.rules c on.may in
        get_or-set_other full table_count_at (new_block c + k) (table_count base + 1) 0 (λ e. omega (arith, e, high))
        ∙ filled-word (new_block c) (table_record c.name c.columns) (finished (choice_parts base c.choice) base) k lt within;
    blocks_are = sym (ap live_blocks (ends_published base on.segments on.one_or_more on.rules c on.may));
  }

  last_mended : mended_all c.lane last ≡ last
  last_mended = ap mended_slot (same_mends last last_same) ∙ last_slot

  created : IsUncreated base c (mended_all c.lane last) ⊎ IsCreated base c (mended_all c.lane last)
  created = inr (subst (IsCreated base c) (sym last_mended) last_created)

  publishing_cuts : EachCut (λ image. IsUncreated base c (mended_all c.lane image) ⊎ IsCreated base c (mended_all c.lane image)) (publishing_parts (new_block c) (table_record c.name c.columns) (table_count base)) taken
  publishing_cuts = (
    filling,
    (
      cut-one_store (λ image. IsUncreated base c (mended_all c.lane image) ⊎ IsCreated base c (mended_all c.lane image)) table_count_at (table_count base + 1) full
          (filling full (between-end (fill_from (new_block c) (table_record c.name c.columns)) (finished (choice_parts base c.choice) base))) created,
      created,
    ),
  )

  all_cuts : EachCut (λ image. IsUncreated base c (mended_all c.lane image) ⊎ IsCreated base c (mended_all c.lane image)) (creation_parts base c) base
  all_cuts = each_cut-append (λ image. IsUncreated base c (mended_all c.lane image) ⊎ IsCreated base c (mended_all c.lane image)) (choice_parts base c.choice)
      (publishing_parts (new_block c) (table_record c.name c.columns) (table_count base)) base taking_cuts publishing_cuts

  pub creation_gains : GainsOne (live_blocks base) (choice_block c.choice) (live_blocks (finished (creation_parts base c) base))
  creation_gains = subst (λ (xs : List Block). GainsOne (live_blocks base) (choice_block c.choice) xs) (sym (ap live_blocks (ends_published base on.segments on.one_or_more on.rules c on.may) ∙ same_blocks last last_same)) gains

  all_ended : IsCreated base c (finished (creation_parts base c) base) × (mended_all c.lane (finished (creation_parts base c) base) ≡ finished (creation_parts base c) base)
  all_ended =
      let is = sym (ends_published base on.segments on.one_or_more on.rules c on.may) in
      (subst (IsCreated base c) is last_created, subst (λ (words : List ℕ). mended_all c.lane words ≡ words) is last_mended)

  pub creation_plays : IsPlan (length base) (creation_parts base c)
  creation_plays = creation_plan base on.segments on.one_or_more on.rules c on.may

  -- ── mended by opening's steps ──

  low_op : (image : List ℕ) → get_or image (lane_op_at c.lane) 0 ≤ 1 → mended c.lane image ≡ mended_all c.lane image
  low_op image low = steps_mend c.lane image low

  low_cuts : EachCut (λ image. get_or image (lane_op_at c.lane) 0 ≤ 1) (creation_parts base c) base
  low_cuts = creation_low base c on.may (table_slot_at (table_count base)) on.may.through lane_low (let many = on.one_or_more in omega (arith, many)) idle_slot.0.op block_high

  abbrev Kept : List ℕ → Type 0
  Kept image = (IsUncreated base c (mended_all c.lane image) ⊎ IsCreated base c (mended_all c.lane image)) × (get_or image (lane_op_at c.lane) 0 ≤ 1)

  pub creation_cuts : EachCut (λ image. IsUncreated base c (mended c.lane image) ⊎ IsCreated base c (mended c.lane image)) (creation_parts base c) base
  creation_cuts = each_cut-map Kept (λ image. IsUncreated base c (mended c.lane image) ⊎ IsCreated base c (mended c.lane image)) (creation_parts base c) base
      (λ image both. subst (λ (words : List ℕ). IsUncreated base c words ⊎ IsCreated base c words) (sym (low_op image both.1)) both.0)
      (each_cut-both (λ image. IsUncreated base c (mended_all c.lane image) ⊎ IsCreated base c (mended_all c.lane image)) (λ image. get_or image (lane_op_at c.lane) 0 ≤ 1) (creation_parts base c) base all_cuts low_cuts)

  pub creation_ended : IsCreated base c (finished (creation_parts base c) base) × (mended c.lane (finished (creation_parts base c) base) ≡ finished (creation_parts base c) base)
  creation_ended =
      let low = each_cut-end (λ image. get_or image (lane_op_at c.lane) 0 ≤ 1) (creation_parts base c) base low_cuts in
      (all_ended.0, low_op (finished (creation_parts base c) base) low ∙ all_ended.1)
