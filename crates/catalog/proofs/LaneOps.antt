-- In each cut of a creation its lane is idle or allocates, so that opening's steps mend as the lane and the slot are mended.
use Rattle.std.proofs.Common.{◌≡◌, ◌+◌, ℕ, ◌<◌, ◌≤◌, List, [], ◌∷◌, length, get_or, map, set, sym, ◌∙◌, ap, subst, arith}
use Rattle.std.specs.Prelude.{filter}
use Rattle.std.proofs.Common.{eqb}
use Rattle.std.specs.List.{range_with_len}
use Rattle.image_layout.specs.Fixed.{descriptor_at, lane_op_at}
use Rattle.image_layout.specs.Places.{page_of, page_at}
use Rattle.pm_model.specs.Plans.{Part, EachCut, finished, store, unless_empty}
use Rattle.pm_model.specs.Needed.{Stores, StoresOfParts, after_mending}
use Rattle.pm_model.proofs.NeededStores.{cuts-written, parts-append}
use Rattle.heap_small.specs.Bitmap.{with_bit}
use Rattle.heap_palloc.specs.Choice.{Choice, in_page, on_new_page, in_run, choice_parts, IsThrough, MayMake}
use Rattle.heap_palloc.specs.Lane.{mended_lane}
use Rattle.heap_palloc.specs.Law.{slot_allocation, taking, pages_allocation}
use Rattle.heap_palloc.specs.Parts.{Allocation, allocation_parts, new_page_parts, forget_given_back}
use Rattle.heap_palloc.specs.Shown.{MayAllocate}
use Rattle.heap_palloc.proofs.BigPlans.{take_pages_may}
use Rattle.heap_palloc.proofs.GivenBack.{cleaned, cleaned_may}
use Rattle.heap_palloc.proofs.PagePlans.{new_bitmap, new_slot_may}
use Rattle.heap_palloc.proofs.SlotPlans.{take_slot_may}
use Rattle.shown_state.specs.Mending.{fill_from, slot_mending}
use Rattle.shown_state.proofs.LaneMending.{allocating_mends}
use Rattle.shown_state.proofs.SlotMending.{slot_step}
use Rattle.catalog.specs.Creation.{Creation, new_block, table_record, publishing_parts, creation_parts, MayCreate}
use Rattle.catalog.specs.Shown.{mended}

-- what a store may be that leaves a lane idle or allocating
abbrev pub Low : ℕ → ℕ → ℕ → Type 0
Low lane place value = lane_op_at lane ≡ place → value ≤ 1

allocation_low : (base : List ℕ) (a : Allocation) → MayAllocate base a → StoresOfParts (Low a.lane) (allocation_parts a)
allocation_low base a may = (
  (λ e. absurd (omega (arith, e)), (λ e. absurd (omega (arith, e)), tt)),
  ((λ _. omega arith, tt), ((λ e. absurd (may.placed.mark_outside.0 (sym e)), tt), ((λ e. absurd (may.placed.owner_outside.0 (sym e)), tt), ((λ _. omega arith, tt), tt)))),
)

descriptors_low : (lane : ℕ) (pages : List ℕ) → Stores (Low lane) (map (λ (page : ℕ). store (descriptor_at page) 0) pages)
descriptors_low lane [] = tt
descriptors_low lane (page ∷ pages) = (λ _. omega arith, descriptors_low lane pages)

unless_low : (lane : ℕ) (part : Part) → Stores (Low lane) part → StoresOfParts (Low lane) (unless_empty part)
unless_low lane [] low = tt
unless_low lane (action ∷ part) low = (low, tt)

choice_low : (base : List ℕ) (lane owner : ℕ) (choice : Choice) → lane < 16 → IsThrough lane owner choice → MayMake base choice → StoresOfParts (Low lane) (choice_parts base choice)
choice_low base lane owner (in_page s) lt is may = subst (λ (l : ℕ). StoresOfParts (Low l) (choice_parts base (in_page s))) is.0 (allocation_low base (taking base s) (take_slot_may base s may))
choice_low base lane owner (on_new_page s) lt is may =
    let new = set (set base (page_at s.page) 0) (descriptor_at s.page) (2 + s.class) in
    let a = slot_allocation s (with_bit 0 s.slot) in
    let idle = may.idle.lane_is in
    subst (λ (l : ℕ). StoresOfParts (Low l) (choice_parts base (on_new_page s))) is.0
    (parts-append (Low s.lane) (new_page_parts s.page s.class) (allocation_parts a) ((λ _. omega arith, tt), ((λ e. absurd (omega (arith, e, idle)), tt), tt))
    (subst (λ (x : Allocation). StoresOfParts (Low s.lane) (allocation_parts x)) (ap (λ (b : ℕ). slot_allocation s (with_bit b s.slot)) (new_bitmap base s may))
    (allocation_low new (taking new s) (take_slot_may new s (new_slot_may base s may)))))
choice_low base lane owner (in_run r) lt is may =
    let forgotten = forget_given_back base (range_with_len (page_of (page_at r.first)) r.pages) in
    let pages = filter (λ (page : ℕ). eqb (get_or base (descriptor_at page) 0) 1) (range_with_len (page_of (page_at r.first)) r.pages) in
    subst (λ (l : ℕ). StoresOfParts (Low l) (choice_parts base (in_run r))) is.0
    (parts-append (Low r.lane) (unless_empty forgotten) (allocation_parts (pages_allocation r)) (unless_low r.lane forgotten (descriptors_low r.lane pages))
    (allocation_low (cleaned base r may) (pages_allocation r) (take_pages_may (cleaned base r may) r (cleaned_may base r may))))

fill_low : (lane place : ℕ) (values : List ℕ) → lane < 16 → 2048 ≤ place → Stores (Low lane) (fill_from place values)
fill_low lane place [] lt high = tt
fill_low lane place (value ∷ values) lt high = (λ e. absurd (omega (arith, e, lt, high)), fill_low lane (place + 1) values lt (omega (arith, high)))

module _ (base : List ℕ) (c : Creation) (may : MayCreate base c) (owner : ℕ) (through : IsThrough c.lane owner c.choice) (low : c.lane < 16) (within : 704 ≤ length base) (idle : get_or base (lane_op_at c.lane) 0 ≡ 0) (high : 2048 ≤ new_block c) where
  pub creation_low : EachCut (λ image. get_or image (lane_op_at c.lane) 0 ≤ 1) (creation_parts base c) base
  creation_low = cuts-written (λ (op : ℕ). op ≤ 1) (lane_op_at c.lane) (creation_parts base c) base (omega (arith, low, within)) (omega (arith, idle))
      (parts-append (Low c.lane) (choice_parts base c.choice) (publishing_parts (new_block c) (table_record c.name c.columns) (get_or base 515 0))
      (choice_low base c.lane owner c.choice low through may.may)
      (fill_low c.lane (new_block c) (table_record c.name c.columns) low high, ((λ e. absurd (omega (arith, e)), tt), tt)))

-- a lane that is idle or allocates, and the slot behind it, are mended by opening's steps
pub steps_mend : (lane : ℕ) (image : List ℕ) → get_or image (lane_op_at lane) 0 ≤ 1 → mended lane image ≡ finished (slot_mending (mended_lane lane image)) (mended_lane lane image)
steps_mend lane image low = ap (after_mending slot_mending) (allocating_mends image lane low) ∙ slot_step (mended_lane lane image)
