-- The plans of the heap are plans, and what they read.
use Rattle.std.proofs.Common.{ℕ, ◌+◌, ◌/◌, ◌<◌, Bool, true, false, cond, eqb, List, [], length, refl, sym, ◌∙◌, ap, subst, arith}
use Rattle.std.specs.Int.{bit_at}
use Rattle.std.proofs.lemmas.Bool.{eqb-true, ne_eqb, or_from}
use Rattle.image_layout.specs.Fixed.{descriptor_at, lane_op_at, lane_dest_at, lane_block_at}
use Rattle.image_layout.specs.Pointer.{pointer_word}
use Rattle.image_layout.specs.Places.{page_at}
use Rattle.pm_model.specs.Plans.{IsPart, IsPlan, one_store}
use Rattle.pm_model.proofs.Cuts.{store_part, plan-append}
use Rattle.heap_small.specs.Bitmap.{with_bit}
use Rattle.heap_palloc.specs.Lane.{mark_at}
use Rattle.heap_palloc.specs.Parts.{Allocation, lane_part, allocation_parts, new_page_allocation_parts, freeing_parts, free_page_parts, small_freeing_parts}
use Rattle.heap_palloc.specs.Shown.{IsPlaced}
use Rattle.heap_palloc.specs.Law.{IsHeapPage, IsSmallPage, Slot, slot_allocation, taking, taken, IsIdle, MayTakeSlot, MayTakeNewSlot, MayFreeSlot, SameRead}
use Rattle.heap_palloc.proofs.SlotPlans.{slot_placed, take_slot_may, free_slot_may, slot_clear}

-- ── they are plans ──

module _ (size : ℕ) (a : Allocation) (placed : IsPlaced size a) where
  lane_part-part : IsPart size (lane_part a)
  lane_part-part = (
    tt,
    omega (arith, placed.lane, placed.lanes),
    λ w hit. let same = eqb-true w (lane_dest_at a.lane) hit in or_from (eqb w (lane_block_at a.lane)) false (ne_eqb w (lane_block_at a.lane) (λ e. omega (arith, same, e))) refl,
    store_part size (lane_block_at a.lane) (pointer_word a.block) (omega (arith, placed.lane, placed.lanes)),
  )

  op_part : (value : ℕ) → IsPart size (one_store (lane_op_at a.lane) value)
  op_part value = store_part size (lane_op_at a.lane) value (omega (arith, placed.lane, placed.lanes))

  pub allocation_plan : IsPlan size (allocation_parts a)
  allocation_plan = (lane_part-part, (op_part 1, (store_part size (mark_at a.block) a.marked placed.mark, (store_part size a.owner (pointer_word a.block) placed.owner, (op_part 0, tt)))))

  pub freeing_plan : (clear : ℕ) → IsPlan size (freeing_parts a clear)
  freeing_plan clear = (lane_part-part, (op_part 2, (store_part size a.owner 0 placed.owner, (store_part size (mark_at a.block) clear placed.mark, (op_part 0, tt)))))

pub take_slot_plan : (base : List ℕ) (s : Slot) → MayTakeSlot base s → IsPlan (length base) (allocation_parts (taking base s))
take_slot_plan base s may = allocation_plan (length base) (taking base s) (take_slot_may base s may).placed

pub new_slot_plan : (base : List ℕ) (s : Slot) → MayTakeNewSlot base s → IsPlan (length base) (new_page_allocation_parts s.page s.class (slot_allocation s (with_bit 0 s.slot)))
new_slot_plan base s may = (
  store_part (length base) (page_at s.page) 0 (omega (arith, may.page_is.in_image)),
  (
    store_part (length base) (descriptor_at s.page) (2 + s.class) (omega (arith, may.page_is.in_image)),
    allocation_plan (length base) (slot_allocation s (with_bit 0 s.slot)) (slot_placed base s may.idle may.page_is may.class_is may.slot_is (with_bit 0 s.slot) (λ e. may.owner_elsewhere (omega (arith, e)))),
  ),
)

pub free_slot_plan : (base : List ℕ) (s : Slot) (may : MayFreeSlot base s) → IsPlan (length base) (small_freeing_parts s.page (taken base s) (slot_clear base s may))
free_slot_plan base s may = plan-append (length base) (freeing_parts (taken base s) (slot_clear base s may)) (cond (eqb (slot_clear base s may) 0) (free_page_parts s.page) [])
    (freeing_plan (length base) (taken base s) (free_slot_may base s may).placed (slot_clear base s may)) (tail (eqb (slot_clear base s may) 0))
  where
    tail : (b : Bool) → IsPlan (length base) (cond b (free_page_parts s.page) [])
    tail true = (store_part (length base) (descriptor_at s.page) 0 (omega (arith, may.page_is.page_is.in_image)), tt)
    tail false = tt

-- ── what they read ──

module _ (old new : List ℕ) (s : Slot) (same : SameRead old new s) where
  idle-read : IsIdle old s.lane s.owner → IsIdle new s.lane s.owner
  idle-read idle = record {
    lane_is = idle.lane_is;
    op = same.op ∙ idle.op;
    owner_is = record {
      in_image = subst (λ (n : ℕ). s.owner < n) (sym same.size) idle.owner_is.in_image;
      outside_lanes = idle.owner_is.outside_lanes;
      no_descriptor = idle.owner_is.no_descriptor;
      no_bitmap = λ small. idle.owner_is.no_bitmap (sym same.owner_small ∙ small);
    };
  }

  page-read : IsHeapPage old s.page → IsHeapPage new s.page
  page-read page_is = record { in_image = subst (λ (n : ℕ). s.page < n / 512) (sym same.size) page_is.in_image; behind_header = page_is.behind_header; behind_fixed = page_is.behind_fixed }

  small-read : IsSmallPage old s.page s.class → IsSmallPage new s.page s.class
  small-read page_is = record { page_is = page-read page_is.page_is; class_is = page_is.class_is; small = same.small ∙ page_is.small; descriptor = same.descriptor ∙ page_is.descriptor }

  pub take_slot-read : MayTakeSlot old s → MayTakeSlot new s
  take_slot-read may = record {
    idle = idle-read may.idle;
    unowned = same.owner ∙ may.unowned;
    page_is = small-read may.page_is;
    slot_is = may.slot_is;
    clear = ap (λ (b : ℕ). bit_at b s.slot) same.bitmap ∙ may.clear;
  }

  pub new_slot-read : MayTakeNewSlot old s → MayTakeNewSlot new s
  new_slot-read may = record {
    idle = idle-read may.idle;
    unowned = same.owner ∙ may.unowned;
    page_is = page-read may.page_is;
    class_is = may.class_is;
    is_free = same.is_free ∙ may.is_free;
    owner_elsewhere = may.owner_elsewhere;
    slot_is = may.slot_is;
  }

  pub free_slot-read : MayFreeSlot old s → MayFreeSlot new s
  free_slot-read may = record {
    idle = idle-read may.idle;
    owned = same.owner ∙ may.owned;
    page_is = small-read may.page_is;
    slot_is = may.slot_is;
    set = ap (λ (b : ℕ). bit_at b s.slot) same.bitmap ∙ may.set;
  }
