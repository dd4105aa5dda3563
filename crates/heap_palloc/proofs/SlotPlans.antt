-- The plans on a slot: an allocation, one on a new page, and a freeing.
use Rattle.std.proofs.Common.{◌≡◌, ◌≢◌, inr, ⊎_elim, ℕ, ◌+◌, ◌/◌, ◌<◌, List, length, get_or, sym, ◌∙◌, ap, subst, arith}
use Rattle.std.specs.Int.{bit_at}
use Rattle.image_layout.specs.Fixed.{descriptor_at, lane_op_at}
use Rattle.image_layout.specs.Pointer.{pointer_word}
use Rattle.image_layout.specs.Places.{page_of, page_at}
use Rattle.pm_model.specs.Plans.{finished}
use Rattle.image_layout.specs.Blocks.{slot_words, slots_of, slot_at, descriptor_of, bitmap_of, is_small_page, live_blocks}
use Rattle.heap_small.specs.Bitmap.{with_bit, without_bit}
use Rattle.heap_palloc.specs.Lane.{mark_at, unmarked}
use Rattle.heap_palloc.specs.Parts.{Allocation, allocation_parts, freeing_parts}
use Rattle.heap_palloc.specs.Shown.{IsOutsideLane, IsAt, IsPlaced, IsClearMark, MayAllocate, MayFree}
use Rattle.heap_palloc.specs.Law.{KeepsElsewhere, ChangesShown, Allocates, Frees, IsHeapPage, IsSmallPage, Slot, slot_allocation, taking, taken, IsIdle, MayTakeSlot, MayFreeSlot}
use Rattle.heap_palloc.proofs.Changes.{shown_from_atomic}
use Rattle.heap_small.proofs.Bitmaps.{with_bit-same, with_bit-other, without_bit-same, without_bit-other, without_bit-with}
use Rattle.heap_palloc.proofs.LiveBlocks.{is_small_page-same, OnePage, one_page-back}
use Rattle.heap_palloc.proofs.Slots.{IsSlotPlace, slot_place, mark-slot, unmarked-slot, descriptor_outside-lane, bitmap_outside-lane, bit-gains, at-descriptor, at-bitmap, at-one_page, without_bit-clear}
use Rattle.heap_palloc.proofs.Atomic.{allocation_atomic, allocation_ends, freeing_atomic, freeing_ends}

-- an owner's word is none of a lane
pub owner_outside-lane : (words : List ℕ) (lane owner : ℕ) → IsIdle words lane owner → IsOutsideLane lane owner
owner_outside-lane words lane owner idle = let lt = idle.lane_is in (
  λ e. ⊎_elim (λ low. omega (arith, e, low)) (λ high. omega (arith, e, high, lt)) idle.owner_is.outside_lanes,
  λ e. ⊎_elim (λ low. omega (arith, e, low)) (λ high. omega (arith, e, high, lt)) idle.owner_is.outside_lanes,
  λ e. ⊎_elim (λ low. omega (arith, e, low)) (λ high. omega (arith, e, high, lt)) idle.owner_is.outside_lanes,
)

module _ (words : List ℕ) (s : Slot) (idle : IsIdle words s.lane s.owner) (page_is : IsHeapPage words s.page) (class_is : s.class < 6) (slot_is : s.slot < slots_of s.class) where
  place : IsSlotPlace s.page s.class s.slot (slot_at s.page s.class s.slot)
  place = slot_place s.page s.class s.slot class_is slot_is

  pub slot_mark : mark_at (slot_at s.page s.class s.slot) ≡ page_at s.page
  slot_mark = (mark-slot s.page s.class s.slot (slot_at s.page s.class s.slot) place).1

  slot_descriptor : descriptor_at (page_of (slot_at s.page s.class s.slot)) ≡ descriptor_at s.page
  slot_descriptor = ap descriptor_at place.page_is

  pub slot_placed : (marked : ℕ) → s.owner ≢ page_at s.page → IsPlaced (length words) (slot_allocation s marked)
  slot_placed marked apart = record {
    two_words = inr (λ e. omega (arith, sym slot_descriptor ∙ e ∙ slot_mark, page_is.behind_header));
    lane = idle.lane_is;
    lanes = omega (arith, page_is.in_image, page_is.behind_fixed);
    owner = idle.owner_is.in_image;
    mark = subst (λ (m : ℕ). m < length words) (sym slot_mark) (omega (arith, page_is.in_image));
    mark_apart = λ e. apart (e ∙ slot_mark);
    descriptor_apart = λ e. omega (arith, e ∙ slot_descriptor, idle.owner_is.no_descriptor);
    owner_outside = owner_outside-lane words s.lane s.owner idle;
    mark_outside = subst (IsOutsideLane s.lane) (sym slot_mark) (bitmap_outside-lane s.lane s.page idle.lane_is);
    descriptor_outside = subst (IsOutsideLane s.lane) (sym slot_descriptor) (descriptor_outside-lane s.lane s.page idle.lane_is);
  }

  pub slot_unmarked : descriptor_of words s.page ≡ 2 + s.class → (mark : ℕ) → unmarked (slot_at s.page s.class s.slot) (get_or words (descriptor_at (page_of (slot_at s.page s.class s.slot))) 0) mark ≡ without_bit mark s.slot
  slot_unmarked descriptor mark =
      ap (λ (d : ℕ). unmarked (slot_at s.page s.class s.slot) (get_or words d 0) mark) slot_descriptor
      ∙ ap (λ (d : ℕ). unmarked (slot_at s.page s.class s.slot) d mark) descriptor
      ∙ unmarked-slot s.page s.class s.slot (slot_at s.page s.class s.slot) mark place

-- ── a slot of a small page is allocated ──

module _ (base : List ℕ) (s : Slot) (may : MayTakeSlot base s) where
  apart_from_bitmap : s.owner ≢ page_at s.page
  apart_from_bitmap e = may.idle.owner_is.no_bitmap (ap (is_small_page base) (omega (arith, e)) ∙ may.page_is.small) (omega (arith, e))

  mark_is : mark_at (slot_at s.page s.class s.slot) ≡ page_at s.page
  mark_is = slot_mark base s may.idle may.page_is.page_is may.page_is.class_is may.slot_is

  pub take_slot_may : MayAllocate base (taking base s)
  take_slot_may = record {
    placed = slot_placed base s may.idle may.page_is.page_is may.page_is.class_is may.slot_is (with_bit (bitmap_of base s.page) s.slot) apart_from_bitmap;
    idle = may.idle.op;
    unowned = may.unowned;
    clears = subst (IsClearMark base (taking base s)) (ap (λ (w : ℕ). get_or base w 0) (sym mark_is)) (record {
      set = slot_unmarked base s may.idle may.page_is.page_is may.page_is.class_is may.slot_is may.page_is.descriptor (with_bit (bitmap_of base s.page) s.slot) ∙ without_bit-with (bitmap_of base s.page) s.slot may.clear;
      again = slot_unmarked base s may.idle may.page_is.page_is may.page_is.class_is may.slot_is may.page_is.descriptor (bitmap_of base s.page) ∙ without_bit-clear (bitmap_of base s.page) s.slot may.clear;
    });
  }

  abbrev a : Allocation
  a = taking base s

  abbrev final : List ℕ
  final = finished (allocation_parts (taking base s)) base

  ends : IsAt base a 0 a.marked (pointer_word a.block) final
  ends = allocation_ends base a take_slot_may

  one : OnePage base final s.page
  one = at-one_page base final a 0 a.marked (pointer_word a.block) s.page may.idle.lane_is mark_is may.page_is.page_is may.idle.owner_is ends

  bitmap : bitmap_of final s.page ≡ with_bit (bitmap_of base s.page) s.slot
  bitmap = at-bitmap base final a 0 a.marked (pointer_word a.block) s.page may.idle.lane_is mark_is may.page_is.page_is may.idle.owner_is ends

  keeps : KeepsElsewhere s.lane s.owner s.page 1 base final
  keeps = record { size = ends.size; each = λ w e. ends.others w e.outside_lane (λ x. e.no_bitmap (x ∙ mark_is)) e.no_owner }

  -- what it leaves of the page, and of all others
  pub take_one : OnePage base (finished (allocation_parts (taking base s)) base) s.page
  take_one = one

  pub take_bitmap : bitmap_of (finished (allocation_parts (taking base s)) base) s.page ≡ with_bit (bitmap_of base s.page) s.slot
  take_bitmap = bitmap

  pub take_descriptor : descriptor_of (finished (allocation_parts (taking base s)) base) s.page ≡ descriptor_of base s.page
  take_descriptor = at-descriptor base final a 0 a.marked (pointer_word a.block) s.page may.idle.lane_is mark_is may.page_is.page_is may.idle.owner_is ends s.page

  pub take_slot_allocates : Allocates (taking base s) s.page 1 (slot_words s.class) (allocation_parts (taking base s)) base
  take_slot_allocates = record {
    gains = bit-gains base final s.page s.class s.slot may.page_is may.slot_is one take_descriptor
        may.clear (ap (λ (b : ℕ). bit_at b s.slot) bitmap ∙ with_bit-same (bitmap_of base s.page) s.slot) (λ other apart. ap (λ (b : ℕ). bit_at b other) bitmap ∙ with_bit-other (bitmap_of base s.page) s.slot other apart);
    changes = subst (λ (old : ℕ). ChangesShown s.lane s.owner s.page 1 base (live_blocks base) old (live_blocks final) (pointer_word a.block) (allocation_parts a) base) may.unowned
        (subst (λ (new : ℕ). ChangesShown s.lane s.owner s.page 1 base (live_blocks base) (get_or base s.owner 0) (live_blocks final) new (allocation_parts a) base) ends.owner_is
        (shown_from_atomic s.lane s.owner s.page 1 (allocation_parts a) base may.idle.lane_is (owner_outside-lane base s.lane s.owner may.idle) keeps (allocation_atomic base a take_slot_may)));
  }

-- ── a slot of a small page is freed ──

module _ (base : List ℕ) (s : Slot) (may : MayFreeSlot base s) where
  abbrev pub slot_clear : ℕ
  slot_clear = without_bit (bitmap_of base s.page) s.slot

  free_mark_is : mark_at (slot_at s.page s.class s.slot) ≡ page_at s.page
  free_mark_is = slot_mark base s may.idle may.page_is.page_is may.page_is.class_is may.slot_is

  pub free_slot_may : MayFree base (taken base s) slot_clear
  free_slot_may = record {
    placed = slot_placed base s may.idle may.page_is.page_is may.page_is.class_is may.slot_is (bitmap_of base s.page)
        (λ e. may.idle.owner_is.no_bitmap (ap (is_small_page base) (omega (arith, e)) ∙ may.page_is.small) (omega (arith, e)));
    idle = may.idle.op;
    owned = may.owned;
    allocated = ap (λ (w : ℕ). get_or base w 0) free_mark_is;
    clears = record {
      set = slot_unmarked base s may.idle may.page_is.page_is may.page_is.class_is may.slot_is may.page_is.descriptor (bitmap_of base s.page);
      again = slot_unmarked base s may.idle may.page_is.page_is may.page_is.class_is may.slot_is may.page_is.descriptor slot_clear
          ∙ without_bit-clear slot_clear s.slot (without_bit-same (bitmap_of base s.page) s.slot);
    };
  }

  abbrev pub free_words : List ℕ
  free_words = finished (freeing_parts (taken base s) slot_clear) base

  free_ends : IsAt base (taken base s) 0 slot_clear 0 free_words
  free_ends = freeing_ends base (taken base s) slot_clear free_slot_may

  pub free_one : OnePage base free_words s.page
  free_one = at-one_page base free_words (taken base s) 0 slot_clear 0 s.page may.idle.lane_is free_mark_is may.page_is.page_is may.idle.owner_is free_ends

  pub free_bitmap : bitmap_of free_words s.page ≡ slot_clear
  free_bitmap = at-bitmap base free_words (taken base s) 0 slot_clear 0 s.page may.idle.lane_is free_mark_is may.page_is.page_is may.idle.owner_is free_ends

  pub free_descriptor : descriptor_of free_words s.page ≡ descriptor_of base s.page
  free_descriptor = at-descriptor base free_words (taken base s) 0 slot_clear 0 s.page may.idle.lane_is free_mark_is may.page_is.page_is may.idle.owner_is free_ends s.page

  -- the page is a small one still
  pub free_small : IsSmallPage free_words s.page s.class
  free_small = record {
    page_is = record { in_image = subst (λ (n : ℕ). s.page < n / 512) (sym free_one.size) may.page_is.page_is.in_image; behind_header = may.page_is.page_is.behind_header; behind_fixed = may.page_is.page_is.behind_fixed };
    class_is = may.page_is.class_is;
    small = is_small_page-same base free_words free_one.inside s.page free_descriptor ∙ may.page_is.small;
    descriptor = free_descriptor ∙ may.page_is.descriptor;
  }

  pub free_keeps : KeepsElsewhere s.lane s.owner s.page 1 base free_words
  free_keeps = record { size = free_ends.size; each = λ w e. free_ends.others w e.outside_lane (λ x. e.no_bitmap (x ∙ free_mark_is)) e.no_owner }

  pub free_slot_frees : Frees (taken base s) s.page 1 (slot_words s.class) (freeing_parts (taken base s) slot_clear) base
  free_slot_frees = record {
    loses = bit-gains free_words base s.page s.class s.slot free_small may.slot_is (one_page-back base free_words s.page free_one) (sym free_descriptor)
        (ap (λ (b : ℕ). bit_at b s.slot) free_bitmap ∙ without_bit-same (bitmap_of base s.page) s.slot) may.set
        (λ other apart. sym (ap (λ (b : ℕ). bit_at b other) free_bitmap ∙ without_bit-other (bitmap_of base s.page) s.slot other apart));
    changes = subst (λ (old : ℕ). ChangesShown s.lane s.owner s.page 1 base (live_blocks base) old (live_blocks free_words) 0 (freeing_parts (taken base s) slot_clear) base) may.owned
        (subst (λ (new : ℕ). ChangesShown s.lane s.owner s.page 1 base (live_blocks base) (get_or base s.owner 0) (live_blocks free_words) new (freeing_parts (taken base s) slot_clear) base) free_ends.owner_is
        (shown_from_atomic s.lane s.owner s.page 1 (freeing_parts (taken base s) slot_clear) base may.idle.lane_is (owner_outside-lane base s.lane s.owner may.idle) free_keeps (freeing_atomic base (taken base s) slot_clear free_slot_may)));
  }

  pub free_idle : get_or free_words (lane_op_at s.lane) 0 ≡ 0
  free_idle = free_ends.op_is

  pub free_owner : get_or free_words s.owner 0 ≡ 0
  free_owner = free_ends.owner_is
