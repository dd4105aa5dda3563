-- At which stage each cut of an allocation or a freeing is, by the words that the plan leaves.
use Rattle.std.proofs.Common.{◌≡◌, ⊎_elim, ℕ, ◌<◌, List, get_or, set, refl, sym, ◌∙◌, ap}
use Rattle.std.proofs.lemmas.Bool.{cases_eq}
use Rattle.image_layout.specs.Fixed.{lane_op_at, lane_dest_at, lane_block_at}
use Rattle.image_layout.specs.Pointer.{pointer_word}
use Rattle.image_layout.specs.Places.{page_at}
use Rattle.image_layout.specs.Blocks.{slots_of, slot_at, descriptor_of, bitmap_of, live_blocks}
use Rattle.pm_model.specs.Plans.{EachCut}
use Rattle.pm_model.proofs.Cuts.{between-end, cut-one_store}
use Rattle.heap_palloc.specs.Lane.{mark_at}
use Rattle.heap_palloc.specs.Parts.{Allocation, lane_part, allocation_parts, freeing_parts}
use Rattle.heap_palloc.specs.Shown.{SameButLane, IsAt, MayAllocate, MayFree}
use Rattle.heap_palloc.specs.Law.{KeepsElsewhere, IsSmallPage, Slot, slot_allocation, IsIdle}
use Rattle.heap_palloc.specs.Calls.{KeepsHeapRules}
use Rattle.heap_palloc.specs.Changes.{IsLaneAt}
use Rattle.heap_palloc.proofs.Atomic.{lane_part-same}
use Rattle.heap_palloc.proofs.LiveBlocks.{is_small_page-same, OnePage, SameHeap, live_blocks-same}
use Rattle.heap_palloc.proofs.SameHeaps.{rules_same}
use Rattle.heap_palloc.proofs.Slots.{lane-same_heap, at-descriptor, at-bitmap, at-one_page}
use Rattle.heap_palloc.proofs.SlotPlans.{slot_mark}
use Rattle.heap_palloc.proofs.Stages.{at-op, at-mark, at-owner, at-begin}

-- ── the cuts of the parts ──

-- the words once the lane has its owner and its block
abbrev pub begun : List ℕ → Allocation → List ℕ
begun base a = set (set base (lane_dest_at a.lane) (pointer_word a.owner)) (lane_block_at a.lane) (pointer_word a.block)

pub begun_is_same : (base : List ℕ) (a : Allocation) → SameButLane a.lane base (begun base a)
begun_is_same base a = lane_part-same base a (begun base a) (between-end (lane_part a) base)

module _ (base : List ℕ) (a : Allocation) (P : List ℕ → Type 0) (front : (image : List ℕ) → SameButLane a.lane base image → P image) where
  abbrev at_work : ℕ → List ℕ
  at_work op = set (begun base a) (lane_op_at a.lane) op

  abbrev with_mark : List ℕ
  with_mark = set (at_work 1) (mark_at a.block) a.marked

  abbrev with_owner : List ℕ
  with_owner = set with_mark a.owner (pointer_word a.block)

  abbrev without_owner : List ℕ
  without_owner = set (at_work 2) a.owner 0

  abbrev without_mark : ℕ → List ℕ
  without_mark clear = set without_owner (mark_at a.block) clear

  abbrev old : ℕ
  old = get_or base (mark_at a.block) 0

  begun_is : P (begun base a)
  begun_is = front (begun base a) (begun_is_same base a)

  module _ (may : MayAllocate base a) where
    at1 : IsAt base a 1 old 0 (at_work 1)
    at1 = at-op base a may.placed 0 old 0 1 (begun base a) (at-begin base a may.placed old 0 may.idle refl may.unowned)

    at2 : IsAt base a 1 a.marked 0 with_mark
    at2 = at-mark base a may.placed 1 old 0 a.marked (at_work 1) at1

    at3 : IsAt base a 1 a.marked (pointer_word a.block) with_owner
    at3 = at-owner base a may.placed 1 a.marked 0 (pointer_word a.block) with_mark at2

    at4 : IsAt base a 0 a.marked (pointer_word a.block) (set with_owner (lane_op_at a.lane) 0)
    at4 = at-op base a may.placed 1 a.marked (pointer_word a.block) 0 with_owner at3

    pub allocation_staged : ((words : List ℕ) → IsAt base a 1 (get_or base (mark_at a.block) 0) 0 words → P words)
        → ((words : List ℕ) → IsAt base a 1 a.marked 0 words → P words)
        → ((words : List ℕ) → IsAt base a 1 a.marked (pointer_word a.block) words → P words)
        → ((words : List ℕ) → IsAt base a 0 a.marked (pointer_word a.block) words → P words) → EachCut P (allocation_parts a) base
    allocation_staged logged marked owned ended =
        let p1 = logged (at_work 1) at1 in
        let p2 = marked with_mark at2 in
        let p3 = owned with_owner at3 in
        let p4 = ended (set with_owner (lane_op_at a.lane) 0) at4 in (
          λ image between. front image (lane_part-same base a image between),
          (
            cut-one_store P (lane_op_at a.lane) 1 (begun base a) begun_is p1,
            (
              cut-one_store P (mark_at a.block) a.marked (at_work 1) p1 p2,
              (cut-one_store P a.owner (pointer_word a.block) with_mark p2 p3, (cut-one_store P (lane_op_at a.lane) 0 with_owner p3 p4, p4)),
            ),
          ),
        )

  module _ (clear : ℕ) (may : MayFree base a clear) where
    gone1 : IsAt base a 2 a.marked (pointer_word a.block) (at_work 2)
    gone1 = at-op base a may.placed 0 a.marked (pointer_word a.block) 2 (begun base a) (at-begin base a may.placed a.marked (pointer_word a.block) may.idle may.allocated may.owned)

    gone2 : IsAt base a 2 a.marked 0 without_owner
    gone2 = at-owner base a may.placed 2 a.marked (pointer_word a.block) 0 (at_work 2) gone1

    gone3 : IsAt base a 2 clear 0 (without_mark clear)
    gone3 = at-mark base a may.placed 2 a.marked 0 clear without_owner gone2

    gone4 : IsAt base a 0 clear 0 (set (without_mark clear) (lane_op_at a.lane) 0)
    gone4 = at-op base a may.placed 2 clear 0 0 (without_mark clear) gone3

    pub freeing_staged : ((words : List ℕ) → IsAt base a 2 a.marked (pointer_word a.block) words → P words)
        → ((words : List ℕ) → IsAt base a 2 a.marked 0 words → P words)
        → ((words : List ℕ) → IsAt base a 2 clear 0 words → P words)
        → ((words : List ℕ) → IsAt base a 0 clear 0 words → P words) → EachCut P (freeing_parts a clear) base
    freeing_staged logged disowned cleared ended =
        let p1 = logged (at_work 2) gone1 in
        let p2 = disowned without_owner gone2 in
        let p3 = cleared (without_mark clear) gone3 in
        let p4 = ended (set (without_mark clear) (lane_op_at a.lane) 0) gone4 in (
          λ image between. front image (lane_part-same base a image between),
          (
            cut-one_store P (lane_op_at a.lane) 2 (begun base a) begun_is p1,
            (
              cut-one_store P a.owner 0 (at_work 2) p1 p2,
              (cut-one_store P (mark_at a.block) clear without_owner p2 p3, (cut-one_store P (lane_op_at a.lane) 0 (without_mark clear) p3 p4, p4)),
            ),
          ),
        )

-- what the lane is at work on
pub lane_at : (base : List ℕ) (a : Allocation) (op mark owner : ℕ) (words : List ℕ) → IsAt base a op mark owner words → IsLaneAt a.lane a.owner a.block op words
lane_at base a op mark owner words at = record { op_is = at.op_is; owner_is = λ _. at.lane_owner; block_is = λ _. at.lane_block }

pub lane_idle_at : (lane owner block : ℕ) (words : List ℕ) → get_or words (lane_op_at lane) 0 ≡ 0 → IsLaneAt lane owner block 0 words
lane_idle_at lane owner block words idle = record { op_is = idle; owner_is = λ some. absurd (some refl); block_is = λ some. absurd (some refl) }

-- ── a slot: its stages as heaps ──

module _ (base : List ℕ) (s : Slot) (marked : ℕ) (idle : IsIdle base s.lane s.owner) (page_is : IsSmallPage base s.page s.class) (slot_is : s.slot < slots_of s.class) where
  mark_is : mark_at (slot_at s.page s.class s.slot) ≡ page_at s.page
  mark_is = slot_mark base s idle page_is.page_is page_is.class_is slot_is

  module _ (op mark owner : ℕ) (xs : List ℕ) (at : IsAt base (slot_allocation s marked) op mark owner xs) where
    pub slot_keeps : KeepsElsewhere s.lane s.owner s.page 1 base xs
    slot_keeps = record { size = at.size; each = λ w e. at.others w e.outside_lane (λ x. e.no_bitmap (x ∙ mark_is)) e.no_owner }

    pub slot_descriptor_at : (page : ℕ) → descriptor_of xs page ≡ descriptor_of base page
    slot_descriptor_at page = at-descriptor base xs (slot_allocation s marked) op mark owner s.page idle.lane_is mark_is page_is.page_is idle.owner_is at page

    slot_bitmap_at : bitmap_of xs s.page ≡ mark
    slot_bitmap_at = at-bitmap base xs (slot_allocation s marked) op mark owner s.page idle.lane_is mark_is page_is.page_is idle.owner_is at

    slot_one : OnePage base xs s.page
    slot_one = at-one_page base xs (slot_allocation s marked) op mark owner s.page idle.lane_is mark_is page_is.page_is idle.owner_is at

  -- with the same mark they have the same heap
  module _ (op now mark owner other : ℕ) (xs ys : List ℕ) (x : IsAt base (slot_allocation s marked) op mark owner xs) (y : IsAt base (slot_allocation s marked) now mark other ys) where
    pub slot_heap : SameHeap xs ys
    slot_heap = record {
      size = y.size ∙ sym x.size;
      pages = λ page. record {
        descriptor = slot_descriptor_at now mark other ys y page ∙ sym (slot_descriptor_at op mark owner xs x page);
        bitmap = λ small. ⊎_elim
            (λ (here : page ≡ s.page). ap (bitmap_of ys) here ∙ slot_bitmap_at now mark other ys y ∙ sym (ap (bitmap_of xs) here ∙ slot_bitmap_at op mark owner xs x))
            (λ apart.
            let was = sym (is_small_page-same base xs (slot_one op mark owner xs x).inside page (slot_descriptor_at op mark owner xs x page)) ∙ small in
            ((slot_one now mark other ys y).others page apart).bitmap was ∙ sym (((slot_one op mark owner xs x).others page apart).bitmap was))
            (cases_eq page s.page);
      };
    }

-- words that have the heap of others have their blocks, and keep the rules if they do
pub record HeapOf (base words : List ℕ) : Type 0 where
  pub blocks_are : live_blocks words ≡ live_blocks base
  pub rules : KeepsHeapRules base → KeepsHeapRules words

pub heap_of : (base words : List ℕ) → SameHeap base words → HeapOf base words
heap_of base words same = record { blocks_are = live_blocks-same base words same; rules = λ rules. rules_same base words same rules }

pub heap_then : (xs ys zs : List ℕ) → HeapOf xs ys → HeapOf ys zs → HeapOf xs zs
heap_then xs ys zs x y = record { blocks_are = y.blocks_are ∙ x.blocks_are; rules = λ rules. y.rules (x.rules rules) }

pub lane_heap : (lane : ℕ) (base words : List ℕ) → lane < 16 → SameButLane lane base words → HeapOf base words
lane_heap lane base words lt same = heap_of base words (lane-same_heap lane base words lt same)

pub lane_keeps : (lane owner page pages : ℕ) (base words : List ℕ) → SameButLane lane base words → KeepsElsewhere lane owner page pages base words
lane_keeps lane owner page pages base words same = record { size = same.size; each = λ w e. same.each w e.outside_lane.1 e.outside_lane.2 }
