use Rattle.std.proofs.Common.{◌≡◌, ℕ, ◌*◌, ◌<◌, inl, inr, List, length, get_or, sym, ◌∙◌, ap, subst, arith}
use Rattle.image_layout.specs.Blocks.{bitmap_of, slots_of}
use Rattle.heap_small.specs.Bitmap.{IsFirstClear}
use Rattle.heap_palloc.specs.Index.{HeapIndex}
use Rattle.heap_palloc.proofs.Allocating.{dest_in_device}
use Rattle.heap_palloc.proofs.Indexed.{LosesRoom}
use Rattle.heap_palloc.proofs.Slots.{slot_low}
use Rattle.heap_palloc.proofs.SlotCalls.{full_is, Fills, some_found, found_is, page_in_image, page_low, slot_there, slot_planned}
use Rattle.heap_palloc.proofs.allocate.take_slot.Goals as goal
use Rattle.heap_palloc.proofs.allocate.take_slot.Goals.{then-is_none, else-is_none}

pub load-bitmap-requires : goal.load-bitmap-requires
load-bitmap-requires g c =
    let lt = page_in_image (g.M.Memory.device c.args.mem.now) (g.met.M.Memory.whole c.args.mem.now) c.args.heap.now c.args.lane c.args.dest.0 c.requires.may c.args.class c.args.page c.requires.class c.requires.room.0 c.requires.room.1 in
    omega (arith, lt, c.from.ensures)

pub unwrap-slot-requires : goal.unwrap-slot-requires
unwrap-slot-requires g c =
    let bitmap : c.load-bitmap.result ≡ bitmap_of (g.M.Memory.device c.args.mem.now).cached c.args.page = c.load-bitmap.ensures ∙ ap (λ (p : ℕ). get_or (g.M.Memory.device c.args.mem.now).cached (512 * p) 0) c.from.ensures in
    some_found c.first_free.result (λ none. slot_there (g.M.Memory.device c.args.mem.now) (g.met.M.Memory.whole c.args.mem.now) c.args.heap.now c.args.lane c.args.dest.0 c.requires.may c.args.class c.args.page c.requires.class c.requires.room.0 c.requires.room.1
    c.load-bitmap.result bitmap (c.first_free.ensures.none.0 none))

pub slot_block-block-requires-clause-page : goal.slot_block-block-requires-clause-page
slot_block-block-requires-clause-page g c =
    page_low (g.M.Memory.device c.args.mem.now) (g.met.M.Memory.whole c.args.mem.now) c.args.heap.now c.args.lane c.args.dest.0 c.requires.may c.args.class c.args.page c.requires.class c.requires.room.0 c.requires.room.1

pub with-marked-requires : goal.with-marked-requires
with-marked-requires g c = slot_low c.args.class c.unwrap-slot.result c.requires.class (found_is (λ (s : ℕ). s < slots_of c.args.class) c.first_free.result c.unwrap-slot.result c.unwrap-slot.ensures c.first_free.ensures.within)

pub push_allocation-requires-clause-owner : goal.push_allocation-requires-clause-owner
push_allocation-requires-clause-owner g c = dest_in_device (g.M.Memory.device c.args.mem.now) (g.met.M.Memory.whole c.args.mem.now) c.args.heap.now c.args.lane c.args.dest.0 c.requires.may

pub push_allocation-requires-clause-block : goal.push_allocation-requires-clause-block
push_allocation-requires-clause-block g c =
    let low = page_low (g.M.Memory.device c.args.mem.now) (g.met.M.Memory.whole c.args.mem.now) c.args.heap.now c.args.lane c.args.dest.0 c.requires.may c.args.class c.args.page c.requires.class c.requires.room.0 c.requires.room.1 in
    omega (arith, low, c.slot_block-block.ensures.within)

pub returns-clause-planned : goal.returns-clause-planned
returns-clause-planned g c =
    let bitmap : c.load-bitmap.result ≡ bitmap_of (g.M.Memory.device c.args.mem.now).cached c.args.page = c.load-bitmap.ensures ∙ ap (λ (p : ℕ). get_or (g.M.Memory.device c.args.mem.now).cached (512 * p) 0) c.from.ensures in
    let within = found_is (λ (s : ℕ). s < slots_of c.args.class) c.first_free.result c.unwrap-slot.result c.unwrap-slot.ensures c.first_free.ensures.within in
    let clear = found_is (IsFirstClear c.load-bitmap.result) c.first_free.result c.unwrap-slot.result c.unwrap-slot.ensures c.first_free.ensures.first in
    let full = full_is c.args.class c.with-marked.result c.first_free-2.result c.is_none.result c.first_free-2.ensures.none c.is_none.ensures in
    let fills : Fills c.args.heap.now c.if-is_none.heap c.args.class c.args.page c.with-marked.result = elim c.if-is_none.branch [
      | then-is_none w ↦
          let P : HeapIndex → Type 0 = λ h. LosesRoom c.args.heap.now h c.args.class c.args.page × (h.free ≡ c.args.heap.now.free) in
          let both : P c.if-is_none.heap = subst P (sym w.heap-is) (record { loses = w.remove_room.ensures.loses; others = w.remove_room.ensures.others }, w.remove_room.ensures.free) in
          inl (full ∙ w.if-is_none.true, both.0, both.1)
      | else-is_none w ↦ inr (full ∙ w.if-is_none.false, w.heap-is)
    ] in
    slot_planned (g.M.Memory.device c.args.mem.now) (g.met.M.Memory.whole c.args.mem.now) c.args.heap.now c.args.lane c.args.dest.0 c.requires.may c.args.class c.args.page c.requires.class c.requires.room.0 c.requires.room.1 c.requires.empty
    c.load-bitmap.result c.unwrap-slot.result c.with-marked.result c.slot_block-block.result.first.0 c.slot_block-block.result.words c.push_allocation.new.plan.left c.in_ok-plan.plan.left c.if-is_none.heap
    bitmap within clear c.with-marked.ensures.value c.slot_block-block.ensures.first c.slot_block-block.ensures.words c.push_allocation.ensures.left c.in_ok-plan.ensures.empty fills

pub remove_room-requires : goal.remove_room-requires
remove_room-requires g c =
    let rooms = c.requires.room.1 in (
      0,
      subst (λ (pages : List ℕ). 0 < length pages) (sym rooms) (omega arith),
      ap (λ (pages : List ℕ). get_or pages 0 c.args.page) rooms,
    )
