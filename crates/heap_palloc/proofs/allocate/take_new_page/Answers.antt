use Rattle.std.proofs.Common.{◌≡◌, ◌⊎◌, ◌<◌, inl, inr, sym, ◌∙◌, ap, subst, arith}
use Rattle.image_layout.specs.Blocks.{longest_free_run}
use Rattle.heap_palloc.specs.declared.error.AllocError.TheVariants.{Full, NoMemory as OutOfMemory}
use Rattle.heap_palloc.specs.Index.{HeapIndex}
use Rattle.heap_palloc.proofs.Allocating.{dest_in_device}
use Rattle.heap_palloc.proofs.Indexed.{GainsRoom}
use Rattle.heap_palloc.proofs.PageCalls.{TookRun, first_slot, Leaves, new_page_planned, none_long, handed_on}
use Rattle.heap_palloc.proofs.allocate.take_new_page.Goals as goal
use Rattle.heap_palloc.proofs.allocate.take_new_page.Goals.{then-slots-gt1, else-slots-gt1}

pub returns-in_err-page-clause-full : goal.returns-in_err-page-clause-full
returns-in_err-page-clause-full g c =
    let (largest, greatest, short, is) = c.in_err-page.ensures.full in
    let long = none_long (g.M.Memory.device c.args.mem.now) (g.met.M.Memory.whole c.args.mem.now) c.args.heap.now c.args.lane c.args.dest.0 c.requires.may largest 1 greatest short in
    handed_on (λ error. (error ≡ OutOfMemory) ⊎ ((longest_free_run (g.M.Memory.device c.args.mem.now).cached < 1) × (error ≡ Full 1 (longest_free_run (g.M.Memory.device c.args.mem.now).cached))))
    c.from_residual-in_err-page.result c.in_err-page.field-0.0 c.from_residual-in_err-page.ensures.1 (inr (long.0, is ∙ ap (λ n. Full 1 n) long.1))

pub slot_block-block-requires-clause-slot : goal.slot_block-block-requires-clause-slot
slot_block-block-requires-clause-slot g c = first_slot c.args.class c.requires.class

pub push_allocation-requires-clause-owner : goal.push_allocation-requires-clause-owner
push_allocation-requires-clause-owner g c = dest_in_device (g.M.Memory.device c.args.mem.now) (g.met.M.Memory.whole c.args.mem.now) c.args.heap.now c.args.lane c.args.dest.0 c.requires.may

pub returns-clause-planned : goal.returns-clause-planned
returns-clause-planned g c =
    let e = c.in_ok-page.ensures in
    let took : TookRun c.args.heap.now c.take_run.new.self 1 c.in_ok-page.field-0 = record {
      best = e.best;
      size = e.size;
      were_free = e.were_free;
      in_segment = e.in_segment;
      within = e.within;
      taken = e.taken;
      well_formed = e.well_formed;
      page_count = e.page_count;
      rooms = e.rooms;
    } in
    let leaves : Leaves c.take_run.new.self c.if-slots-gt1.heap c.args.class c.in_ok-page.field-0.first = elim c.if-slots-gt1.branch [
      | then-slots-gt1 w ↦
          let P : HeapIndex → Type 0 = λ h. GainsRoom c.take_run.new.self h c.args.class c.in_ok-page.field-0.first × (h.free ≡ c.take_run.new.self.free) in
          let both : P c.if-slots-gt1.heap = subst P (sym w.heap-is) (record { gains = w.add_room.ensures.gains; rising = w.add_room.ensures.rising; others = w.add_room.ensures.others }, w.add_room.ensures.free) in
          inl (omega (arith, w.if-slots-gt1.true, c.slots.ensures.count), both.0, both.1)
      | else-slots-gt1 w ↦ inr (omega (arith, w.if-slots-gt1.false, c.slots.ensures.count), w.heap-is)
    ] in
    new_page_planned (g.M.Memory.device c.args.mem.now) (g.met.M.Memory.whole c.args.mem.now) c.args.heap.now c.args.lane c.args.dest.0 c.requires.may c.requires.empty c.args.class c.requires.class
    c.take_run.new.self c.if-slots-gt1.heap c.in_ok-page.field-0 took c.slot_block-block.result.first.0 c.slot_block-block.result.words c.number.result c.with.result c.push_allocation.new.plan.left c.push_new_page.new.plan.left c.in_ok-plan.plan.left
    c.slot_block-block.ensures.first c.slot_block-block.ensures.words c.number.ensures.same c.with.ensures.value c.push_new_page.ensures.left c.push_allocation.ensures.left c.in_ok-plan.ensures.empty leaves
