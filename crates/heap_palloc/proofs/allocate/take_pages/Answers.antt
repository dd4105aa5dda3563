use Rattle.std.proofs.Common.{◌≡◌, ◌⊎◌, ℕ, ◌+◌, ◌*◌, ◌<◌, inr, refl, ◌∙◌, ap}
use Rattle.image_layout.specs.Blocks.{longest_free_run}
use Rattle.heap_palloc.specs.declared.error.AllocError.TheVariants.{Full, NoMemory as OutOfMemory}
use Rattle.heap_palloc.proofs.Allocating.{dest_in_device}
use Rattle.heap_palloc.proofs.PageCalls.{TookRun, pages_planned, none_long, handed_on}
use Rattle.heap_palloc.proofs.allocate.take_pages.Goals as goal

pub returns-in_err-run-clause-full : goal.returns-in_err-run-clause-full
returns-in_err-run-clause-full g c =
    let (largest, greatest, short, is) = c.in_err-run.ensures.full in
    let long = none_long (g.M.Memory.device c.args.mem.now) (g.met.M.Memory.whole c.args.mem.now) c.args.heap.now c.args.lane c.args.dest.0 c.requires.may largest c.args.pages greatest short in
    handed_on (λ error. (error ≡ OutOfMemory) ⊎ ((longest_free_run (g.M.Memory.device c.args.mem.now).cached < c.args.pages) × (error ≡ Full c.args.pages (longest_free_run (g.M.Memory.device c.args.mem.now).cached))))
    c.from_residual-in_err-run.result c.in_err-run.field-0.0 c.from_residual-in_err-run.ensures.1 (inr (long.0, is ∙ ap (λ n. Full c.args.pages n) long.1))

pub push_allocation-requires-clause-owner : goal.push_allocation-requires-clause-owner
push_allocation-requires-clause-owner g c = dest_in_device (g.M.Memory.device c.args.mem.now) (g.met.M.Memory.whole c.args.mem.now) c.args.heap.now c.args.lane c.args.dest.0 c.requires.may

pub returns-clause-planned : goal.returns-clause-planned
returns-clause-planned g c =
    let e = c.in_ok-run.ensures in
    let took : TookRun c.args.heap.now c.take_run.new.self c.args.pages c.in_ok-run.run' = record {
      best = e.best;
      size = e.size;
      were_free = e.were_free;
      in_segment = e.in_segment;
      within = e.within;
      taken = e.taken;
      well_formed = e.well_formed;
      page_count = e.page_count;
      rooms = e.rooms;
    } in
    pages_planned (g.M.Memory.device c.args.mem.now) (g.met.M.Memory.whole c.args.mem.now) c.args.heap.now c.args.lane c.args.dest.0 c.requires.may c.requires.empty c.args.pages c.requires.some
    c.take_run.new.self c.in_ok-run.run' took (512 * c.from.result) (16 + c.from-2.result) (512 * c.args.pages) c.push_allocation.new.plan.left c.push_forgetting.new.plan.left c.in_ok-plan.plan.left
    (ap (λ (n : ℕ). 512 * n) c.from.ensures) (ap (λ (n : ℕ). 16 + n) c.from-2.ensures) refl c.push_forgetting.ensures.left c.push_allocation.ensures.left c.in_ok-plan.ensures.empty
