use Rattle.heap_palloc.proofs.Settled.{released_parts}
use Rattle.bench.proofs.Turns.{released}
use Rattle.bench.proofs.steps.free.Goals as goal

pub returns : goal.returns
returns g c =
    let freed = c.in_ok-plan.ensures.freed in
    let parts = released_parts (g.M.Memory.device c.args.memory.now) c.args.heap.now c.requires.in_use.settled c.plan_free.new.heap 0 c.args.owner.0 c.in_ok-plan.plan.left freed in
    released (g.M.Memory.device c.args.memory.now) c.args.heap.now c.requires.in_use c.args.owner.0 c.requires.owner c.plan_free.new.heap c.requires.some c.in_ok-plan.plan.left freed
    (g.M.Memory.device c.play_whole.new.memory) (c.play_whole.ensures.words parts.0 parts.1 parts.2) c.play_whole.ensures.clean
