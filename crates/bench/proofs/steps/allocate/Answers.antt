use Rattle.heap_palloc.proofs.Settled.{planned_parts}
use Rattle.bench.proofs.Turns.{allocated}
use Rattle.bench.proofs.steps.allocate.Goals as goal

pub play_whole-requires-clause-planned : goal.play_whole-requires-clause-planned
play_whole-requires-clause-planned g c =
    let made = c.in-Ok.ensures.allocated in
    planned_parts (g.M.Memory.device c.args.memory.now) c.args.heap.now c.requires.in_use.settled c.plan_allocate.new.heap made.choice c.in-Ok.plan.left c.in-Ok._block.first.0 c.in-Ok._block.words made.planned

pub returns-in-Ok : goal.returns-in-Ok
returns-in-Ok g c =
    let made = c.in-Ok.ensures.allocated in
    let parts = planned_parts (g.M.Memory.device c.args.memory.now) c.args.heap.now c.requires.in_use.settled c.plan_allocate.new.heap made.choice c.in-Ok.plan.left c.in-Ok._block.first.0 c.in-Ok._block.words made.planned in
    allocated (g.M.Memory.device c.args.memory.now) c.args.heap.now c.requires.in_use c.args.owner.0 c.requires.owner c.plan_allocate.new.heap made.choice c.in-Ok.plan.left c.in-Ok._block.first.0 c.in-Ok._block.words made.through made.planned
    (g.M.Memory.device c.play_whole.new.memory) (c.play_whole.ensures.words parts.0 parts.1 parts.2) c.play_whole.ensures.clean
