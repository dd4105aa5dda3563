use Rattle.std.proofs.Common.{◌≤◌, arith}
use Rattle.heap_palloc.proofs.Settled.{planned_parts, planned_settled, planned_owned}
use Rattle.power_cuts.proofs.heap_cuts.allocate.Goals as goal

pub play_whole-requires-clause-planned : goal.play_whole-requires-clause-planned
play_whole-requires-clause-planned g c = planned_parts (g.M.Memory.device c.args.memory.now) c.args.heap.now c.requires c.plan_allocate.new.heap c.in_ok-plan.ensures.allocated.choice c.in_ok-plan.plan.left c.in_ok-plan._block.first.0 c.in_ok-plan._block.words c.in_ok-plan.ensures.allocated.planned

pub returns-clause-settled : goal.returns-clause-settled
returns-clause-settled g c =
    let parts = planned_parts (g.M.Memory.device c.args.memory.now) c.args.heap.now c.requires c.plan_allocate.new.heap c.in_ok-plan.ensures.allocated.choice c.in_ok-plan.plan.left c.in_ok-plan._block.first.0 c.in_ok-plan._block.words c.in_ok-plan.ensures.allocated.planned in
    planned_settled (g.M.Memory.device c.args.memory.now) c.args.heap.now c.requires c.plan_allocate.new.heap c.in_ok-plan.ensures.allocated.choice c.in_ok-plan.plan.left c.in_ok-plan._block.first.0 c.in_ok-plan._block.words c.in_ok-plan.ensures.allocated.planned (g.M.Memory.device c.play_whole.new.memory) (c.play_whole.ensures.words parts.0 parts.1 parts.2) c.play_whole.ensures.clean

pub returns-clause-owned : goal.returns-clause-owned
returns-clause-owned g c =
    let few : 80 ≤ 256 = omega arith in
    let parts = planned_parts (g.M.Memory.device c.args.memory.now) c.args.heap.now c.requires c.plan_allocate.new.heap c.in_ok-plan.ensures.allocated.choice c.in_ok-plan.plan.left c.in_ok-plan._block.first.0 c.in_ok-plan._block.words c.in_ok-plan.ensures.allocated.planned in (
      record { first = c.in_ok-plan._block.first.0; words = c.in_ok-plan._block.words },
      planned_owned (g.M.Memory.device c.args.memory.now) c.args.heap.now c.requires c.plan_allocate.new.heap c.in_ok-plan.ensures.allocated.choice c.in_ok-plan.plan.left c.in_ok-plan._block.first.0 c.in_ok-plan._block.words c.in_ok-plan.ensures.allocated.planned 80 0 520
          (g.M.Memory.device c.play_whole.new.memory) c.in_ok-plan.ensures.allocated.chosen c.in_ok-plan.ensures.allocated.through few (c.play_whole.ensures.words parts.0 parts.1 parts.2),
    )
