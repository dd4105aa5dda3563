use Rattle.heap_palloc.proofs.Settled.{planned_parts, planned_settled, planned_owned}
use Rattle.heap_tests.proofs.blocks.allocate.Goals as goal

pub play_whole-actions-requires-clause-planned : goal.play_whole-actions-requires-clause-planned
play_whole-actions-requires-clause-planned g c = planned_parts (g.M.Memory.device c.args.memory.now) c.args.heap.now c.requires.settled c.plan_allocate.new.heap c.in_ok-plan.ensures.allocated.choice c.in_ok-plan.plan.left c.in_ok-plan.block.first.0 c.in_ok-plan.block.words c.in_ok-plan.ensures.allocated.planned

pub returns-clause-settled : goal.returns-clause-settled
returns-clause-settled g c = planned_settled (g.M.Memory.device c.args.memory.now) c.args.heap.now c.requires.settled c.plan_allocate.new.heap c.in_ok-plan.ensures.allocated.choice c.in_ok-plan.plan.left c.in_ok-plan.block.first.0 c.in_ok-plan.block.words c.in_ok-plan.ensures.allocated.planned (g.M.Memory.device c.play_whole-actions.new.memory) (c.play_whole-actions.ensures.words (planned_parts (g.M.Memory.device c.args.memory.now) c.args.heap.now c.requires.settled c.plan_allocate.new.heap c.in_ok-plan.ensures.allocated.choice c.in_ok-plan.plan.left c.in_ok-plan.block.first.0 c.in_ok-plan.block.words c.in_ok-plan.ensures.allocated.planned).0 (planned_parts (g.M.Memory.device c.args.memory.now) c.args.heap.now c.requires.settled c.plan_allocate.new.heap c.in_ok-plan.ensures.allocated.choice c.in_ok-plan.plan.left c.in_ok-plan.block.first.0 c.in_ok-plan.block.words c.in_ok-plan.ensures.allocated.planned).1 (planned_parts (g.M.Memory.device c.args.memory.now) c.args.heap.now c.requires.settled c.plan_allocate.new.heap c.in_ok-plan.ensures.allocated.choice c.in_ok-plan.plan.left c.in_ok-plan.block.first.0 c.in_ok-plan.block.words c.in_ok-plan.ensures.allocated.planned).2) c.play_whole-actions.ensures.clean

pub returns-clause-owned : goal.returns-clause-owned
returns-clause-owned g c = λ few. planned_owned (g.M.Memory.device c.args.memory.now) c.args.heap.now c.requires.settled c.plan_allocate.new.heap c.in_ok-plan.ensures.allocated.choice c.in_ok-plan.plan.left c.in_ok-plan.block.first.0 c.in_ok-plan.block.words c.in_ok-plan.ensures.allocated.planned c.args.words 0 c.args.dest.0 (g.M.Memory.device c.play_whole-actions.new.memory) c.in_ok-plan.ensures.allocated.chosen c.in_ok-plan.ensures.allocated.through few (c.play_whole-actions.ensures.words (planned_parts (g.M.Memory.device c.args.memory.now) c.args.heap.now c.requires.settled c.plan_allocate.new.heap c.in_ok-plan.ensures.allocated.choice c.in_ok-plan.plan.left c.in_ok-plan.block.first.0 c.in_ok-plan.block.words c.in_ok-plan.ensures.allocated.planned).0 (planned_parts (g.M.Memory.device c.args.memory.now) c.args.heap.now c.requires.settled c.plan_allocate.new.heap c.in_ok-plan.ensures.allocated.choice c.in_ok-plan.plan.left c.in_ok-plan.block.first.0 c.in_ok-plan.block.words c.in_ok-plan.ensures.allocated.planned).1 (planned_parts (g.M.Memory.device c.args.memory.now) c.args.heap.now c.requires.settled c.plan_allocate.new.heap c.in_ok-plan.ensures.allocated.choice c.in_ok-plan.plan.left c.in_ok-plan.block.first.0 c.in_ok-plan.block.words c.in_ok-plan.ensures.allocated.planned).2)
