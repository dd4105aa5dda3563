use Rattle.pm_model.specs.Plain.{device_of}
use Rattle.heap_palloc.proofs.Settled.{planned_parts}
use Rattle.block_tests.proofs.blocks.image_with_block.Goals as goal

pub play_whole-requires-clause-planned : goal.play_whole-requires-clause-planned
play_whole-requires-clause-planned g c =
    planned_parts (device_of c.in_ok-memory.memory) c.in_ok-memory.heap c.in_ok-memory.ensures.settled c.plan_allocate.new.heap c.in_ok-plan.ensures.allocated.choice c.in_ok-plan.plan.left c.in_ok-plan.block.first.0 c.in_ok-plan.block.words
    c.in_ok-plan.ensures.allocated.planned
