use Rattle.heap_palloc.proofs.Settled.{released_parts, released_settled}
use Rattle.heap_tests.proofs.blocks.free.Goals as goal

pub returns : goal.returns
returns g c = record { settled = released_settled (g.M.Memory.device c.args.memory.now) c.args.heap.now c.requires.settled c.plan_free.new.heap 0 c.args.dest.0 c.in_ok-plan.plan.left c.in_ok-plan.ensures.freed (g.M.Memory.device c.play_whole.new.memory) (c.play_whole.ensures.words (released_parts (g.M.Memory.device c.args.memory.now) c.args.heap.now c.requires.settled c.plan_free.new.heap 0 c.args.dest.0 c.in_ok-plan.plan.left c.in_ok-plan.ensures.freed).0 (released_parts (g.M.Memory.device c.args.memory.now) c.args.heap.now c.requires.settled c.plan_free.new.heap 0 c.args.dest.0 c.in_ok-plan.plan.left c.in_ok-plan.ensures.freed).1 (released_parts (g.M.Memory.device c.args.memory.now) c.args.heap.now c.requires.settled c.plan_free.new.heap 0 c.args.dest.0 c.in_ok-plan.plan.left c.in_ok-plan.ensures.freed).2) c.play_whole.ensures.clean }
