use Rattle.heap_tests.proofs.ArrayImages.{ready_plays, ready_again}
use Rattle.heap_tests.proofs.arrays.grow.Goals as goal

pub play-requires-clause-may_play : goal.play-requires-clause-may_play
play-requires-clause-may_play g c = ready_plays (g.M.Memory.device c.args.memory.now) (g.met.M.Memory.whole c.args.memory.now) c.args.heap.now c.plan_grow.new.heap c.in_ok-plan.plan.left c.requires c.in_ok-plan.ensures.planned

pub returns : goal.returns
returns g c = ready_again (g.M.Memory.device c.args.memory.now) (g.met.M.Memory.whole c.args.memory.now) c.args.heap.now c.plan_grow.new.heap c.in_ok-plan.plan.left c.requires c.in_ok-plan.ensures.planned c.len-actions.result (g.M.Memory.device c.play.new.memory) c.len-actions.ensures c.play.ensures.device
