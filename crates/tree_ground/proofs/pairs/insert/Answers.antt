use Rattle.std.proofs.Common.{arith}
use Rattle.tree_ground.proofs.Played.{insertion_parts_are, insertion_ready, key_itself}
use Rattle.tree_ground.proofs.pairs.insert.Goals as goal

pub plan_insert-requires-clause-key : goal.plan_insert-requires-clause-key
plan_insert-requires-clause-key g c = key_itself (g.M.Memory.device c.args.memory.now).cached c.args.key

pub play_whole-requires-clause-planned : goal.play_whole-requires-clause-planned
play_whole-requires-clause-planned g c = insertion_parts_are (g.M.Memory.device c.args.memory.now) c.args._heap.now c.args.tree.now c.requires.ready c.args.key c.args.code c.in_ok-plan.plan.left c.in_ok-plan.ensures

pub returns : goal.returns
returns g c =
    insertion_ready (g.M.Memory.device c.args.memory.now) c.args._heap.now c.args.tree.now c.requires.ready c.args.key c.args.code c.in_ok-plan.plan.left c.in_ok-plan.ensures
    (g.met.M.Memory.whole c.args.memory.now) (omega (arith, c.ranges.code.fits)) (g.M.Memory.device c.play_whole.new.memory) c.play_whole.ensures.words c.play_whole.ensures.clean
