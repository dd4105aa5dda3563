use Rattle.txn_object.specs.Object.{begin_parts}
use Rattle.txn_object.proofs.TestEntries.{begin_plan, begin_played}
use Rattle.test_ground.proofs.objects.begin.Goals as goal

pub play_whole-requires-clause-planned : goal.play_whole-requires-clause-planned
play_whole-requires-clause-planned g c = (
  begin_parts 0,
  c.in_ok-plan.ensures,
  begin_plan (g.M.Memory.device c.args.memory.now) c.args._heap.now c.requires (g.met.M.Memory.whole c.args.memory.now),
)

pub returns : goal.returns
returns g c =
    begin_played (g.M.Memory.device c.args.memory.now) c.args._heap.now c.requires (g.met.M.Memory.whole c.args.memory.now) (g.M.Memory.device c.play_whole.new.memory)
    (c.play_whole.ensures.words (begin_parts 0) c.in_ok-plan.ensures (begin_plan (g.M.Memory.device c.args.memory.now) c.args._heap.now c.requires (g.met.M.Memory.whole c.args.memory.now)))
    c.play_whole.ensures.clean
