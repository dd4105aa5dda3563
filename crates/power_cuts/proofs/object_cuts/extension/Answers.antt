use Rattle.txn_object.proofs.TestEntries.{reindexed}
use Rattle.power_cuts.proofs.object_cuts.extension.Goals as goal

pub plan_extend-requires-clause-may : goal.plan_extend-requires-clause-may
plan_extend-requires-clause-may g c = reindexed (g.M.Memory.device c.args.memory.now) 1 63 c.requires c.in_ok-heap.heap c.in_ok-heap.ensures
