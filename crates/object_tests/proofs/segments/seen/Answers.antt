use Rattle.txn_object.proofs.TestObject.{none_packed}
use Rattle.object_tests.proofs.segments.seen.Goals as goal

pub entries-requires-clause-packed : goal.entries-requires-clause-packed
entries-requires-clause-packed g c = none_packed (g.M.Memory.device c.args.memory.now).cached c.requires.none
