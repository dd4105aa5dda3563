use Rattle.std.proofs.Common.{arith}
use Rattle.txn_object.proofs.Places.{length-entry_places}
use Rattle.object_tests.proofs.segments.entry_store.Goals as goal

pub push_entry-requires-clause-there : goal.push_entry-requires-clause-there
push_entry-requires-clause-there g c =
    let all = length-entry_places (g.M.Memory.device c.args.memory.now).cached 0 in
    omega (arith, all, c.load.ensures, c.if-load-ne32.false, c.if-nth-ge8220.false)
