use Rattle.txn_object.specs.TestObject.{HasEntries}
use Rattle.object_tests.proofs.transactions.enter_up_to.Given as goal

abbrev pub invariant-loop-nth : goal.invariant-loop-nth
invariant-loop-nth g l = HasEntries (g.M.Memory.device l.memory) 32 l.nth
