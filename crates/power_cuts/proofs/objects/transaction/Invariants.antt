use Rattle.txn_object.specs.TestObject.{HasEntries}
use Rattle.power_cuts.proofs.objects.transaction.Given as goal

abbrev pub invariant-loop-row : goal.invariant-loop-row
invariant-loop-row g l = HasEntries (g.M.Memory.device l.memory) 1 l.row
