use Rattle.image_rules.proofs.StampChecks.{StampsBelow}
use Rattle.image_rules.proofs.stamp_rules.stamp_fault.Given as goal

abbrev pub invariant-loop-table : goal.invariant-loop-table
invariant-loop-table l = StampsBelow l.words l.table
