use Rattle.image_rules.proofs.ArrayChecks.{TablesBelow}
use Rattle.image_rules.proofs.array_rules.arrays_fault.Given as goal

abbrev pub invariant-loop-table : goal.invariant-loop-table
invariant-loop-table l = TablesBelow l.words l.table
