use Rattle.image_rules.proofs.ArrayChecks.{ColumnsBelow}
use Rattle.image_rules.proofs.array_rules.table_arrays_fault.Given as goal

abbrev pub invariant-loop-number : goal.invariant-loop-number
invariant-loop-number l = ColumnsBelow l.words l.block.0 l.number
