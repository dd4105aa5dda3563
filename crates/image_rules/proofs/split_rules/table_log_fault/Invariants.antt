use Rattle.image_rules.proofs.EachColumn.{ColumnsBelow}
use Rattle.image_rules.specs.Parts.{log_checks}
use Rattle.image_rules.proofs.split_rules.table_log_fault.Given as goal

abbrev pub invariant-loop-number : goal.invariant-loop-number
invariant-loop-number l = ColumnsBelow l.words (log_checks l.words) l.block.0 l.number
