use Rattle.image_rules.proofs.EachColumn.{TablesBelow}
use Rattle.image_rules.specs.Parts.{log_checks}
use Rattle.image_rules.proofs.split_rules.split_log_fault.Given as goal

abbrev pub invariant-loop-table : goal.invariant-loop-table
invariant-loop-table l = TablesBelow l.words (log_checks l.words) l.table
