use Rattle.image_rules.proofs.NameChecks.{ColumnNamesBelow}
use Rattle.image_rules.proofs.name_rules.table_names_fault.Given as goal

abbrev pub invariant-loop-number : goal.invariant-loop-number
invariant-loop-number l = ColumnNamesBelow l.words l.block.0 l.number
