use Rattle.image_rules.proofs.NameChecks.{TableNamesBelow}
use Rattle.image_rules.proofs.name_rules.name_fault.Given as goal

abbrev pub invariant-loop-table : goal.invariant-loop-table
invariant-loop-table l = TableNamesBelow l.words l.table
