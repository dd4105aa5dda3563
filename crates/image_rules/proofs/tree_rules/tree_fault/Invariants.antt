use Rattle.image_rules.proofs.EachColumn.{TablesBelow}
use Rattle.image_layout.specs.EntryRules.{tree_checks}
use Rattle.image_rules.proofs.tree_rules.tree_fault.Given as goal

abbrev pub invariant-loop-table : goal.invariant-loop-table
invariant-loop-table l = TablesBelow l.words (tree_checks l.words) l.table
