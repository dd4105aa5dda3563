use Rattle.image_rules.proofs.EachColumn.{ColumnsBelow}
use Rattle.image_layout.specs.EntryRules.{tree_checks}
use Rattle.image_rules.proofs.tree_rules.table_trees_fault.Given as goal

abbrev pub invariant-loop-number : goal.invariant-loop-number
invariant-loop-number l = ColumnsBelow l.words (tree_checks l.words) l.block.0 l.number
