use Rattle.std.proofs.Common.{◌≡◌, ◌+◌, ◌≤◌, length}
use Rattle.std.specs.Prelude.{All}
use Rattle.image_rules.proofs.Gathered.{tables_before}
use Rattle.image_rules.proofs.leaf_lists.all_columns.Given as goal

abbrev pub invariant-loop-table : goal.invariant-loop-table
invariant-loop-table l = record {
  columns : l.columns.items ≡ tables_before l.words l.table;
  within : All (λ column. column + 40 ≤ length l.words) l.columns.items;
}
