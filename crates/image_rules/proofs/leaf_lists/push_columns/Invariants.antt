use Rattle.std.proofs.Common.{◌≡◌, ◌+◌, ◌≤◌, ◌++◌, length, map}
use Rattle.std.specs.Prelude.{All}
use Rattle.image_layout.specs.Places.{below}
use Rattle.image_layout.specs.Tables.{column_record}
use Rattle.image_rules.proofs.leaf_lists.push_columns.Given as goal

abbrev pub invariant-loop-number : goal.invariant-loop-number
invariant-loop-number l = record {
  columns : l.columns.items ≡ l.fn.columns.items ++ map (column_record l.words l.block.0) (below l.number);
  within : All (λ column. column + 40 ≤ length l.words) l.fn.columns.items → All (λ column. column + 40 ≤ length l.words) l.columns.items;
}
