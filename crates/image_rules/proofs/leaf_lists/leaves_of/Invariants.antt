use Rattle.std.proofs.Common.{◌≡◌, ◌+◌, ◌-◌, ◌≤◌, ◌++◌, length}
use Rattle.std.specs.Prelude.{All}
use Rattle.image_layout.specs.Trees.{leaves_from, stored_leaves}
use Rattle.image_rules.proofs.TreeChecks.{Follows}
use Rattle.image_rules.proofs.leaf_lists.leaves_of.Given as goal

abbrev pub invariant-loop-step : goal.invariant-loop-step
invariant-loop-step l = record {
  left : l.leaves.items ++ leaves_from l.words (length l.words - l.step) l.word ≡ stored_leaves l.words l.column;
  on : Follows l.words (length l.words - l.step) l.word;
  within : All (λ leaf. leaf + 128 ≤ length l.words) l.leaves.items;
}
