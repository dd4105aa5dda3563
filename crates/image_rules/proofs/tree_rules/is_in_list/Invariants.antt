use Rattle.std.proofs.Common.{◌≡◌, ◌-◌, length}
use Rattle.image_layout.specs.Trees.{leaves_from, stored_leaves}
use Rattle.image_layout.specs.EntryRules.{is_among}
use Rattle.image_rules.proofs.TreeChecks.{Follows}
use Rattle.image_rules.proofs.tree_rules.is_in_list.Given as goal

abbrev pub invariant-loop-step : goal.invariant-loop-step
invariant-loop-step l = record {
  left : is_among (leaves_from l.words (length l.words - l.step) l.word) l.leaf ≡ is_among (stored_leaves l.words l.fn.column.0) l.leaf;
  on : Follows l.words (length l.words - l.step) l.word;
}
