use Rattle.std.proofs.Common.{◌≡◌, ◌+◌, ◌≤◌, length}
use Rattle.image_rules.specs.Parts.{leaf_after as leaf_reached}
use Rattle.image_rules.proofs.tree_rules.leaf_after.Given as goal

abbrev pub invariant-loop-step : goal.invariant-loop-step
invariant-loop-step l = record {
  leaf : l.leaf ≡ leaf_reached l.words l.first l.step;
  within : l.leaf + 128 ≤ length l.words;
}
