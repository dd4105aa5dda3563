use Rattle.std.proofs.Common.{◌≡◌, ◌≢◌, ℕ, ◌+◌, ◌<◌, ◌≤◌, length}
use Rattle.image_rules.specs.Parts.{leaf_after as leaf_reached}
use Rattle.image_rules.proofs.tree_rules.circle_steps.Given as goal

abbrev pub invariant-loop-step : goal.invariant-loop-step
invariant-loop-step l = record {
  other : l.other ≡ leaf_reached l.words l.leaf (l.step + 1);
  within : l.other + 128 ≤ length l.words;
  least : (fewer : ℕ) → 1 ≤ fewer → fewer < l.step + 1 → leaf_reached l.words l.leaf fewer ≢ l.leaf;
}
