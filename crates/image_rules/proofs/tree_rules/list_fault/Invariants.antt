use Rattle.std.proofs.Common.{◌≡◌, ℕ, ◌+◌, ◌<◌, ◌≤◌, true, length}
use Rattle.image_rules.specs.Parts.{leads_on, leaf_after as leaf_reached}
use Rattle.image_rules.proofs.tree_rules.list_fault.Given as goal

abbrev pub invariant-loop-step : goal.invariant-loop-step
invariant-loop-step l = record {
  leaf : l.leaf ≡ leaf_reached l.words l.first l.step;
  within : l.leaf + 128 ≤ length l.words;
  on : (x : ℕ) → x < l.step → leads_on l.words (leaf_reached l.words l.first x) ≡ true;
}
