use Rattle.std.proofs.Common.{◌≡◌, ◌≢◌, ℕ, ◌+◌, ◌-◌, ◌<◌, ◌≤◌, length}
use Rattle.image_rules.specs.Parts.{leaf_after as leaf_reached}
use Rattle.image_rules.proofs.tree_rules.last_of_list.Given as goal

abbrev pub invariant-loop-step : goal.invariant-loop-step
invariant-loop-step l = record {
  behind : l.behind ≡ leaf_reached l.words l.first l.step;
  ahead : l.ahead ≡ leaf_reached l.words l.first (l.step + (l.fn.steps - 1));
  behind_within : l.behind + 128 ≤ length l.words;
  ahead_within : l.ahead + 128 ≤ length l.words;
  missed : (x : ℕ) → x < l.step → leaf_reached l.words l.first (x + l.fn.steps) ≢ leaf_reached l.words l.first x;
}
