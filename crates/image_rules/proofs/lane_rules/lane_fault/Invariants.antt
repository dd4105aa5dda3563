use Rattle.std.proofs.Common.{◌≡◌, ℕ, ◌<◌, true}
use Rattle.image_layout.specs.HeapRules.{is_lane}
use Rattle.image_rules.proofs.lane_rules.lane_fault.Given as goal

abbrev pub invariant-loop-lane : goal.invariant-loop-lane
invariant-loop-lane l = (x : ℕ) → x < l.lane → is_lane l.words x ≡ true
