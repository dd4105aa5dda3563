use Rattle.std.proofs.Common.{◌≡◌, ℕ, ◌<◌, ◌≤◌, []}
use Rattle.shown_state.specs.Mending.{lane_mending}
use Rattle.pmem_recover.specs.Steps.{step_parts}
use Rattle.pmem_recover.proofs.lanes.next_lane.Given as goal

abbrev pub invariant-loop-lane : goal.invariant-loop-lane
invariant-loop-lane g l = (other : ℕ) → l.fn.from ≤ other → other < l.lane → step_parts lane_mending (g.M.Memory.device l.mem).cached other ≡ []
