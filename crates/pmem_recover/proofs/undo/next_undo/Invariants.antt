use Rattle.std.proofs.Common.{◌≡◌, ℕ, ◌<◌, ◌≤◌, []}
use Rattle.shown_state.specs.Mending.{undo_mending}
use Rattle.pmem_recover.specs.Steps.{step_parts}
use Rattle.pmem_recover.proofs.undo.next_undo.Given as goal

abbrev pub invariant-loop-number : goal.invariant-loop-number
invariant-loop-number g l = (other : ℕ) → l.fn.from ≤ other → other < l.number → step_parts undo_mending (g.M.Memory.device l.mem).cached other ≡ []
