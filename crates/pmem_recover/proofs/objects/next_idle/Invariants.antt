use Rattle.std.proofs.Common.{◌≡◌, ℕ, ◌<◌, ◌≤◌, []}
use Rattle.shown_state.specs.Mending.{close_mending}
use Rattle.pmem_recover.specs.Steps.{step_parts}
use Rattle.pmem_recover.proofs.objects.next_idle.Given as goal

abbrev pub invariant-loop-number : goal.invariant-loop-number
invariant-loop-number g l = (other : ℕ) → l.fn.from ≤ other → other < l.number → step_parts close_mending (g.M.Memory.device l.mem).cached other ≡ []
