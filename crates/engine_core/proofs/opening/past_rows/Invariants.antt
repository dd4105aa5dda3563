use Rattle.std.proofs.Common.{◌≡◌, get_or}
use Rattle.image_layout.specs.Fixed.{entry_at}
use Rattle.engine_core.specs.LogicalState.{greatest, past_entry}
use Rattle.engine_core.proofs.opening.past_rows.Given as goal

abbrev pub invariant-loop-nth : goal.invariant-loop-nth
invariant-loop-nth g l = l.past ≡ greatest (λ nth. past_entry (get_or (g.M.Memory.device l.memory).cached (entry_at l.object nth) 0)) l.nth
