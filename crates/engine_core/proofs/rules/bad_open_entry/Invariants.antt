use Rattle.std.proofs.Common.{◌≡◌}
use Rattle.image_layout.specs.Checks.{first_failing}
use Rattle.engine_core.specs.ImageRules.{entry_checks}
use Rattle.engine_core.proofs.Checking.{checks_left, entry_check}
use Rattle.engine_core.proofs.rules.bad_open_entry.Given as goal

abbrev pub invariant-loop-nth : goal.invariant-loop-nth
invariant-loop-nth g l = first_failing (entry_checks (g.M.Memory.device l.memory).cached l.object) ≡ first_failing (checks_left (entry_check (g.M.Memory.device l.memory).cached l.object) l.nth (60))
