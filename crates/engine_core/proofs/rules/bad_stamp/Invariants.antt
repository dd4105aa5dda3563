use Rattle.std.proofs.Common.{◌≡◌}
use Rattle.image_layout.specs.Checks.{first_failing}
use Rattle.engine_core.specs.ImageRules.{row_checks, stamp_rule}
use Rattle.engine_core.proofs.Checking.{checks_left}
use Rattle.engine_core.proofs.rules.bad_stamp.Given as goal

abbrev pub invariant-loop-row : goal.invariant-loop-row
invariant-loop-row g l = first_failing (stamp_rule (g.M.Memory.device l.memory).cached) ≡ first_failing (checks_left (row_checks (g.M.Memory.device l.memory).cached) l.row (4096))
