use Rattle.std.proofs.Common.{◌≡◌}
use Rattle.image_layout.specs.Checks.{first_failing}
use Rattle.engine_core.specs.ImageRules.{entry_checks, entry_rule}
use Rattle.engine_core.proofs.Checking.{checks_left}
use Rattle.engine_core.proofs.rules.bad_entry.Given as goal

abbrev pub invariant-loop-object : goal.invariant-loop-object
invariant-loop-object g l = first_failing (entry_rule (g.M.Memory.device l.memory).cached) ≡ first_failing (checks_left (entry_checks (g.M.Memory.device l.memory).cached) l.object (16))
