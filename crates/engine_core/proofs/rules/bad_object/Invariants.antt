use Rattle.std.proofs.Common.{◌≡◌}
use Rattle.image_layout.specs.Checks.{first_failing}
use Rattle.engine_core.specs.ImageRules.{object_checks, object_rule}
use Rattle.engine_core.proofs.Checking.{checks_left}
use Rattle.engine_core.proofs.rules.bad_object.Given as goal

abbrev pub invariant-loop-object : goal.invariant-loop-object
invariant-loop-object g l = first_failing (object_rule (g.M.Memory.device l.memory).cached) ≡ first_failing (checks_left (object_checks (g.M.Memory.device l.memory).cached) l.object (16))
