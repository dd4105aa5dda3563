use Rattle.std.proofs.Common.{◌≡◌}
use Rattle.image_layout.specs.Places.{page_count}
use Rattle.image_layout.specs.Checks.{first_failing}
use Rattle.engine_core.specs.ImageRules.{reserved_rule}
use Rattle.engine_core.proofs.Checking.{checks_left, page_check}
use Rattle.engine_core.proofs.rules.bad_reserved.Given as goal

abbrev pub invariant-loop-page : goal.invariant-loop-page
invariant-loop-page g l = first_failing (reserved_rule (g.M.Memory.device l.memory).cached) ≡ first_failing (checks_left (page_check (g.M.Memory.device l.memory).cached) l.page (page_count (g.M.Memory.device l.memory).cached))
