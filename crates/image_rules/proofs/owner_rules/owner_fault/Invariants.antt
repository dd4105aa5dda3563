use Rattle.std.proofs.Common.{◌≡◌}
use Rattle.image_layout.specs.Checks.{first_failing}
use Rattle.image_rules.specs.BuiltOwners.{built_owner_rule}
use Rattle.image_rules.proofs.OwnerChecks.{blocks_from}
use Rattle.image_rules.proofs.owner_rules.owner_fault.Given as goal

abbrev pub invariant-loop-owner : goal.invariant-loop-owner
invariant-loop-owner l = first_failing (built_owner_rule l.words) ≡ first_failing (blocks_from l.words l.owner-index)
