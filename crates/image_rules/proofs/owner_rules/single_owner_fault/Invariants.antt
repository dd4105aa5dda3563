use Rattle.image_rules.proofs.OwnerChecks.{IsSeen}
use Rattle.image_rules.proofs.owner_rules.single_owner_fault.Given as goal

abbrev pub invariant-loop-owner : goal.invariant-loop-owner
invariant-loop-owner l = IsSeen l.words l.seen l.owner-index
