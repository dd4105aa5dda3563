use Rattle.image_rules.proofs.RestChecks.{ClosedBelow}
use Rattle.image_rules.proofs.rest_rules.closed_fault.Given as goal

abbrev pub invariant-loop-object : goal.invariant-loop-object
invariant-loop-object l = ClosedBelow l.words l.object
