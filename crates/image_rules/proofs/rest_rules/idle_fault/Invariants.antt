use Rattle.image_rules.proofs.RestChecks.{IdleBelow}
use Rattle.image_rules.proofs.rest_rules.idle_fault.Given as goal

abbrev pub invariant-loop-lane : goal.invariant-loop-lane
invariant-loop-lane l = IdleBelow l.words l.lane
