use Rattle.image_rules.proofs.StampChecks.{SincesBelow}
use Rattle.image_rules.proofs.stamp_rules.is_bounded.Given as goal

abbrev pub invariant-loop-number : goal.invariant-loop-number
invariant-loop-number l = SincesBelow l.words l.block.0 l.number
