use Rattle.image_rules.proofs.RestChecks.{ZerosBetween}
use Rattle.image_rules.proofs.rest_rules.used_word.Given as goal

abbrev pub invariant-loop-place : goal.invariant-loop-place
invariant-loop-place l = ZerosBetween l.words l.first l.place
