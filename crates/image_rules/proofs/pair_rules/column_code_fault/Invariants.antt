use Rattle.image_rules.proofs.PairChecks.{CodesSoFar}
use Rattle.image_rules.proofs.pair_rules.column_code_fault.Given as goal

abbrev pub invariant-loop-slot : goal.invariant-loop-slot
invariant-loop-slot l = CodesSoFar l.words l.column l.slot-items l.slot-index l.seen
