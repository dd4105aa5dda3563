use Rattle.image_rules.proofs.PairChecks.{LeafSoFar}
use Rattle.image_rules.proofs.pair_rules.leaf_order_fault.Given as goal

abbrev pub invariant-loop-slot : goal.invariant-loop-slot
invariant-loop-slot l = LeafSoFar l.words l.leaf l.greatest l.slot
