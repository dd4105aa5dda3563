use Rattle.image_rules.proofs.PairChecks.{ListSoFar}
use Rattle.image_rules.proofs.pair_rules.column_order_fault.Given as goal

abbrev pub invariant-loop-leaf : goal.invariant-loop-leaf
invariant-loop-leaf l = ListSoFar l.words l.leaf-items l.leaf-index l.greatest
