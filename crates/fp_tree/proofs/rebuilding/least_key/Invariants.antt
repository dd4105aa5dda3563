use Rattle.fp_tree.proofs.Walk.{Least}
use Rattle.fp_tree.proofs.rebuilding.least_key.Given as goal

abbrev pub invariant-loop-slot : goal.invariant-loop-slot
invariant-loop-slot g l = Least (g.M.Memory.device l.mem).cached l.leaf.0 l.slot l.least
