use Rattle.fp_tree.proofs.Ranged.{Passing}
use Rattle.fp_tree.proofs.ranging.push_from_to.Given as goal

abbrev pub invariant-loop-slot : goal.invariant-loop-slot
invariant-loop-slot g l = Passing (g.M.Memory.device l.mem).cached l.low l.high l.leaf.0 l.slot l.initial.list.pairs l.list.pairs l.initial.list.spare l.list.spare
