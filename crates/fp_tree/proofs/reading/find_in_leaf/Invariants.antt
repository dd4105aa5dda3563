use Rattle.fp_leaf.specs.Slots.{is_used}
use Rattle.fp_tree.specs.Standing.{count_below}
use Rattle.fp_tree.proofs.Search.{Searching}
use Rattle.fp_tree.proofs.reading.find_in_leaf.Given as goal

abbrev pub invariant-loop-left : goal.invariant-loop-left
invariant-loop-left g l = Searching (g.M.Memory.device l.mem).cached l.leaf.0 l.probe l.initial.steps l.left l.steps

abbrev pub decreases-loop-left : goal.decreases-loop-left
decreases-loop-left g l = count_below (is_used l.left) 48
