use Rattle.tree_ground.specs.Ready.{IsReady}
use Rattle.tree_tests.proofs.trees.put_up_to.Given as goal

abbrev pub invariant-loop-number : goal.invariant-loop-number
invariant-loop-number g l = IsReady (g.M.Memory.device l.memory) l.heap l.tree
