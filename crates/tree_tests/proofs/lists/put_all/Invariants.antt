use Rattle.tree_ground.specs.Ready.{IsReady}
use Rattle.tree_tests.proofs.lists.put_all.Given as goal

abbrev pub invariant-loop-key : goal.invariant-loop-key
invariant-loop-key g l = IsReady (g.M.Memory.device l.memory) l.heap l.tree
