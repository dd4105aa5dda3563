use Rattle.heap_tests.specs.ArrayImages.{IsReady}
use Rattle.heap_tests.proofs.arrays.grow_often.Given as goal

abbrev pub invariant-loop : goal.invariant-loop
invariant-loop g l = IsReady (g.M.Memory.device l.memory) l.heap
