use Rattle.bench.specs.Uses.{IsInUse}
use Rattle.bench.proofs.heap.make_holes.Given as goal

abbrev pub invariant-loop-number : goal.invariant-loop-number
invariant-loop-number g l = IsInUse (g.M.Memory.device l.memory) l.heap

abbrev pub invariant-loop-number-2 : goal.invariant-loop-number-2
invariant-loop-number-2 g l = IsInUse (g.M.Memory.device l.memory) l.heap
