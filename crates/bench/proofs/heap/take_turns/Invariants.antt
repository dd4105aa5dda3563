use Rattle.bench.specs.Uses.{IsInUse}
use Rattle.bench.proofs.heap.take_turns.Given as goal

abbrev pub invariant-loop-round : goal.invariant-loop-round
invariant-loop-round g l = IsInUse (g.M.Memory.device l.memory) l.heap
