use Rattle.bench.specs.Uses.{IsAtRest}
use Rattle.bench.proofs.heap.play_rounds.Given as goal

abbrev pub invariant-loop : goal.invariant-loop
invariant-loop g l = IsAtRest (g.M.Memory.device l.memory)
