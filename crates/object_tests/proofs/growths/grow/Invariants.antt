use Rattle.object_tests.proofs.Grown.{Zeros}
use Rattle.object_tests.proofs.growths.grow.Given as goal

abbrev pub invariant-loop-word : goal.invariant-loop-word
invariant-loop-word g l = Zeros (g.M.Memory.device l.memory).cached l.header.0 l.word
