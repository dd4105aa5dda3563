use Rattle.heap_palloc.specs.Calls.{IsSettled}
use Rattle.object_tests.proofs.tables.create_all.Given as goal

abbrev pub invariant-loop-text : goal.invariant-loop-text
invariant-loop-text g l = IsSettled (g.M.Memory.device l.memory) l.heap
