use Rattle.txn_object.specs.TestObject.{IsExtendable}
use Rattle.object_tests.proofs.segments.fill.Given as goal

abbrev pub invariant-loop-segment : goal.invariant-loop-segment
invariant-loop-segment g l = record {
  extendable : IsExtendable (g.M.Memory.device l.memory) l.heap;
}
