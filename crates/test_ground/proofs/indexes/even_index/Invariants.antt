use Rattle.fp_inner.specs.TestIndex.{IsEven}
use Rattle.test_ground.proofs.indexes.even_index.Given as goal

abbrev pub invariant-loop-number : goal.invariant-loop-number
invariant-loop-number g l = IsEven l.number l.inner
