use Rattle.test_ground.proofs.EvenIndex.{even_ascends}
use Rattle.bench.proofs.tree.look.Goals as goal

pub leaf_for-at-requires-clause-sorted : goal.leaf_for-at-requires-clause-sorted
leaf_for-at-requires-clause-sorted g c = even_ascends c.in_ok-memory.memory.cached.items c.args.leaves c.in_ok-inner.inner c.in_ok-inner.ensures
