use Rattle.std.proofs.Common.{subst, sym}
use Rattle.fp_inner.specs.Keys.{AreAscending, rest_of}
use Rattle.fp_tree.specs.TreeState.{TreeState}
use Rattle.fp_tree.proofs.Chosen.{ascending}
use Rattle.fp_tree.proofs.tree.Tree.leaf_number_blank.Goals as goal

pub leaf_for-requires-clause-sorted : goal.leaf_for-requires-clause-sorted
leaf_for-requires-clause-sorted g c =
    subst (λ (tree : TreeState). AreAscending (g.M.Memory.device c.args.mem.now).cached tree.inner.kind (rest_of tree.inner.leaves)) (sym c.self.view_is)
    (ascending (g.M.Memory.device c.args.mem.now).cached c.args.self.now c.requires.stands.0 c.requires.stands.1)
