use Rattle.std.proofs.Common.{◌∙◌, ◌<◌, length, subst, sym, ap}
use Rattle.fp_inner.specs.Keys.{AreAscending, leaf_pointer, rest_of}
use Rattle.fp_tree.specs.TreeState.{TreeState}
use Rattle.fp_tree.proofs.Chosen.{ascending, none_from, pointer_at, pointer_some}
use Rattle.fp_tree.proofs.tree.Tree.leaf_counted.Goals as goal

pub leaf_for-at-requires-clause-sorted : goal.leaf_for-at-requires-clause-sorted
leaf_for-at-requires-clause-sorted g c =
    subst (λ (tree : TreeState). AreAscending (g.M.Memory.device c.args.mem.now).cached tree.inner.kind (rest_of tree.inner.leaves)) (sym c.self.view_is)
    (ascending (g.M.Memory.device c.args.mem.now).cached c.args.self.now c.requires.stands.0 c.requires.stands.1)

pub returns-clause-none : goal.returns-clause-none
returns-clause-none g c =
    none_from c.place.result (λ none. absurd (pointer_some _ (sym (pointer_at (g.M.Memory.device c.args.mem.now).cached c.args.self.now c.requires.stands.0 c.requires.stands.1 c.leaf_for-at.result
    (subst (λ (tree : TreeState). c.leaf_for-at.result < length tree.inner.leaves) c.self.view_is c.leaf_for-at.ensures.leaf.within))
    ∙ ap (λ (tree : TreeState). leaf_pointer tree.inner.leaves c.leaf_for-at.result) (sym c.self.view_is) ∙ sym c.leaf_at.ensures ∙ c.place.ensures.null.0 none)))
