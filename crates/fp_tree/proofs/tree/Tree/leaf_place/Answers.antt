use Rattle.std.proofs.Common.{◌∙◌, ap, sym}
use Rattle.fp_inner.specs.Keys.{leaf_pointer}
use Rattle.fp_tree.specs.TreeState.{TreeState}
use Rattle.fp_tree.proofs.Chosen.{none_from, pointer_at, pointer_some}
use Rattle.fp_tree.proofs.PutIn.{some_of}
use Rattle.fp_tree.proofs.SplitPlanned.{named_leaf}
use Rattle.fp_tree.proofs.tree.Tree.leaf_place.Goals as goal

pub unwrap-requires : goal.unwrap-requires
unwrap-requires g c =
    some_of ⊥ c.place.result
    (none_from c.place.result (λ none. pointer_some _ (sym (pointer_at (g.M.Memory.device c.args._mem.now).cached c.args.self.now c.requires.stands.0 c.requires.stands.1 c.args.at c.requires.at)
    ∙ ap (λ (tree : TreeState). leaf_pointer tree.inner.leaves c.args.at) (sym c.self.view_is) ∙ sym c.leaf_at.ensures ∙ c.place.ensures.null.0 none)))
    (λ never. never)

pub returns : goal.returns
returns g c = named_leaf c.args.self.now _ c.args.at c.leaf_at.result c.place.result c.unwrap.result c.self.view_is c.leaf_at.ensures c.unwrap.ensures c.place.ensures.named
