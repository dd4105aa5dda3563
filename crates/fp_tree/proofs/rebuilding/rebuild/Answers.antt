use Rattle.std.proofs.Common.{◌∙◌, ap}
use Rattle.fp_inner.specs.InnerState.{InnerState}
use Rattle.fp_tree.proofs.Walk.{stands_by}
use Rattle.fp_tree.proofs.rebuilding.rebuild.Goals as goal

pub returns-clause-stands : goal.returns-clause-stands
returns-clause-stands g c =
    stands_by (g.M.Memory.device c.args.mem.now).cached c.args.column.0 c.requires _ c.of.result c.in_ok-add_first.ensures c.of.ensures.column
    (ap (λ (inner : InnerState). inner.kind) c.of.ensures.inner ∙ c.in_ok-inner.ensures.kind)
    (ap (λ (inner : InnerState). inner.leaves) c.of.ensures.inner ∙ c.in_ok-inner.ensures.leaves ∙ c.deref.ensures.value)
