use Rattle.std.proofs.Common.{◌∙◌, ◌+◌, List, [], ◌∷◌, ◌++◌, append_assoc, sym, ap, arith}
use Rattle.pm_model.specs.declared.action.Action.{Action}
use Rattle.seg_array.specs.Growth.{punches}
use Rattle.seg_array.proofs.Punches.{punch}
use Rattle.seg_array.proofs.Lengths.{punched_next}
use Rattle.seg_array.proofs.grow.push_punches.Goals as goal

pub loop-page-preserved : goal.loop-page-preserved
loop-page-preserved c = record {
  left = c.push.ensures.left ∙ ap (λ (xs : List Action). xs ++ punch (c.args.first + c.loop-page.page) ∷ []) c.loop-page.invariant.left
      ∙ append_assoc c.args.plan.now.left (punches c.args.first c.loop-page.page) (punch (c.args.first + c.loop-page.page) ∷ [])
      ∙ ap (λ (xs : List Action). c.args.plan.now.left ++ xs) (sym (punched_next c.args.first c.loop-page.page));
  spare = omega (arith, c.push.ensures.spare, c.loop-page.invariant.spare);
}
