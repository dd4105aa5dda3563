use Rattle.std.proofs.Common.{◌∙◌, ◌+◌, ◌++◌, List, [], ◌∷◌, take, get_or, append_assoc, sym, ap, arith}
use Rattle.pm_model.specs.declared.action.Action.{Action}
use Rattle.pm_model.specs.Plans.{store}
use Rattle.shown_state.specs.Mending.{fill_from}
use Rattle.catalog.proofs.Filling.{filled_next}
use Rattle.catalog.proofs.words.push_words.Goals as goal

pub loop-index-preserved : goal.loop-index-preserved
loop-index-preserved c =
    let one = store (c.args.first.0 + c.loop-index.index) (get_or c.args.values.now c.loop-index.index 0) in
    let done = fill_from c.args.first.0 (take c.loop-index.index c.args.values.now) in
    record {
      left = c.push.ensures.left ∙ ap (λ (xs : List Action). xs ++ one ∷ []) c.loop-index.invariant.left
          ∙ append_assoc c.args.plan.now.left done (one ∷ [])
          ∙ ap (λ (xs : List Action). c.args.plan.now.left ++ xs) (sym (filled_next c.args.first.0 c.args.values.now c.loop-index.index c.loop-index-test.true));
      spare = omega (arith, c.push.ensures.spare, c.loop-index.invariant.spare);
    }
