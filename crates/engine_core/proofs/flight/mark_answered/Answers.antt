use Rattle.std.proofs.Common.{◌≡◌, ◌∙◌, ◌-◌, ◌++◌, ◌∷◌, [], ℕ, length, get_or, set, ap, arith}
use Rattle.std.specs.Prelude.{vec_len}
use Rattle.mv_model.specs.declared.reply.Entry.{Entry}
use Rattle.engine_core.specs.CoreState.{answered}
use Rattle.engine_core.proofs.CoreSteps.{set-last, get-last}
use Rattle.engine_core.proofs.flight.mark_answered.Goals as goal

pub returns-in-Some-clause-items : goal.returns-in-Some-clause-items
returns-in-Some-clause-items c = λ front last is.
    let items = c.args.history.now.items in
    let size : vec_len c.args.history.now - 1 ≡ length items - 1 = omega (arith, c.args.history.now.ok.0) in
    let one : c.in-Some.entry.now ≡ last = c.in-Some.ensures.item.1 ∙ ap (λ (k : ℕ). get_or items k c.in-Some.entry.now) size ∙ get-last items front last c.in-Some.entry.now is in
    ap (λ (k : ℕ). set items k (answered c.in-Some.entry.now)) size ∙ set-last items front last (answered c.in-Some.entry.now) is
    ∙ ap (λ (e : Entry). front ++ answered e ∷ []) one
