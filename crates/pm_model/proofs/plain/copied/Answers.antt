use Rattle.std.proofs.Common.{ℕ, List, ◌++◌, ◌∷◌, [], get_or, sym, ◌∙◌, ap, subst, arith}
use Rattle.std.proofs.lemmas.List.{take_more, take_all}
use Rattle.pm_model.specs.Device.{AreWords}
use Rattle.pm_model.proofs.plain.copied.Goals as goal

pub loop-word-preserved : goal.loop-word-preserved
loop-word-preserved c = (
  c.push_reserved.ensures.items ∙ ap (λ (l : List ℕ). l ++ get_or c.args.words.now c.loop-word.word-index 0 ∷ []) c.loop-word.invariant.0 ∙ sym (take_more c.args.words.now c.loop-word.word-index 0 c.loop-word-test.true),
  c.push_reserved.ensures.capacity ∙ c.loop-word.invariant.1,
)

pub returns-clause-same : goal.returns-clause-same
returns-clause-same c = c.loop-word.invariant.0 ∙ take_all c.loop-word.word-index c.args.words.now c.loop-word-test.false

pub returns-clause-words : goal.returns-clause-words
returns-clause-words c =
    subst AreWords (sym (c.loop-word.invariant.0 ∙ take_all c.loop-word.word-index c.args.words.now c.loop-word-test.false)) (λ w. omega (arith, c.type_inv.words w))
