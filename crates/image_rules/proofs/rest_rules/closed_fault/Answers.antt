use Rattle.std.proofs.Common.{sym, ◌∙◌, below_more, arith}
use Rattle.image_rules.proofs.Firsts.{found_none}
use Rattle.image_rules.proofs.RestChecks.{open_found, closed_none}
use Rattle.image_rules.proofs.rest_rules.closed_fault.Goals as goal

pub returns-then-is_some : goal.returns-then-is_some
returns-then-is_some c = open_found c.args.words.now c.loop-object.object c.open_word-found.result (omega (arith, c.loop-object-test.true)) c.loop-object.invariant c.open_word-found.ensures (sym c.is_some.ensures ∙ c.if-is_some.true)

pub loop-object-preserved : goal.loop-object-preserved
loop-object-preserved c = below_more _ _ c.loop-object.invariant (found_none c.open_word-found.result _ c.open_word-found.ensures (sym c.is_some.ensures ∙ c.if-is_some.false))

pub returns : goal.returns
returns c = closed_none c.args.words.now (λ x lt. c.loop-object.invariant x (omega (arith, lt, c.loop-object-test.false)))
