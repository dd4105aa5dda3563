use Rattle.std.proofs.Common.{arith}
use Rattle.image_rules.proofs.RestChecks.{used_found, used_none, zeros_more}
use Rattle.image_rules.proofs.rest_rules.used_word.Goals as goal

pub returns-then-words-place-ne0 : goal.returns-then-words-place-ne0
returns-then-words-place-ne0 c = used_found c.args.words.now c.args.first c.args.count c.loop-place.place c.loop-place.auto.place (omega (arith, c.loop-place-test.true)) c.loop-place.invariant c.if-words-place-ne0.true

pub loop-place-preserved : goal.loop-place-preserved
loop-place-preserved c = zeros_more c.args.words.now c.args.first c.loop-place.place c.loop-place.invariant c.if-words-place-ne0.false

pub returns : goal.returns
returns c = used_none c.args.words.now c.args.first c.args.count c.loop-place.place (omega (arith, c.loop-place-test.false)) c.loop-place.invariant
