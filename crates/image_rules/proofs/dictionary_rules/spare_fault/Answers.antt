use Rattle.std.proofs.Common.{arith}
use Rattle.image_rules.proofs.TableArrays.{count_few}
use Rattle.image_rules.proofs.SpareSlots.{spare_found, zero_over}
use Rattle.image_rules.proofs.dictionary_rules.spare_fault.Goals as goal

pub capacity-requires-clause-rule : goal.capacity-requires-clause-rule
capacity-requires-clause-rule c = count_few c.args.words.now c.args.header.0 c.requires.rule

pub returns-then-word_or_zero-ne0 : goal.returns-then-word_or_zero-ne0
returns-then-word_or_zero-ne0 c =
    spare_found c.args.words.now c.args.header.0 c.args.count c.loop-index.index c.word_or_zero.result c.word_place-place.result c.loop-index.auto.index (omega (arith, c.loop-index-test.true, c.from-index-end.ensures, c.capacity.ensures.words)) c.loop-index.invariant
    c.word_place-place.ensures.place c.word_or_zero.ensures c.if-word_or_zero-ne0.true

pub returns : goal.returns
returns c = zero_over c.args.words.now c.args.header.0 c.args.count c.loop-index.index (omega (arith, c.loop-index-test.false, c.from-index-end.ensures, c.capacity.ensures.words)) c.loop-index.invariant
