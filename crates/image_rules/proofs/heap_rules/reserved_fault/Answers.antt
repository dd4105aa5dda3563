use Rattle.std.proofs.Common.{sym, ◌∙◌, arith}
use Rattle.std.proofs.lemmas.Bool.{both_ways}
use Rattle.image_rules.proofs.HeapChecks.{reserved_none, reserved_some, reserved_more}
use Rattle.image_rules.proofs.heap_rules.reserved_fault.Goals as goal
use Rattle.image_rules.proofs.heap_rules.reserved_fault.Goals.{else-is_reserved-via-then-is_reserved+else-words-place-ne-RESERVED, else-is_reserved-via-else-is_reserved}

pub loop-page-preserved : goal.loop-page-preserved
loop-page-preserved c =
    reserved_more c.args.words.now c.loop-page.page c.descriptor_place-place.result c.descriptor_place-place.ensures c.loop-page.invariant (λ spoken.
    elim c.else-is_reserved.branch [
      | else-is_reserved-via-then-is_reserved+else-words-place-ne-RESERVED w ↦ w.if-words-place-ne-RESERVED.false
      | else-is_reserved-via-else-is_reserved w ↦ absurd (both_ways c.is_reserved.result w.if-is_reserved.false (c.is_reserved.ensures ∙ spoken))
    ])

pub returns-then-words-place-ne-RESERVED : goal.returns-then-words-place-ne-RESERVED
returns-then-words-place-ne-RESERVED c =
    sym (reserved_some c.args.words.now c.loop-page.page c.descriptor_place-place.result c.descriptor_place-place.ensures (omega (arith, c.loop-page-test.true, c.page_count-page-end.ensures))
    c.loop-page.invariant (sym c.is_reserved.ensures ∙ c.if-is_reserved.true) c.if-words-place-ne-RESERVED.true)

pub returns : goal.returns
returns c = sym (reserved_none c.args.words.now (λ x lt. c.loop-page.invariant x (omega (arith, lt, c.loop-page-test.false, c.page_count-page-end.ensures))))
