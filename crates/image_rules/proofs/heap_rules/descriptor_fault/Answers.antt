use Rattle.std.proofs.Common.{sym, ◌∙◌, arith}
use Rattle.std.proofs.lemmas.Bool.{both_ways}
use Rattle.image_rules.proofs.HeapChecks.{outside, within, inside-step, descriptors_none, descriptors_some, descriptors_more}
use Rattle.image_rules.proofs.heap_rules.descriptor_fault.Goals as goal
use Rattle.image_rules.proofs.heap_rules.descriptor_fault.Goals.{else-inside-eq0-via-then-inside-eq0+then-not-is_reserved+else-not-is_descriptor, else-inside-eq0-via-then-inside-eq0+else-not-is_reserved, else-inside-eq0-via-else-inside-eq0}

pub loop-page-preserved : goal.loop-page-preserved
loop-page-preserved c = record {
  inside = inside-step c.args.words.now c.loop-page.page c.loop-page.inside c.descriptor_place-place.result c.left_behind-inside.result c.loop-page.invariant.inside c.descriptor_place-place.ensures c.left_behind-inside.ensures;
  each = descriptors_more c.args.words.now c.loop-page.page c.descriptor_place-place.result c.descriptor_place-place.ensures c.loop-page.invariant.each (λ free out.
      elim c.else-inside-eq0.branch [
        | else-inside-eq0-via-then-inside-eq0+then-not-is_reserved+else-not-is_descriptor w ↦ sym w.is_descriptor.ensures ∙ w.if-not-is_descriptor.false
        | else-inside-eq0-via-then-inside-eq0+else-not-is_reserved w ↦ absurd (both_ways w.is_reserved.result (w.is_reserved.ensures ∙ free) w.if-not-is_reserved.false)
        | else-inside-eq0-via-else-inside-eq0 w ↦ absurd (both_ways _ out (within c.args.words.now c.loop-page.page c.loop-page.inside c.loop-page.invariant.inside w.if-inside-eq0.false))
      ]);
}

pub returns-then-not-is_descriptor : goal.returns-then-not-is_descriptor
returns-then-not-is_descriptor c =
    sym (descriptors_some c.args.words.now c.loop-page.page c.descriptor_place-place.result c.descriptor_place-place.ensures (omega (arith, c.loop-page-test.true, c.page_count-page-end.ensures))
    c.loop-page.invariant.each (sym c.is_reserved.ensures ∙ c.if-not-is_reserved.true)
    (outside c.args.words.now c.loop-page.page c.loop-page.inside c.loop-page.invariant.inside c.if-inside-eq0.true)
    (sym c.is_descriptor.ensures ∙ c.if-not-is_descriptor.true))

pub returns : goal.returns
returns c = sym (descriptors_none c.args.words.now (λ x lt. c.loop-page.invariant.each x (omega (arith, lt, c.loop-page-test.false, c.page_count-page-end.ensures))))
