use Rattle.std.proofs.Common.{sym, ◌∙◌, arith}
use Rattle.std.proofs.lemmas.Bool.{both_ways}
use Rattle.image_rules.proofs.HeapChecks.{outside, within, inside-step, bitmaps_none, bitmaps_some, bitmaps_more}
use Rattle.image_rules.proofs.heap_rules.bitmap_fault.Goals as goal
use Rattle.image_rules.proofs.heap_rules.bitmap_fault.Goals.{else-inside-eq0-via-then-inside-eq0+then-says_small+else-not-fits_class, else-inside-eq0-via-then-inside-eq0+else-says_small, else-inside-eq0-via-else-inside-eq0}

pub loop-page-preserved : goal.loop-page-preserved
loop-page-preserved c = record {
  inside = inside-step c.args.words.now c.loop-page.page c.loop-page.inside c.descriptor_place.result c.left_behind-inside.result c.loop-page.invariant.inside c.descriptor_place.ensures c.left_behind-inside.ensures;
  each = bitmaps_more c.args.words.now c.loop-page.page c.descriptor_place.result c.descriptor_place.ensures c.loop-page.invariant.each (λ out small.
      elim c.else-inside-eq0.branch [
        | else-inside-eq0-via-then-inside-eq0+then-says_small+else-not-fits_class w ↦ sym w.fits_class.ensures ∙ w.if-not-fits_class.false
        | else-inside-eq0-via-then-inside-eq0+else-says_small w ↦ absurd (both_ways w.says_small.result w.if-says_small.false (w.says_small.ensures ∙ small))
        | else-inside-eq0-via-else-inside-eq0 w ↦ absurd (both_ways _ out (within c.args.words.now c.loop-page.page c.loop-page.inside c.loop-page.invariant.inside w.if-inside-eq0.false))
      ]);
}

pub returns-then-not-fits_class : goal.returns-then-not-fits_class
returns-then-not-fits_class c =
    sym (bitmaps_some c.args.words.now c.loop-page.page c.descriptor_place.result c.descriptor_place.ensures (omega (arith, c.loop-page-test.true, c.page_count-page-end.ensures))
    c.loop-page.invariant.each (outside c.args.words.now c.loop-page.page c.loop-page.inside c.loop-page.invariant.inside c.if-inside-eq0.true)
    (sym c.says_small.ensures ∙ c.if-says_small.true) (sym c.fits_class.ensures ∙ c.if-not-fits_class.true))

pub returns : goal.returns
returns c = sym (bitmaps_none c.args.words.now (λ x lt. c.loop-page.invariant.each x (omega (arith, lt, c.loop-page-test.false, c.page_count-page-end.ensures))))
