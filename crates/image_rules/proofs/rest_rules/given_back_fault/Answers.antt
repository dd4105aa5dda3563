use Rattle.std.proofs.Common.{sym, ◌∙◌, below_more, arith}
use Rattle.image_rules.proofs.HeapChecks.{inside-step}
use Rattle.image_rules.proofs.RestChecks.{page_found, page_none, page_inside, page_other, pages_none}
use Rattle.image_rules.proofs.rest_rules.given_back_fault.Goals as goal
use Rattle.image_rules.proofs.rest_rules.given_back_fault.Goals.{then-inside-eq0+then-word-eq-GIVEN_BACK+else-is_some, else-inside-eq0, else-inside-eq0-via-then-inside-eq0+else-word-eq-GIVEN_BACK, else-inside-eq0-via-else-inside-eq0}

pub returns-then-is_some : goal.returns-then-is_some
returns-then-is_some c =
    page_found c.args.words.now c.loop-page.page c.loop-page.inside c.descriptor_place.result c.used_word-found.result c.loop-page.invariant.inside c.if-inside-eq0.true c.descriptor_place.ensures c.if-word-eq-GIVEN_BACK.true
    (omega (arith, c.loop-page-test.true, c.page_count-page-end.ensures)) c.loop-page.invariant.zero c.used_word-found.ensures (sym c.is_some.ensures ∙ c.if-is_some.true)

pub loop-page-preserved : goal.loop-page-preserved
loop-page-preserved c = record {
  inside = inside-step c.args.words.now c.loop-page.page c.loop-page.inside c.descriptor_place.result c.left_behind-inside.result c.loop-page.invariant.inside c.descriptor_place.ensures c.left_behind-inside.ensures;
  zero = below_more _ _ c.loop-page.invariant.zero
      (elim c.if-inside-eq0.branch [
        | then-inside-eq0+then-word-eq-GIVEN_BACK+else-is_some w ↦
            page_none c.args.words.now c.loop-page.page c.loop-page.inside c.descriptor_place.result w.used_word-found.result c.loop-page.invariant.inside w.if-inside-eq0.true c.descriptor_place.ensures w.if-word-eq-GIVEN_BACK.true
            w.used_word-found.ensures (sym w.is_some.ensures ∙ w.if-is_some.false)
        | else-inside-eq0 w ↦
            elim w.else-inside-eq0.branch [
              | else-inside-eq0-via-then-inside-eq0+else-word-eq-GIVEN_BACK v ↦ page_other c.args.words.now c.loop-page.page c.descriptor_place.result c.descriptor_place.ensures v.if-word-eq-GIVEN_BACK.false
              | else-inside-eq0-via-else-inside-eq0 v ↦ page_inside c.args.words.now c.loop-page.page c.loop-page.inside c.loop-page.invariant.inside v.if-inside-eq0.false
            ]
      ]);
}

pub returns : goal.returns
returns c = pages_none c.args.words.now (λ x lt. c.loop-page.invariant.zero x (omega (arith, lt, c.loop-page-test.false, c.page_count-page-end.ensures)))
