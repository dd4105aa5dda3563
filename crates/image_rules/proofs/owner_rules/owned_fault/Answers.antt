use Rattle.std.proofs.Common.{sym, ◌∙◌, below_more, arith}
use Rattle.image_rules.proofs.HeapChecks.{outside, within, inside-step}
use Rattle.image_rules.proofs.OwnedChecks.{held_of, page_found, page_none, page_inside, pages_none}
use Rattle.image_rules.proofs.owner_rules.owned_fault.Goals as goal
use Rattle.image_rules.proofs.owner_rules.owned_fault.Goals.{then-inside-eq0+else-is_some, else-inside-eq0}

pub page_fault-found-requires-clause-outside : goal.page_fault-found-requires-clause-outside
page_fault-found-requires-clause-outside c = outside c.args.words.now c.loop-page.page c.loop-page.inside c.loop-page.invariant.inside c.if-inside-eq0.true

pub returns-then-is_some : goal.returns-then-is_some
returns-then-is_some c =
    page_found c.args.words.now c.in_ok-owned.owned (held_of c.args.words.now c.in_ok-owners.owners.items c.deref.result.now c.in_ok-owned.owned c.deref.ensures.value c.in_ok-owners.ensures c.in_ok-owned.ensures)
    c.loop-page.page c.page_fault-found.result (omega (arith, c.loop-page-test.true, c.page_count-page-end.ensures)) c.loop-page.invariant.each c.page_fault-found.ensures (sym c.is_some.ensures ∙ c.if-is_some.true)

pub loop-page-preserved : goal.loop-page-preserved
loop-page-preserved c = record {
  inside = inside-step c.args.words.now c.loop-page.page c.loop-page.inside c.descriptor_place.result c.left_behind-inside.result c.loop-page.invariant.inside c.descriptor_place.ensures c.left_behind-inside.ensures;
  each = below_more _ _ c.loop-page.invariant.each (elim c.if-inside-eq0.branch [
    | then-inside-eq0+else-is_some w ↦ page_none c.args.words.now c.in_ok-owned.owned c.loop-page.page w.page_fault-found.result w.page_fault-found.ensures (sym w.is_some.ensures ∙ w.if-is_some.false)
    | else-inside-eq0 w ↦ page_inside c.args.words.now c.in_ok-owned.owned c.loop-page.page (within c.args.words.now c.loop-page.page c.loop-page.inside c.loop-page.invariant.inside w.if-inside-eq0.false)
  ]);
}

pub returns : goal.returns
returns c =
    pages_none c.args.words.now c.in_ok-owned.owned (held_of c.args.words.now c.in_ok-owners.owners.items c.deref.result.now c.in_ok-owned.owned c.deref.ensures.value c.in_ok-owners.ensures c.in_ok-owned.ensures)
    (λ x lt. c.loop-page.invariant.each x (omega (arith, lt, c.loop-page-test.false, c.page_count-page-end.ensures)))
