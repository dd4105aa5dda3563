use Rattle.std.proofs.Common.{◌∙◌}
use Rattle.image_rules.proofs.OwnerChecks.{seen_none, seen_again, seen_next, seen_all}
use Rattle.image_rules.proofs.owner_rules.single_owner_fault.Goals as goal

pub loop-owner-init : goal.loop-owner-init
loop-owner-init c = seen_none c.args.words.now c.new-seen.result c.new-seen.ensures.empty

pub returns-then-not-is_first : goal.returns-then-not-is_first
returns-then-not-is_first c =
    seen_again c.args.words.now c.deref-owner-items.result.now c.loop-owner.owner-index c.loop-owner.seen c.in_ok-is_first.is_first (c.deref-owner-items.ensures.value ∙ c.in_ok-owners.ensures) c.loop-owner-test.true
    c.loop-owner.invariant c.in_ok-is_first.ensures.added c.if-not-is_first.true

pub loop-owner-preserved : goal.loop-owner-preserved
loop-owner-preserved c =
    seen_next c.args.words.now c.deref-owner-items.result.now c.loop-owner.owner-index c.loop-owner.seen c.in_ok-is_first.is_first (c.deref-owner-items.ensures.value ∙ c.in_ok-owners.ensures) c.loop-owner-test.true
    c.loop-owner.invariant c.in_ok-is_first.ensures.added c.insert.new.self c.in_ok-is_first.ensures.updates c.if-not-is_first.false

pub returns : goal.returns
returns c = seen_all c.args.words.now c.deref-owner-items.result.now c.loop-owner.owner-index c.loop-owner.seen (c.deref-owner-items.ensures.value ∙ c.in_ok-owners.ensures) c.loop-owner-test.false c.loop-owner.invariant
