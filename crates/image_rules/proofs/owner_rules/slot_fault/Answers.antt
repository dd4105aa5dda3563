use Rattle.std.proofs.Common.{ℕ, ◌+◌, ◌*◌, sym, ◌∙◌, ap, arith}
use Rattle.image_rules.proofs.OwnedChecks.{slots_none, slots_some}
use Rattle.image_rules.proofs.owner_rules.slot_fault.Goals as goal

pub returns-then-not-is_owned : goal.returns-then-not-is_owned
returns-then-not-is_owned c =
    slots_some c.args.owned.now c.args.page c.args.class c.args.bitmap c.loop-slot.slot (512 * c.args.page + 8 + c.loop-slot.slot * c.class_words.result)
    (ap (λ (w : ℕ). 512 * c.args.page + 8 + c.loop-slot.slot * w) c.class_words.ensures) (omega (arith, c.loop-slot-test.true, c.slots-slot-end.ensures.count)) c.loop-slot.invariant
    (sym c.is_set.ensures ∙ c.if-is_set.true) (sym c.is_owned.ensures ∙ c.if-not-is_owned.true)

pub returns : goal.returns
returns c = slots_none c.args.owned.now c.args.page c.args.class c.args.bitmap (λ x lt. c.loop-slot.invariant x (omega (arith, lt, c.loop-slot-test.false, c.slots-slot-end.ensures.count)))
