use Rattle.std.proofs.Common.{◌≡◌, ℕ, Bool, true, false, List, get_or, sym, ◌∙◌, ap}
use Rattle.std.specs.Prelude.{Option, Some}
use Rattle.std.specs.List.{list_any}
use Rattle.std.proofs.lemmas.Bool.{and_left, and_right, not_from_true}
use Rattle.image_layout.specs.Records.{key_at}
use Rattle.image_rules.specs.BuiltTrees.{has_key, is_above}
use Rattle.image_rules.specs.Parts.{before_of}
use Rattle.image_rules.proofs.PairChecks.{leaf_begins, leaf_over, slot_fails, slot_passes, slot_unused}
use Rattle.image_rules.proofs.pair_rules.leaf_order_fault.Goals as goal
use Rattle.image_rules.proofs.pair_rules.leaf_order_fault.Goals.{then-not-is_above-via-then-not-is_above, then-not-is_above-via-else-not-is_above+then-is_key_before, then-is_used+else-not-is_above+else-is_key_before, else-is_used}

pub loop-slot-init : goal.loop-slot-init
loop-slot-init c = leaf_begins c.args.words.now c.args.leaf c.args.greatest

-- what was found of a key that was read at a place
module _ (words : List ℕ) (leaf slot place : ℕ) (at : place ≡ key_at leaf slot) where
  above_at : (greatest : Option ℕ) (told b : Bool) → told ≡ is_above greatest (get_or words place 0) → told ≡ b → is_above greatest (get_or words (key_at leaf slot) 0) ≡ b
  above_at greatest told b is holds = sym (is ∙ ap (λ (p : ℕ). is_above greatest (get_or words p 0)) at) ∙ holds

  before_at : (told b : Bool) → told ≡ list_any (has_key words leaf (get_or words place 0)) (before_of (λ s. s) slot) → told ≡ b → list_any (has_key words leaf (get_or words (key_at leaf slot) 0)) (before_of (λ s. s) slot) ≡ b
  before_at told b is holds = sym (is ∙ ap (λ (p : ℕ). list_any (has_key words leaf (get_or words p 0)) (before_of (λ s. s) slot)) at) ∙ holds

pub returns-then-not-is_above : goal.returns-then-not-is_above
returns-then-not-is_above c =
    let words = c.args.words.now in
    let used = sym c.is_used.ensures ∙ c.if-is_used.true in
    ap (λ (p : ℕ). Some p) c.key_place-place.ensures
    ∙ slot_fails words c.args.leaf c.args.greatest c.loop-slot.slot c.loop-slot-test.true c.loop-slot.invariant used
    (elim c.then-not-is_above.branch [
      | then-not-is_above-via-then-not-is_above w ↦ and_left _ _ (above_at words c.args.leaf c.loop-slot.slot c.key_place-place.result c.key_place-place.ensures c.args.greatest c.is_above.result false c.is_above.ensures w.if-not-is_above.true)
      | then-not-is_above-via-else-not-is_above+then-is_key_before w ↦
          and_right _ _ (not_from_true _ (before_at words c.args.leaf c.loop-slot.slot c.key_place-place.result c.key_place-place.ensures w.is_key_before.result true w.is_key_before.ensures w.if-is_key_before.true))
    ])

pub loop-slot-preserved : goal.loop-slot-preserved
loop-slot-preserved c =
    let words = c.args.words.now in
    elim c.if-is_used.branch [
      | then-is_used+else-not-is_above+else-is_key_before w ↦
          slot_passes words c.args.leaf c.args.greatest c.loop-slot.slot c.loop-slot-test.true c.loop-slot.invariant (sym c.is_used.ensures ∙ w.if-is_used.true)
          (above_at words c.args.leaf c.loop-slot.slot w.key_place-place.result w.key_place-place.ensures c.args.greatest w.is_above.result true w.is_above.ensures w.if-not-is_above.false)
          (before_at words c.args.leaf c.loop-slot.slot w.key_place-place.result w.key_place-place.ensures w.is_key_before.result false w.is_key_before.ensures w.if-is_key_before.false)
      | else-is_used w ↦ slot_unused words c.args.leaf c.args.greatest c.loop-slot.slot c.loop-slot-test.true c.loop-slot.invariant (sym c.is_used.ensures ∙ w.if-is_used.false)
    ]

pub returns : goal.returns
returns c = leaf_over c.args.words.now c.args.leaf c.args.greatest c.loop-slot.slot c.loop-slot-test.false c.loop-slot.invariant
