use Rattle.std.proofs.Common.{◌≡◌, ◌++◌, ◌+◌, ◌<◌, ◌≤◌, ℕ, [], ◌∷◌, Vec, Global, length, sym, ◌∙◌, ap, subst, arith}
use Rattle.std.specs.Prelude.{All}
use Rattle.std.proofs.lemmas.List.Elements.{All-push}
use Rattle.image_rules.specs.declared.leaf_lists.LeafSlot.{LeafSlot}
use Rattle.image_rules.specs.BuiltTrees.{leaf_slot}
use Rattle.image_rules.proofs.Gathered.{slots_before, slots_more, slots_same}
use Rattle.image_rules.proofs.leaf_lists.push_used.Goals as goal
use Rattle.image_rules.proofs.leaf_lists.push_used.Goals.{then-is_used+in_ok-push, else-is_used}

pub loop-slot-preserved : goal.loop-slot-preserved
loop-slot-preserved c =
    let words = c.args.words.now in
    let P : LeafSlot → Type 0 = λ slot. (slot.leaf + 128 ≤ length words) × (slot.slot < 48) in
    elim c.if-is_used.branch [
      | then-is_used+in_ok-push w ↦
          let after : c.if-is_used.used.items ≡ c.loop-slot.used.items ++ leaf_slot c.args.leaf c.loop-slot.slot ∷ [] = ap (λ (v : Vec LeafSlot Global). v.items) w.used-is ∙ w.in_ok-push.ensures.items in
          record {
            used = slots_more words c.args.leaf c.loop-slot.slot c.args.used.now.items c.loop-slot.used.items c.if-is_used.used.items (sym c.is_used.ensures ∙ w.if-is_used.true) c.loop-slot.invariant.used after;
            within = λ old. subst (All P) (sym after) (All-push P c.loop-slot.used.items (leaf_slot c.args.leaf c.loop-slot.slot) (c.loop-slot.invariant.within old) (c.requires.within, c.loop-slot-test.true));
          }
      | else-is_used w ↦
          let after : c.if-is_used.used.items ≡ c.loop-slot.used.items = ap (λ (v : Vec LeafSlot Global). v.items) w.used-is in
          record {
            used = after ∙ slots_same words c.args.leaf c.loop-slot.slot c.args.used.now.items c.loop-slot.used.items (sym c.is_used.ensures ∙ w.if-is_used.false) c.loop-slot.invariant.used;
            within = λ old. subst (All P) (sym after) (c.loop-slot.invariant.within old);
          }
    ]

pub returns-clause-used : goal.returns-clause-used
returns-clause-used c =
    let over : c.loop-slot.slot ≡ 48 = omega (arith, c.loop-slot-test.false, c.loop-slot.auto.slot-end) in
    c.loop-slot.invariant.used ∙ ap (λ (k : ℕ). c.args.used.now.items ++ slots_before c.args.words.now c.args.leaf k) over
