use Rattle.std.proofs.Common.{◌≡◌, ℕ, ◌+◌, ◌++◌, sym, ◌∙◌, ap, arith}
use Rattle.std.specs.Prelude.{Result, Ok, Err, IfOk}
use Rattle.image_layout.specs.Objects.{ready_count}
use Rattle.image_layout.specs.Owners.{owner_of, segment_owner}
use Rattle.image_rules.proofs.ObjectChecks.{next_pointer}
use Rattle.image_rules.proofs.OwnerWalk.{named_next, read, named}
use Rattle.image_rules.proofs.owner_words.push_object_owners.Goals as goal

pub loop-number-preserved : goal.loop-number-preserved
loop-number-preserved c = record {
  pointer = c.next_segment-pointer.ensures.segment ∙ sym (next_pointer c.args.words.now c.args.object c.loop-number.number);
  within = omega (arith, c.next_segment-pointer.ensures.within);
  found = named_next c.args.words.now (segment_owner c.args.words.now c.args.object) c.loop-number.number c.loop-number.pointer.0 256 c.args.owners.now.items c.loop-number.owners.items c.push_if_named.new.owners.items
      (ap (λ (p : ℕ). owner_of p 256) c.loop-number.invariant.pointer) c.loop-number.invariant.found c.in_ok-push_if_named.ensures;
}

pub returns : goal.returns
returns c =
    let last : c.loop-number.number ≡ ready_count c.args.words.now c.args.object = omega (arith, c.loop-number-test.false, c.ready_count-number-end.ensures.count, c.loop-number.auto.number-end) in
    if_ok c.push_if_named-2.result c.push_if_named-2.ensures (λ then.
    named_next c.args.words.now (segment_owner c.args.words.now c.args.object) c.loop-number.number c.loop-number.pointer.0 256 c.args.owners.now.items c.loop-number.owners.items c.push_if_named-2.new.owners.items
    (ap (λ (p : ℕ). owner_of p 256) c.loop-number.invariant.pointer) c.loop-number.invariant.found then
    ∙ ap (λ (k : ℕ). c.args.owners.now.items ++ read c.args.words.now (named c.args.words.now (segment_owner c.args.words.now c.args.object) (k + 1))) last)
  where
    if_ok : {T E P Q : Type 0} (r : Result T E) → IfOk r (λ x. P) → (P → Q) → IfOk r (λ x. Q)
    if_ok (Ok x) holds then = then holds
    if_ok (Err e) holds then = holds
