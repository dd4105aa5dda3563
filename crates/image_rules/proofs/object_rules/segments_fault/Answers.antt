use Rattle.std.proofs.Common.{◌≡◌, ℕ, get_or, refl, sym, ◌∙◌, ap, below_more, subst, arith}
use Rattle.image_layout.specs.Objects.{segment_pointer_at}
use Rattle.image_layout.specs.Places.{place_in}
use Rattle.image_rules.proofs.Chains.{LinksBelow, found_true, no_pointer, reached_before, link_holds, reached_more, link_fails, last_is}
use Rattle.image_rules.proofs.ObjectChecks.{next_pointer}
use Rattle.image_rules.proofs.object_rules.segments_fault.Goals as goal

pub returns-in_default : goal.returns-in_default
returns-in_default c =
    let at : ℕ → ℕ = segment_pointer_at c.args.words.now c.args.object in
    link_fails c.args.words.now 256 at c.args.ready c.loop-segment.segment c.loop-segment.pointer c.loop-segment-test.true c.loop-segment.invariant.holds c.loop-segment.invariant.pointer
    (no_pointer c.args.words.now 256 at c.loop-segment.segment c.loop-segment.pointer c.loop-segment.invariant.pointer (c.in_default.ensures.none.0 refl))

pub returns-then-contains : goal.returns-then-contains
returns-then-contains c =
    let at : ℕ → ℕ = segment_pointer_at c.args.words.now c.args.object in
    link_fails c.args.words.now 256 at c.args.ready c.loop-segment.segment c.loop-segment.pointer c.loop-segment-test.true c.loop-segment.invariant.holds c.loop-segment.invariant.pointer
    (reached_before c.args.words.now 256 at c.loop-segment.segment c.loop-segment.pointer c.in-Some.place _ c.loop-segment.invariant.pointer c.in-Some.ensures.place
    c.loop-segment.invariant.reached (sym c.contains.ensures.value ∙ c.if-contains.true))

pub loop-segment-preserved : goal.loop-segment-preserved
loop-segment-preserved c =
    let at : ℕ → ℕ = segment_pointer_at c.args.words.now c.args.object in
    let named = c.in-Some.ensures.place ∙ ap (λ (p : ℕ). place_in (get_or c.args.words.now p 0)) c.loop-segment.invariant.pointer in
    record {
      pointer = named ∙ sym (next_pointer c.args.words.now c.args.object c.loop-segment.segment);
      within = omega (arith, c.in-Some.ensures.within);
      reached = reached_more c.args.words.now 256 at c.loop-segment.segment c.in-Some.place c.loop-segment.reached (omega arith) named c.loop-segment.invariant.reached;
      holds = below_more _ _ c.loop-segment.invariant.holds
          (link_holds c.args.words.now 256 at c.loop-segment.segment c.loop-segment.pointer c.in-Some.place _ c.loop-segment.invariant.pointer c.in-Some.ensures.place
          c.loop-segment.invariant.reached (found_true _ c.in-Some.ensures.none) (sym c.contains.ensures.value ∙ c.if-contains.false));
    }

pub returns : goal.returns
returns c =
    let at : ℕ → ℕ = segment_pointer_at c.args.words.now c.args.object in
    let last : c.loop-segment.segment ≡ c.args.ready = omega arith in
    c.then_some.ensures
    ∙ last_is c.args.words.now 256 at c.args.ready c.loop-segment.pointer c.is_null_or_words.result
    (subst (LinksBelow c.args.words.now 256 at) last c.loop-segment.invariant.holds)
    (c.loop-segment.invariant.pointer ∙ ap at last) c.is_null_or_words.ensures
