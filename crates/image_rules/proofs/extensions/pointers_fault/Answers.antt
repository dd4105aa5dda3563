use Rattle.std.proofs.Common.{◌≡◌, ℕ, get_or, refl, sym, ◌∙◌, ap, below_more, subst, arith}
use Rattle.image_layout.specs.Tables.{extension_pointer_at}
use Rattle.image_layout.specs.Places.{place_in}
use Rattle.image_rules.proofs.Chains.{LinksBelow, found_true, no_pointer, reached_before, link_holds, reached_more, link_fails, last_is}
use Rattle.image_rules.proofs.Columns.{next_extension}
use Rattle.image_rules.proofs.extensions.pointers_fault.Goals as goal

pub returns-in_default : goal.returns-in_default
returns-in_default c =
    let at : ℕ → ℕ = extension_pointer_at c.args.words.now c.args.block.0 in
    link_fails c.args.words.now 48 at c.args.count c.loop-extension.extension c.loop-extension.pointer c.loop-extension-test.true c.loop-extension.invariant.holds c.loop-extension.invariant.pointer
    (no_pointer c.args.words.now 48 at c.loop-extension.extension c.loop-extension.pointer c.loop-extension.invariant.pointer (c.in_default.ensures.none.0 refl))

pub returns-then-contains : goal.returns-then-contains
returns-then-contains c =
    let at : ℕ → ℕ = extension_pointer_at c.args.words.now c.args.block.0 in
    link_fails c.args.words.now 48 at c.args.count c.loop-extension.extension c.loop-extension.pointer c.loop-extension-test.true c.loop-extension.invariant.holds c.loop-extension.invariant.pointer
    (reached_before c.args.words.now 48 at c.loop-extension.extension c.loop-extension.pointer c.in-Some.place _ c.loop-extension.invariant.pointer c.in-Some.ensures.place
    c.loop-extension.invariant.reached (sym c.contains.ensures.value ∙ c.if-contains.true))

pub loop-extension-preserved : goal.loop-extension-preserved
loop-extension-preserved c =
    let at : ℕ → ℕ = extension_pointer_at c.args.words.now c.args.block.0 in
    let named = c.in-Some.ensures.place ∙ ap (λ (p : ℕ). place_in (get_or c.args.words.now p 0)) c.loop-extension.invariant.pointer in
    record {
      pointer = named ∙ sym (next_extension c.args.words.now c.args.block.0 c.loop-extension.extension);
      within = omega (arith, c.in-Some.ensures.within);
      reached = reached_more c.args.words.now 48 at c.loop-extension.extension c.in-Some.place c.loop-extension.reached (omega arith) named c.loop-extension.invariant.reached;
      holds = below_more _ _ c.loop-extension.invariant.holds
          (link_holds c.args.words.now 48 at c.loop-extension.extension c.loop-extension.pointer c.in-Some.place _ c.loop-extension.invariant.pointer c.in-Some.ensures.place
          c.loop-extension.invariant.reached (found_true _ c.in-Some.ensures.none) (sym c.contains.ensures.value ∙ c.if-contains.false));
    }

pub returns : goal.returns
returns c =
    let at : ℕ → ℕ = extension_pointer_at c.args.words.now c.args.block.0 in
    let last : c.loop-extension.extension ≡ c.args.count = omega arith in
    c.then_some.ensures
    ∙ last_is c.args.words.now 48 at c.args.count c.loop-extension.pointer c.is_null_or_words.result
    (subst (LinksBelow c.args.words.now 48 at) last c.loop-extension.invariant.holds)
    (c.loop-extension.invariant.pointer ∙ ap at last) c.is_null_or_words.ensures
