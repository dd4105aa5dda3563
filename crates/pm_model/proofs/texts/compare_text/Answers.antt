use Rattle.std.proofs.Common.{◌≡◌, ℕ, ◌<◌, length, get_or, sym, ap, ◌∙◌, arith, inl, inr}
use Rattle.std.specs.Ordering.{nat_cmp}
use Rattle.std.proofs.lemmas.Bool.{cases_lt}
use Rattle.image_layout.specs.Trees.{text_at, text_length}
use Rattle.image_layout.proofs.TextOrder.{byte_of_text, decided_greater, decided_less, ends_greater, ends_less, goes_on, length_of_text}
use Rattle.pm_model.proofs.texts.compare_text.Goals as goal

pub returns-then-is_ne-clause-less : goal.returns-then-is_ne-clause-less
returns-then-is_ne-clause-less g c =
    let words = (g.M.Memory.device c.args.mem.now).cached in
    let text = text_at words c.args.at.0 in
    let place : ℕ = c.loop-place.place in
    let long : length text ≡ text_length words c.args.at.0 = length_of_text words c.args.at.0 in
    let inside : place < text_length words c.args.at.0 = omega (arith, c.loop-place-test.true, c.min-both.ensures, c.load.ensures) in
    let compared : c.cmp-order.result ≡ nat_cmp (get_or text place 0) (get_or c.args.bytes.now place 0) =
    c.cmp-order.ensures ∙ ap (λ (byte : ℕ). nat_cmp byte (get_or c.args.bytes.now place 0)) (c.packed_byte.ensures ∙ sym (byte_of_text words c.args.at.0 place inside)) in
    decided_less text c.args.bytes.now place c.cmp-order.result (omega (arith, inside, long)) (omega (arith, c.loop-place-test.true, c.min-both.ensures)) compared (sym c.is_ne.ensures ∙ c.if-is_ne.true) c.loop-place.invariant

pub returns-then-is_ne-clause-greater : goal.returns-then-is_ne-clause-greater
returns-then-is_ne-clause-greater g c =
    let words = (g.M.Memory.device c.args.mem.now).cached in
    let text = text_at words c.args.at.0 in
    let place : ℕ = c.loop-place.place in
    let long : length text ≡ text_length words c.args.at.0 = length_of_text words c.args.at.0 in
    let inside : place < text_length words c.args.at.0 = omega (arith, c.loop-place-test.true, c.min-both.ensures, c.load.ensures) in
    let compared : c.cmp-order.result ≡ nat_cmp (get_or text place 0) (get_or c.args.bytes.now place 0) =
    c.cmp-order.ensures ∙ ap (λ (byte : ℕ). nat_cmp byte (get_or c.args.bytes.now place 0)) (c.packed_byte.ensures ∙ sym (byte_of_text words c.args.at.0 place inside)) in
    decided_greater text c.args.bytes.now place c.cmp-order.result (omega (arith, inside, long)) (omega (arith, c.loop-place-test.true, c.min-both.ensures)) compared (sym c.is_ne.ensures ∙ c.if-is_ne.true) c.loop-place.invariant

pub loop-place-preserved : goal.loop-place-preserved
loop-place-preserved g c =
    let words = (g.M.Memory.device c.args.mem.now).cached in
    let text = text_at words c.args.at.0 in
    let place : ℕ = c.loop-place.place in
    let long : length text ≡ text_length words c.args.at.0 = length_of_text words c.args.at.0 in
    let inside : place < text_length words c.args.at.0 = omega (arith, c.loop-place-test.true, c.min-both.ensures, c.load.ensures) in
    let compared : c.cmp-order.result ≡ nat_cmp (get_or text place 0) (get_or c.args.bytes.now place 0) =
    c.cmp-order.ensures ∙ ap (λ (byte : ℕ). nat_cmp byte (get_or c.args.bytes.now place 0)) (c.packed_byte.ensures ∙ sym (byte_of_text words c.args.at.0 place inside)) in
    goes_on text c.args.bytes.now place c.cmp-order.result (omega (arith, inside, long)) (omega (arith, c.loop-place-test.true, c.min-both.ensures)) compared (sym c.is_ne.ensures ∙ c.if-is_ne.false) c.loop-place.invariant

pub returns-clause-less : goal.returns-clause-less
returns-clause-less g c =
    let words = (g.M.Memory.device c.args.mem.now).cached in
    let text = text_at words c.args.at.0 in
    let bytes = c.args.bytes.now in
    let place : ℕ = c.loop-place.place in
    let long : length text ≡ c.load.result = length_of_text words c.args.at.0 ∙ sym c.load.ensures in
    let compared : c.cmp.result ≡ nat_cmp (length text) (length bytes) = c.cmp.ensures ∙ ap (λ (n : ℕ). nat_cmp n (length bytes)) (sym long) in
    ends_less text bytes place c.cmp.result (omega (arith, long, c.min-both.ensures, c.loop-place.auto.place-end)) (omega (arith, c.min-both.ensures, c.loop-place.auto.place-end))
    (elim (cases_lt place (length text)) [
      | inl before ↦ inr (omega (arith, before, long, c.min-both.ensures, c.loop-place-test.false))
      | inr end ↦ inl end
    ])
    compared c.loop-place.invariant

pub returns-clause-greater : goal.returns-clause-greater
returns-clause-greater g c =
    let words = (g.M.Memory.device c.args.mem.now).cached in
    let text = text_at words c.args.at.0 in
    let bytes = c.args.bytes.now in
    let place : ℕ = c.loop-place.place in
    let long : length text ≡ c.load.result = length_of_text words c.args.at.0 ∙ sym c.load.ensures in
    let compared : c.cmp.result ≡ nat_cmp (length text) (length bytes) = c.cmp.ensures ∙ ap (λ (n : ℕ). nat_cmp n (length bytes)) (sym long) in
    ends_greater text bytes place c.cmp.result (omega (arith, long, c.min-both.ensures, c.loop-place.auto.place-end)) (omega (arith, c.min-both.ensures, c.loop-place.auto.place-end))
    (elim (cases_lt place (length text)) [
      | inl before ↦ inr (omega (arith, before, long, c.min-both.ensures, c.loop-place-test.false))
      | inr end ↦ inl end
    ])
    compared c.loop-place.invariant
