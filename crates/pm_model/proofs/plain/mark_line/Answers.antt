use Rattle.std.proofs.Common.{◌≡◌, ⊎_elim, ℕ, ◌*◌, ◌/◌, ◌<◌, Bool, true, false, ◌&&◌, ◌||◌, eqb, get_or, set, length, refl, sym, ◌∙◌, ap, arith}
use Rattle.std.proofs.lemmas.List.{get_or-set_same, get_or-set_other}
use Rattle.std.proofs.lemmas.Bool.{cases_eq, cases_lt, eq-eqb, ne_eqb}
use Rattle.pm_model.specs.Masks.{in_mask}
use Rattle.pm_model.proofs.plain.mark_line.Goals as goal

hit : (was mine here : Bool) → here ≡ true → (was || mine) ≡ (was || (mine && here))
hit was true here is = ap (λ (b : Bool). was || b) (sym is)
hit was false here is = refl

miss : (was mine here : Bool) → here ≡ false → was ≡ (was || (mine && here))
miss true mine here is = refl
miss false true here is = sym is
miss false false here is = refl

pub loop-w-preserved : goal.loop-w-preserved
loop-w-preserved c =
    let w = c.loop-w.w in
    let masks = c.loop-w.masks in
    let mask = c.with_bit.result in
    let within : w < length masks = omega (arith, c.loop-w-test.true, c.line_start-first.ensures, c.requires.line, c.loop-w.auto.masks) in
    record {
      done = λ k other low lt. ⊎_elim
          (λ (e : k ≡ w). ap (λ (n : ℕ). in_mask (get_or (set masks w mask) n 0) other) e ∙ ap (λ (m : ℕ). in_mask m other) (get_or-set_same masks w mask 0 within) ∙ c.with_bit.ensures other
          ∙ ap (λ (m : ℕ). in_mask m other || eqb other c.args.session) (ap (λ (n : ℕ). get_or masks n 0) (sym e) ∙ c.loop-w.invariant.after k (omega (arith, e))))
          (λ ne. ap (λ (m : ℕ). in_mask m other) (get_or-set_other masks w k mask 0 ne) ∙ c.loop-w.invariant.done k other low (omega (arith, lt, ne)))
          (cases_eq k w);
      before = λ k lt. get_or-set_other masks w k mask 0 (λ e. omega (arith, e, lt, c.loop-w.auto.w, c.line_start-first.ensures)) ∙ c.loop-w.invariant.before k lt;
      after = λ k le. get_or-set_other masks w k mask 0 (λ e. omega (arith, e, le)) ∙ c.loop-w.invariant.after k (omega (arith, le));
    }

pub returns : goal.returns
returns c = λ w other.
    let line = c.args.line in
    let was = in_mask (get_or c.args.masks.now w 0) other in
    let mine = eqb other c.args.session in
    let here = eqb (w / 8) line in
    let end = c.loop-w.auto.w-end (omega arith) in
    ⊎_elim
    (λ (e : w / 8 ≡ line). c.loop-w.invariant.done w other (omega (arith, e)) (omega (arith, e, c.loop-w-test.false, c.line_start-first.ensures)) ∙ hit was mine here (eq-eqb (w / 8) line e))
    (λ ne. ap (λ (m : ℕ). in_mask m other) (⊎_elim (λ lt. c.loop-w.invariant.before w lt) (λ le. c.loop-w.invariant.after w (omega (arith, ne, le, end, c.line_start-first.ensures))) (cases_lt w (8 * line)))
    ∙ miss was mine here (ne_eqb (w / 8) line ne))
    (cases_eq (w / 8) line)
