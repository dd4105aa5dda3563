use Rattle.std.proofs.Common.{◌≡◌, ⊎_elim, ℕ, ◌*◌, ◌/◌, eqb, get_or, sym, ◌∙◌, ap, arith}
use Rattle.std.proofs.lemmas.Bool.{cases_eq, cases_lt, cond-true, cond-false, eq-eqb, ne_eqb}
use Rattle.pm_model.specs.Masks.{in_mask}
use Rattle.pm_model.proofs.plain.punch_words.Goals as goal

pub returns-clause-cached : goal.returns-clause-cached
returns-clause-cached c = λ w.
    let page = c.args.page in
    let was = get_or c.args.cached.now w 0 in
    let end = c.loop-w.auto.w-end (omega arith) in
    ⊎_elim
    (λ (e : w / 512 ≡ page). c.loop-w.invariant.words w (omega (arith, e)) (omega (arith, e, c.loop-w-test.false, c.from.ensures)) ∙ sym (cond-true (eqb (w / 512) page) 0 was (eq-eqb (w / 512) page e)))
    (λ ne. ⊎_elim (λ lt. c.loop-w.invariant.words_before w lt) (λ le. c.loop-w.invariant.words_after w (omega (arith, ne, le, end, c.from.ensures))) (cases_lt w (512 * page))
    ∙ sym (cond-false (eqb (w / 512) page) 0 was (ne_eqb (w / 512) page ne)))
    (cases_eq (w / 512) page)

pub returns-clause-masks : goal.returns-clause-masks
returns-clause-masks c = λ w other.
    let page = c.args.page in
    let mine = eqb other c.args.session in
    let was = in_mask (get_or c.args.masks.now w 0) other in
    let end = c.loop-w.auto.w-end (omega arith) in
    ⊎_elim
    (λ (e : w / 512 ≡ page). c.loop-w.invariant.done w other (omega (arith, e)) (omega (arith, e, c.loop-w-test.false, c.from.ensures)) ∙ sym (cond-true (eqb (w / 512) page) mine was (eq-eqb (w / 512) page e)))
    (λ ne. ap (λ (m : ℕ). in_mask m other) (⊎_elim (λ lt. c.loop-w.invariant.before w lt) (λ le. c.loop-w.invariant.after w (omega (arith, ne, le, end, c.from.ensures))) (cases_lt w (512 * page)))
    ∙ sym (cond-false (eqb (w / 512) page) mine was (ne_eqb (w / 512) page ne)))
    (cases_eq (w / 512) page)
