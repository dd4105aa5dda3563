use Rattle.std.proofs.Common.{◌≡◌, ⊎_elim, ℕ, length, sym, ◌∙◌, ap, subst, arith}
use Rattle.std.proofs.lemmas.List.{get_or_past}
use Rattle.std.proofs.lemmas.Bool.{cases_eq, cases_lt}
use Rattle.pm_model.specs.Masks.{in_mask, IsFenced}
use Rattle.pm_model.proofs.Fences.{in_mask-zero, kept_unflushed, kept_kept, kept_fenced, fenced_kept}
use Rattle.pm_model.proofs.plain.fence_all.Goals as goal

pub loop-w-preserved : goal.loop-w-preserved
loop-w-preserved c =
    let session = c.args.session in
    let cached = c.args.cached.now in
    let durable = c.args.durable.now in
    let masks = c.args.masks.now in
    let durable_so_far = c.loop-w.durable in
    let masks_so_far = c.loop-w.masks in
    let durable_after = c.fence_word.new.durable in
    let masks_after = c.fence_word.new.masks in
    record {
      done = λ k lt. ⊎_elim
          (λ (e : k ≡ c.loop-w.w). kept_fenced session cached durable masks durable_so_far masks_so_far k durable_after masks_after (c.loop-w.invariant.after k (omega (arith, e)))
          (subst (λ (n : ℕ). IsFenced session cached durable_so_far masks_so_far durable_after masks_after n) (sym e) c.fence_word.ensures.here))
          (λ ne. fenced_kept session cached durable masks durable_so_far masks_so_far k durable_after masks_after (c.loop-w.invariant.done k (omega (arith, lt, ne))) (c.fence_word.ensures.others k ne))
          (cases_eq k c.loop-w.w);
      after = λ k le. kept_kept session cached durable masks durable_so_far masks_so_far k durable_after masks_after (c.loop-w.invariant.after k (omega (arith, le))) (c.fence_word.ensures.others k (λ e. omega (arith, e, le)));
    }

pub returns : goal.returns
returns c = λ w. ⊎_elim
    (λ lt. c.loop-w.invariant.done w (omega (arith, lt, c.loop-w-test.false)))
    (λ le. kept_unflushed c.args.session c.args.cached.now c.args.durable.now c.args.masks.now c.loop-w.durable c.loop-w.masks w (c.loop-w.invariant.after w (omega (arith, le, c.loop-w.auto.w-end)))
    (ap (λ (m : ℕ). in_mask m c.args.session) (get_or_past c.args.masks.now w 0 (omega (arith, le, c.requires.masks))) ∙ in_mask-zero c.args.session))
    (cases_lt w (length c.args.cached.now))
