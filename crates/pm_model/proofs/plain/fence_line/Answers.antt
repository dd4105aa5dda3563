use Rattle.std.proofs.Common.{◌≡◌, ⊎_elim, ℕ, sym, subst, arith}
use Rattle.std.proofs.lemmas.Bool.{cases_eq}
use Rattle.pm_model.specs.Masks.{IsFenced}
use Rattle.pm_model.proofs.Fences.{kept_kept, kept_fenced, fenced_kept}
use Rattle.pm_model.proofs.plain.fence_line.Goals as goal

pub loop-w-preserved : goal.loop-w-preserved
loop-w-preserved c =
    let session = c.args.session in
    let cached = c.args.cached.now in
    let durable = c.args.durable.now in
    let masks = c.args.masks.now in
    let durable_so_far = c.loop-w.durable in
    let masks_so_far = c.loop-w.masks in
    let durable_after = c.fence_word.new.durable in
    let masks_after = c.fence_word.new.masks in
    record {
      done = λ k low lt. ⊎_elim
          (λ (e : k ≡ c.loop-w.w). kept_fenced session cached durable masks durable_so_far masks_so_far k durable_after masks_after (c.loop-w.invariant.after k (omega (arith, e)))
          (subst (λ (n : ℕ). IsFenced session cached durable_so_far masks_so_far durable_after masks_after n) (sym e) c.fence_word.ensures.here))
          (λ ne. fenced_kept session cached durable masks durable_so_far masks_so_far k durable_after masks_after (c.loop-w.invariant.done k low (omega (arith, lt, ne))) (c.fence_word.ensures.others k ne))
          (cases_eq k c.loop-w.w);
      before = λ k lt. kept_kept session cached durable masks durable_so_far masks_so_far k durable_after masks_after (c.loop-w.invariant.before k lt)
          (c.fence_word.ensures.others k (λ e. omega (arith, e, lt, c.loop-w.auto.w, c.line_start-start.ensures)));
      after = λ k le. kept_kept session cached durable masks durable_so_far masks_so_far k durable_after masks_after (c.loop-w.invariant.after k (omega (arith, le))) (c.fence_word.ensures.others k (λ e. omega (arith, e, le)));
    }
