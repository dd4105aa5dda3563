use Rattle.std.proofs.Common.{ℕ, ◌≡◌, ◌<◌, refl, sym, ◌∙◌, ap, subst, rules}
use Rattle.std.specs.Prelude.{IfErr, All}
use Rattle.heap_big.specs.declared.run.Run.{Run}
use Rattle.heap_big.specs.Runs.{FreeRuns, longest, IsGreatest}
use Rattle.heap_palloc.specs.declared.error.AllocError.TheVariants.{Full}
use Rattle.heap_palloc.proofs.Longest.{longest_short}
use Rattle.heap_palloc.proofs.heap.Heap.take_run.Goals as goal
use Rattle.heap_palloc.proofs.heap.Heap.take_run.Goals.{in-Some, in-None}

-- what is said of the runs after a call that left them as they were
said : (before seen old : FreeRuns) (pages largest : ℕ) → seen ≡ before → before ≡ old → 0 < pages → All (λ (run : Run). run.pages < pages) before.runs → largest ≡ longest seen.runs → IsGreatest seen.runs largest → IsGreatest old.runs largest × (largest < pages)
said before seen old pages largest same was some short is greatest = (
  subst (λ (f : FreeRuns). IsGreatest f.runs largest) (same ∙ was) greatest,
  subst (λ (n : ℕ). n < pages) (sym (is ∙ ap (λ (f : FreeRuns). longest f.runs) same)) (longest_short before.runs pages some short),
)

pub returns-clause-full : goal.returns-clause-full
returns-clause-full c = elim c.match-take.branch [
  | in-Some w ↦ search rules
  | in-None w ↦
      let short : All (λ (run : Run). run.pages < c.args.pages) c.self.inside.runs.runs = w.in-None.ensures.none.0 refl in
      let both = said c.self.inside.runs c.take.new.self c.args.self.now.free c.args.pages w.largest.result w.in-None.ensures.unchanged (ap (λ h. h.free) c.self.view_is) c.requires short w.largest.ensures.longest w.largest.ensures.greatest in
      subst (λ r. IfErr r (λ error. (largest : ℕ) × IsGreatest c.args.self.now.free.runs largest × (largest < c.args.pages) × (error ≡ Full c.args.pages largest))) (sym w.result-is)
      (w.largest.result, both.0, both.1, refl)
]
