use Rattle.std.proofs.Common.{◌≡◌, ◌⊎◌, inl, inr, ◌+◌, ◌-◌, ◌<◌, ◌≤◌, ◌^◌, ℕ, List, [], length, get_or, sym, subst, ap, ◌∙◌, ⊎_elim, arith}
use Rattle.std.specs.Prelude.{Contains}
use Rattle.std.specs.Int.{bit_at}
use Rattle.std.proofs.lemmas.Nat.Bits.{bit_at-zero}
use Rattle.heap_big.specs.declared.run.Run.{Run}
use Rattle.heap_big.specs.Starts.{HasRun}
use Rattle.std.specs.Int.Count.{count_leading_zeros, leading_of_zero}
use Rattle.std.proofs.lemmas.Bool.{cases_eq, cases_lt}
use Rattle.heap_big.proofs.Lengths.{set_some, some-contains, marked, AreMarked}
use Rattle.heap_big.proofs.Bits.{highest_bit}
use Rattle.heap_big.proofs.starts.Starts.longest.Goals as goal

module _ (sets view : List (List ℕ)) (used : ℕ) (size : length sets ≡ 64) (are : AreMarked sets used) (fits : used < 2 ^ 64) (is : sets ≡ view) where
  reached : (64 - count_leading_zeros 64 used ≡ 0) ⊎ ((run : Run) × HasRun view run × (run.pages ≡ 64 - count_leading_zeros 64 used))
  reached = ⊎_elim
      (λ (none : used ≡ 0). inl (let all = ap (count_leading_zeros 64) none ∙ leading_of_zero 64 in omega (arith, all)))
      (λ some.
      let top = highest_bit used (omega (arith, some)) fits in
      let first = some-contains (get_or sets top.0 []) (set_some sets used size are fits top.0 top.2) in
      let run : Run = record { first = first.0; pages = top.0 + 1 } in
      let back : top.0 + 1 - 1 ≡ top.0 = omega arith in
      let has : HasRun sets run = record { some = omega arith; begins = subst (λ (n : ℕ). Contains (get_or sets n []) first.0) (sym back) first.1 } in
      inr (run, subst (λ (l : List (List ℕ)). HasRun l run) is has, omega (arith, top.1)))
      (cases_eq used 0)

  bound : (run : Run) → HasRun view run → run.pages ≤ 64 - count_leading_zeros 64 used
  bound run there =
      let has : HasRun sets run = subst (λ (l : List (List ℕ)). HasRun l run) (sym is) there in
      ⊎_elim
      (λ (none : used ≡ 0). absurd (marked sets used run size are has (ap (λ (n : ℕ). bit_at n (run.pages - 1)) none ∙ bit_at-zero (run.pages - 1))))
      (λ some.
      let top = highest_bit used (omega (arith, some)) fits in
      ⊎_elim
      (λ (above : top.0 < run.pages - 1). absurd (marked sets used run size are has (top.3 (run.pages - 1) above)))
      (λ below. omega (arith, below, top.1))
      (cases_lt top.0 (run.pages - 1)))
      (cases_eq used 0)

pub returns-clause-reached : goal.returns-clause-reached
returns-clause-reached c = reached c.self.inside.sets.items c.args.self.now c.self.inside.used (omega (arith, c.self.invariant.size)) c.self.invariant.used (omega arith) c.self.view_is

pub returns-clause-bound : goal.returns-clause-bound
returns-clause-bound c = bound c.self.inside.sets.items c.args.self.now c.self.inside.used (omega (arith, c.self.invariant.size)) c.self.invariant.used (omega arith) c.self.view_is
