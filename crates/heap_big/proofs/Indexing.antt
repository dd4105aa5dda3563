-- The places of runs in order, and the longest of them.
use Rattle.std.proofs.Common.{◌≡◌, ◌⊎◌, ⊎_elim, ℕ, zero, suc, ◌<◌, ◌≤◌, List, [], ◌∷◌, length, get_or, refl, ap, subst, arith}
use Rattle.std.specs.Prelude.{Contains}
use Rattle.heap_big.specs.declared.run.Run.{Run}
use Rattle.heap_big.specs.Runs.{end_of, IsInSegment, next_place, AreRuns, longest}
use Rattle.heap_big.proofs.Chains.{low_le_high}

-- where one of the runs lies
pub record LiesIn (low high : ℕ) (run : Run) : Type 0 where
  pub from : low ≤ run.first
  pub to : end_of run ≤ high
  pub segment : IsInSegment run

pub lies_in : (low high : ℕ) (runs : List Run) (run : Run) → AreRuns low runs high → Contains runs run → LiesIn low high run
lies_in low high [] run order has = absurd (omega (arith, has.1))
lies_in low high (first ∷ runs) run order (zero, lt, here) =
    subst (λ (r : Run). LiesIn low high r) here (record { from = order.0; to = omega (arith, low_le_high (next_place first) high runs order.2); segment = order.1 })
lies_in low high (first ∷ runs) run order (suc k, lt, there) =
    let rest = lies_in (next_place first) high runs run order.2 (k, omega (arith, lt), there) in
    record { from = omega (arith, rest.from, order.0); to = rest.to; segment = rest.segment }

from_low : (low high : ℕ) (runs : List Run) (k : ℕ) (d : Run) → AreRuns low runs high → k < length runs → low ≤ (get_or runs k d).first
from_low low high [] k d order within = absurd (omega (arith, within))
from_low low high (run ∷ runs) zero d order within = order.0
from_low low high (run ∷ runs) (suc k) d order within = let rest = from_low (next_place run) high runs k d order.2 (omega (arith, within)) in omega (arith, rest, order.0)

pub strictly : (low high : ℕ) (runs : List Run) (i j : ℕ) (d : Run) → AreRuns low runs high → i < j → j < length runs → (get_or runs i d).first < (get_or runs j d).first
strictly low high [] i j d order lt within = absurd (omega (arith, within))
strictly low high (run ∷ runs) i zero d order lt within = absurd (omega (arith, lt))
strictly low high (run ∷ runs) zero (suc j) d order lt within = let rest = from_low (next_place run) high runs j d order.2 (omega (arith, within)) in let some = order.1.some in omega (arith, rest, some)
strictly low high (run ∷ runs) (suc i) (suc j) d order lt within = strictly (next_place run) high runs i j d order.2 (omega (arith, lt)) (omega (arith, within))

-- ── the longest ──

longest-le : (runs : List Run) (count : ℕ) → ((run : Run) → Contains runs run → run.pages ≤ count) → longest runs ≤ count
longest-le [] count bound = omega arith
longest-le (run ∷ runs) count bound =
    let here = bound run (0, omega arith, refl) in
    let rest = longest-le runs count (λ other has. bound other (suc has.0, omega (arith, has.1), has.2)) in
    omega (arith, here, rest)

le-longest : (runs : List Run) (run : Run) → Contains runs run → run.pages ≤ longest runs
le-longest [] run has = absurd (omega (arith, has.1))
le-longest (first ∷ runs) run (zero, lt, here) = let same = ap (λ (r : Run). r.pages) here in omega (arith, same)
le-longest (first ∷ runs) run (suc k, lt, there) = let rest = le-longest runs run (k, omega (arith, lt), there) in omega (arith, rest)

pub longest-is : (runs : List Run) (count : ℕ) → ((run : Run) → Contains runs run → run.pages ≤ count) → (count ≡ 0) ⊎ ((run : Run) × Contains runs run × (run.pages ≡ count)) → count ≡ longest runs
longest-is runs count bound reached =
    let le = longest-le runs count bound in
    ⊎_elim
    (λ (none : count ≡ 0). omega (arith, none, le))
    (λ (one : (run : Run) × Contains runs run × (run.pages ≡ count)). let ge = le-longest runs one.0 one.1 in omega (arith, ge, one.2, le))
    reached
