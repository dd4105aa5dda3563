-- Runs that are as long as they can be.
use Rattle.std.proofs.Common.{◌≡◌, ◌∙◌, ℕ, ◌+◌, ◌-◌, ◌%◌, ◌<◌, ◌≤◌, ◌↔◌, List, [], ◌∷◌, ◌++◌, take, drop, suc, inl, inr, refl, sym, ap, subst, arith, ⊎_elim}
use Rattle.std.specs.Prelude.{Contains}
use Rattle.std.proofs.lemmas.Bool.{cases_lt}
use Rattle.heap_big.specs.declared.run.Run.{Run}
use Rattle.heap_big.specs.Runs.{end_of, HasPage, IsFree, IsInSegment, next_place, AreRuns}
use Rattle.heap_big.specs.Starts.{HasRun, Indexes}
use Rattle.heap_big.proofs.Chains.{low_le_high, free_below, free_from, split, free_in_part, free_behind}
use Rattle.heap_big.proofs.Lengths.{same_run}
use Rattle.heap_big.proofs.BestFit.{parts_at}

-- the run's pages are free, and no free page of its segment touches it
pub record IsMaximal (free : ℕ → Type 0) (run : Run) : Type 0 where
  pub in_segment : IsInSegment run
  pub inside : (page : ℕ) → HasPage run page → free page
  pub before : 0 < run.first % 64 → free (run.first - 1) → ⊥
  pub behind : 0 < end_of run % 64 → free (end_of run) → ⊥

-- a free page isn't the last one before the end, unless a segment ends there
free_ends : (low high : ℕ) (runs : List Run) (page : ℕ) → AreRuns low runs high → IsFree runs page → 0 < suc page % 64 → suc page < high
free_ends low high [] page order free inside = absurd free
free_ends low high (run ∷ runs) page order (inl has) inside =
    let le = low_le_high (next_place run) high runs order.2 in
    ⊎_elim
    (λ (less : suc page < end_of run). omega (arith, less, le))
    (λ more. let same : suc page ≡ end_of run = omega (arith, more, has.1) in let there = ap (λ (n : ℕ). n % 64) same in omega (arith, le, same, there, inside))
    (cases_lt (suc page) (end_of run))
free_ends low high (run ∷ runs) page order (inr behind) inside = free_ends (next_place run) high runs page order.2 behind inside

between_maximal : (high : ℕ) (front behind : List Run) (run : Run) → AreRuns 0 (front ++ run ∷ behind) high → IsMaximal (IsFree (front ++ run ∷ behind)) run
between_maximal high front behind run order =
    let halves = split 0 high front (run ∷ behind) order in
    let some = halves.2.1.some in
    record {
      in_segment = halves.2.1;
      inside = λ page has. free_behind front (run ∷ behind) page (inl has);
      before = λ inside free. elim (free_in_part front (run ∷ behind) (run.first - 1) free) [
        | inl earlier ↦
            let next : suc (run.first - 1) ≡ run.first = omega (arith, inside) in
            let under = free_ends 0 halves.0 front (run.first - 1) halves.1 earlier (subst (λ (n : ℕ). 0 < n % 64) (sym next) inside) in
            omega (arith, under, next, halves.2.0)
        | inr rest ↦ elim rest [
          | inl has ↦ omega (arith, has.0, inside)
          | inr later ↦ let from = free_from (next_place run) high behind (run.first - 1) halves.2.2 later in omega (arith, from, some)
        ]
      ];
      behind = λ inside free. elim (free_in_part front (run ∷ behind) (end_of run) free) [
        | inl earlier ↦ let under = free_below 0 halves.0 front (end_of run) halves.1 earlier in omega (arith, under, halves.2.0)
        | inr rest ↦ elim rest [
          | inl has ↦ omega (arith, has.1)
          | inr later ↦ let from = free_from (next_place run) high behind (end_of run) halves.2.2 later in omega (arith, from, inside)
        ]
      ];
    }

pub contains_maximal : (high : ℕ) (runs : List Run) (run : Run) → AreRuns 0 runs high → Contains runs run → IsMaximal (IsFree runs) run
contains_maximal high runs run order (k, lt, is) =
    let parts = parts_at runs k run lt in
    let P : Run → List Run → Type 0 = λ r l. IsMaximal (IsFree l) r in
    let there : take k runs ++ run ∷ drop (k + 1) runs ≡ runs = ap (λ (r : Run). take k runs ++ r ∷ drop (k + 1) runs) (sym is) ∙ parts in
    subst (P run) there (between_maximal high (take k runs) (drop (k + 1) runs) run (subst (λ (l : List Run). AreRuns 0 l high) (sym there) order))

-- two that share a page are one
no_earlier : (free : ℕ → Type 0) (one other : Run) (page : ℕ) → IsMaximal free one → IsMaximal free other → HasPage one page → HasPage other page → other.first ≤ one.first
no_earlier free one other page maximal maximal' has has' = ⊎_elim
    (λ (less : one.first < other.first).
    let size = maximal.in_segment.within in
    absurd (maximal'.before (omega (arith, less, has'.0, has.1, size)) (maximal.inside (other.first - 1) (omega (arith, less), omega (arith, has'.0, has.1)))))
    (λ more. more)
    (cases_lt one.first other.first)

no_shorter : (free : ℕ → Type 0) (one other : Run) (page : ℕ) → IsMaximal free one → IsMaximal free other → HasPage one page → HasPage other page → end_of one ≤ end_of other
no_shorter free one other page maximal maximal' has has' = ⊎_elim
    (λ (less : end_of other < end_of one).
    let size = maximal.in_segment.within in
    absurd (maximal'.behind (omega (arith, less, has.0, has'.1, size)) (maximal.inside (end_of other) (omega (arith, has.0, has'.1), less))))
    (λ more. more)
    (cases_lt (end_of other) (end_of one))

pub shared_same : (free : ℕ → Type 0) (one other : Run) (page : ℕ) → IsMaximal free one → IsMaximal free other → HasPage one page → HasPage other page → one ≡ other
shared_same free one other page maximal maximal' has has' =
    let le = no_earlier free one other page maximal maximal' has has' in
    let ge = no_earlier free other one page maximal' maximal has' has in
    let shorter = no_shorter free one other page maximal maximal' has has' in
    let longer = no_shorter free other one page maximal' maximal has' has in
    let first : one.first ≡ other.first = omega (arith, le, ge) in
    same_run one other first (omega (arith, first, shorter, longer))

-- a free page is in one of the runs
in_one : (runs : List Run) (page : ℕ) → IsFree runs page → (run : Run) × Contains runs run × HasPage run page
in_one [] page free = absurd free
in_one (run ∷ runs) page (inl has) = (run, (0, omega arith, refl), has)
in_one (run ∷ runs) page (inr behind) = let rest = in_one runs page behind in (rest.0, (suc rest.1.0, omega (arith, rest.1.1), rest.1.2), rest.2)

pub maximal_contains : (high : ℕ) (runs : List Run) (run : Run) → AreRuns 0 runs high → IsMaximal (IsFree runs) run → Contains runs run
maximal_contains high runs run order maximal =
    let some = maximal.in_segment.some in
    let has : HasPage run run.first = (omega arith, omega (arith, some)) in
    let one = in_one runs run.first (maximal.inside run.first has) in
    subst (λ (r : Run). Contains runs r) (shared_same (IsFree runs) one.0 run run.first (contains_maximal high runs one.0 order one.1) maximal one.2 has) one.1

-- only the pages matter
pub maximal_by : (free free' : ℕ → Type 0) (run : Run) → ((page : ℕ) → free page ↔ free' page) → IsMaximal free run → IsMaximal free' run
maximal_by free free' run same maximal = record {
  in_segment = maximal.in_segment;
  inside = λ page has. (same page).0 (maximal.inside page has);
  before = λ inside free. maximal.before inside ((same (run.first - 1)).1 free);
  behind = λ inside free. maximal.behind inside ((same (end_of run)).1 free);
}

-- an index of the maximal runs of the free pages
abbrev pub IndexesMaximal : List (List ℕ) → (ℕ → Type 0) → Type 0
IndexesMaximal starts free = (run : Run) → HasRun starts run ↔ IsMaximal free run

pub indexes_maximal : (high : ℕ) (starts : List (List ℕ)) (runs : List Run) → AreRuns 0 runs high → Indexes starts runs → IndexesMaximal starts (IsFree runs)
indexes_maximal high starts runs order indexes run = (
  λ has. contains_maximal high runs run order ((indexes run).0 has),
  λ maximal. (indexes run).1 (maximal_contains high runs run order maximal),
)

pub maximal_indexes : (high : ℕ) (starts : List (List ℕ)) (runs : List Run) (free : ℕ → Type 0) → AreRuns 0 runs high → ((page : ℕ) → free page ↔ IsFree runs page) → IndexesMaximal starts free → Indexes starts runs
maximal_indexes high starts runs free order same indexes run = (
  λ has. maximal_contains high runs run order (maximal_by free (IsFree runs) run same ((indexes run).0 has)),
  λ has. (indexes run).1 (maximal_by (IsFree runs) free run (λ page. ((same page).1, (same page).0)) (contains_maximal high runs run order has)),
)
