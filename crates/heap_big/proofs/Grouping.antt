-- Pages in ascending place, joined to runs.
use Rattle.std.proofs.Common.{◌≡◌, ℕ, ◌+◌, ◌*◌, ◌/◌, ◌%◌, ◌<◌, ◌≤◌, ◌⊎◌, ◌↔◌, true, List, [], ◌∷◌, length, zero, suc, inl, inr, ap, subst, ◌∙◌, ⊎_elim, get_or, arith}
use Rattle.std.specs.Prelude.{Contains, filter}
use Rattle.std.specs.List.{range_with_len}
use Rattle.std.specs.Int.{bit_at}
use Rattle.std.proofs.lemmas.Bool.{cases_lt, eqb-true}
use Rattle.std.proofs.lemmas.List.{get_or_past}
use Rattle.std.proofs.lemmas.Nat.Bits.{bit_at-zero}
use Rattle.heap_big.specs.declared.run.Run.{Run}
use Rattle.heap_big.specs.Runs.{HasPage, IsFree, IsInSegment, AreRuns, IsWellFormed}
use Rattle.heap_big.specs.Join.{with_right, without_right}
use Rattle.heap_big.specs.Pages.{IsRising, has_page, pages_of}
use Rattle.heap_big.specs.Index.{one_page, runs_of}
use Rattle.heap_big.specs.Starts.{Indexes}
use Rattle.heap_big.proofs.Maximal.{IndexesMaximal, indexes_maximal, maximal_indexes, maximal_by}
use Rattle.heap_big.proofs.Chains.{free_from}
use Rattle.heap_big.proofs.Joins.{BeginsBefore, JoinsRight, joins_right}
use Rattle.heap_big.proofs.Rising.{rising-bound, filter-rising}
use Rattle.heap_big.proofs.PageSets.{contains-within, within-contains}

begins_behind : (place high : ℕ) (runs : List Run) → AreRuns (place + 1) runs high → BeginsBefore place runs
begins_behind place high [] order = search
begins_behind place high (run ∷ runs) order = omega (arith, order.0)

-- runs in order that have just these pages
pub record AreRunsOf (low high : ℕ) (pages : List ℕ) (runs : List Run) : Type 0 where
  pub order : AreRuns low runs high
  pub free : (page : ℕ) → IsFree runs page ↔ Contains pages page

-- one page more in front
joined : (low high page : ℕ) (pages : List ℕ) (runs : List Run) → low ≤ page → high % 64 ≡ 0 → page + 1 ≤ high → AreRunsOf (page + 1) high pages runs
    → AreRunsOf low high (page ∷ pages) (with_right (one_page page) runs ∷ without_right (one_page page) runs)
joined low high page pages runs le whole within rest =
    let segment : IsInSegment (one_page page) = record { some = omega arith; within = omega arith } in
    let apart : (other : ℕ) → HasPage (one_page page) other → IsFree runs other → ⊥ = λ other has free. let from = free_from (page + 1) high runs other rest.order free in omega (arith, from, has.1) in
    let joins : JoinsRight high (one_page page) runs (with_right (one_page page) runs) (without_right (one_page page) runs) =
    joins_right (page + 1) high (one_page page) runs whole rest.order segment within (begins_behind page high runs rest.order) apart in
    record {
      order = (omega (arith, joins.first, le), joins.in_segment, joins.order);
      free = λ other. (
        λ free. elim (joins.no_more other free) [
          | inl has ↦ (0, omega arith, omega (arith, has.0, has.1))
          | inr behind ↦ let there = (rest.free other).0 behind in (suc there.0, omega (arith, there.1), there.2)
        ],
        λ has. joins.gained other (first_or_behind other has),
      );
    }
  where
    first_or_behind : (other : ℕ) → Contains (page ∷ pages) other → HasPage (one_page page) other ⊎ IsFree runs other
    first_or_behind other (zero, lt, here) = let same : page ≡ other = here in inl (omega (arith, same), omega (arith, same))
    first_or_behind other (suc k, lt, there) = inr ((rest.free other).1 (k, omega (arith, lt), there))

pub grouped : (low high : ℕ) (pages : List ℕ) → high % 64 ≡ 0 → IsRising low pages high → AreRunsOf low high pages (runs_of pages)
unfolding runs_of
grouped low high [] whole rising = record { order = rising; free = λ page. (λ none. absurd none, λ has. absurd (omega (arith, has.1))) }
grouped low high (page ∷ pages) whole rising =
    let rest = grouped (page + 1) high pages whole rising.1 in
    joined low high page pages (runs_of pages) rising.0 whole (rising-bound (page + 1) pages high rising.1) rest

pages_rise : (words : List ℕ) → IsRising 0 (pages_of words) (64 * length words)
unfolding pages_of
pages_rise words =
    let all : 0 + 64 * length words ≡ 64 * length words = omega arith in
    subst (λ (n : ℕ). IsRising 0 (filter (has_page words) (range_with_len 0 (64 * length words))) n) all (filter-rising (has_page words) (64 * length words) 0)

module _ (words : List ℕ) where
  runs_are : AreRunsOf 0 (64 * length words) (pages_of words) (runs_of (pages_of words))
  runs_are = grouped 0 (64 * length words) (pages_of words) (omega arith) (pages_rise words)

  pub runs_order : AreRuns 0 (runs_of (pages_of words)) (64 * length words)
  runs_order = runs_are.order

  -- beyond the last word no bit is 1
  bit_within : (page : ℕ) → has_page words page ≡ true → page < 64 * length words
  bit_within page hit = ⊎_elim
      (λ (inside : page / 64 < length words). omega (arith, inside))
      (λ past.
      let none = ap (λ (w : ℕ). bit_at w (page % 64)) (get_or_past words (page / 64) 0 past) ∙ bit_at-zero (page % 64) in
      let one = eqb-true (bit_at (get_or words (page / 64) 0) (page % 64)) 1 hit in
      absurd (omega (arith, none, one)))
      (cases_lt (page / 64) (length words))

  -- the pages of the runs are those whose bit is 1
  pub free_same : (page : ℕ) → (has_page words page ≡ true) ↔ IsFree (runs_of (pages_of words)) page
  free_same page = (
    λ hit. (runs_are.free page).1 (within-contains words page (bit_within page hit) hit),
    λ free. (contains-within words page ((runs_are.free page).0 free)).1,
  )

  pub well_formed : IsWellFormed (record { page_count = 64 * length words; runs = runs_of (pages_of words) })
  well_formed = record { whole = omega arith; runs = runs_order }

  -- an index of the runs is one of the maximal runs of the pages whose bit is 1
  pub runs_indexed : (starts : List (List ℕ)) → Indexes starts (runs_of (pages_of words)) → IndexesMaximal starts (λ page. has_page words page ≡ true)
  runs_indexed starts indexes run =
      let same = indexes_maximal (64 * length words) starts (runs_of (pages_of words)) runs_order indexes run in (
        λ has. maximal_by (IsFree (runs_of (pages_of words))) (λ page. has_page words page ≡ true) run (λ page. ((free_same page).1, (free_same page).0)) (same.0 has),
        λ maximal. same.1 (maximal_by (λ page. has_page words page ≡ true) (IsFree (runs_of (pages_of words))) run free_same maximal),
      )

  pub bits_indexed : (starts : List (List ℕ)) → IndexesMaximal starts (λ page. has_page words page ≡ true) → Indexes starts (runs_of (pages_of words))
  bits_indexed starts indexes = maximal_indexes (64 * length words) starts (runs_of (pages_of words)) (λ page. has_page words page ≡ true) runs_order free_same indexes
