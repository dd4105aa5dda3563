use Rattle.std.proofs.Common.{◌≡◌, ◌<◌, ℕ, List, length, set, get_or, bit_and, w64, refl, sym, ap, subst, arith, rules, true, false}
use Rattle.std.specs.Prelude.{All, Contains}
use Rattle.std.specs.Int.{bit_not}
use Rattle.std.proofs.lemmas.List.{length-set}
use Rattle.std.proofs.lemmas.List.Elements.{Contains-get_or, All-contains}
use Rattle.heap_big.specs.declared.run.Run.{Run}
use Rattle.heap_big.specs.Pages.{pages_of}
use Rattle.heap_big.specs.Runs.{FreeRuns, IsWellFormed}
use Rattle.heap_big.specs.Index.{runs_of}
use Rattle.heap_big.specs.Starts.{HasRun, IsShortest, Indexes}
use Rattle.heap_big.proofs.BestFit.{TakesBest}
use Rattle.heap_big.proofs.Grouping.{well_formed}
use Rattle.heap_big.proofs.Taking.{IsChosen, best_lies, no_rest, indexed_left, taken_best, as_written}
use Rattle.heap_big.proofs.runs.Runs.take.Goals as goal

pub overflow_cast-pages : goal.overflow_cast-pages
overflow_cast-pages c =
    let lies = best_lies c.self.inside.free.items c.self.inside.starts c.in_ok-best.best c.self.invariant.starts c.in_ok-best.ensures.shortest.is_one in
    omega (arith, lies.segment.within, c.in_ok-best.ensures.shortest.fits)

pub overflow_add-best : goal.overflow_add-best
overflow_add-best c =
    let lies = best_lies c.self.inside.free.items c.self.inside.starts c.in_ok-best.best c.self.invariant.starts c.in_ok-best.ensures.shortest.is_one in
    omega (arith, lies.to, c.self.invariant.small, c.in_ok-best.ensures.shortest.fits)

pub add-requires-clause-short : goal.add-requires-clause-short
add-requires-clause-short c =
    let lies = best_lies c.self.inside.free.items c.self.inside.starts c.in_ok-best.best c.self.invariant.starts c.in_ok-best.ensures.shortest.is_one in
    omega (arith, lies.segment.within)

pub add-requires-clause-within : goal.add-requires-clause-within
add-requires-clause-within c =
    let lies = best_lies c.self.inside.free.items c.self.inside.starts c.in_ok-best.best c.self.invariant.starts c.in_ok-best.ensures.shortest.is_one in
    λ some. omega (arith, lies.to, c.self.invariant.small, some)

pub add-requires-clause-new : goal.add-requires-clause-new
add-requires-clause-new c = no_rest c.self.inside.free.items c.self.inside.starts c.remove.new.self c.in_ok-best.best c.args.pages c.self.invariant.starts c.in_ok-best.ensures.shortest.is_one c.in_ok-best.ensures.shortest.fits c.remove.ensures

pub bits_of-requires : goal.bits_of-requires
bits_of-requires c =
    let lies = best_lies c.self.inside.free.items c.self.inside.starts c.in_ok-best.best c.self.invariant.starts c.in_ok-best.ensures.shortest.is_one in
    omega (arith, lies.segment.within, c.in_ok-best.ensures.shortest.fits)

pub index_mut-requires : goal.index_mut-requires
index_mut-requires c =
    let lies = best_lies c.self.inside.free.items c.self.inside.starts c.in_ok-best.best c.self.invariant.starts c.in_ok-best.ensures.shortest.is_one in
    omega (arith, lies.to, lies.segment.some, c.from.ensures)

taken : (c : goal.After-self-1) → TakesBest c.args.self.now.page_count c.args.self.now.runs c.args.pages (record { first = c.in_ok-best.best.first; pages = c.args.pages })
    (runs_of (pages_of (set c.self.inside.free.items c.from.result (bit_and c.index_mut.result.now (bit_not w64 c.bits_of.result)))))
taken c =
    let chosen : IsChosen c.self.inside.free.items c.args.self.now c.self.inside.starts c.args.pages c.in_ok-best.best c.from.result c.index_mut.result.now =
    record { view = c.self.view_is; small = c.self.invariant.small; indexed = c.self.invariant.starts; shortest = c.in_ok-best.ensures.shortest; segment = c.from.ensures; read = c.index_mut.ensures.value } in
    subst (λ (l : List ℕ). TakesBest c.args.self.now.page_count c.args.self.now.runs c.args.pages (record { first = c.in_ok-best.best.first; pages = c.args.pages }) (runs_of (pages_of l)))
    (sym (as_written c.self.inside.free.items c.args.self.now c.self.inside.starts c.args.pages c.in_ok-best.best c.from.result c.index_mut.result.now chosen c.bits_of.result (bit_and c.index_mut.result.now (bit_not w64 c.bits_of.result)) c.bits_of.ensures refl))
    (taken_best c.self.inside.free.items c.args.self.now c.self.inside.starts c.args.pages c.in_ok-best.best c.from.result c.index_mut.result.now chosen)

pub invariant_of-self : goal.invariant_of-self
invariant_of-self c =
    let chosen : IsChosen c.self.inside.free.items c.args.self.now c.self.inside.starts c.args.pages c.in_ok-best.best c.from.result c.index_mut.result.now =
    record { view = c.self.view_is; small = c.self.invariant.small; indexed = c.self.invariant.starts; shortest = c.in_ok-best.ensures.shortest; segment = c.from.ensures; read = c.index_mut.ensures.value } in
    record {
      small = omega (arith, c.self.invariant.small, length-set c.self.inside.free.items c.from.result (bit_and c.index_mut.result.now (bit_not w64 c.bits_of.result)));
      starts = subst (λ (l : List ℕ). Indexes c.add.new.self (runs_of (pages_of l)))
          (sym (as_written c.self.inside.free.items c.args.self.now c.self.inside.starts c.args.pages c.in_ok-best.best c.from.result c.index_mut.result.now chosen c.bits_of.result (bit_and c.index_mut.result.now (bit_not w64 c.bits_of.result)) c.bits_of.ensures refl))
          (indexed_left c.self.inside.free.items c.args.self.now c.self.inside.starts c.args.pages c.in_ok-best.best c.from.result c.index_mut.result.now chosen c.remove.new.self c.add.new.self c.remove.ensures c.add.ensures);
    }

pub returns-clause-best : goal.returns-clause-best
returns-clause-best c = (taken c).best

pub returns-clause-pages : goal.returns-clause-pages
returns-clause-pages c = (taken c).removed

pub returns-clause-well_formed : goal.returns-clause-well_formed
returns-clause-well_formed c = well_formed (set c.self.inside.free.items c.from.result (bit_and c.index_mut.result.now (bit_not w64 c.bits_of.result)))

pub returns-clause-in_segment : goal.returns-clause-in_segment
returns-clause-in_segment c = (taken c).in_segment

pub returns-clause-within : goal.returns-clause-within
returns-clause-within c = (taken c).within

pub returns-clause-were_free : goal.returns-clause-were_free
returns-clause-were_free c = (taken c).were_free

-- where none was found each run is shorter
shorter : (starts : List (List ℕ)) (words : List ℕ) (free : List Run) (pages : ℕ) → runs_of (pages_of words) ≡ free → Indexes starts (runs_of (pages_of words)) → ((run : Run) → HasRun starts run → run.pages < pages) → (k : ℕ) (d : Run) → k < length free → (get_or free k d).pages < pages
shorter starts words free pages same indexes each k d within =
    each (get_or free k d) ((indexes (get_or free k d)).1 (subst (λ (l : List Run). Contains l (get_or free k d)) (sym same) (Contains-get_or free k d within)))

pub returns-in_err-best-clause-none : goal.returns-in_err-best-clause-none
returns-in_err-best-clause-none c = (
  λ none. shorter c.self.inside.starts c.self.inside.free.items c.args.self.now.runs c.args.pages (ap (λ (free : FreeRuns). free.runs) c.self.view_is) c.self.invariant.starts (c.in_err-best.ensures.none.0 refl),
  λ each. search rules,
)

pub returns-in_err-best-clause-well_formed : goal.returns-in_err-best-clause-well_formed
returns-in_err-best-clause-well_formed c = subst (λ (free : FreeRuns). IsWellFormed free) c.self.view_is (well_formed c.self.inside.free.items)

-- the run that was found isn't shorter
not_shorter : (starts : List (List ℕ)) (words : List ℕ) (free : List Run) (pages : ℕ) (best : Run) → runs_of (pages_of words) ≡ free → Indexes starts (runs_of (pages_of words)) → IsShortest starts pages best → All (λ (run : Run). run.pages < pages) free → ⊥
not_shorter starts words free pages best same indexes shortest each =
    let has = subst (λ (l : List Run). Contains l best) same ((indexes best).0 shortest.is_one) in
    omega (arith, All-contains (λ (run : Run). run.pages < pages) free best each has, shortest.fits)

pub returns-clause-none : goal.returns-clause-none
returns-clause-none c = (
  λ none. absurd (let e : true ≡ false = none in (cc)),
  λ each. absurd (not_shorter c.self.inside.starts c.self.inside.free.items c.args.self.now.runs c.args.pages c.in_ok-best.best (ap (λ (free : FreeRuns). free.runs) c.self.view_is) c.self.invariant.starts c.in_ok-best.ensures.shortest each),
)
