-- The first pages of the best fit are taken.
use Rattle.std.proofs.Common.{◌≡◌, ◌↔◌, refl, ℕ, ◌+◌, ◌%◌, ◌<◌, ◌≤◌, ◌++◌, ◌∷◌, [], List, length, take, drop, get_or, zero, suc, Some, inl, ⊎_elim, sym, ap, subst, ◌∙◌, append_assoc, add-one, drop-cons, take-append-drop, arith}
use Rattle.std.proofs.lemmas.List.{length-map, get_or-map as map-at}
use Rattle.std.proofs.lemmas.Option.{slice_get-get_or}
use Rattle.std.proofs.lemmas.Bool.{cases_eq}
use Rattle.std.proofs.lemmas.List.Elements.{Contains-get_or}
use Rattle.heap_big.specs.declared.run.Run.{Run}
use Rattle.heap_big.specs.Starts.{HasRun, IsShortest, Indexes}
use Rattle.heap_big.proofs.Indexing.{strictly}
use Rattle.heap_big.specs.Runs.{end_of, HasPage, IsFree, IsInSegment, next_place, AreRuns, Removes}
use Rattle.heap_big.specs.Fit.{lengths, rest_of, IsBestFit, TakesBestFit}
use Rattle.heap_big.proofs.Chains.{low_le_high, free_behind}
use Rattle.heap_big.proofs.Takes.{IsTaken, take_first}
use Rattle.heap_big.proofs.Settled.{settled}

pub end_le : (low high : ℕ) (runs : List Run) (k : ℕ) (other : Run) → AreRuns low runs high → k < length runs → end_of (get_or runs k other) ≤ high
end_le low high [] k other order within = absurd (omega arith)
end_le low high (run ∷ runs) zero other order within = omega (arith, low_le_high (next_place run) high runs order.2)
end_le low high (run ∷ runs) (suc k) other order within = end_le (next_place run) high runs k other order.2 (omega arith)

segment_at : (low high : ℕ) (runs : List Run) (k : ℕ) (other : Run) → AreRuns low runs high → k < length runs → IsInSegment (get_or runs k other)
segment_at low high [] k other order within = absurd (omega arith)
segment_at low high (run ∷ runs) zero other order within = order.1
segment_at low high (run ∷ runs) (suc k) other order within = segment_at (next_place run) high runs k other order.2 (omega arith)

-- the shortest run of the index, at its place
pub best_fit_at : (high : ℕ) (starts : List (List ℕ)) (runs : List Run) (pages : ℕ) (best : Run) (at : ℕ) → AreRuns 0 runs high → Indexes starts runs → IsShortest starts pages best
    → at < length runs → get_or runs at best ≡ best → IsBestFit pages (lengths runs) at
best_fit_at high starts runs pages best at order indexes shortest within is =
    let size : (k : ℕ) → k < length runs → get_or (lengths runs) k 0 ≡ (get_or runs k best).pages = λ k lt. map-at (λ (r : Run). r.pages) runs k best 0 lt in
    let count = length-map runs (λ (r : Run). r.pages) in
    let has : (k : ℕ) → k < length runs → HasRun starts (get_or runs k best) = λ k lt. (indexes (get_or runs k best)).1 (Contains-get_or runs k best lt) in
    let here : get_or (lengths runs) at 0 ≡ best.pages = size at within ∙ ap (λ (r : Run). r.pages) is in
    record {
      within = omega (arith, count, within);
      fits = omega (arith, here, shortest.fits);
      shortest = λ k lt long. let inside : k < length runs = omega (arith, count, lt) in let same = size k inside in omega (arith, here, same, shortest.shortest (get_or runs k best) (has k inside) (omega (arith, same, long)));
      first = λ k lt long.
          let inside : k < length runs = omega (arith, lt, within) in
          let same = size k inside in
          let le = shortest.shortest (get_or runs k best) (has k inside) (omega (arith, same, long)) in
          ⊎_elim
          (λ (equal : (get_or runs k best).pages ≡ best.pages). absurd (
          let low = shortest.lowest (get_or runs k best) (has k inside) equal in
          let up = strictly 0 high runs k at best order lt within in
          let first = ap (λ (r : Run). r.first) is in
          omega (arith, low, up, first)))
          (λ apart. omega (arith, here, same, le, apart))
          (cases_eq (get_or runs k best).pages best.pages);
    }

-- the runs at both sides of one
pub parts_at : (runs : List Run) (at : ℕ) (other : Run) → at < length runs → take at runs ++ get_or runs at other ∷ drop (at + 1) runs ≡ runs
parts_at runs at other within = rw add-one (ap (λ l. take at runs ++ l) (sym (drop-cons runs at other within)) ∙ take-append-drop at runs)

pub record TakesBest (high : ℕ) (old : List Run) (pages : ℕ) (taken : Run) (new : List Run) : Type 0 where
  pub order : AreRuns 0 new high
  pub removed : Removes old taken new
  pub best : TakesBestFit old pages taken new
  pub were_free : (page : ℕ) → HasPage taken page → IsFree old page
  pub in_segment : taken.first % 64 + taken.pages ≤ 64
  pub within : end_of taken ≤ high

-- the free pages without those that are taken settle what is left of the runs
pub takes_best : (high : ℕ) (starts : List (List ℕ)) (runs new : List Run) (pages : ℕ) (best : Run) → AreRuns 0 runs high → AreRuns 0 new high → Indexes starts runs → IsShortest starts pages best
    → ((page : ℕ) → IsFree new page ↔ (IsFree runs page × (HasPage (record { first = best.first; pages = pages }) page → ⊥)))
    → TakesBest high runs pages (record { first = best.first; pages = pages }) new
takes_best high starts runs new pages best order order' indexes shortest left =
    let there = (indexes best).0 shortest.is_one in
    let at : ℕ = there.0 in
    let within : at < length runs = there.1 in
    let is : get_or runs at best ≡ best = there.2 in
    let taken : Run = record { first = best.first; pages = pages } in
    let front = take at runs in
    let behind = drop (at + 1) runs in
    let parts : front ++ best ∷ behind ≡ runs = ap (λ (r : Run). front ++ r ∷ behind) (sym is) ∙ parts_at runs at best within in
    let segment : IsInSegment best = subst (λ (r : Run). IsInSegment r) is (segment_at 0 high runs at best order within) in
    let done : IsTaken high (front ++ best ∷ behind) taken (front ++ (rest_of best pages ++ behind)) =
    take_first high front behind best pages shortest.fits (subst (λ l. AreRuns 0 l high) (sym parts) order) in
    let removed : Removes runs taken (front ++ (rest_of best pages ++ behind)) = subst (λ l. Removes l taken (front ++ (rest_of best pages ++ behind))) parts done.pages in
    let same : new ≡ front ++ (rest_of best pages ++ behind) =
    settled 0 0 high new (front ++ (rest_of best pages ++ behind)) order' done.order (λ page free. (removed page).1 ((left page).0 free)) (λ page free. (left page).1 ((removed page).0 free)) in
    record {
      order = order';
      removed = left;
      best = record {
        at = at;
        chosen = best;
        best = best_fit_at high starts runs pages best at order indexes shortest within is;
        chosen_is = slice_get-get_or runs at best within ∙ ap (λ (r : Run). Some r) is;
        taken_is = refl;
        new_is = same ∙ sym (append_assoc front (rest_of best pages) behind);
      };
      were_free = λ page has. subst (λ l. IsFree l page) parts (free_behind front (best ∷ behind) page (inl (has.0, omega (arith, has.1, shortest.fits))));
      in_segment = omega (arith, segment.within, shortest.fits);
      within = let end = subst (λ (r : Run). end_of r ≤ high) is (end_le 0 high runs at best order within) in omega (arith, end, shortest.fits);
    }
