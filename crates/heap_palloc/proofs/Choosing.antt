-- Where a request goes is what its parts gave, and a request that goes somewhere isn't refused.
use Rattle.std.proofs.Common.{◌≡◌, ⊎_elim, ℕ, zero, suc, ◌<◌, ◌≤◌, leb, List, [], ◌∷◌, length, get_or, refl, sym, ◌∙◌, ap, arith}
use Rattle.std.specs.Prelude.{Result, Ok, Err, IfOk}
use Rattle.std.proofs.lemmas.Bool.{cases_lt, cond-true, cond-false, le-leb, lt-leb}
use Rattle.pm_model.specs.declared.action.Action.{Action}
use Rattle.pm_model.specs.Device.{Device, IsWhole}
use Rattle.image_layout.specs.Blocks.{class_for, pages_for, bitmap_of, longest_free_run}
use Rattle.heap_small.specs.Bitmap.{IsFirstClear}
use Rattle.heap_big.specs.declared.run.Run.{Run}
use Rattle.heap_big.specs.Runs.{longest}
use Rattle.heap_big.specs.Fit.{lengths, TakesBestFit}
use Rattle.heap_big.proofs.Longest.{longest_greatest}
use Rattle.heap_palloc.specs.Index.{HeapIndex, pages_with_room}
use Rattle.heap_palloc.specs.Choice.{Choice, in_page, on_new_page, in_run, IsChosen, needed_pages}
use Rattle.heap_palloc.specs.Calls.{MayCall, IsPlanned, IsAllocated, IsFull}
use Rattle.heap_palloc.proofs.Allocating.{longest_of}

-- ── what was planned is what was asked for ──

module _ (words : List ℕ) (old after : HeapIndex) (lane dest count : ℕ) (plan : List Action) (first size : ℕ) where
  pub slot_allocated : (class page : ℕ) (rest : List ℕ) → count ≤ 256 → class ≡ class_for count → pages_with_room words class ≡ page ∷ rest
      → (slot : ℕ) × IsFirstClear (bitmap_of words page) slot × IsPlanned words after (in_page (record { lane = lane; owner = dest; page = page; class = class; slot = slot })) plan first size
      → IsAllocated words old after lane dest count plan first size
  slot_allocated class page rest small class_is room (slot, clear, planned) = record {
    choice = in_page (record { lane = lane; owner = dest; page = page; class = class; slot = slot });
    chosen = (small, class_is, (rest, room), clear);
    through = (refl, refl);
    planned = planned;
  }

  pub new_page_allocated : (class : ℕ) → count ≤ 256 → class ≡ class_for count → pages_with_room words class ≡ []
      → (page : ℕ) × ((left : List Run) × TakesBestFit old.free.runs 1 (record { first = page; pages = 1 }) left) × IsPlanned words after (on_new_page (record { lane = lane; owner = dest; page = page; class = class; slot = 0 })) plan first size
      → IsAllocated words old after lane dest count plan first size
  new_page_allocated class small class_is none (page, best, planned) = record {
    choice = on_new_page (record { lane = lane; owner = dest; page = page; class = class; slot = 0 });
    chosen = (small, class_is, none, best, refl);
    through = (refl, refl);
    planned = planned;
  }

  pub pages_allocated : (pages : ℕ) → 256 < count → pages ≡ pages_for count
      → (page : ℕ) × ((left : List Run) × TakesBestFit old.free.runs pages (record { first = page; pages = pages }) left) × IsPlanned words after (in_run (record { lane = lane; owner = dest; first = page; pages = pages })) plan first size
      → IsAllocated words old after lane dest count plan first size
  pages_allocated pages big pages_is (page, best, planned) = record {
    choice = in_run (record { lane = lane; owner = dest; first = page; pages = pages });
    chosen = (big, pages_is, best);
    through = (refl, refl);
    planned = planned;
  }

-- what follows where a call succeeded
pub ok_map : {T E : Type 0} (P Q : T → Type 0) (result : Result T E) → ((value : T) → P value → Q value) → IfOk result P → IfOk result Q
ok_map P Q (Ok value) f holds = f value holds
ok_map P Q (Err error) f holds = tt

pub at_most : (count bound : ℕ) → (bound < count → ⊥) → count ≤ bound
at_most count bound none = ⊎_elim (λ lt. absurd (none lt)) (λ le. le) (cases_lt bound count)

-- ── what goes somewhere isn't refused ──

longest-each : (runs : List Run) (k : ℕ) → k < length (lengths runs) → get_or (lengths runs) k 0 ≤ longest runs
longest-each [] k lt = absurd (omega arith)
longest-each (run ∷ runs) zero lt = omega arith
longest-each (run ∷ runs) (suc k) lt = omega (arith, longest-each runs k (omega arith))

module _ (d : Device) (whole : IsWhole d) (index : HeapIndex) (lane dest : ℕ) (may : MayCall d.cached index lane dest) where
  fits_is : (pages : ℕ) (run : Run) (left : List Run) → TakesBestFit index.free.runs pages run left → pages ≤ longest_free_run d.cached
  fits_is pages run left best =
      let same = longest_of d whole index lane dest may (longest index.free.runs) (longest_greatest index.free.page_count index.free.runs may.index_of.well_formed.runs) in
      omega (arith, same, best.best.fits, longest-each index.free.runs best.at best.best.within)

  small_need : (count : ℕ) → count ≤ 256 → needed_pages count ≡ 1
  small_need count le = cond-true (leb count 256) 1 (pages_for count) (le-leb count 256 le)

  big_need : (count : ℕ) → 256 < count → needed_pages count ≡ pages_for count
  big_need count lt = cond-false (leb count 256) 1 (pages_for count) (lt-leb count 256 lt)

  no_list : (page : ℕ) (rest xs : List ℕ) → xs ≡ page ∷ rest → xs ≡ [] → ⊥
  no_list page rest xs is none = let size : length (page ∷ rest) ≡ 0 = ap (length {A = ℕ}) (sym is ∙ none) in omega (arith, size)

  chosen_fits : (count : ℕ) (choice : Choice) → IsChosen d.cached index.free.runs count choice → IsFull d.cached count → ⊥
  chosen_fits count (in_page s) (small, class_is, (rest, room), clear) full =
      no_list s.page rest (pages_with_room d.cached s.class) room (ap (pages_with_room d.cached) class_is ∙ full.no_slot small)
  chosen_fits count (on_new_page s) (small, class_is, none, (left, best), slot_is) full =
      let fits = fits_is 1 (record { first = s.page; pages = 1 }) left best in
      omega (arith, fits, small_need count small, full.no_run)
  chosen_fits count (in_run r) (big, pages_is, (left, best)) full =
      let fits = fits_is r.pages (record { first = r.first; pages = r.pages }) left best in
      omega (arith, fits, pages_is, big_need count big, full.no_run)

  pub allocated_fits : (after : HeapIndex) (count : ℕ) (plan : List Action) (first size : ℕ) → IsAllocated d.cached index after lane dest count plan first size → IsFull d.cached count → ⊥
  allocated_fits after count plan first size allocated = chosen_fits count allocated.choice allocated.chosen
