-- From what the steps of a call give to what it promises: a slot of a page that is made small, and pages.
use Rattle.std.proofs.Common.{◌≡◌, ◌≢◌, ◌⊎◌, ⊎_elim, ℕ, ◌+◌, ◌*◌, ◌%◌, ◌<◌, ◌≤◌, true, false, List, [], ◌++◌, get_or, refl, sym, ◌∙◌, ap, subst, arith}
use Rattle.std.specs.Prelude.{Result, Ok, Err, IfErr}
use Rattle.std.specs.Result.{IsErrAnd}
use Rattle.std.specs.Int.{bit_at}
use Rattle.std.specs.List.{range_with_len}
use Rattle.std.proofs.lemmas.Bool.{false_from_ne_true, cases_eq}
use Rattle.std.proofs.lemmas.Nat.Bits.{bit_at-zero}
use Rattle.std.proofs.lemmas.Grind.{flat_map-append}
use Rattle.pm_model.specs.declared.action.Action.{Action}
use Rattle.pm_model.specs.Device.{Device, IsWhole}
use Rattle.image_layout.specs.Places.{page_of, page_at}
use Rattle.pm_model.specs.Plans.{part_actions, plan_of, unless_empty}
use Rattle.image_layout.specs.Blocks.{slot_words, slots_of, slot_at, longest_free_run}
use Rattle.heap_small.specs.Bitmap.{with_bit}
use Rattle.heap_small.proofs.Bitmaps.{with_bit-same, with_bit-other}
use Rattle.heap_big.specs.declared.run.Run.{Run}
use Rattle.heap_big.specs.Runs.{FreeRuns, HasPage, IsFree, IsGreatest, IsWellFormed, Removes, end_of}
use Rattle.heap_big.specs.Fit.{TakesBestFit}
use Rattle.heap_palloc.specs.Parts.{Allocation, allocation_parts, new_page_parts, forget_given_back}
use Rattle.heap_palloc.specs.Shown.{GainsOne}
use Rattle.heap_palloc.specs.Law.{Slot, slot_allocation, Pages, pages_allocation, MayTakeNewSlot, MayTakeRun}
use Rattle.heap_palloc.specs.Index.{HeapIndex, rooms_of, is_full}
use Rattle.heap_palloc.specs.Choice.{on_new_page, in_run}
use Rattle.heap_palloc.specs.Calls.{MayCall, IsPlanned}
use Rattle.heap_palloc.proofs.Allocating.{pages_whole, new_slot_may, run_may, longest_of}
use Rattle.heap_palloc.proofs.Indexed.{GainsRoom, TakesRun, new_slot_fills, new_slot_leaves, take_run_index}
use Rattle.heap_palloc.proofs.Planned.{allocation-same}
use Rattle.heap_palloc.proofs.Rooms.{full_set}

-- the call took this run, and changed nothing else
pub record TookRun (old mid : HeapIndex) (pages : ℕ) (run : Run) : Type 0 where
  pub best : TakesBestFit old.free.runs pages run mid.free.runs
  pub size : run.pages ≡ pages
  pub were_free : (page : ℕ) → HasPage run page → IsFree old.free.runs page
  pub in_segment : run.first % 64 + run.pages ≤ 64
  pub within : end_of run ≤ old.free.page_count
  pub taken : Removes old.free.runs run mid.free.runs
  pub well_formed : IsWellFormed mid.free
  pub page_count : mid.free.page_count ≡ old.free.page_count
  pub rooms : mid.rooms ≡ old.rooms

-- a run is settled by its two numbers
run_is : (run : Run) (pages : ℕ) → run.pages ≡ pages → ◌≡◌ {A = Run} run (record { first = run.first; pages = pages })
run_is run pages same = ap (λ (n : ℕ). of run.first n) same
  where
    of : ℕ → ℕ → Run
    of first n = record { first = first; pages = n }

takes_run : (old mid after : HeapIndex) (pages : ℕ) (run : Run) → TookRun old mid pages run → after.free ≡ mid.free → TakesRun old after (record { first = run.first; pages = pages })
takes_run old mid after pages run took free =
    let P : FreeRuns → Type 0 = λ f. IsWellFormed f in
    record {
      removes = subst (λ (r : Run). Removes old.free.runs r after.free.runs) (run_is run pages took.size) (subst (λ (f : FreeRuns). Removes old.free.runs run f.runs) (sym free) took.taken);
      well_formed = subst P (sym free) took.well_formed;
      count = ap (λ (f : FreeRuns). f.page_count) free ∙ took.page_count;
    }

-- ── a new page ──

-- its bitmap with the first slot taken is full where there is no other
one_bit : (slot : ℕ) → slot ≢ 0 → bit_at (with_bit 0 0) slot ≡ 0
one_bit slot some = with_bit-other 0 0 slot some ∙ bit_at-zero slot

new_full : (class : ℕ) → slots_of class ≤ 1 → is_full class (with_bit 0 0) ≡ true
new_full class few = (full_set class (with_bit 0 0)).1 (λ slot lt. ap (bit_at (with_bit 0 0)) (zero_is slot (omega (arith, few, lt))) ∙ with_bit-same 0 0)
  where
    zero_is : (slot : ℕ) → slot < 1 → slot ≡ 0
    zero_is slot lt = omega arith

new_leaves : (class : ℕ) → 1 < slots_of class → is_full class (with_bit 0 0) ≡ false
new_leaves class more = false_from_ne_true (is_full class (with_bit 0 0)) (λ full. let one = (full_set class (with_bit 0 0)).0 full 1 more in let none = one_bit 1 (λ e. omega (arith, e)) in omega (arith, one, none))

pub first_slot : (class : ℕ) → class < 6 → 0 < slots_of class
first_slot class lt = ⊎_elim (λ e. subst (λ (c : ℕ). 0 < slots_of c) (sym e) (omega arith)) (λ a. ⊎_elim (λ e. subst (λ (c : ℕ). 0 < slots_of c) (sym e) (omega arith))
    (λ b. ⊎_elim (λ e. subst (λ (c : ℕ). 0 < slots_of c) (sym e) (omega arith)) (λ x. ⊎_elim (λ e. subst (λ (c : ℕ). 0 < slots_of c) (sym e) (omega arith))
    (λ y. ⊎_elim (λ e. subst (λ (c : ℕ). 0 < slots_of c) (sym e) (omega arith)) (λ z. subst (λ (c : ℕ). 0 < slots_of c) (last a b x y z) (omega arith)) (cases_eq class 4)) (cases_eq class 3)) (cases_eq class 2)) (cases_eq class 1)) (cases_eq class 0)
  where
    last : class ≢ 0 → class ≢ 1 → class ≢ 2 → class ≢ 3 → class ≢ 4 → 5 ≡ class
    last a b x y z = omega (arith, a, b, x, y, z, lt)

-- what becomes of the index
abbrev pub Leaves : HeapIndex → HeapIndex → ℕ → ℕ → Type 0
Leaves mid after class page = ((1 < slots_of class) × GainsRoom mid after class page × (after.free ≡ mid.free)) ⊎ ((slots_of class ≤ 1) × (after ≡ mid))

gains_from : (old mid after : HeapIndex) (class page : ℕ) → mid.rooms ≡ old.rooms → GainsRoom mid after class page → GainsRoom old after class page
gains_from old mid after class page same gains =
    let rooms : (c : ℕ) → rooms_of mid c ≡ rooms_of old c = λ c. ap (λ (xs : List (List ℕ)). get_or xs c []) same in
    record {
      gains = subst (λ (xs : List ℕ). GainsOne xs page (rooms_of after class)) (rooms class) gains.gains;
      rising = gains.rising;
      others = λ c apart. gains.others c apart ∙ rooms c;
    }

-- two lists of parts, one after the other
pub planned_both : (left mid old : List Action) (xs ys : List (List Action)) → mid ≡ old ++ plan_of xs → left ≡ mid ++ plan_of ys → old ≡ [] → left ≡ plan_of (xs ++ ys)
planned_both left mid old xs ys first second none =
    second ∙ ap (λ (zs : List Action). zs ++ plan_of ys) (first ∙ ap (λ (zs : List Action). zs ++ plan_of xs) none) ∙ sym (flat_map-append part_actions xs ys)

-- what `?` hands on is the error that came
pub handed_on : {T E : Type 0} (P : E → Type 0) (result : Result T E) (error : E) → IsErrAnd result (λ e. e ≡ error) → P error → IfErr result P
handed_on P (Ok value) error is holds = tt
handed_on P (Err other) error is holds = subst P (sym is) holds

module _ (d : Device) (whole : IsWhole d) (index : HeapIndex) (lane dest : ℕ) (may : MayCall d.cached index lane dest) where
  pub new_page_planned : get_or d.cached dest 0 ≡ 0 → (class : ℕ) → class < 6 → (mid after : HeapIndex) (run : Run) → TookRun index mid 1 run → (first size number marked : ℕ) (left half old : List Action)
      → first ≡ slot_at run.first class 0 → size ≡ slot_words class → number ≡ class → marked ≡ with_bit 0 0 → half ≡ old ++ plan_of (new_page_parts run.first number)
      → left ≡ half ++ plan_of (allocation_parts (record { lane = lane; owner = dest; block = first; marked = marked })) → old ≡ [] → Leaves mid after class run.first
      → (page : ℕ) × ((rest : List Run) × TakesBestFit index.free.runs 1 (record { first = page; pages = 1 }) rest)
      × IsPlanned d.cached after (on_new_page (record { lane = lane; owner = dest; page = page; class = class; slot = 0 })) left first size
  new_page_planned empty class class_is mid after run took first size number marked left half old first_is size_is number_is marked_is made pushed none leaves =
      let s : Slot = record { lane = lane; owner = dest; page = run.first; class = class; slot = 0 } in
      let free : IsFree index.free.runs run.first = took.were_free run.first (omega arith, omega (arith, took.size)) in
      let can : MayTakeNewSlot d.cached s = new_slot_may d whole index lane dest may run.first free empty class 0 class_is (first_slot class class_is) in
      let best : TakesBestFit index.free.runs 1 (record { first = run.first; pages = 1 }) mid.free.runs = subst (λ (r : Run). TakesBestFit index.free.runs 1 r mid.free.runs) (run_is run 1 took.size) took.best in (
        run.first,
        (mid.free.runs, best),
        record {
          may = can;
          plan_is = planned_both left half old (new_page_parts run.first class) (allocation_parts (slot_allocation s (with_bit 0 0))) (made ∙ ap (λ (k : ℕ). old ++ plan_of (new_page_parts run.first k)) number_is)
              (pushed ∙ ap (λ (a : Allocation). half ++ plan_of (allocation_parts a)) (allocation-same lane dest first (slot_at run.first class 0) marked (with_bit 0 0) first_is marked_is)) none;
          first_is = first_is;
          size_is = size_is;
          index_of = ⊎_elim
              (λ (more, gains, free). new_slot_leaves d.cached s can index after may.index_of (takes_run index mid after 1 run took free) (new_leaves class more) (pages_whole d whole index lane dest may).1 (gains_from index mid after class run.first took.rooms gains))
              (λ (few, same). new_slot_fills d.cached s can index after may.index_of (takes_run index mid after 1 run took (ap (λ (h : HeapIndex). h.free) same)) (new_full class few)
              (record { each = λ c. ap (λ (h : HeapIndex). rooms_of h c) same ∙ ap (λ (xs : List (List ℕ)). get_or xs c []) took.rooms }))
              leaves;
        },
      )

  -- ── pages ──

  pub pages_planned : get_or d.cached dest 0 ≡ 0 → (pages : ℕ) → 0 < pages → (after : HeapIndex) (run : Run) → TookRun index after pages run → (first marked size : ℕ) (left half old : List Action)
      → first ≡ page_at run.first → marked ≡ 16 + pages → size ≡ 512 * pages → half ≡ old ++ plan_of (unless_empty (forget_given_back d.cached (range_with_len run.first run.pages)))
      → left ≡ half ++ plan_of (allocation_parts (record { lane = lane; owner = dest; block = first; marked = marked })) → old ≡ []
      → (page : ℕ) × ((rest : List Run) × TakesBestFit index.free.runs pages (record { first = page; pages = pages }) rest)
      × IsPlanned d.cached after (in_run (record { lane = lane; owner = dest; first = page; pages = pages })) left first size
  pages_planned empty pages some after run took first marked size left half old first_is marked_is size_is made pushed none =
      let r : Pages = record { lane = lane; owner = dest; first = run.first; pages = pages } in
      let can : MayTakeRun d.cached r = run_may d whole index lane dest may empty run pages took.size some took.were_free took.in_segment took.within in
      let best : TakesBestFit index.free.runs pages (record { first = run.first; pages = pages }) after.free.runs = subst (λ (x : Run). TakesBestFit index.free.runs pages x after.free.runs) (run_is run pages took.size) took.best in
      let page : page_of (page_at run.first) ≡ run.first = omega arith in
      let part_is : ◌≡◌ {A = List Action} (forget_given_back d.cached (range_with_len run.first run.pages)) (forget_given_back d.cached (range_with_len (page_of (page_at run.first)) pages)) =
      ap (λ (n : ℕ). forget_given_back d.cached (range_with_len run.first n)) took.size ∙ ap (λ (p : ℕ). forget_given_back d.cached (range_with_len p pages)) (sym page) in (
        run.first,
        (after.free.runs, best),
        record {
          may = can;
          plan_is = planned_both left half old (unless_empty (forget_given_back d.cached (range_with_len (page_of (page_at run.first)) pages))) (allocation_parts (pages_allocation r))
              (made ∙ ap (λ (p : List Action). old ++ plan_of (unless_empty p)) part_is)
              (pushed ∙ ap (λ (a : Allocation). half ++ plan_of (allocation_parts a)) (allocation-same lane dest first (page_at run.first) marked (16 + pages) first_is marked_is)) none;
          first_is = first_is;
          size_is = size_is;
          index_of = take_run_index d.cached r can index after may.index_of (takes_run index after after pages run took refl) (record { each = λ c. ap (λ (xs : List (List ℕ)). get_or xs c []) took.rooms });
        },
      )

  -- ── where there are none ──

  pub none_long : (largest pages : ℕ) → IsGreatest index.free.runs largest → largest < pages → (longest_free_run d.cached < pages) × (largest ≡ longest_free_run d.cached)
  none_long largest pages greatest short =
      let same = longest_of d whole index lane dest may largest greatest in
      (subst (λ (n : ℕ). n < pages) same short, same)
