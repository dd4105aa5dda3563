-- What the calls rely on lets each allocation be made.
use Rattle.std.proofs.Common.{◌≡◌, ℕ, ◌+◌, ◌%◌, ◌<◌, ◌≤◌, true, false, not, ◌&&◌, eqb, leb, List, ◌∷◌, get_or, sym, ◌∙◌, ap, subst, arith}
use Rattle.std.specs.Prelude.{Contains}
use Rattle.std.specs.Int.{bit_at}
use Rattle.std.proofs.lemmas.Bool.{both_ways, not-true, eqb-true, leb-true, and_parts}
use Rattle.pm_model.specs.Device.{Device, IsWhole}
use Rattle.image_layout.specs.Places.{page_of, page_count}
use Rattle.image_layout.specs.Blocks.{slots_of, descriptor_of, says_small, is_inside, is_free_page, is_small_page, class_of, bitmap_of, longest_free_run}
use Rattle.image_layout.proofs.Members.{Contains-here}
use Rattle.image_layout.proofs.Heap.{small_class}
use Rattle.heap_small.specs.Bitmap.{AreSetBelow}
use Rattle.heap_big.specs.declared.run.Run.{Run}
use Rattle.heap_big.specs.Runs.{HasPage, IsFree, IsGreatest, end_of}
use Rattle.heap_palloc.specs.Law.{IsHeapPage, IsSmallPage, IsIdle, MayTakeSlot, MayTakeNewSlot, MayTakeRun}
use Rattle.heap_palloc.specs.Index.{HeapIndex, rooms_of, is_full, has_room}
use Rattle.heap_palloc.specs.Calls.{MayCall}
use Rattle.heap_palloc.proofs.Dests.{IsDestPlace, dest_place, small_heap_page, free_heap_page}
use Rattle.heap_palloc.proofs.Longest.{longest_is}
use Rattle.heap_palloc.proofs.Rooms.{full_set, has_room_of}

module _ (d : Device) (whole : IsWhole d) (index : HeapIndex) (lane dest : ℕ) (may : MayCall d.cached index lane dest) where
  place : IsDestPlace d.cached dest
  place = dest_place d.cached whole.segments whole.one_or_more may.rules dest may.dest_is

  pub idle_is : IsIdle d.cached lane dest
  idle_is = record { lane_is = may.lane_is; op = may.idle; owner_is = place.owner_is }

  pub dest_in_device : dest < 4194304
  dest_in_device = omega (arith, place.owner_is.in_image, whole.most)

  pub pages_whole : (page_count d.cached % 64 ≡ 0) × (page_count d.cached ≤ 8192)
  pages_whole = (omega (arith, whole.segments), omega (arith, whole.most))

  -- ── a small page with room ──

  module _ (class page : ℕ) (class_is : class < 6) where
    pub lowest_has : (rest : List ℕ) → rooms_of index class ≡ page ∷ rest → (page < page_count d.cached) × (has_room d.cached class page ≡ true)
    lowest_has rest is = has_room_of d.cached class page (subst (λ (xs : List ℕ). Contains xs page) (sym is ∙ may.index_of.rooms class class_is) (Contains-here page rest))

    pub roomy_small : page < page_count d.cached → has_room d.cached class page ≡ true → IsSmallPage d.cached page class
    roomy_small lt has =
        let parts = and_parts (is_small_page d.cached page) (eqb (class_of d.cached page) class && not (is_full class (bitmap_of d.cached page))) has in
        let small = and_parts (not (is_inside d.cached page)) (says_small (descriptor_of d.cached page)) parts.0 in
        let low = (small_class (descriptor_of d.cached page) small.1).0 in
        let same = eqb-true (class_of d.cached page) class (and_parts (eqb (class_of d.cached page) class) (not (is_full class (bitmap_of d.cached page))) parts.1).0 in
        record {
          page_is = small_heap_page d.cached may.rules page lt small.1;
          class_is = class_is;
          small = parts.0;
          descriptor = omega (arith, low, same);
        }

    pub roomy_clear : has_room d.cached class page ≡ true → AreSetBelow (slots_of class) (bitmap_of d.cached page) → ⊥
    roomy_clear has set =
        let parts = and_parts (is_small_page d.cached page) (eqb (class_of d.cached page) class && not (is_full class (bitmap_of d.cached page))) has in
        let rest = not-true (is_full class (bitmap_of d.cached page)) (and_parts (eqb (class_of d.cached page) class) (not (is_full class (bitmap_of d.cached page))) parts.1).1 in
        both_ways (is_full class (bitmap_of d.cached page)) rest ((full_set class (bitmap_of d.cached page)).1 set)

    pub slot_may : get_or d.cached dest 0 ≡ 0 → page < page_count d.cached → has_room d.cached class page ≡ true → (slot : ℕ) → slot < slots_of class → bit_at (bitmap_of d.cached page) slot ≡ 0
        → MayTakeSlot d.cached (record { lane = lane; owner = dest; page = page; class = class; slot = slot })
    slot_may empty lt has slot within clear = record { idle = idle_is; unowned = empty; page_is = roomy_small lt has; slot_is = within; clear = clear }

  -- ── a free page, and a run of them ──

  module _ (page : ℕ) (is : IsFree index.free.runs page) where
    pub free_in_image : page < page_count d.cached
    free_in_image = ((may.index_of.runs page).0 is).0

    pub free_is : is_free_page d.cached page ≡ true
    free_is = ((may.index_of.runs page).0 is).1

    pub free_heap : IsHeapPage d.cached page
    free_heap = free_heap_page d.cached may.rules page free_in_image free_is

    free_outside : is_inside d.cached page ≡ false
    free_outside = not-true (is_inside d.cached page) (and_parts (not (is_inside d.cached page)) (leb (descriptor_of d.cached page) 1) free_is).0

    free_low : descriptor_of d.cached page ≤ 1
    free_low = leb-true (descriptor_of d.cached page) 1 (and_parts (not (is_inside d.cached page)) (leb (descriptor_of d.cached page) 1) free_is).1

    pub new_slot_may : get_or d.cached dest 0 ≡ 0 → (class slot : ℕ) → class < 6 → slot < slots_of class → MayTakeNewSlot d.cached (record { lane = lane; owner = dest; page = page; class = class; slot = slot })
    new_slot_may empty class slot class_is within = record {
      idle = idle_is;
      unowned = empty;
      page_is = free_heap;
      class_is = class_is;
      is_free = free_is;
      owner_elsewhere = λ e. both_ways (is_free_page d.cached (page_of dest)) place.not_free (ap (is_free_page d.cached) e ∙ free_is);
      slot_is = within;
    }

  pub run_may : get_or d.cached dest 0 ≡ 0 → (run : Run) (pages : ℕ) → run.pages ≡ pages → 0 < pages → ((page : ℕ) → HasPage run page → IsFree index.free.runs page) → run.first % 64 + run.pages ≤ 64 → end_of run ≤ index.free.page_count
      → MayTakeRun d.cached (record { lane = lane; owner = dest; first = run.first; pages = pages })
  run_may empty run pages size some free in_segment within =
      let first_free : IsFree index.free.runs run.first = free run.first (omega arith, omega (arith, size, some)) in
      record {
        idle = idle_is;
        unowned = empty;
        run = record {
          page_is = free_heap run.first first_free;
          in_image = omega (arith, within, size, may.index_of.pages);
          in_segment = omega (arith, in_segment, size);
          some = some;
          not_inside = free_outside run.first first_free;
        };
        are_free = λ k lt. free_low (run.first + k) (free (run.first + k) (omega arith, omega (arith, lt, size)));
      }

  -- ── where no run is long enough ──

  pub longest_of : (largest : ℕ) → IsGreatest index.free.runs largest → largest ≡ longest_free_run d.cached
  longest_of largest greatest = longest_is d.cached index may.index_of pages_whole.0 largest greatest
