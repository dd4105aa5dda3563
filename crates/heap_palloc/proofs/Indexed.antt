-- The index of a heap after each plan: what is to be done to it, and that it then stands for the words.
use Rattle.std.proofs.Common.{◌≡◌, ◌≢◌, ◌⊎◌, inl, inr, ⊎_elim, ℕ, ◌+◌, ◌/◌, ◌<◌, ◌≤◌, true, false, not, leb, List, length, set, sym, ◌∙◌, ap, subst, arith}
use Rattle.std.specs.Int.{bit_at}
use Rattle.std.proofs.lemmas.Bool.{cases_lt, both_ways, false_from_ne_true, not_from_true, not_from_false, and_right, and_from, and_parts, le-leb, lt-leb, not-true}
use Rattle.image_layout.specs.Fixed.{descriptor_at}
use Rattle.image_layout.specs.Places.{page_count}
use Rattle.pm_model.specs.Plans.{finished}
use Rattle.image_layout.specs.Blocks.{slots_of, descriptor_of, class_of, bitmap_of, is_inside, is_free_page, is_small_page}
use Rattle.heap_small.specs.Bitmap.{with_bit}
use Rattle.heap_small.proofs.Bitmaps.{without_bit-same}
use Rattle.heap_big.specs.declared.run.Run.{Run}
use Rattle.heap_big.specs.Runs.{HasPage, IsWellFormed, Adds, Removes}
use Rattle.heap_palloc.specs.Parts.{allocation_parts, new_page_allocation_parts, big_allocation_parts, freeing_parts, small_freeing_parts}
use Rattle.heap_big.specs.Pages.{IsRising}
use Rattle.heap_palloc.specs.Shown.{GainsOne}
use Rattle.heap_palloc.specs.Law.{IsSmallPage, Slot, slot_allocation, taking, taken, Pages, pages_allocation, MayTakeSlot, MayTakeNewSlot, MayFreeSlot, MayTakeRun, MayFreePages}
use Rattle.heap_palloc.specs.Index.{HeapIndex, rooms_of, is_full, has_room, IsIndexOf}
use Rattle.heap_palloc.proofs.LiveBlocks.{is_inside-same, is_small_page-same, OnePage}
use Rattle.heap_palloc.proofs.BigBlocks.{run_was_free, run_is_taken, elsewhere_free, heads_room}
use Rattle.heap_palloc.proofs.BigPlans.{take_heads, freed_heads}
use Rattle.heap_palloc.proofs.GivenBack.{cleaned, cleaned_forgets, cleaned_may, forgets_free, forgets_room, take_run_words}
use Rattle.heap_palloc.proofs.SlotPlans.{take_one, take_bitmap, take_descriptor, slot_clear, free_words, free_one, free_bitmap, free_small, free_descriptor}
use Rattle.heap_palloc.proofs.PagePlans.{new_page_words, new_slot_words, new_slot_one, new_slot_descriptor, new_slot_bitmap, was_low, page_freed_words, page_kept_words, page_freed_one, page_freed_descriptor}
use Rattle.heap_palloc.proofs.Rooms.{full_set, rooms_kept}
use Rattle.heap_palloc.proofs.Reindex.{AreRunsOf, runs_of, runs_kept, runs_taken, runs_added, OneRoom, one_room, small_room, low_small, low_room, index_rooms_kept, index_rooms_gained, index_rooms_lost, index_from, one_free, one_free_all}

-- what is done to the lists of pages with room
pub record KeepsRooms (old new : HeapIndex) : Type 0 where
  pub each : (c : ℕ) → rooms_of new c ≡ rooms_of old c

pub record GainsRoom (old new : HeapIndex) (class page : ℕ) : Type 0 where
  pub gains : GainsOne (rooms_of old class) page (rooms_of new class)
  pub rising : IsRising 0 (rooms_of new class) 8192
  pub others : (c : ℕ) → c ≢ class → rooms_of new c ≡ rooms_of old c

pub record LosesRoom (old new : HeapIndex) (class page : ℕ) : Type 0 where
  pub loses : GainsOne (rooms_of new class) page (rooms_of old class)
  pub others : (c : ℕ) → c ≢ class → rooms_of new c ≡ rooms_of old c

-- and to the runs
pub record KeepsRuns (old new : HeapIndex) : Type 0 where
  pub same : new.free ≡ old.free

pub record TakesRun (old new : HeapIndex) (run : Run) : Type 0 where
  pub removes : Removes old.free.runs run new.free.runs
  pub well_formed : IsWellFormed new.free
  pub count : new.free.page_count ≡ old.free.page_count

pub record AddsRun (old new : HeapIndex) (run : Run) : Type 0 where
  pub adds : Adds old.free.runs run new.free.runs
  pub well_formed : IsWellFormed new.free
  pub count : new.free.page_count ≡ old.free.page_count

-- a slot that is clear leaves its page room
not_full : (class bitmap slot : ℕ) → slot < slots_of class → bit_at bitmap slot ≡ 0 → is_full class bitmap ≡ false
not_full class bitmap slot lt clear = false_from_ne_true (is_full class bitmap) (λ full. omega (arith, clear, (full_set class bitmap).0 full slot lt))

small_class_is : (words : List ℕ) (page class : ℕ) → IsSmallPage words page class → class_of words page ≡ class
small_class_is words page class small = omega (arith, small.descriptor)

module _ (old new : List ℕ) (size : length new ≡ length old) (index after : HeapIndex) (is : IsIndexOf old index) where
  kept_runs : KeepsRuns index after → ((page : ℕ) → is_free_page new page ≡ is_free_page old page) → AreRunsOf new after.free
  kept_runs keeps same = subst (AreRunsOf new) (sym keeps.same) (runs_kept old new size index.free (runs_of old index is) same)

  taken_runs : (run : Run) → TakesRun index after run → ((page : ℕ) → HasPage run page → is_free_page new page ≡ false) → ((page : ℕ) → (HasPage run page → ⊥) → is_free_page new page ≡ is_free_page old page) → AreRunsOf new after.free
  taken_runs run takes hit miss = runs_taken old new size index.free (runs_of old index is) run after.free takes.well_formed takes.count miss takes.removes hit

  added_runs : (run : Run) → AddsRun index after run → ((page : ℕ) → HasPage run page → (page < page_count old) × (is_free_page new page ≡ true)) → ((page : ℕ) → (HasPage run page → ⊥) → is_free_page new page ≡ is_free_page old page) → AreRunsOf new after.free
  added_runs run adds hit miss = runs_added old new size index.free (runs_of old index is) run after.free adds.well_formed adds.count miss adds.adds hit

-- a run of one page
one_has : (first page : ℕ) → HasPage (record { first = first; pages = 1 }) page → page ≡ first
one_has first page has = omega (arith, has.0, has.1)

has_one : (first page : ℕ) → page ≡ first → HasPage (record { first = first; pages = 1 }) page
has_one first page e = (omega (arith, e), omega (arith, e))

-- ── a slot of a small page is allocated ──

module _ (base : List ℕ) (s : Slot) (may : MayTakeSlot base s) (index after : HeapIndex) (is : IsIndexOf base index) (keeps : KeepsRuns index after) where
  abbrev taken_words : List ℕ
  taken_words = finished (allocation_parts (taking base s)) base

  one : OnePage base taken_words s.page
  one = take_one base s may

  small : IsSmallPage taken_words s.page s.class
  small = record {
    page_is = record { in_image = subst (λ (n : ℕ). s.page < n / 512) (sym one.size) may.page_is.page_is.in_image; behind_header = may.page_is.page_is.behind_header; behind_fixed = may.page_is.page_is.behind_fixed };
    class_is = may.page_is.class_is;
    small = is_small_page-same base taken_words one.inside s.page (take_descriptor base s may) ∙ may.page_is.small;
    descriptor = take_descriptor base s may ∙ may.page_is.descriptor;
  }

  room : OneRoom base taken_words s.page s.class
  room = one_room base taken_words s.page s.class one (λ hit. small_class_is base s.page s.class may.page_is) (λ hit. small_class_is taken_words s.page s.class small)

  had : has_room base s.class s.page ≡ true
  had = small_room base s.page s.class may.page_is ∙ not_from_false (is_full s.class (bitmap_of base s.page)) (not_full s.class (bitmap_of base s.page) s.slot may.slot_is may.clear)

  has : has_room taken_words s.class s.page ≡ not (is_full s.class (with_bit (bitmap_of base s.page) s.slot))
  has = small_room taken_words s.page s.class small ∙ ap (λ (b : ℕ). not (is_full s.class b)) (take_bitmap base s may)

  runs : AreRunsOf taken_words after.free
  runs = kept_runs base taken_words one.size index after is keeps (one_free_all base taken_words s.page one (take_descriptor base s may))

  pub take_slot_keeps : is_full s.class (with_bit (bitmap_of base s.page) s.slot) ≡ false → KeepsRooms index after → IsIndexOf (finished (allocation_parts (taking base s)) base) after
  take_slot_keeps rest keeps = index_from taken_words after runs
      (index_rooms_kept base taken_words s.page s.class room index after is may.page_is.class_is (has ∙ not_from_false (is_full s.class (with_bit (bitmap_of base s.page) s.slot)) rest ∙ sym had) keeps.each)

  pub take_slot_fills : is_full s.class (with_bit (bitmap_of base s.page) s.slot) ≡ true → LosesRoom index after s.class s.page → IsIndexOf (finished (allocation_parts (taking base s)) base) after
  take_slot_fills full loses = index_from taken_words after runs
      (index_rooms_lost base taken_words s.page s.class room index after is may.page_is.class_is had (has ∙ not_from_true (is_full s.class (with_bit (bitmap_of base s.page) s.slot)) full) loses.loses loses.others)

-- ── a slot of a page that is made small first ──

module _ (base : List ℕ) (s : Slot) (may : MayTakeNewSlot base s) (index after : HeapIndex) (is : IsIndexOf base index) (takes : TakesRun index after (record { first = s.page; pages = 1 })) where
  abbrev made : List ℕ
  made = finished (allocation_parts (taking (new_page_words base s may) s)) (new_page_words base s may)

  new_one : OnePage base made s.page
  new_one = new_slot_one base s may

  new_inside : is_inside made s.page ≡ false
  new_inside = is_inside-same base made new_one.inside s.page ∙ not-true (is_inside base s.page) (and_parts (not (is_inside base s.page)) _ may.is_free).0

  new_small : IsSmallPage made s.page s.class
  new_small = record {
    page_is = record { in_image = subst (λ (n : ℕ). s.page < n / 512) (sym new_one.size) may.page_is.in_image; behind_header = may.page_is.behind_header; behind_fixed = may.page_is.behind_fixed };
    class_is = may.class_is;
    small = and_from (not (is_inside made s.page)) _ (not_from_false (is_inside made s.page) new_inside)
        (and_from (leb 2 (descriptor_of made s.page)) (leb (descriptor_of made s.page) 7) (le-leb 2 (descriptor_of made s.page) (omega (arith, new_slot_descriptor base s may)))
        (le-leb (descriptor_of made s.page) 7 (omega (arith, new_slot_descriptor base s may, may.class_is))));
    descriptor = new_slot_descriptor base s may;
  }

  new_room : OneRoom base made s.page s.class
  new_room = one_room base made s.page s.class new_one (λ hit. absurd (both_ways (is_small_page base s.page) (low_small base s.page (was_low base s may)) hit)) (λ hit. small_class_is made s.page s.class new_small)

  new_has : has_room made s.class s.page ≡ not (is_full s.class (with_bit 0 s.slot))
  new_has = small_room made s.page s.class new_small ∙ ap (λ (b : ℕ). not (is_full s.class b)) (new_slot_bitmap base s may)

  new_runs : AreRunsOf made after.free
  new_runs = taken_runs base made new_one.size index after is (record { first = s.page; pages = 1 }) takes
      (λ page h. ap (is_free_page made) (one_has s.page page h) ∙ and_right (not (is_inside made s.page)) (leb (descriptor_of made s.page) 1) (lt-leb (descriptor_of made s.page) 1 (omega (arith, new_slot_descriptor base s may))))
      (λ page none. one_free base made s.page new_one page (λ e. none (has_one s.page page e)))

  pub new_slot_fills : is_full s.class (with_bit 0 s.slot) ≡ true → KeepsRooms index after → IsIndexOf (finished (new_page_allocation_parts s.page s.class (slot_allocation s (with_bit 0 s.slot))) base) after
  new_slot_fills full keeps = subst (λ (words : List ℕ). IsIndexOf words after) (sym (new_slot_words base s may)) (index_from made after new_runs
      (index_rooms_kept base made s.page s.class new_room index after is may.class_is (new_has ∙ not_from_true (is_full s.class (with_bit 0 s.slot)) full ∙ sym (low_room base s.page s.class (was_low base s may))) keeps.each))

  pub new_slot_leaves : is_full s.class (with_bit 0 s.slot) ≡ false → page_count base ≤ 8192 → GainsRoom index after s.class s.page → IsIndexOf (finished (new_page_allocation_parts s.page s.class (slot_allocation s (with_bit 0 s.slot))) base) after
  new_slot_leaves rest most gains = subst (λ (words : List ℕ). IsIndexOf words after) (sym (new_slot_words base s may)) (index_from made after new_runs
      (index_rooms_gained base made s.page s.class new_room index after is may.class_is most (low_room base s.page s.class (was_low base s may)) (new_has ∙ not_from_false (is_full s.class (with_bit 0 s.slot)) rest) gains.gains gains.rising gains.others))

-- ── a slot is freed ──

module _ (base : List ℕ) (s : Slot) (may : MayFreeSlot base s) (index after : HeapIndex) (is : IsIndexOf base index) where
  abbrev freed : List ℕ
  freed = free_words base s may

  free_page_one : OnePage base freed s.page
  free_page_one = free_one base s may

  freed_room : OneRoom base freed s.page s.class
  freed_room = one_room base freed s.page s.class free_page_one (λ hit. small_class_is base s.page s.class may.page_is) (λ hit. small_class_is freed s.page s.class (free_small base s may))

  freed_has : has_room freed s.class s.page ≡ true
  freed_has = small_room freed s.page s.class (free_small base s may) ∙ ap (λ (b : ℕ). not (is_full s.class b)) (free_bitmap base s may)
      ∙ not_from_false (is_full s.class (slot_clear base s may)) (not_full s.class (slot_clear base s may) s.slot may.slot_is (without_bit-same (bitmap_of base s.page) s.slot))

  freed_had : has_room base s.class s.page ≡ not (is_full s.class (bitmap_of base s.page))
  freed_had = small_room base s.page s.class may.page_is

  freed_runs : KeepsRuns index after → AreRunsOf freed after.free
  freed_runs keeps = kept_runs base freed free_page_one.size index after is keeps (one_free_all base freed s.page free_page_one (free_descriptor base s may))

  pub free_slot_keeps : slot_clear base s may ≢ 0 → is_full s.class (bitmap_of base s.page) ≡ false → KeepsRuns index after → KeepsRooms index after
      → IsIndexOf (finished (small_freeing_parts s.page (taken base s) (slot_clear base s may)) base) after
  free_slot_keeps some rest runs keeps = subst (λ (words : List ℕ). IsIndexOf words after) (sym (page_kept_words base s may some)) (index_from freed after (freed_runs runs)
      (index_rooms_kept base freed s.page s.class freed_room index after is may.page_is.class_is (freed_has ∙ sym (freed_had ∙ not_from_false (is_full s.class (bitmap_of base s.page)) rest)) keeps.each))

  pub free_slot_gains : slot_clear base s may ≢ 0 → is_full s.class (bitmap_of base s.page) ≡ true → page_count base ≤ 8192 → KeepsRuns index after → GainsRoom index after s.class s.page
      → IsIndexOf (finished (small_freeing_parts s.page (taken base s) (slot_clear base s may)) base) after
  free_slot_gains some full most runs gains = subst (λ (words : List ℕ). IsIndexOf words after) (sym (page_kept_words base s may some)) (index_from freed after (freed_runs runs)
      (index_rooms_gained base freed s.page s.class freed_room index after is may.page_is.class_is most (freed_had ∙ not_from_true (is_full s.class (bitmap_of base s.page)) full) freed_has gains.gains gains.rising gains.others))

  -- and its page with it
  abbrev given : List ℕ
  given = set freed (descriptor_at s.page) 0

  given_one : OnePage base given s.page
  given_one = page_freed_one base s may

  given_low : descriptor_of given s.page ≤ 1
  given_low = omega (arith, page_freed_descriptor base s may)

  given_room : OneRoom base given s.page s.class
  given_room = one_room base given s.page s.class given_one (λ hit. small_class_is base s.page s.class may.page_is) (λ hit. absurd (both_ways (is_small_page given s.page) (low_small given s.page given_low) hit))

  given_inside : is_inside given s.page ≡ false
  given_inside = is_inside-same base given given_one.inside s.page ∙ not-true (is_inside base s.page) (and_parts (not (is_inside base s.page)) _ may.page_is.small).0

  given_runs : AddsRun index after (record { first = s.page; pages = 1 }) → AreRunsOf given after.free
  given_runs adds = added_runs base given given_one.size index after is (record { first = s.page; pages = 1 }) adds
      (λ page h. let same = one_has s.page page h in (
        subst (λ (p : ℕ). p < page_count base) (sym same) given_one.in_image,
        ap (is_free_page given) same ∙ and_from (not (is_inside given s.page)) (leb (descriptor_of given s.page) 1) (not_from_false (is_inside given s.page) given_inside) (le-leb (descriptor_of given s.page) 1 given_low),
      ))
      (λ page none. one_free base given s.page given_one page (λ e. none (has_one s.page page e)))

  pub free_page_keeps : slot_clear base s may ≡ 0 → is_full s.class (bitmap_of base s.page) ≡ true → AddsRun index after (record { first = s.page; pages = 1 }) → KeepsRooms index after
      → IsIndexOf (finished (small_freeing_parts s.page (taken base s) (slot_clear base s may)) base) after
  free_page_keeps zero full adds keeps = subst (λ (words : List ℕ). IsIndexOf words after) (sym (page_freed_words base s may zero)) (index_from given after (given_runs adds)
      (index_rooms_kept base given s.page s.class given_room index after is may.page_is.class_is (low_room given s.page s.class given_low ∙ sym (freed_had ∙ not_from_true (is_full s.class (bitmap_of base s.page)) full)) keeps.each))

  pub free_page_loses : slot_clear base s may ≡ 0 → is_full s.class (bitmap_of base s.page) ≡ false → AddsRun index after (record { first = s.page; pages = 1 }) → LosesRoom index after s.class s.page
      → IsIndexOf (finished (small_freeing_parts s.page (taken base s) (slot_clear base s may)) base) after
  free_page_loses zero rest adds loses = subst (λ (words : List ℕ). IsIndexOf words after) (sym (page_freed_words base s may zero)) (index_from given after (given_runs adds)
      (index_rooms_lost base given s.page s.class given_room index after is may.page_is.class_is (freed_had ∙ not_from_false (is_full s.class (bitmap_of base s.page)) rest) (low_room given s.page s.class given_low) loses.loses loses.others))

-- ── pages ──

outside_run : (first pages page : ℕ) → (HasPage (record { first = first; pages = pages }) page → ⊥) → (page < first) ⊎ (first + pages ≤ page)
outside_run first pages page none = ⊎_elim (λ below. inl below) (λ from. ⊎_elim (λ to. absurd (none (from, to))) (λ behind. inr behind) (cases_lt page (first + pages))) (cases_lt page first)

module _ (base : List ℕ) (r : Pages) (may : MayTakeRun base r) (index after : HeapIndex) (is : IsIndexOf base index) (takes : TakesRun index after (record { first = r.first; pages = r.pages })) (keeps : KeepsRooms index after) where
  abbrev clean : List ℕ
  clean = cleaned base r may

  abbrev big : List ℕ
  big = finished (allocation_parts (pages_allocation r)) clean

  pub take_run_index : IsIndexOf (finished (big_allocation_parts base r.pages (pages_allocation r)) base) after
  take_run_index =
      let forgets = cleaned_forgets base r may in
      let heads = take_heads clean r (cleaned_may base r may) in
      let size : length big ≡ length base = heads.size ∙ forgets.size in
      subst (λ (words : List ℕ). IsIndexOf words after) (sym (take_run_words base r may)) (index_from big after
      (taken_runs base big size index after is (record { first = r.first; pages = r.pages }) takes
      (λ page has. run_is_taken clean big r.first r.pages heads page has.0 has.1)
      (λ page none. elsewhere_free clean big r.first r.pages heads page (outside_run r.first r.pages page none) ∙ forgets_free base clean forgets page))
      (λ class lt. keeps.each class ∙ is.rooms class lt ∙ rooms_kept base big class size (λ page. heads_room clean big r.first r.pages heads class page ∙ forgets_room base clean forgets class page)))

module _ (base : List ℕ) (r : Pages) (may : MayFreePages base r) (index after : HeapIndex) (is : IsIndexOf base index) (adds : AddsRun index after (record { first = r.first; pages = r.pages })) (keeps : KeepsRooms index after) where
  abbrev gone : List ℕ
  gone = finished (freeing_parts (pages_allocation r) 0) base

  pub free_pages_index : IsIndexOf (finished (freeing_parts (pages_allocation r) 0) base) after
  free_pages_index =
      let heads = freed_heads base r may in
      index_from gone after
      (added_runs base gone (sym heads.size) index after is (record { first = r.first; pages = r.pages }) adds
      (λ page has. (omega (arith, has.1, may.run.in_image), run_was_free gone base r.first r.pages heads page has.0 has.1))
      (λ page none. sym (elsewhere_free gone base r.first r.pages heads page (outside_run r.first r.pages page none))))
      (λ class lt. keeps.each class ∙ is.rooms class lt ∙ rooms_kept base gone class (sym heads.size) (λ page. sym (heads_room gone base r.first r.pages heads class page)))
