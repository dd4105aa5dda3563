-- The index of a heap after one page changed.
use Rattle.std.proofs.Common.{◌≡◌, ◌≢◌, inl, inr, ⊎_elim, ℕ, ◌+◌, ◌/◌, ◌<◌, ◌≤◌, Bool, true, false, not, ◌&&◌, eqb, leb, List, length, sym, ◌∙◌, ap, subst, arith}
use Rattle.std.specs.Prelude.{◌↔◌}
use Rattle.std.proofs.lemmas.Bool.{cases_Bool, cases_eq, both_ways, eq-eqb, ne_eqb, and_left, and_right, lt-leb}
use Rattle.image_layout.specs.Places.{page_count}
use Rattle.image_layout.specs.Blocks.{says_small, descriptor_of, class_of, bitmap_of, is_inside, is_free_page, is_small_page}
use Rattle.heap_big.proofs.Heads.{has_or_not}
use Rattle.heap_big.specs.declared.run.Run.{Run}
use Rattle.heap_big.specs.Runs.{FreeRuns, HasPage, IsFree, IsWellFormed, Adds, Removes}
use Rattle.heap_big.specs.Pages.{IsRising}
use Rattle.heap_palloc.specs.Shown.{GainsOne}
use Rattle.heap_palloc.specs.Law.{IsSmallPage}
use Rattle.heap_palloc.specs.Index.{HeapIndex, rooms_of, is_full, has_room, pages_with_room, IsIndexOf}
use Rattle.heap_palloc.proofs.LiveBlocks.{is_inside-same, is_small_page-same, OnePage}
use Rattle.heap_palloc.proofs.Rooms.{free-same, room-same, rooms_kept, rooms_gained, rooms_lost}

-- ── free runs ──

-- the runs are those of the words
pub record AreRunsOf (words : List ℕ) (free : FreeRuns) : Type 0 where
  pub well_formed : IsWellFormed free
  pub pages : free.page_count ≡ page_count words
  pub each : (page : ℕ) → IsFree free.runs page ↔ ((page < page_count words) × (is_free_page words page ≡ true))

pub runs_of : (words : List ℕ) (index : HeapIndex) → IsIndexOf words index → AreRunsOf words index.free
runs_of words index is = record { well_formed = is.well_formed; pages = is.pages; each = is.runs }

module _ (old new : List ℕ) (size : length new ≡ length old) (free : FreeRuns) (are : AreRunsOf old free) where
  counted : (n : ℕ) → n ≡ page_count old → n ≡ page_count new
  counted n e = e ∙ ap (λ (k : ℕ). k / 512) (sym size)

  within : (page : ℕ) → page < page_count old → page < page_count new
  within page lt = subst (λ (n : ℕ). page < n / 512) (sym size) lt

  within_back : (page : ℕ) → page < page_count new → page < page_count old
  within_back page lt = subst (λ (n : ℕ). page < n / 512) size lt

  -- no page changes
  pub runs_kept : ((page : ℕ) → is_free_page new page ≡ is_free_page old page) → AreRunsOf new free
  runs_kept same = record {
    well_formed = are.well_formed;
    pages = counted free.page_count are.pages;
    each = λ page. (
      λ is. let was = (are.each page).0 is in (within page was.0, same page ∙ was.1),
      λ now. (are.each page).1 (within_back page now.0, sym (same page) ∙ now.1),
    );
  }

  module _ (run : Run) (after : FreeRuns) (well_formed : IsWellFormed after) (count : after.page_count ≡ free.page_count)
      (elsewhere : (page : ℕ) → (HasPage run page → ⊥) → is_free_page new page ≡ is_free_page old page) where
    -- the pages of a run are no longer free
    pub runs_taken : Removes free.runs run after.runs → ((page : ℕ) → HasPage run page → is_free_page new page ≡ false) → AreRunsOf new after
    runs_taken removes taken = record {
      well_formed = well_formed;
      pages = counted after.page_count (count ∙ are.pages);
      each = λ page. (
        λ is. let both = (removes page).0 is in let was = (are.each page).0 both.0 in (within page was.0, elsewhere page both.1 ∙ was.1),
        λ now. ⊎_elim (λ has. absurd (both_ways (is_free_page new page) (taken page has) now.1))
            (λ none. (removes page).1 ((are.each page).1 (within_back page now.0, sym (elsewhere page none) ∙ now.1), none))
            (has_or_not run page),
      );
    }

    -- the pages of a run are free from now on
    pub runs_added : Adds free.runs run after.runs → ((page : ℕ) → HasPage run page → (page < page_count old) × (is_free_page new page ≡ true)) → AreRunsOf new after
    runs_added adds given = record {
      well_formed = well_formed;
      pages = counted after.page_count (count ∙ are.pages);
      each = λ page. (
        λ is. ⊎_elim
            (λ has. let g = given page has in (within page g.0, g.1))
            (λ none. ⊎_elim (λ was_in. let was = (are.each page).0 was_in in (within page was.0, elsewhere page none ∙ was.1)) (λ has. absurd (none has)) ((adds page).0 is))
            (has_or_not run page),
        λ now. ⊎_elim
            (λ has. (adds page).1 (inr has))
            (λ none. (adds page).1 (inl ((are.each page).1 (within_back page now.0, sym (elsewhere page none) ∙ now.1))))
            (has_or_not run page),
      );
    }

-- ── pages with room ──

-- from old words to new ones only this page may gain or lose its room, and only in this class
pub record OneRoom (old new : List ℕ) (page class : ℕ) : Type 0 where
  pub size : length new ≡ length old
  pub in_image : page < page_count old
  pub elsewhere : (c other : ℕ) → other ≢ page → has_room new c other ≡ has_room old c other
  pub other_classes : (c : ℕ) → c ≢ class → has_room new c page ≡ has_room old c page

-- a page has room in its class alone
no_other_room : (words : List ℕ) (page class c : ℕ) → (is_small_page words page ≡ true → class_of words page ≡ class) → c ≢ class → has_room words c page ≡ false
no_other_room words page class c is apart = ⊎_elim
    (λ hit. and_right (is_small_page words page) _ (and_left (eqb (class_of words page) c) (not (is_full c (bitmap_of words page))) (ne_eqb (class_of words page) c (λ e. apart (sym e ∙ is hit)))))
    (λ miss. and_left (is_small_page words page) (eqb (class_of words page) c && not (is_full c (bitmap_of words page))) miss)
    (cases_Bool (is_small_page words page))

pub one_room : (old new : List ℕ) (page class : ℕ) → OnePage old new page → (is_small_page old page ≡ true → class_of old page ≡ class) → (is_small_page new page ≡ true → class_of new page ≡ class) → OneRoom old new page class
one_room old new page class one was is = record {
  size = one.size;
  in_image = one.in_image;
  elsewhere = λ c other apart. room-same old new other c (is_small_page-same old new one.inside other (one.others other apart).descriptor) (one.others other apart).descriptor (one.others other apart).bitmap;
  other_classes = λ c apart. no_other_room new page class c is apart ∙ sym (no_other_room old page class c was apart);
}

-- the room of a small page, and of one that is none
pub small_room : (words : List ℕ) (page class : ℕ) → IsSmallPage words page class → has_room words class page ≡ not (is_full class (bitmap_of words page))
small_room words page class small =
    ap (λ (b : Bool). b && (eqb (class_of words page) class && not (is_full class (bitmap_of words page)))) small.small
    ∙ ap (λ (b : Bool). b && not (is_full class (bitmap_of words page))) (eq-eqb (class_of words page) class (class_is words page class small.descriptor))
  where
    class_is : (words : List ℕ) (page class : ℕ) → descriptor_of words page ≡ 2 + class → class_of words page ≡ class
    class_is words page class e = omega (arith, e)

pub low_small : (words : List ℕ) (page : ℕ) → descriptor_of words page ≤ 1 → is_small_page words page ≡ false
low_small words page le = and_right (not (is_inside words page)) (says_small (descriptor_of words page)) (and_left (leb 2 (descriptor_of words page)) (leb (descriptor_of words page) 7) (lt-leb 2 (descriptor_of words page) (omega (arith, le))))

pub low_room : (words : List ℕ) (page class : ℕ) → descriptor_of words page ≤ 1 → has_room words class page ≡ false
low_room words page class le = and_left (is_small_page words page) (eqb (class_of words page) class && not (is_full class (bitmap_of words page))) (low_small words page le)

module _ (old new : List ℕ) (page class : ℕ) (one : OneRoom old new page class) (index after : HeapIndex) (is : IsIndexOf old index) where
  -- the lists of rooms are those of the new words
  abbrev AreRooms : Type 0
  AreRooms = (c : ℕ) → c < 6 → rooms_of after c ≡ pages_with_room new c

  by_class : rooms_of after class ≡ pages_with_room new class → ((c : ℕ) → c ≢ class → rooms_of after c ≡ rooms_of index c) → (c : ℕ) → c < 6 → rooms_of after c ≡ pages_with_room new c
  by_class here others c lt = ⊎_elim
      (λ (same : c ≡ class). subst (λ (k : ℕ). rooms_of after k ≡ pages_with_room new k) (sym same) here)
      (λ apart. others c apart ∙ is.rooms c lt ∙ rooms_kept old new c one.size (λ p. ⊎_elim
      (λ (e : p ≡ page). ap (has_room new c) e ∙ one.other_classes c apart ∙ ap (has_room old c) (sym e)) (λ ne. one.elsewhere c p ne) (cases_eq p page)))
      (cases_eq c class)

  pub index_rooms_kept : class < 6 → has_room new class page ≡ has_room old class page → ((c : ℕ) → rooms_of after c ≡ rooms_of index c) → (c : ℕ) → c < 6 → rooms_of after c ≡ pages_with_room new c
  index_rooms_kept lt same kept = by_class
      (kept class ∙ is.rooms class lt ∙ rooms_kept old new class one.size (λ p. ⊎_elim (λ (e : p ≡ page). ap (has_room new class) e ∙ same ∙ ap (has_room old class) (sym e)) (λ ne. one.elsewhere class p ne) (cases_eq p page)))
      (λ c apart. kept c)

  pub index_rooms_gained : class < 6 → page_count old ≤ 8192 → has_room old class page ≡ false → has_room new class page ≡ true → GainsOne (rooms_of index class) page (rooms_of after class) → IsRising 0 (rooms_of after class) 8192
      → ((c : ℕ) → c ≢ class → rooms_of after c ≡ rooms_of index c) → (c : ℕ) → c < 6 → rooms_of after c ≡ pages_with_room new c
  index_rooms_gained lt most miss hit gains rising others = by_class
      (rooms_gained old new class page one.size one.in_image (λ other ne. one.elsewhere class other ne) (rooms_of index class) (rooms_of after class) (is.rooms class lt) most miss hit gains rising) others

  pub index_rooms_lost : class < 6 → has_room old class page ≡ true → has_room new class page ≡ false → GainsOne (rooms_of after class) page (rooms_of index class)
      → ((c : ℕ) → c ≢ class → rooms_of after c ≡ rooms_of index c) → (c : ℕ) → c < 6 → rooms_of after c ≡ pages_with_room new c
  index_rooms_lost lt hit miss loses others = by_class
      (rooms_lost old new class page one.size one.in_image (λ other ne. one.elsewhere class other ne) (rooms_of index class) (rooms_of after class) (is.rooms class lt) hit miss loses) others

-- the index from its two halves
pub index_from : (words : List ℕ) (index : HeapIndex) → AreRunsOf words index.free → ((c : ℕ) → c < 6 → rooms_of index c ≡ pages_with_room words c) → IsIndexOf words index
index_from words index runs rooms = record { well_formed = runs.well_formed; pages = runs.pages; runs = runs.each; rooms = rooms }

-- ── free pages where one page changed ──

pub one_free : (old new : List ℕ) (page : ℕ) → OnePage old new page → (other : ℕ) → other ≢ page → is_free_page new other ≡ is_free_page old other
one_free old new page one other apart = free-same old new other (is_inside-same old new one.inside other) (one.others other apart).descriptor

pub one_free_all : (old new : List ℕ) (page : ℕ) → OnePage old new page → descriptor_of new page ≡ descriptor_of old page → (other : ℕ) → is_free_page new other ≡ is_free_page old other
one_free_all old new page one same other = ⊎_elim
    (λ (is : other ≡ page). ap (is_free_page new) is ∙ free-same old new page (is_inside-same old new one.inside page) same ∙ ap (is_free_page old) (sym is))
    (λ apart. one_free old new page one other apart)
    (cases_eq other page)
