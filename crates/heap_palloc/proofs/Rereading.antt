-- What an allocation and a freeing read: where it is the same, they may be made as before, by the same parts.
use Rattle.std.proofs.Common.{◌≡◌, ℕ, zero, suc, ◌+◌, ◌-◌, ◌/◌, ◌<◌, ◌≤◌, cond, eqb, List, ◌∷◌, ◌++◌, length, map, get_or, refl, sym, ◌∙◌, ap, subst, arith}
use Rattle.std.specs.List.{range_with_len, filter}
use Rattle.pm_model.specs.Plans.{Part, store, unless_empty}
use Rattle.image_layout.specs.Fixed.{descriptor_at}
use Rattle.image_layout.specs.Places.{page_of, page_at}
use Rattle.image_layout.specs.Blocks.{descriptor_of, is_small_page}
use Rattle.heap_small.specs.Bitmap.{with_bit, without_bit}
use Rattle.heap_palloc.specs.Parts.{allocation_parts, forget_given_back, big_allocation_parts, small_freeing_parts}
use Rattle.heap_palloc.specs.Law.{IsOwnerPlace, IsHeapPage, IsPageRun, IsIdle, slot_allocation, Pages, pages_allocation, MayTakeRun, MayFreePages}
use Rattle.heap_palloc.specs.Choice.{Choice, in_page, on_new_page, in_run, choice_parts, MayMake, Freed, of_slot, of_pages, freed_parts, MayRelease}
use Rattle.heap_palloc.specs.Changes.{SameRunRead, SameChoiceRead, SameFreedRead}
use Rattle.heap_palloc.proofs.Survival.{take_slot-read, new_slot-read, free_slot-read}

pub owner_same : (old new : List ℕ) (w : ℕ) → length new ≡ length old → is_small_page new (page_of w) ≡ is_small_page old (page_of w) → IsOwnerPlace old w → IsOwnerPlace new w
owner_same old new w size small place = record {
  in_image = omega (arith, size, place.in_image);
  outside_lanes = place.outside_lanes;
  no_descriptor = place.no_descriptor;
  no_bitmap = λ hit. place.no_bitmap (sym small ∙ hit);
}

pub heap_page_same : (old new : List ℕ) (page : ℕ) → length new ≡ length old → IsHeapPage old page → IsHeapPage new page
heap_page_same old new page size is = record {
  in_image = subst (λ (n : ℕ). page < n / 512) (sym size) is.in_image;
  behind_header = is.behind_header;
  behind_fixed = is.behind_fixed;
}

module _ (old new : List ℕ) (r : Pages) (same : SameRunRead old new r) where
  idle_same : IsIdle old r.lane r.owner → IsIdle new r.lane r.owner
  idle_same idle = record { lane_is = idle.lane_is; op = same.op ∙ idle.op; owner_is = owner_same old new r.owner same.size same.owner_small idle.owner_is }

  run_same : IsPageRun old r.first r.pages → IsPageRun new r.first r.pages
  run_same run = record {
    page_is = heap_page_same old new r.first same.size run.page_is;
    in_image = subst (λ (n : ℕ). r.first + r.pages ≤ n / 512) (sym same.size) run.in_image;
    in_segment = run.in_segment;
    some = run.some;
    not_inside = same.inside ∙ run.not_inside;
  }

  pub take_run-read : MayTakeRun old r → MayTakeRun new r
  take_run-read may = record {
    idle = idle_same may.idle;
    unowned = same.owner ∙ may.unowned;
    run = run_same may.run;
    are_free = λ k lt. let e = same.descriptors k lt in let low = may.are_free k lt in omega (arith, e, low);
  }

  pub free_pages-read : MayFreePages old r → MayFreePages new r
  free_pages-read may = record {
    idle = idle_same may.idle;
    owned = same.owner ∙ may.owned;
    run = run_same may.run;
    head = let zero_is : r.first + 0 ≡ r.first = omega arith in subst (λ (page : ℕ). descriptor_of new page ≡ descriptor_of old page) zero_is (same.descriptors 0 may.run.some) ∙ may.head;
    clean = λ k some lt. same.descriptors k lt ∙ may.clean k some lt;
  }

-- the descriptors of a run alone tell which of its pages were given back
module _ (old new : List ℕ) (r : Pages) (same : (k : ℕ) → k < r.pages → descriptor_of new (r.first + k) ≡ descriptor_of old (r.first + k)) where
  filter-same : (a n : ℕ) → ((page : ℕ) → a ≤ page → page < a + n → get_or new (descriptor_at page) 0 ≡ get_or old (descriptor_at page) 0)
      → filter (λ page. eqb (get_or new (descriptor_at page) 0) 1) (range_with_len a n) ≡ filter (λ page. eqb (get_or old (descriptor_at page) 0) 1) (range_with_len a n)
  filter-same a zero each = refl
  filter-same a (suc n) each =
      ap (λ (d : ℕ). cond (eqb d 1) (a ∷ filter (λ page. eqb (get_or new (descriptor_at page) 0) 1) (range_with_len (a + 1) n)) (filter (λ page. eqb (get_or new (descriptor_at page) 0) 1) (range_with_len (a + 1) n))) (each a (omega arith) (omega arith))
      ∙ ap (λ (rest : List ℕ). cond (eqb (get_or old (descriptor_at a) 0) 1) (a ∷ rest) rest) (filter-same (a + 1) n (λ page le lt. each page (omega (arith, le)) (omega (arith, lt))))

  descriptor_in : (page : ℕ) → r.first ≤ page → page < r.first + r.pages → get_or new (descriptor_at page) 0 ≡ get_or old (descriptor_at page) 0
  descriptor_in page le lt =
      let is : r.first + (page - r.first) ≡ page = omega (arith, le) in
      subst (λ (p : ℕ). descriptor_of new p ≡ descriptor_of old p) is (same (page - r.first) (omega (arith, le, lt)))

  forget-same : forget_given_back new (range_with_len (page_of (page_at r.first)) r.pages) ≡ forget_given_back old (range_with_len (page_of (page_at r.first)) r.pages)
  forget-same =
      let here : page_of (page_at r.first) ≡ r.first = omega arith in
      ap (map (λ page. store (descriptor_at page) 0)) (filter-same (page_of (page_at r.first)) r.pages (λ page le lt. descriptor_in page (omega (arith, le, here)) (omega (arith, lt, here))))

  pub big_parts-same : big_allocation_parts new r.pages (pages_allocation r) ≡ big_allocation_parts old r.pages (pages_allocation r)
  big_parts-same = ap (λ (part : Part). unless_empty part ++ allocation_parts (pages_allocation r)) forget-same

-- ── whichever way it goes ──

pub choice_stable : (choice : Choice) (old new : List ℕ) → SameChoiceRead choice old new → MayMake old choice → MayMake new choice × (choice_parts new choice ≡ choice_parts old choice)
choice_stable (in_page s) old new same may = (take_slot-read old new s same may, ap (λ (b : ℕ). allocation_parts (slot_allocation s (with_bit b s.slot))) same.bitmap)
choice_stable (on_new_page s) old new same may = (new_slot-read old new s same may, refl)
choice_stable (in_run r) old new same may = (take_run-read old new r same may, big_parts-same old new r same.descriptors)

pub freed_stable : (freed : Freed) (old new : List ℕ) → SameFreedRead freed old new → MayRelease old freed → MayRelease new freed × (freed_parts new freed ≡ freed_parts old freed)
freed_stable (of_slot s) old new same may = (free_slot-read old new s same may, ap (λ (b : ℕ). small_freeing_parts s.page (slot_allocation s b) (without_bit b s.slot)) same.bitmap)
freed_stable (of_pages r) old new same may = (free_pages-read old new r same may, refl)
