-- The plans on a big block: an allocation of clean pages, and a freeing.
use Rattle.std.proofs.Common.{◌≡◌, ◌≢◌, ◌⊎◌, inl, inr, ⊎_elim, ℕ, ◌+◌, ◌*◌, ◌/◌, ◌%◌, ◌<◌, ◌≤◌, Bool, true, not, ◌&&◌, List, length, get_or, sym, ◌∙◌, ap, subst, arith}
use Rattle.std.proofs.lemmas.Bool.{eq-eqb, cond-true, cases_eq, cases_lt, both_ways}
use Rattle.image_layout.specs.Fixed.{descriptor_at}
use Rattle.image_layout.specs.Pointer.{pointer_word}
use Rattle.image_layout.specs.Places.{page_of, page_at}
use Rattle.pm_model.specs.Plans.{finished}
use Rattle.image_layout.specs.Blocks.{descriptor_of, bitmap_of, says_small, is_inside, is_small_page, live_blocks}
use Rattle.heap_palloc.specs.Lane.{is_big_place, mark_at, unmarked}
use Rattle.heap_palloc.specs.Parts.{allocation_parts, freeing_parts}
use Rattle.heap_palloc.specs.Shown.{IsOutsideLane, IsAt, IsPlaced, IsClearMark, MayAllocate, MayFree}
use Rattle.heap_palloc.specs.Law.{KeepsElsewhere, ChangesShown, Allocates, Frees, Pages, pages_allocation, IsPageRun, IsIdle, MayTakePages, MayFreePages}
use Rattle.heap_palloc.proofs.Changes.{shown_from_atomic}
use Rattle.heap_palloc.proofs.Slots.{descriptor_outside-lane, bitmap_outside-lane}
use Rattle.heap_palloc.proofs.SlotPlans.{owner_outside-lane}
use Rattle.heap_palloc.proofs.Atomic.{allocation_atomic, allocation_ends, freeing_atomic, freeing_ends}
use Rattle.heap_palloc.proofs.BigBlocks.{HeadsRun, inside_elsewhere, is_inside-before, no_small_new, head-gains}
use Rattle.heap_palloc.proofs.LiveBlocks.{SameHeap}

pub big_place : (first : ℕ) → is_big_place (page_at first) ≡ true
big_place first = eq-eqb (page_at first % 512) 0 (omega arith)

pub mark-page : (first : ℕ) → mark_at (page_at first) ≡ descriptor_at first
mark-page first = cond-true (is_big_place (page_at first)) _ _ (big_place first) ∙ ap descriptor_at (omega arith)

unmarked-page : (first descriptor mark : ℕ) → unmarked (page_at first) descriptor mark ≡ 0
unmarked-page first descriptor mark = cond-true (is_big_place (page_at first)) 0 _ (big_place first)

module _ (words : List ℕ) (r : Pages) (idle : IsIdle words r.lane r.owner) (run : IsPageRun words r.first r.pages) where
  owner_apart : r.owner ≢ descriptor_at r.first
  owner_apart e = omega (arith, e, idle.owner_is.no_descriptor)

  pub pages_placed : IsPlaced (length words) (pages_allocation r)
  pages_placed = record {
    two_words = inl (big_place r.first);
    lane = idle.lane_is;
    lanes = omega (arith, run.page_is.in_image, run.page_is.behind_fixed);
    owner = idle.owner_is.in_image;
    mark = subst (λ (m : ℕ). m < length words) (sym (mark-page r.first)) (omega (arith, run.page_is.in_image));
    mark_apart = λ e. owner_apart (e ∙ mark-page r.first);
    descriptor_apart = λ e. owner_apart (e ∙ ap descriptor_at (omega arith));
    owner_outside = owner_outside-lane words r.lane r.owner idle;
    mark_outside = subst (IsOutsideLane r.lane) (sym (mark-page r.first)) (descriptor_outside-lane r.lane r.first idle.lane_is);
    descriptor_outside = descriptor_outside-lane r.lane (page_of (page_at r.first)) idle.lane_is;
  }

  pub pages_clear : IsClearMark words (pages_allocation r) 0
  pages_clear = record { set = unmarked-page r.first _ (16 + r.pages); again = unmarked-page r.first _ 0 }

-- ── the stages of an allocation of pages, as a heap ──

module _ (base words : List ℕ) (r : Pages) (op mark owner : ℕ) (idle : IsIdle base r.lane r.owner) (run : IsPageRun base r.first r.pages) (at : IsAt base (pages_allocation r) op mark owner words) where
  pub page-head : descriptor_of words r.first ≡ mark
  page-head = ap (λ (w : ℕ). get_or words w 0) (sym (mark-page r.first)) ∙ at.mark_is

  pub page-others : (page : ℕ) → page ≢ r.first → descriptor_of words page ≡ descriptor_of base page
  page-others page apart = at.others (descriptor_at page) (descriptor_outside-lane r.lane page idle.lane_is) (λ e. apart (omega (arith, e ∙ mark-page r.first))) (λ e. omega (arith, e, idle.owner_is.no_descriptor))

  pub page-bitmap : (page : ℕ) → is_small_page base page ≡ true → bitmap_of words page ≡ bitmap_of base page
  page-bitmap page small = at.others (page_at page) (bitmap_outside-lane r.lane page idle.lane_is) (λ e. omega (arith, e ∙ mark-page r.first, run.page_is.behind_header))
      (λ e. idle.owner_is.no_bitmap (ap (is_small_page base) (omega (arith, e)) ∙ small) (omega (arith, e)))

  pub pages_keeps : KeepsElsewhere r.lane r.owner r.first r.pages base words
  pages_keeps = record { size = at.size; each = λ w e. at.others w e.outside_lane (λ x. e.no_descriptor r.first (omega arith) (omega (arith, run.some)) (x ∙ mark-page r.first)) e.no_owner }

-- ── clean pages are allocated ──

module _ (base : List ℕ) (r : Pages) (may : MayTakePages base r) where
  pub take_pages_may : MayAllocate base (pages_allocation r)
  take_pages_may =
      let head : get_or base (mark_at (page_at r.first)) 0 ≡ 0 = ap (λ (w : ℕ). get_or base w 0) (mark-page r.first) ∙ ap (descriptor_of base) (omega arith) ∙ may.clean 0 may.run.some in
      record {
        placed = pages_placed base r may.idle may.run;
        idle = may.idle.op;
        unowned = may.unowned;
        clears = subst (IsClearMark base (pages_allocation r)) (sym head) (pages_clear base r may.idle may.run);
      }

  abbrev final : List ℕ
  final = finished (allocation_parts (pages_allocation r)) base

  ends : IsAt base (pages_allocation r) 0 (16 + r.pages) (pointer_word (page_at r.first)) final
  ends = allocation_ends base (pages_allocation r) take_pages_may

  -- once the head is marked
  module _ (op owner : ℕ) (xs : List ℕ) (at : IsAt base (pages_allocation r) op (16 + r.pages) owner xs) where
    pub heads_at : HeadsRun base xs r.first r.pages
    heads_at = record {
      size = at.size;
      in_image = may.run.in_image;
      in_segment = may.run.in_segment;
      some = may.run.some;
      most = omega (arith, may.run.in_segment, may.run.page_is.behind_header);
      not_inside = may.run.not_inside;
      are_free = λ k lt. omega (arith, may.clean k lt);
      head = page-head base xs r op (16 + r.pages) owner may.idle may.run at;
      others = page-others base xs r op (16 + r.pages) owner may.idle may.run at;
      bitmaps = λ page small _. page-bitmap base xs r op (16 + r.pages) owner may.idle may.run at page small;
    }

    -- a page that is small then was small before
    small_before : (page : ℕ) → is_small_page xs page ≡ true → is_small_page base page ≡ true
    small_before page small = by_place (cases_lt page r.first) (cases_lt page (r.first + r.pages))
      where
        outside : page ≢ r.first → (page < r.first) ⊎ ((r.first + r.pages ≤ page) ⊎ (page ≡ r.first)) → is_small_page base page ≡ true
        outside apart where_is =
            ap (λ (i : Bool). not i && says_small (descriptor_of base page)) (sym (inside_elsewhere base xs r.first r.pages heads_at page where_is))
            ∙ ap (λ (d : ℕ). not (is_inside xs page) && says_small d) (sym (page-others base xs r op (16 + r.pages) owner may.idle may.run at page apart)) ∙ small

        by_place : (page < r.first) ⊎ (r.first ≤ page) → (page < r.first + r.pages) ⊎ (r.first + r.pages ≤ page) → is_small_page base page ≡ true
        by_place (inl below) other = outside (λ e. omega (arith, e, below)) (inl below)
        by_place (inr from) (inr behind) = outside (λ e. omega (arith, e, behind, may.run.some)) (inr (inl behind))
        by_place (inr from) (inl within) = absurd (both_ways (is_small_page xs page) (no_small_new base xs r.first r.pages heads_at page from within) small)

  pub take_heads : HeadsRun base (finished (allocation_parts (pages_allocation r)) base) r.first r.pages
  take_heads = heads_at 0 (pointer_word (page_at r.first)) final ends

  -- unmarked, the words have the heap of the base; marked, all of them have one heap
  pub pages_unmarked : (op owner : ℕ) (xs : List ℕ) → IsAt base (pages_allocation r) op 0 owner xs → SameHeap base xs
  pages_unmarked op owner xs at = record {
    size = at.size;
    pages = λ page. record {
      descriptor = ⊎_elim
          (λ (here : page ≡ r.first).
          let first : descriptor_of base r.first ≡ 0 = ap (descriptor_of base) (omega arith) ∙ may.clean 0 may.run.some in
          ap (descriptor_of xs) here ∙ page-head base xs r op 0 owner may.idle may.run at ∙ sym first ∙ sym (ap (descriptor_of base) here))
          (λ apart. page-others base xs r op 0 owner may.idle may.run at page apart)
          (cases_eq page r.first);
      bitmap = λ small. page-bitmap base xs r op 0 owner may.idle may.run at page small;
    };
  }

  pub pages_marked : (op now owner other : ℕ) (xs ys : List ℕ) → IsAt base (pages_allocation r) op (16 + r.pages) owner xs → IsAt base (pages_allocation r) now (16 + r.pages) other ys → SameHeap xs ys
  pages_marked op now owner other xs ys x y = record {
    size = y.size ∙ sym x.size;
    pages = λ page. record {
      descriptor = ⊎_elim
          (λ (here : page ≡ r.first).
          ap (descriptor_of ys) here ∙ page-head base ys r now (16 + r.pages) other may.idle may.run y
          ∙ sym (ap (descriptor_of xs) here ∙ page-head base xs r op (16 + r.pages) owner may.idle may.run x))
          (λ apart. page-others base ys r now (16 + r.pages) other may.idle may.run y page apart ∙ sym (page-others base xs r op (16 + r.pages) owner may.idle may.run x page apart))
          (cases_eq page r.first);
      bitmap = λ small.
          let was = small_before op owner xs x page small in
          page-bitmap base ys r now (16 + r.pages) other may.idle may.run y page was ∙ sym (page-bitmap base xs r op (16 + r.pages) owner may.idle may.run x page was);
    };
  }

  keeps : KeepsElsewhere r.lane r.owner r.first r.pages base final
  keeps = record { size = ends.size; each = λ w e. ends.others w e.outside_lane (λ x. e.no_descriptor r.first (omega arith) (omega (arith, may.run.some)) (x ∙ mark-page r.first)) e.no_owner }

  pub take_pages_allocates : Allocates (pages_allocation r) r.first r.pages (512 * r.pages) (allocation_parts (pages_allocation r)) base
  take_pages_allocates = record {
    gains = head-gains base final r.first r.pages take_heads;
    changes = subst (λ (old : ℕ). ChangesShown r.lane r.owner r.first r.pages base (live_blocks base) old (live_blocks final) (pointer_word (page_at r.first)) (allocation_parts (pages_allocation r)) base) may.unowned
        (subst (λ (new : ℕ). ChangesShown r.lane r.owner r.first r.pages base (live_blocks base) (get_or base r.owner 0) (live_blocks final) new (allocation_parts (pages_allocation r)) base) ends.owner_is
        (shown_from_atomic r.lane r.owner r.first r.pages (allocation_parts (pages_allocation r)) base may.idle.lane_is (owner_outside-lane base r.lane r.owner may.idle) keeps (allocation_atomic base (pages_allocation r) take_pages_may)));
  }

-- ── a big block is freed ──

module _ (base : List ℕ) (r : Pages) (may : MayFreePages base r) where
  pub free_pages_may : MayFree base (pages_allocation r) 0
  free_pages_may = record {
    placed = pages_placed base r may.idle may.run;
    idle = may.idle.op;
    owned = may.owned;
    allocated = ap (λ (w : ℕ). get_or base w 0) (mark-page r.first) ∙ may.head;
    clears = pages_clear base r may.idle may.run;
  }

  abbrev freed : List ℕ
  freed = finished (freeing_parts (pages_allocation r) 0) base

  freed_ends : IsAt base (pages_allocation r) 0 0 0 freed
  freed_ends = freeing_ends base (pages_allocation r) 0 free_pages_may

  freed_others : (page : ℕ) → page ≢ r.first → descriptor_of freed page ≡ descriptor_of base page
  freed_others = page-others base freed r 0 0 0 may.idle may.run freed_ends

  freed_head : descriptor_of freed r.first ≡ 0
  freed_head = page-head base freed r 0 0 0 may.idle may.run freed_ends

  freed_run : (k : ℕ) → k < r.pages → descriptor_of freed (r.first + k) ≤ 1
  freed_run k lt = ⊎_elim
      (λ (zero_is : k ≡ 0). let here : descriptor_of freed (r.first + k) ≡ 0 = ap (descriptor_of freed) (omega (arith, zero_is)) ∙ freed_head in omega (arith, here))
      (λ some. let behind : descriptor_of freed (r.first + k) ≡ 0 = freed_others (r.first + k) (λ e. some (omega (arith, e))) ∙ may.clean k (omega (arith, some)) lt in omega (arith, behind))
      (cases_eq k 0)

  pub freed_heads : HeadsRun (finished (freeing_parts (pages_allocation r) 0) base) base r.first r.pages
  freed_heads = record {
    size = sym freed_ends.size;
    in_image = subst (λ (n : ℕ). r.first + r.pages ≤ n / 512) (sym freed_ends.size) may.run.in_image;
    in_segment = may.run.in_segment;
    some = may.run.some;
    most = omega (arith, may.run.in_segment, may.run.page_is.behind_header);
    not_inside = is_inside-before base freed r.first freed_others ∙ may.run.not_inside;
    are_free = freed_run;
    head = may.head;
    others = λ page apart. sym (freed_others page apart);
    bitmaps = λ page _ small. sym (page-bitmap base freed r 0 0 0 may.idle may.run freed_ends page small);
  }

  freed_keeps : KeepsElsewhere r.lane r.owner r.first r.pages base freed
  freed_keeps = record { size = freed_ends.size; each = λ w e. freed_ends.others w e.outside_lane (λ x. e.no_descriptor r.first (omega arith) (omega (arith, may.run.some)) (x ∙ mark-page r.first)) e.no_owner }

  pub free_pages_frees : Frees (pages_allocation r) r.first r.pages (512 * r.pages) (freeing_parts (pages_allocation r) 0) base
  free_pages_frees = record {
    loses = head-gains freed base r.first r.pages freed_heads;
    changes = subst (λ (old : ℕ). ChangesShown r.lane r.owner r.first r.pages base (live_blocks base) old (live_blocks freed) 0 (freeing_parts (pages_allocation r) 0) base) may.owned
        (subst (λ (new : ℕ). ChangesShown r.lane r.owner r.first r.pages base (live_blocks base) (get_or base r.owner 0) (live_blocks freed) new (freeing_parts (pages_allocation r) 0) base) freed_ends.owner_is
        (shown_from_atomic r.lane r.owner r.first r.pages (freeing_parts (pages_allocation r) 0) base may.idle.lane_is (owner_outside-lane base r.lane r.owner may.idle) freed_keeps (freeing_atomic base (pages_allocation r) 0 free_pages_may)));
  }
