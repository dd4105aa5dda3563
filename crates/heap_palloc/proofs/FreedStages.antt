-- Each cut of a freeing is at one of its stages.
use Rattle.std.proofs.Common.{◌≡◌, ◌≢◌, ◌⊎◌, inl, inr, ⊎_elim, ℕ, ◌+◌, ◌<◌, ◌≤◌, Bool, true, false, not, ◌&&◌, cond, eqb, List, [], set, refl, sym, ◌∙◌, ap, subst, arith}
use Rattle.std.proofs.lemmas.Bool.{cases_eq, cases_lt, both_ways, eqb-true}
use Rattle.std.proofs.lemmas.List.{length-set}
use Rattle.image_layout.specs.Fixed.{descriptor_at, lane_op_at}
use Rattle.image_layout.specs.Places.{page_at}
use Rattle.image_layout.specs.Pointer.{pointer_word}
use Rattle.image_layout.specs.Blocks.{slot_at, descriptor_of, says_small, is_inside, is_small_page, live_blocks}
use Rattle.pm_model.specs.Plans.{EachCut, finished}
use Rattle.pm_model.proofs.Cuts.{cut-one_store, each_cut-append}
use Rattle.heap_palloc.specs.Parts.{freeing_parts, free_page_parts}
use Rattle.heap_palloc.specs.Shown.{SameButLane, IsAt}
use Rattle.heap_palloc.specs.Law.{KeepsElsewhere, Slot, taken, Pages, pages_allocation, MayFreeSlot, MayFreePages}
use Rattle.heap_palloc.specs.Calls.{KeepsHeapRules}
use Rattle.heap_palloc.specs.Choice.{Freed, of_slot, of_pages, freed_parts, MayRelease}
use Rattle.heap_palloc.specs.Changes.{IsNoneGivenBack, IsFreedLaneAt, FreeingStage, held, noted, disowned, unmarked, let_go}
use Rattle.heap_palloc.proofs.Atomic.{freeing_ends}
use Rattle.heap_palloc.proofs.BigBlocks.{inside_elsewhere, no_small_old}
use Rattle.heap_palloc.proofs.BigPlans.{page-head, page-others, page-bitmap, pages_keeps, free_pages_may, freed_heads}
use Rattle.heap_palloc.proofs.Changes.{keeps-then}
use Rattle.heap_palloc.proofs.PagePlans.{page_freed-blocks, page_freed-kept, page_freed_words, page_kept_words, page_freed_one, page_freed_descriptor}
use Rattle.heap_palloc.proofs.RulesKept.{freed_rules, slot_freed_rules}
use Rattle.heap_palloc.proofs.SlotPlans.{owner_outside-lane, slot_clear, free_slot_may, free_words, free_idle, free_keeps, free_owner}
use Rattle.heap_palloc.proofs.Slots.{descriptor_outside-lane}
use Rattle.heap_palloc.proofs.Stages.{at-begin}
use Rattle.heap_palloc.proofs.Staging.{begun, begun_is_same, freeing_staged, lane_at, lane_idle_at, slot_keeps, slot_descriptor_at, slot_heap, HeapOf, heap_of, heap_then, lane_heap, lane_keeps}

-- what holds of an image whose stage is known
pub record IsFreedStaged (base : List ℕ) (freed : Freed) (image : List ℕ) : Type 0 where
  pub stage : FreeingStage base freed image
  pub rules : KeepsHeapRules base → KeepsHeapRules image
  pub given_back : IsNoneGivenBack base image

-- ── a slot ──

module _ (base : List ℕ) (s : Slot) (may : MayFreeSlot base s) where
  abbrev clear : ℕ
  clear = slot_clear base s may

  abbrev gone : List ℕ
  gone = free_words base s may

  abbrev pointer : ℕ
  pointer = pointer_word (slot_at s.page s.class s.slot)

  at_gone : IsAt base (taken base s) 0 (slot_clear base s may) 0 (free_words base s may)
  at_gone = freeing_ends base (taken base s) (slot_clear base s may) (free_slot_may base s may)

  blocks_last : live_blocks (free_words base s may) ≡ live_blocks (finished (freed_parts base (of_slot s)) base)
  blocks_last = ⊎_elim
      (λ zero. sym (ap live_blocks (page_freed_words base s may zero) ∙ page_freed-blocks base s may zero))
      (λ some. sym (ap live_blocks (page_kept_words base s may some)))
      (cases_eq (slot_clear base s may) 0)

  module _ (op mark owner : ℕ) (xs : List ℕ) (at : IsAt base (taken base s) op mark owner xs) where
    kept : KeepsElsewhere s.lane s.owner s.page 1 base xs
    kept = slot_keeps base s (taken base s).marked may.idle may.page_is may.slot_is op mark owner xs at

    none_back : IsNoneGivenBack base xs
    none_back page is = sym (slot_descriptor_at base s (taken base s).marked may.idle may.page_is may.slot_is op mark owner xs at page) ∙ is

    lane : IsFreedLaneAt (of_slot s) op xs
    lane = lane_at base (taken base s) op mark owner xs at

  front : (image : List ℕ) → SameButLane s.lane base image → IsFreedStaged base (of_slot s) image
  front image same =
      let heap = lane_heap s.lane base image may.idle.lane_is same in
      let out = owner_outside-lane base s.lane s.owner may.idle in
      record {
        stage = held
            (lane_idle_at s.lane s.owner (slot_at s.page s.class s.slot) image (same.each (lane_op_at s.lane) (λ e. omega (arith, e)) (λ e. omega (arith, e)) ∙ may.idle.op))
            (record { blocks_are = heap.blocks_are; word_is = same.each s.owner out.1 out.2 ∙ may.owned; keeps = lane_keeps s.lane s.owner s.page 1 base image same });
        rules = heap.rules;
        given_back = λ page is. sym (same.each (descriptor_at page) (descriptor_outside-lane s.lane page may.idle.lane_is).1 (descriptor_outside-lane s.lane page may.idle.lane_is).2) ∙ is;
      }

  old_heap : (op owner : ℕ) (xs : List ℕ) → IsAt base (taken base s) op (taken base s).marked owner xs → HeapOf base xs
  old_heap op owner xs at =
      let free = free_slot_may base s may in
      let start = at-begin base (taken base s) free.placed (taken base s).marked pointer may.idle.op free.allocated may.owned in
      heap_then base (begun base (taken base s)) xs (lane_heap s.lane base (begun base (taken base s)) may.idle.lane_is (begun_is_same base (taken base s)))
      (heap_of (begun base (taken base s)) xs (slot_heap base s (taken base s).marked may.idle may.page_is may.slot_is 0 op (taken base s).marked pointer owner (begun base (taken base s)) xs start at))

  new_heap : (op : ℕ) (xs : List ℕ) → IsAt base (taken base s) op (slot_clear base s may) 0 xs → HeapOf (free_words base s may) xs
  new_heap op xs at = heap_of (free_words base s may) xs (slot_heap base s (taken base s).marked may.idle may.page_is may.slot_is 0 op (slot_clear base s may) 0 0 (free_words base s may) xs at_gone at)

  after_all : (xs : List ℕ) → IsAt base (taken base s) 0 (slot_clear base s may) 0 xs → IsFreedStaged base (of_slot s) xs
  after_all xs at = let heap = new_heap 0 xs at in record {
    stage = let_go (lane 0 _ 0 xs at) (record { blocks_are = heap.blocks_are ∙ blocks_last; word_is = at.owner_is; keeps = kept 0 _ 0 xs at });
    rules = λ rules. heap.rules (slot_freed_rules base s rules may);
    given_back = none_back 0 _ 0 xs at;
  }

  freeing_cuts : EachCut (IsFreedStaged base (of_slot s)) (freeing_parts (taken base s) (slot_clear base s may)) base
  freeing_cuts = freeing_staged base (taken base s) (IsFreedStaged base (of_slot s)) front (slot_clear base s may) (free_slot_may base s may)
      (λ xs at. let heap = old_heap 2 pointer xs at in record {
        stage = noted (lane 2 _ pointer xs at) (record { blocks_are = heap.blocks_are; word_is = at.owner_is; keeps = kept 2 _ pointer xs at });
        rules = heap.rules;
        given_back = none_back 2 _ pointer xs at;
      })
      (λ xs at. let heap = old_heap 2 0 xs at in record {
        stage = disowned (lane 2 _ 0 xs at) (record { blocks_are = heap.blocks_are; word_is = at.owner_is; keeps = kept 2 _ 0 xs at });
        rules = heap.rules;
        given_back = none_back 2 _ 0 xs at;
      })
      (λ xs at. let heap = new_heap 2 xs at in record {
        stage = unmarked (lane 2 _ 0 xs at) (record { blocks_are = heap.blocks_are ∙ blocks_last; word_is = at.owner_is; keeps = kept 2 _ 0 xs at });
        rules = λ rules. heap.rules (slot_freed_rules base s rules may);
        given_back = none_back 2 _ 0 xs at;
      })
      after_all

  -- the page is free again
  page_gone : slot_clear base s may ≡ 0 → IsFreedStaged base (of_slot s) (set (free_words base s may) (descriptor_at s.page) 0)
  page_gone zero = record {
    stage = let_go
        (lane_idle_at s.lane s.owner (slot_at s.page s.class s.slot) (set (free_words base s may) (descriptor_at s.page) 0)
        (page_freed-kept base s may (lane_op_at s.lane) (λ e. (descriptor_outside-lane s.lane s.page may.idle.lane_is).0 (sym e)) ∙ free_idle base s may))
        (record {
          blocks_are = page_freed-blocks base s may zero ∙ blocks_last;
          word_is = page_freed-kept base s may s.owner (λ e. omega (arith, e, may.idle.owner_is.no_descriptor)) ∙ free_owner base s may;
          keeps = keeps-then s.lane s.owner s.page 1 base (free_words base s may) (set (free_words base s may) (descriptor_at s.page) 0) (free_keeps base s may)
              (record { size = length-set (free_words base s may) (descriptor_at s.page) 0; each = λ w e. page_freed-kept base s may w (λ x. e.no_descriptor s.page (omega arith) (omega arith) x) });
        });
    rules = λ rules. subst KeepsHeapRules (page_freed_words base s may zero) (freed_rules base (of_slot s) rules may);
    given_back = λ page is. ⊎_elim
        (λ (here : page ≡ s.page). absurd (let now = page_freed_descriptor base s may in let at = ap (descriptor_of (set (free_words base s may) (descriptor_at s.page) 0)) (sym here) in omega (arith, now, at, is)))
        (λ apart. sym ((page_freed_one base s may).others page apart).descriptor ∙ is)
        (cases_eq page s.page);
  }

  tail_cuts : (b : Bool) → eqb (slot_clear base s may) 0 ≡ b → EachCut (IsFreedStaged base (of_slot s)) (cond b (free_page_parts s.page) []) (free_words base s may)
  tail_cuts true is =
      let last = page_gone (eqb-true (slot_clear base s may) 0 is) in
      (cut-one_store (IsFreedStaged base (of_slot s)) (descriptor_at s.page) 0 (free_words base s may) (after_all (free_words base s may) at_gone) last, last)
  tail_cuts false is = after_all (free_words base s may) at_gone

  slot_freed : EachCut (IsFreedStaged base (of_slot s)) (freed_parts base (of_slot s)) base
  slot_freed = each_cut-append (IsFreedStaged base (of_slot s)) (freeing_parts (taken base s) (slot_clear base s may)) (cond (eqb (slot_clear base s may) 0) (free_page_parts s.page) []) base
      freeing_cuts (tail_cuts (eqb (slot_clear base s may) 0) refl)

-- ── pages ──

module _ (base : List ℕ) (r : Pages) (may : MayFreePages base r) where
  abbrev pages_gone : List ℕ
  pages_gone = finished (freeing_parts (pages_allocation r) 0) base

  abbrev to_first : ℕ
  to_first = pointer_word (page_at r.first)

  at_last : IsAt base (pages_allocation r) 0 0 0 (finished (freeing_parts (pages_allocation r) 0) base)
  at_last = freeing_ends base (pages_allocation r) 0 (free_pages_may base r may)

  module _ (op mark owner : ℕ) (xs : List ℕ) (at : IsAt base (pages_allocation r) op mark owner xs) where
    pages_kept : KeepsElsewhere r.lane r.owner r.first r.pages base xs
    pages_kept = pages_keeps base xs r op mark owner may.idle may.run at

    pages_back : mark ≢ 1 → IsNoneGivenBack base xs
    pages_back other page is = ⊎_elim
        (λ (here : page ≡ r.first). absurd (other (sym (page-head base xs r op mark owner may.idle may.run at) ∙ ap (descriptor_of xs) (sym here) ∙ is)))
        (λ apart. sym (page-others base xs r op mark owner may.idle may.run at page apart) ∙ is)
        (cases_eq page r.first)

    pages_lane : IsFreedLaneAt (of_pages r) op xs
    pages_lane = lane_at base (pages_allocation r) op mark owner xs at

  pages_front : (image : List ℕ) → SameButLane r.lane base image → IsFreedStaged base (of_pages r) image
  pages_front image same =
      let heap = lane_heap r.lane base image may.idle.lane_is same in
      let out = owner_outside-lane base r.lane r.owner may.idle in
      record {
        stage = held
            (lane_idle_at r.lane r.owner (page_at r.first) image (same.each (lane_op_at r.lane) (λ e. omega (arith, e)) (λ e. omega (arith, e)) ∙ may.idle.op))
            (record { blocks_are = heap.blocks_are; word_is = same.each r.owner out.1 out.2 ∙ may.owned; keeps = lane_keeps r.lane r.owner r.first r.pages base image same });
        rules = heap.rules;
        given_back = λ page is. sym (same.each (descriptor_at page) (descriptor_outside-lane r.lane page may.idle.lane_is).1 (descriptor_outside-lane r.lane page may.idle.lane_is).2) ∙ is;
      }

  old_pages : (op owner : ℕ) (xs : List ℕ) → IsAt base (pages_allocation r) op (16 + r.pages) owner xs → HeapOf base xs
  old_pages op owner xs at = heap_of base xs (record {
    size = at.size;
    pages = λ page. record {
      descriptor = ⊎_elim
          (λ (here : page ≡ r.first). ap (descriptor_of xs) here ∙ page-head base xs r op (16 + r.pages) owner may.idle may.run at ∙ sym (ap (descriptor_of base) here ∙ may.head))
          (λ apart. page-others base xs r op (16 + r.pages) owner may.idle may.run at page apart)
          (cases_eq page r.first);
      bitmap = λ small. page-bitmap base xs r op (16 + r.pages) owner may.idle may.run at page small;
    };
  })

  -- a page that is small once the block is freed was small before
  small_before : (page : ℕ) → is_small_page (finished (freeing_parts (pages_allocation r) 0) base) page ≡ true → is_small_page base page ≡ true
  small_before page small = by_place (cases_lt page r.first) (cases_lt page (r.first + r.pages))
    where
      outside : page ≢ r.first → (page < r.first) ⊎ ((r.first + r.pages ≤ page) ⊎ (page ≡ r.first)) → is_small_page base page ≡ true
      outside apart where_is =
          ap (λ (i : Bool). not i && says_small (descriptor_of base page)) (inside_elsewhere pages_gone base r.first r.pages (freed_heads base r may) page where_is)
          ∙ ap (λ (d : ℕ). not (is_inside pages_gone page) && says_small d) (sym (page-others base pages_gone r 0 0 0 may.idle may.run at_last page apart)) ∙ small

      by_place : (page < r.first) ⊎ (r.first ≤ page) → (page < r.first + r.pages) ⊎ (r.first + r.pages ≤ page) → is_small_page base page ≡ true
      by_place (inl below) other = outside (λ e. omega (arith, e, below)) (inl below)
      by_place (inr from) (inr behind) = outside (λ e. omega (arith, e, behind, may.run.some)) (inr (inl behind))
      by_place (inr from) (inl within) = absurd (both_ways (is_small_page pages_gone page) (no_small_old pages_gone base r.first r.pages (freed_heads base r may) page from within) small)

  new_pages : (op : ℕ) (xs : List ℕ) → IsAt base (pages_allocation r) op 0 0 xs → HeapOf (finished (freeing_parts (pages_allocation r) 0) base) xs
  new_pages op xs at = heap_of pages_gone xs (record {
    size = at.size ∙ sym at_last.size;
    pages = λ page. record {
      descriptor = ⊎_elim
          (λ (here : page ≡ r.first). ap (descriptor_of xs) here ∙ page-head base xs r op 0 0 may.idle may.run at ∙ sym (ap (descriptor_of pages_gone) here ∙ page-head base pages_gone r 0 0 0 may.idle may.run at_last))
          (λ apart. page-others base xs r op 0 0 may.idle may.run at page apart ∙ sym (page-others base pages_gone r 0 0 0 may.idle may.run at_last page apart))
          (cases_eq page r.first);
      bitmap = λ small.
          let was = small_before page small in
          page-bitmap base xs r op 0 0 may.idle may.run at page was ∙ sym (page-bitmap base pages_gone r 0 0 0 may.idle may.run at_last page was);
    };
  })

  pages_freed : EachCut (IsFreedStaged base (of_pages r)) (freed_parts base (of_pages r)) base
  pages_freed = freeing_staged base (pages_allocation r) (IsFreedStaged base (of_pages r)) pages_front 0 (free_pages_may base r may)
      (λ xs at. let heap = old_pages 2 to_first xs at in record {
        stage = noted (pages_lane 2 _ to_first xs at) (record { blocks_are = heap.blocks_are; word_is = at.owner_is; keeps = pages_kept 2 _ to_first xs at });
        rules = heap.rules;
        given_back = pages_back 2 (16 + r.pages) to_first xs at (λ e. omega (arith, e));
      })
      (λ xs at. let heap = old_pages 2 0 xs at in record {
        stage = disowned (pages_lane 2 _ 0 xs at) (record { blocks_are = heap.blocks_are; word_is = at.owner_is; keeps = pages_kept 2 _ 0 xs at });
        rules = heap.rules;
        given_back = pages_back 2 (16 + r.pages) 0 xs at (λ e. omega (arith, e));
      })
      (λ xs at. let heap = new_pages 2 xs at in record {
        stage = unmarked (pages_lane 2 0 0 xs at) (record { blocks_are = heap.blocks_are; word_is = at.owner_is; keeps = pages_kept 2 0 0 xs at });
        rules = λ rules. heap.rules (freed_rules base (of_pages r) rules may);
        given_back = pages_back 2 0 0 xs at (λ e. omega (arith, e));
      })
      (λ xs at. let heap = new_pages 0 xs at in record {
        stage = let_go (pages_lane 0 0 0 xs at) (record { blocks_are = heap.blocks_are; word_is = at.owner_is; keeps = pages_kept 0 0 0 xs at });
        rules = λ rules. heap.rules (freed_rules base (of_pages r) rules may);
        given_back = pages_back 0 0 0 xs at (λ e. omega (arith, e));
      })

-- ── whichever block ──

pub freed_staged : (base : List ℕ) (freed : Freed) → MayRelease base freed → EachCut (IsFreedStaged base freed) (freed_parts base freed) base
freed_staged base (of_slot s) may = slot_freed base s may
freed_staged base (of_pages r) may = pages_freed base r may
