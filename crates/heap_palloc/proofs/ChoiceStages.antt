-- Each cut of an allocation is at one of its stages.
use Rattle.std.proofs.Common.{◌≡◌, ◌≢◌, ⊎_elim, ℕ, ◌+◌, List, get_or, set, refl, sym, ◌∙◌, ap, subst, arith}
use Rattle.std.proofs.lemmas.Bool.{cases_eq}
use Rattle.image_layout.specs.Fixed.{descriptor_at, lane_op_at}
use Rattle.image_layout.specs.Places.{page_at}
use Rattle.image_layout.specs.Pointer.{pointer_word}
use Rattle.image_layout.specs.Blocks.{slot_at, descriptor_of, live_blocks}
use Rattle.pm_model.specs.Plans.{EachCut, finished, unless_empty}
use Rattle.pm_model.specs.Device.{IsBetween}
use Rattle.pm_model.proofs.Cuts.{cut-one_store, each_cut-append, each_cut-map, each_cut-unless_empty, finished-unless_empty}
use Rattle.heap_small.specs.Bitmap.{with_bit}
use Rattle.heap_palloc.specs.Lane.{mark_at}
use Rattle.heap_palloc.specs.Parts.{Allocation, allocation_parts, new_page_parts, new_page_allocation_parts}
use Rattle.heap_palloc.specs.Shown.{SameButLane, IsAt}
use Rattle.heap_palloc.specs.Law.{KeepsElsewhere, Slot, slot_allocation, taking, Pages, pages_allocation, MayTakeSlot, MayTakeNewSlot, MayTakePages, MayTakeRun}
use Rattle.heap_palloc.specs.Calls.{KeepsHeapRules}
use Rattle.heap_palloc.specs.Choice.{Choice, in_page, on_new_page, in_run, choice_parts, MayMake}
use Rattle.heap_palloc.specs.Changes.{IsNoneGivenBack, IsChoiceLaneAt, IsUnmade, IsUnnamed, IsMade, AllocationStage, before, logged, marked, owned, made}
use Rattle.heap_palloc.proofs.Atomic.{allocation_ends}
use Rattle.heap_palloc.proofs.BigPlans.{mark-page, page-head as pages_head, page-others as pages_others, take_pages_may, pages_keeps, pages_unmarked, pages_marked}
use Rattle.heap_palloc.proofs.Changes.{keeps-all, keeps-then}
use Rattle.heap_palloc.proofs.GivenBack.{part, cleaned, cleaned_forgets, cleaned_may, image_forgets, keeps_forgotten, cleaned_between, op_kept, forgets_back, forgets-blocks, forgets-kept, take_run_words}
use Rattle.heap_palloc.proofs.PagePlans.{new_page_words, new_slot_may, new_slot_words, new_bitmap, blank_same, blank_descriptors, blank_keeps, blank-kept, new_page-kept, new_page_keeps, new_page_blocks, new_page_one, new_descriptor, op_a, op_b, owner_a, owner_b}
use Rattle.heap_palloc.proofs.RulesKept.{choice_rules, forgets_rules, new_page_rules}
use Rattle.heap_palloc.proofs.Slots.{descriptor_outside-lane}
use Rattle.heap_palloc.proofs.Stages.{at-begin}
use Rattle.heap_palloc.proofs.SlotPlans.{owner_outside-lane, take_slot_may}
use Rattle.heap_palloc.proofs.Staging.{begun, begun_is_same, allocation_staged, lane_at, lane_idle_at, slot_keeps, slot_descriptor_at, slot_heap, HeapOf, heap_of, heap_then, lane_heap, lane_keeps}

-- what holds of an image whose stage is known
pub record IsStaged (base : List ℕ) (choice : Choice) (image : List ℕ) : Type 0 where
  pub stage : AllocationStage base choice image
  pub rules : KeepsHeapRules base → KeepsHeapRules image
  pub given_back : IsNoneGivenBack base image

-- ── a slot of a small page ──

module _ (base : List ℕ) (s : Slot) (may : MayTakeSlot base s) where
  abbrev after : List ℕ
  after = finished (allocation_parts (taking base s)) base

  at_end : IsAt base (taking base s) 0 (taking base s).marked (pointer_word (slot_at s.page s.class s.slot)) after
  at_end = allocation_ends base (taking base s) (take_slot_may base s may)

  -- before the mark, and with it
  module _ (op mark owner : ℕ) (xs : List ℕ) (at : IsAt base (taking base s) op mark owner xs) where
    kept : KeepsElsewhere s.lane s.owner s.page 1 base xs
    kept = slot_keeps base s (taking base s).marked may.idle may.page_is may.slot_is op mark owner xs at

    none_back : IsNoneGivenBack base xs
    none_back page is = sym (slot_descriptor_at base s (taking base s).marked may.idle may.page_is may.slot_is op mark owner xs at page) ∙ is

    lane : IsChoiceLaneAt (in_page s) op xs
    lane = lane_at base (taking base s) op mark owner xs at

  front : (image : List ℕ) → SameButLane s.lane base image → IsStaged base (in_page s) image
  front image same =
      let heap = lane_heap s.lane base image may.idle.lane_is same in
      let out = owner_outside-lane base s.lane s.owner may.idle in
      record {
        stage = before
            (lane_idle_at s.lane s.owner (slot_at s.page s.class s.slot) image (same.each (lane_op_at s.lane) (λ e. omega (arith, e)) (λ e. omega (arith, e)) ∙ may.idle.op))
            (record { blocks_are = heap.blocks_are; word_is = same.each s.owner out.1 out.2 ∙ may.unowned; keeps = lane_keeps s.lane s.owner s.page 1 base image same });
        rules = heap.rules;
        given_back = λ page is. sym (same.each (descriptor_at page) (descriptor_outside-lane s.lane page may.idle.lane_is).1 (descriptor_outside-lane s.lane page may.idle.lane_is).2) ∙ is;
      }

  -- with the old mark the heap is that of the base
  begun_heap : HeapOf base (begun base (taking base s))
  begun_heap = lane_heap s.lane base (begun base (taking base s)) may.idle.lane_is (begun_is_same base (taking base s))

  old_heap : (op owner : ℕ) (xs : List ℕ) → IsAt base (taking base s) op (get_or base (mark_at (slot_at s.page s.class s.slot)) 0) owner xs → HeapOf base xs
  old_heap op owner xs at =
      let placed = (take_slot_may base s may).placed in
      let start = at-begin base (taking base s) placed (get_or base (mark_at (slot_at s.page s.class s.slot)) 0) 0 may.idle.op refl may.unowned in
      heap_then base (begun base (taking base s)) xs begun_heap
      (heap_of (begun base (taking base s)) xs (slot_heap base s (taking base s).marked may.idle may.page_is may.slot_is 0 op (get_or base (mark_at (slot_at s.page s.class s.slot)) 0) 0 owner (begun base (taking base s)) xs start at))

  new_heap : (op owner : ℕ) (xs : List ℕ) → IsAt base (taking base s) op (taking base s).marked owner xs → HeapOf after xs
  new_heap op owner xs at = heap_of after xs (slot_heap base s (taking base s).marked may.idle may.page_is may.slot_is 0 op (taking base s).marked (pointer_word (slot_at s.page s.class s.slot)) owner after xs at_end at)

  slot_staged : EachCut (IsStaged base (in_page s)) (allocation_parts (taking base s)) base
  slot_staged = allocation_staged base (taking base s) (IsStaged base (in_page s)) front (take_slot_may base s may)
      (λ xs at. let heap = old_heap 1 0 xs at in record {
        stage = logged (lane 1 _ 0 xs at) (record { blocks_are = heap.blocks_are; word_is = at.owner_is; keeps = kept 1 _ 0 xs at });
        rules = heap.rules;
        given_back = none_back 1 _ 0 xs at;
      })
      (λ xs at. let heap = new_heap 1 0 xs at in record {
        stage = marked (lane 1 _ 0 xs at) (record { blocks_are = heap.blocks_are; word_is = at.owner_is; keeps = kept 1 _ 0 xs at });
        rules = λ rules. heap.rules (choice_rules base (in_page s) rules may);
        given_back = none_back 1 _ 0 xs at;
      })
      (λ xs at. let heap = new_heap 1 _ xs at in record {
        stage = owned (lane 1 _ _ xs at) (record { blocks_are = heap.blocks_are; word_is = at.owner_is; keeps = kept 1 _ _ xs at });
        rules = λ rules. heap.rules (choice_rules base (in_page s) rules may);
        given_back = none_back 1 _ _ xs at;
      })
      (λ xs at. let heap = new_heap 0 _ xs at in record {
        stage = made (lane 0 _ _ xs at) (record { blocks_are = heap.blocks_are; word_is = at.owner_is; keeps = kept 0 _ _ xs at });
        rules = λ rules. heap.rules (choice_rules base (in_page s) rules may);
        given_back = none_back 0 _ _ xs at;
      })

-- ── a slot of a page that is made small first ──

module _ (base : List ℕ) (s : Slot) (may : MayTakeNewSlot base s) where
  abbrev blank : List ℕ
  blank = set base (page_at s.page) 0

  abbrev small : List ℕ
  small = new_page_words base s may

  -- at first no block and no pointer
  none : (xs : List ℕ) → get_or xs (lane_op_at s.lane) 0 ≡ 0 → HeapOf base xs → get_or xs s.owner 0 ≡ 0 → KeepsElsewhere s.lane s.owner s.page 1 base xs → IsNoneGivenBack base xs
      → IsStaged base (on_new_page s) xs
  none xs op heap word keeps back = record {
    stage = before (lane_idle_at s.lane s.owner (slot_at s.page s.class s.slot) xs op) (record { blocks_are = heap.blocks_are; word_is = word; keeps = keeps });
    rules = heap.rules;
    given_back = back;
  }

  small_back : IsNoneGivenBack base small
  small_back page is = ⊎_elim
      (λ (here : page ≡ s.page). absurd (let now = new_descriptor base s may in let at = ap (descriptor_of small) (sym here) in omega (arith, now, at, is)))
      (λ apart. sym (blank_descriptors base s may page) ∙ sym ((new_page_one base s may).others page apart).descriptor ∙ is)
      (cases_eq page s.page)

  page_staged : EachCut (IsStaged base (on_new_page s)) (new_page_parts s.page s.class) base
  page_staged =
      let p0 = none base may.idle.op (record { blocks_are = refl; rules = λ rules. rules }) may.unowned (keeps-all s.lane s.owner s.page 1 base) (λ page is. is) in
      let p1 = none blank (blank-kept base s may (lane_op_at s.lane) (op_a base s may) ∙ may.idle.op) (heap_of base blank (blank_same base s may)) (blank-kept base s may s.owner (owner_a base s may) ∙ may.unowned) (blank_keeps base s may)
      (λ page is. sym (blank_descriptors base s may page) ∙ is) in
      let p2 = none small (new_page-kept base s may (lane_op_at s.lane) (op_a base s may) (op_b base s may) ∙ may.idle.op) (record { blocks_are = new_page_blocks base s may; rules = new_page_rules base s may })
      (new_page-kept base s may s.owner (owner_a base s may) (owner_b base s may) ∙ may.unowned) (new_page_keeps base s may) small_back in (
        cut-one_store (IsStaged base (on_new_page s)) (page_at s.page) 0 base p0 p1,
        (cut-one_store (IsStaged base (on_new_page s)) (descriptor_at s.page) (2 + s.class) blank p1 p2, p2),
      )

  -- what the words show of it, from what they show of the slot
  none_of : (xs : List ℕ) → IsUnmade small (in_page s) xs → IsUnmade base (on_new_page s) xs
  none_of xs is = record {
    blocks_are = is.blocks_are ∙ new_page_blocks base s may;
    word_is = is.word_is;
    keeps = keeps-then s.lane s.owner s.page 1 base small xs (new_page_keeps base s may) is.keeps;
  }

  unnamed_of : (xs : List ℕ) → IsUnnamed small (in_page s) xs → IsUnnamed base (on_new_page s) xs
  unnamed_of xs is = record {
    blocks_are = is.blocks_are ∙ sym (ap live_blocks (new_slot_words base s may));
    word_is = is.word_is;
    keeps = keeps-then s.lane s.owner s.page 1 base small xs (new_page_keeps base s may) is.keeps;
  }

  made_of : (xs : List ℕ) → IsMade small (in_page s) xs → IsMade base (on_new_page s) xs
  made_of xs is = record {
    blocks_are = is.blocks_are ∙ sym (ap live_blocks (new_slot_words base s may));
    word_is = is.word_is;
    keeps = keeps-then s.lane s.owner s.page 1 base small xs (new_page_keeps base s may) is.keeps;
  }

  stage_of : (xs : List ℕ) → AllocationStage small (in_page s) xs → AllocationStage base (on_new_page s) xs
  stage_of xs (before lane is) = before lane (none_of xs is)
  stage_of xs (logged lane is) = logged lane (none_of xs is)
  stage_of xs (marked lane is) = marked lane (unnamed_of xs is)
  stage_of xs (owned lane is) = owned lane (made_of xs is)
  stage_of xs (made lane is) = made lane (made_of xs is)

  staged_of : (xs : List ℕ) → IsStaged small (in_page s) xs → IsStaged base (on_new_page s) xs
  staged_of xs is = record {
    stage = stage_of xs is.stage;
    rules = λ rules. is.rules (new_page_rules base s may rules);
    given_back = λ page back. small_back page (is.given_back page back);
  }

  rest_staged : (a : Allocation) → a ≡ taking small s → EachCut (IsStaged base (on_new_page s)) (allocation_parts a) small
  rest_staged a is = subst (λ (x : Allocation). EachCut (IsStaged base (on_new_page s)) (allocation_parts x) small) (sym is)
      (each_cut-map (IsStaged small (in_page s)) (IsStaged base (on_new_page s)) (allocation_parts (taking small s)) small staged_of (slot_staged small s (new_slot_may base s may)))

  new_slot_staged : EachCut (IsStaged base (on_new_page s)) (new_page_allocation_parts s.page s.class (slot_allocation s (with_bit 0 s.slot))) base
  new_slot_staged = each_cut-append (IsStaged base (on_new_page s)) (new_page_parts s.page s.class) (allocation_parts (slot_allocation s (with_bit 0 s.slot))) base page_staged
      (rest_staged (slot_allocation s (with_bit 0 s.slot)) (ap (λ (b : ℕ). slot_allocation s (with_bit b s.slot)) (sym (new_bitmap base s may))))

-- ── pages ──

module _ (base : List ℕ) (r : Pages) (may : MayTakeRun base r) where
  abbrev clean : List ℕ
  clean = cleaned base r may

  abbrev all : List ℕ
  all = finished (allocation_parts (pages_allocation r)) (cleaned base r may)

  now : MayTakePages (cleaned base r may) r
  now = cleaned_may base r may

  at_last : IsAt (cleaned base r may) (pages_allocation r) 0 (16 + r.pages) (pointer_word (page_at r.first)) all
  at_last = allocation_ends (cleaned base r may) (pages_allocation r) (take_pages_may (cleaned base r may) r now)

  clean_keeps : KeepsElsewhere r.lane r.owner r.first r.pages base (cleaned base r may)
  clean_keeps = keeps_forgotten base r may (cleaned base r may) (cleaned_between base r may)

  clean_heap : HeapOf base (cleaned base r may)
  clean_heap = record { blocks_are = forgets-blocks base (cleaned base r may) (cleaned_forgets base r may); rules = forgets_rules base (cleaned base r may) (cleaned_forgets base r may) }

  clean_back : IsNoneGivenBack base (cleaned base r may)
  clean_back = forgets_back base (cleaned base r may) (cleaned_forgets base r may)

  forgetting : (image : List ℕ) → IsBetween base (cleaned base r may) image → IsStaged base (in_run r) image
  forgetting image between =
      let forgets = image_forgets base r may image between in
      record {
        stage = before (lane_idle_at r.lane r.owner (page_at r.first) image (op_kept base r may image forgets)) (record {
          blocks_are = forgets-blocks base image forgets;
          word_is = forgets-kept base image forgets r.owner may.idle.owner_is.no_descriptor ∙ may.unowned;
          keeps = keeps_forgotten base r may image between;
        });
        rules = forgets_rules base image forgets;
        given_back = forgets_back base image forgets;
      }

  front_run : (image : List ℕ) → SameButLane r.lane (cleaned base r may) image → IsStaged base (in_run r) image
  front_run image same =
      let heap = heap_then base (cleaned base r may) image clean_heap (lane_heap r.lane (cleaned base r may) image may.idle.lane_is same) in
      let out = owner_outside-lane base r.lane r.owner may.idle in
      record {
        stage = before
            (lane_idle_at r.lane r.owner (page_at r.first) image (same.each (lane_op_at r.lane) (λ e. omega (arith, e)) (λ e. omega (arith, e)) ∙ now.idle.op))
            (record {
              blocks_are = heap.blocks_are;
              word_is = same.each r.owner out.1 out.2 ∙ now.unowned;
              keeps = keeps-then r.lane r.owner r.first r.pages base (cleaned base r may) image clean_keeps (lane_keeps r.lane r.owner r.first r.pages (cleaned base r may) image same);
            });
        rules = heap.rules;
        given_back = λ page is. clean_back page (sym (same.each (descriptor_at page) (descriptor_outside-lane r.lane page may.idle.lane_is).1 (descriptor_outside-lane r.lane page may.idle.lane_is).2) ∙ is);
      }

  module _ (op mark owner : ℕ) (xs : List ℕ) (at : IsAt (cleaned base r may) (pages_allocation r) op mark owner xs) where
    run_kept : KeepsElsewhere r.lane r.owner r.first r.pages base xs
    run_kept = keeps-then r.lane r.owner r.first r.pages base (cleaned base r may) xs clean_keeps (pages_keeps (cleaned base r may) xs r op mark owner now.idle now.run at)

    run_lane : IsChoiceLaneAt (in_run r) op xs
    run_lane = lane_at (cleaned base r may) (pages_allocation r) op mark owner xs at

    run_back : mark ≢ 1 → IsNoneGivenBack base xs
    run_back other page is = ⊎_elim
        (λ (here : page ≡ r.first). absurd (other (sym (pages_head (cleaned base r may) xs r op mark owner now.idle now.run at) ∙ ap (descriptor_of xs) (sym here) ∙ is)))
        (λ apart. clean_back page (sym (pages_others (cleaned base r may) xs r op mark owner now.idle now.run at page apart) ∙ is))
        (cases_eq page r.first)

  old_mark : get_or (cleaned base r may) (mark_at (page_at r.first)) 0 ≡ 0
  old_mark = ap (λ (w : ℕ). get_or (cleaned base r may) w 0) (mark-page r.first) ∙ ap (descriptor_of (cleaned base r may)) (omega arith) ∙ now.clean 0 may.run.some

  run_old : (op owner : ℕ) (xs : List ℕ) → IsAt (cleaned base r may) (pages_allocation r) op 0 owner xs → HeapOf base xs
  run_old op owner xs at = heap_then base (cleaned base r may) xs clean_heap (heap_of (cleaned base r may) xs (pages_unmarked (cleaned base r may) r now op owner xs at))

  run_new : (op owner : ℕ) (xs : List ℕ) → IsAt (cleaned base r may) (pages_allocation r) op (16 + r.pages) owner xs → HeapOf all xs
  run_new op owner xs at = heap_of all xs (pages_marked (cleaned base r may) r now 0 op (pointer_word (page_at r.first)) owner all xs at_last at)

  all_blocks : live_blocks all ≡ live_blocks (finished (choice_parts base (in_run r)) base)
  all_blocks = sym (ap live_blocks (take_run_words base r may))

  all_rules : KeepsHeapRules base → KeepsHeapRules all
  all_rules rules = subst KeepsHeapRules (take_run_words base r may) (choice_rules base (in_run r) rules may)

  rest_of_run : EachCut (IsStaged base (in_run r)) (allocation_parts (pages_allocation r)) (cleaned base r may)
  rest_of_run = allocation_staged (cleaned base r may) (pages_allocation r) (IsStaged base (in_run r)) front_run (take_pages_may (cleaned base r may) r now)
      (λ xs was. let at = subst (λ (m : ℕ). IsAt (cleaned base r may) (pages_allocation r) 1 m 0 xs) old_mark was in let heap = run_old 1 0 xs at in record {
        stage = logged (run_lane 1 0 0 xs at) (record { blocks_are = heap.blocks_are; word_is = at.owner_is; keeps = run_kept 1 0 0 xs at });
        rules = heap.rules;
        given_back = run_back 1 0 0 xs at (λ e. omega (arith, e));
      })
      (λ xs at. let heap = run_new 1 0 xs at in record {
        stage = marked (run_lane 1 (16 + r.pages) 0 xs at) (record { blocks_are = heap.blocks_are ∙ all_blocks; word_is = at.owner_is; keeps = run_kept 1 (16 + r.pages) 0 xs at });
        rules = λ rules. heap.rules (all_rules rules);
        given_back = run_back 1 (16 + r.pages) 0 xs at (λ e. omega (arith, e));
      })
      (λ xs at. let heap = run_new 1 (pointer_word (page_at r.first)) xs at in record {
        stage = owned (run_lane 1 (16 + r.pages) (pointer_word (page_at r.first)) xs at)
            (record { blocks_are = heap.blocks_are ∙ all_blocks; word_is = at.owner_is; keeps = run_kept 1 (16 + r.pages) (pointer_word (page_at r.first)) xs at });
        rules = λ rules. heap.rules (all_rules rules);
        given_back = run_back 1 (16 + r.pages) (pointer_word (page_at r.first)) xs at (λ e. omega (arith, e));
      })
      (λ xs at. let heap = run_new 0 (pointer_word (page_at r.first)) xs at in record {
        stage = made (run_lane 0 (16 + r.pages) (pointer_word (page_at r.first)) xs at)
            (record { blocks_are = heap.blocks_are ∙ all_blocks; word_is = at.owner_is; keeps = run_kept 0 (16 + r.pages) (pointer_word (page_at r.first)) xs at });
        rules = λ rules. heap.rules (all_rules rules);
        given_back = run_back 0 (16 + r.pages) (pointer_word (page_at r.first)) xs at (λ e. omega (arith, e));
      })

  run_staged : EachCut (IsStaged base (in_run r)) (choice_parts base (in_run r)) base
  run_staged = each_cut-append (IsStaged base (in_run r)) (unless_empty (part base r may)) (allocation_parts (pages_allocation r)) base
      (each_cut-unless_empty (IsStaged base (in_run r)) (part base r may) base forgetting)
      (subst (λ (xs : List ℕ). EachCut (IsStaged base (in_run r)) (allocation_parts (pages_allocation r)) xs) (sym (finished-unless_empty (part base r may) base)) rest_of_run)

-- ── whichever way it goes ──

pub choice_staged : (base : List ℕ) (choice : Choice) → MayMake base choice → EachCut (IsStaged base choice) (choice_parts base choice) base
choice_staged base (in_page s) may = slot_staged base s may
choice_staged base (on_new_page s) may = new_slot_staged base s may
choice_staged base (in_run r) may = run_staged base r may
