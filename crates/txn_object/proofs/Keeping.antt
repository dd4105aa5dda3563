-- What stays where only an object's state, its commit word and its entries change: its rule, the heap, and what planning an
-- extension relies on.
use Rattle.std.proofs.Common.{◌≡◌, ◌≢◌, inl, ⊎_elim, ℕ, ◌+◌, ◌-◌, ◌^◌, ◌<◌, ◌≤◌, min, true, not, leb, List, length, get_or, sym, ◌∙◌, ap, subst, arith}
use Rattle.std.specs.Prelude.{Contains}
use Rattle.std.proofs.lemmas.Bool.{and_parts}
use Rattle.image_layout.specs.Fixed.{state_at, commit_word_at, ready_at, last_at, lane_op_at, entry_at, descriptor_at}
use Rattle.image_layout.specs.Places.{page_at, place_in}
use Rattle.image_layout.specs.Blocks.{Block, says_small, descriptor_of, is_inside, is_small_page, live_blocks}
use Rattle.image_layout.specs.Objects.{commit_word, ready_count, segment_pointer_at, segment_of, entry_places}
use Rattle.heap_palloc.specs.Index.{HeapIndex}
use Rattle.heap_palloc.proofs.Dests.{small_heap_page}
use Rattle.heap_palloc.proofs.LiveBlocks.{SameHeap, live_blocks-same}
use Rattle.heap_palloc.proofs.SameHeaps.{index_kept, rules_same}
use Rattle.txn_object.specs.Extension.{segment_block, HasSegments}
use Rattle.txn_object.specs.Shown.{HasObject}
use Rattle.txn_object.specs.Calls.{next_pointer, MayPlanExtension}
use Rattle.txn_object.proofs.Frames.{SameFrame, pointer_same, segment_same, ready_pointers_same, frame_object, pointer_not_low, entry_not_fixed, entry_not_pointer, place_cases}
use Rattle.txn_object.proofs.Taken.{taken}
use Rattle.txn_object.proofs.Readying.{descriptor_outside, bitmap_outside}

-- the same words, but for the object's state, its commit word and its entries
pub record SameButEntries (old new : List ℕ) (object : ℕ) : Type 0 where
  pub size : length new ≡ length old
  pub state : get_or new (state_at object) 0 ≤ 1
  pub commit : leb (commit_word new object) (min (get_or old last_at 0 + 1) (2 ^ 40 - 1)) ≡ true
  pub each : (w : ℕ) → w ≢ state_at object → w ≢ commit_word_at object → ((nth : ℕ) → nth < length (entry_places old object) → w ≢ get_or (entry_places old object) nth 0) → get_or new w 0 ≡ get_or old w 0

module _ (old new : List ℕ) (object : ℕ) (has : HasObject old object) (same : SameButEntries old new object) where
  kept_fixed : (w : ℕ) → w < 2048 → w < entry_at object 0 → w ≢ state_at object → w ≢ commit_word_at object → get_or new w 0 ≡ get_or old w 0
  kept_fixed w low before state commit = same.each w state commit (λ nth lt e. entry_not_fixed old object has nth w lt low (inl before) (sym e))

  pub kept_frame : SameFrame old new object
  kept_frame = record {
    size = same.size;
    ready = let number = has.number in kept_fixed (ready_at object) (omega (arith, number)) (omega arith) (λ e. omega (arith, e)) (λ e. omega (arith, e));
    pointers = λ k le. same.each (segment_pointer_at old object k)
        (pointer_not_low old object has k (state_at object) le (omega arith))
        (pointer_not_low old object has k (commit_word_at object) le (omega arith))
        (λ nth lt e. entry_not_pointer old object has nth k lt le (sym e));
  }

  pub kept_object : HasObject new object
  kept_object = frame_object old new object kept_frame has same.state
      (ap (λ (n : ℕ). leb (commit_word new object) (min (n + 1) (2 ^ 40 - 1))) (kept_fixed last_at (omega arith) (omega arith) (λ e. omega (arith, e)) (λ e. omega (arith, e))) ∙ same.commit)

  segment_kept : (k : ℕ) → k < ready_count old object → segment_of new object k ≡ segment_of old object k
  segment_kept k lt = segment_same old new object (ready_count old object) (ready_pointers_same old new object kept_frame) k lt

  module _ (segments : HasSegments old object) where
    -- no entry stands in a descriptor or in a bitmap
    entry_not_descriptor : (nth p : ℕ) → nth < length (entry_places old object) → descriptor_at p ≢ get_or (entry_places old object) nth 0
    entry_not_descriptor nth p lt e = ⊎_elim
        (λ own. let at = own.1 in let small = own.0 in let number = has.number in omega (arith, at, small, number, e))
        (λ more.
        let is = taken old segments.rules (segment_of old object more.segment) (segments.live more.segment more.ready) in
        let at = more.place_is in let small = more.small in
        ⊎_elim (λ before. omega (arith, before, at, small, e)) (λ behind. omega (arith, behind, at, small, e))
        (descriptor_outside object (segment_of old object more.segment) is.page has.number old is.stands p))
        (place_cases old object nth lt)

    entry_not_bitmap : (nth p : ℕ) → nth < length (entry_places old object) → page_at p ≢ get_or (entry_places old object) nth 0
    entry_not_bitmap nth p lt e = ⊎_elim
        (λ own. let at = own.1 in let small = own.0 in let number = has.number in omega (arith, at, small, number, e))
        (λ more.
        let is = taken old segments.rules (segment_of old object more.segment) (segments.live more.segment more.ready) in
        let at = more.place_is in let small = more.small in
        ⊎_elim (λ before. omega (arith, before, at, small, e)) (λ behind. omega (arith, behind, at, small, e))
        (bitmap_outside object (segment_of old object more.segment) is.page has.number old is.stands p))
        (place_cases old object nth lt)

    -- the state may stand where a page begins, but such a page isn't small
    state_not_bitmap : (p : ℕ) → is_small_page old p ≡ true → page_at p ≢ state_at object
    state_not_bitmap p small e =
        let number = has.number in let size = has.size in
        let page_is = small_heap_page old segments.rules p (omega (arith, number, size, e)) (and_parts (not (is_inside old p)) (says_small (descriptor_of old p)) small).1 in
        let fixed = page_is.behind_fixed in omega (arith, fixed, number, e)

    pub kept_heap : SameHeap old new
    kept_heap = record {
      size = same.size;
      pages = λ p. let number = has.number in record {
        descriptor = same.each (descriptor_at p) (λ e. omega (arith, e, number)) (λ e. omega (arith, e, number)) (λ nth lt. entry_not_descriptor nth p lt);
        bitmap = λ small. same.each (page_at p) (state_not_bitmap p small) (λ e. omega (arith, e)) (λ nth lt. entry_not_bitmap nth p lt);
      };
    }

    pub kept_segments : HasSegments new object
    kept_segments =
        let ready = kept_frame.ready in record {
          rules = rules_same old new kept_heap segments.rules;
          rule = kept_object.rule;
          live = λ k lt.
              let there : k < ready_count old object = omega (arith, lt, ready) in
              subst (λ (blocks : List Block). Contains blocks (segment_block (segment_of new object k))) (sym (live_blocks-same old new kept_heap))
              (subst (λ (at : ℕ). Contains (live_blocks old) (segment_block at)) (sym (segment_kept k there)) (segments.live k there));
        }

  next_kept : next_pointer new object ≡ next_pointer old object
  next_kept =
      ap (λ (n : ℕ). get_or new (segment_pointer_at new object n) 0) kept_frame.ready
      ∙ ap (λ (at : ℕ). get_or new at 0) (pointer_same old new object (ready_count old object) (ready_pointers_same old new object kept_frame) (ready_count old object) (omega arith))
      ∙ kept_frame.pointers (ready_count old object) (omega arith)

  -- the next extension may be planned as before
  pub kept_extension : (index : HeapIndex) → MayPlanExtension old index object → MayPlanExtension new index object
  kept_extension index may =
      let ready = kept_frame.ready in record {
        segments = kept_segments may.segments;
        index_of = index_kept old new index (kept_heap may.segments) may.index_of;
        idle = let number = has.number in kept_fixed (lane_op_at object) (omega (arith, number)) (omega (arith, number)) (λ e. omega (arith, e, number)) (λ e. omega (arith, e, number)) ∙ may.idle;
        owned = λ lt some.
            let own = may.owned (omega (arith, lt, ready)) (λ none. some (next_kept ∙ none)) in
            let here = next_kept in record {
              live = subst (λ (blocks : List Block). Contains blocks (segment_block (place_in (next_pointer new object)))) (sym (live_blocks-same old new (kept_heap may.segments))) (subst (λ (word : ℕ). Contains (live_blocks old) (segment_block (place_in word))) (sym here) own.live);
              apart = λ k below e. own.apart k (omega (arith, below, ready)) (sym (segment_kept k (omega (arith, below, ready))) ∙ e ∙ ap place_in here);
            };
      }
