-- The plans on a slot that also make a page small, or free again.
use Rattle.std.proofs.Common.{◌≡◌, ◌≢◌, ℕ, ◌+◌, ◌/◌, ◌<◌, ◌≤◌, Bool, true, false, not, ◌&&◌, cond, eqb, leb, List, [], ◌++◌, length, get_or, set, refl, sym, ◌∙◌, ap, subst, arith}
use Rattle.std.specs.Int.{bit_at}
use Rattle.std.proofs.lemmas.List.{get_or-set_same, get_or-set_other, length-set}
use Rattle.std.proofs.lemmas.Bool.{and_parts, and_right, and_left, eqb-true, eq-eqb, ne_eqb, leb-true, le-leb, lt-leb}
use Rattle.std.proofs.lemmas.Nat.Bits.{bit_at-zero}
use Rattle.pm_model.specs.declared.action.Action.{Action}
use Rattle.image_layout.specs.Fixed.{descriptor_at, lane_op_at}
use Rattle.image_layout.specs.Pointer.{pointer_word}
use Rattle.image_layout.specs.Places.{page_of, page_at}
use Rattle.pm_model.specs.Plans.{EachCut, finished}
use Rattle.image_layout.specs.Blocks.{Block, slot_words, slot_at, says_small, descriptor_of, bitmap_of, class_of, is_inside, is_small_page, live_blocks}
use Rattle.heap_small.specs.Bitmap.{with_bit}
use Rattle.heap_palloc.specs.Lane.{mended_lane}
use Rattle.heap_palloc.specs.Parts.{Allocation, allocation_parts, new_page_parts, new_page_allocation_parts, freeing_parts, free_page_parts, small_freeing_parts}
use Rattle.heap_palloc.specs.Shown.{GainsOne}
use Rattle.heap_palloc.specs.Law.{KeepsElsewhere, Shows, ChangesShown, Allocates, Frees, IsHeapPage, Slot, slot_block, slot_allocation, taking, taken, MayTakeSlot, MayTakeNewSlot, MayFreeSlot}
use Rattle.pm_model.proofs.Cuts.{cut-one_store, finished-append}
use Rattle.heap_palloc.proofs.Changes.{keeps-all, keeps-then, shows-idle, changes-front, changes-back, changes-origin}
use Rattle.heap_palloc.proofs.LiveBlocks.{small_blocks, inside_from, is_inside-same, is_small_page-same, OnePage, SameHeap, live_blocks-same, live_blocks-kept, one_page-then, same_heap-one}
use Rattle.heap_palloc.proofs.Pages.{free_descriptor-blocks, small_blocks-zero, set_descriptor-one, set_descriptor-here, set_descriptor-bitmap, set_bitmap-same}
use Rattle.heap_palloc.proofs.Slots.{descriptor_outside-lane, bitmap_outside-lane, small_page-blocks}
use Rattle.heap_palloc.proofs.SlotPlans.{take_slot_allocates, take_one, take_bitmap, take_descriptor, slot_clear, free_one, free_words, free_bitmap, free_small, free_idle, free_keeps, free_slot_frees, free_owner}

-- ── the freeing of a slot, whose page is free again where no block is left in it ──

module _ (base : List ℕ) (s : Slot) (may : MayFreeSlot base s) where
  abbrev clear : ℕ
  clear = slot_clear base s may

  abbrev freed : List ℕ
  freed = free_words base s may

  abbrev page_freed : List ℕ
  page_freed = set freed (descriptor_at s.page) 0

  pub page_freed-blocks : clear ≡ 0 → live_blocks page_freed ≡ live_blocks freed
  page_freed-blocks zero =
      let small = free_small base s may in
      live_blocks-kept freed page_freed s.page (set_descriptor-one freed s.page small.page_is 0 (omega (arith, small.descriptor, small.class_is)))
      (free_descriptor-blocks page_freed s.page (omega (arith, set_descriptor-here freed s.page small.page_is 0))
      ∙ sym (small_page-blocks freed s.page small.small ∙ ap (small_blocks s.page (class_of freed s.page)) (free_bitmap base s may ∙ zero) ∙ small_blocks-zero s.page (class_of freed s.page)))

  pub page_freed-kept : (w : ℕ) → w ≢ descriptor_at s.page → get_or page_freed w 0 ≡ get_or freed w 0
  page_freed-kept w apart = get_or-set_other freed (descriptor_at s.page) w 0 0 apart

  abbrev ShowsFreed : List Block → List ℕ → Type 0
  ShowsFreed blocks image = Shows s.lane s.owner s.page 1 base blocks 0 (mended_lane s.lane image)

  page_cuts : clear ≡ 0 → EachCut (ShowsFreed (live_blocks freed)) (free_page_parts s.page) freed
  page_cuts zero =
      let before : ShowsFreed (live_blocks freed) freed = shows-idle s.lane s.owner s.page 1 base (live_blocks freed) 0 freed (free_idle base s may) refl (free_owner base s may) (free_keeps base s may) in
      let after : ShowsFreed (live_blocks freed) page_freed = shows-idle s.lane s.owner s.page 1 base (live_blocks freed) 0 page_freed
      (page_freed-kept (lane_op_at s.lane) (λ e. (descriptor_outside-lane s.lane s.page may.idle.lane_is).0 (sym e)) ∙ free_idle base s may)
      (page_freed-blocks zero)
      (page_freed-kept s.owner (λ e. omega (arith, e, may.idle.owner_is.no_descriptor)) ∙ free_owner base s may)
      (keeps-then s.lane s.owner s.page 1 base freed page_freed (free_keeps base s may) (record { size = length-set freed (descriptor_at s.page) 0; each = λ w e. page_freed-kept w (λ x. e.no_descriptor s.page (omega arith) (omega arith) x) })) in
      (cut-one_store (ShowsFreed (live_blocks freed)) (descriptor_at s.page) 0 freed before after, after)

  abbrev tail : Bool → List (List Action)
  tail b = cond b (free_page_parts s.page) []

  frees_by : (b : Bool) → eqb clear 0 ≡ b → Frees (taken base s) s.page 1 (slot_words s.class) (freeing_parts (taken base s) clear ++ tail b) base
  frees_by true is =
      let frees = free_slot_frees base s may in
      let zero = eqb-true clear 0 is in
      let last : live_blocks (finished (freeing_parts (taken base s) clear ++ tail true) base) ≡ live_blocks freed = ap live_blocks (finished-append (freeing_parts (taken base s) clear) (tail true) base) ∙ page_freed-blocks zero in
      let P : List Block → Type 0 = λ blocks. GainsOne blocks (slot_block s.page s.class s.slot) (live_blocks base) in
      let Q : List Block → Type 0 = λ blocks. ChangesShown s.lane s.owner s.page 1 base (live_blocks base) (pointer_word (slot_at s.page s.class s.slot)) blocks 0 (freeing_parts (taken base s) clear ++ tail true) base in
      record {
        loses = subst P (sym last) frees.loses;
        changes = subst Q (sym last) (changes-back s.lane s.owner s.page 1 base (live_blocks base) (pointer_word (slot_at s.page s.class s.slot)) (live_blocks freed) 0 (freeing_parts (taken base s) clear) (tail true) base frees.changes (page_cuts zero)
            (page_freed-kept (lane_op_at s.lane) (λ e. (descriptor_outside-lane s.lane s.page may.idle.lane_is).0 (sym e)) ∙ free_idle base s may));
      }
  frees_by false is =
      let frees = free_slot_frees base s may in
      let shown : ShowsFreed (live_blocks freed) freed = frees.changes.ends in
      let last : live_blocks (finished (freeing_parts (taken base s) clear ++ tail false) base) ≡ live_blocks freed = ap live_blocks (finished-append (freeing_parts (taken base s) clear) (tail false) base) in
      let P : List Block → Type 0 = λ blocks. GainsOne blocks (slot_block s.page s.class s.slot) (live_blocks base) in
      let Q : List Block → Type 0 = λ blocks. ChangesShown s.lane s.owner s.page 1 base (live_blocks base) (pointer_word (slot_at s.page s.class s.slot)) blocks 0 (freeing_parts (taken base s) clear ++ tail false) base in
      record {
        loses = subst P (sym last) frees.loses;
        changes = subst Q (sym last) (changes-back s.lane s.owner s.page 1 base (live_blocks base) (pointer_word (slot_at s.page s.class s.slot)) (live_blocks freed) 0 (freeing_parts (taken base s) clear) (tail false) base frees.changes shown (free_idle base s may));
      }

  pub free_slot_frees_all : Frees (taken base s) s.page 1 (slot_words s.class) (small_freeing_parts s.page (taken base s) clear) base
  free_slot_frees_all = frees_by (eqb clear 0) refl

  -- what it leaves of the page, and of all others
  pub page_freed_words : clear ≡ 0 → finished (small_freeing_parts s.page (taken base s) clear) base ≡ set freed (descriptor_at s.page) 0
  page_freed_words zero =
      ap (λ (b : Bool). finished (freeing_parts (taken base s) clear ++ cond b (free_page_parts s.page) []) base) (eq-eqb clear 0 zero)
      ∙ finished-append (freeing_parts (taken base s) clear) (free_page_parts s.page) base

  pub page_kept_words : clear ≢ 0 → finished (small_freeing_parts s.page (taken base s) clear) base ≡ freed
  page_kept_words some =
      ap (λ (b : Bool). finished (freeing_parts (taken base s) clear ++ cond b (free_page_parts s.page) []) base) (ne_eqb clear 0 some)
      ∙ finished-append (freeing_parts (taken base s) clear) [] base

  pub page_freed_one : OnePage base (set freed (descriptor_at s.page) 0) s.page
  page_freed_one =
      let small = free_small base s may in
      one_page-then base freed (set freed (descriptor_at s.page) 0) s.page (free_one base s may) (set_descriptor-one freed s.page small.page_is 0 (omega (arith, small.descriptor, small.class_is)))

  pub page_freed_descriptor : descriptor_of (set freed (descriptor_at s.page) 0) s.page ≡ 0
  page_freed_descriptor = set_descriptor-here freed s.page (free_small base s may).page_is 0

-- ── a slot of a page that is made small first ──

module _ (base : List ℕ) (s : Slot) (may : MayTakeNewSlot base s) where
  -- the bitmap, and then the descriptor
  abbrev blank : List ℕ
  blank = set base (page_at s.page) 0

  abbrev pub new_page_words : List ℕ
  new_page_words = set blank (descriptor_at s.page) (2 + s.class)

  is_low : descriptor_of base s.page ≤ 1
  is_low = leb-true (descriptor_of base s.page) 1 (and_parts (not (is_inside base s.page)) _ may.is_free).1

  outside : not (is_inside base s.page) ≡ true
  outside = (and_parts (not (is_inside base s.page)) _ may.is_free).0

  not_small : is_small_page base s.page ≡ false
  not_small = and_right (not (is_inside base s.page)) (says_small (descriptor_of base s.page)) (and_left (leb 2 (descriptor_of base s.page)) (leb (descriptor_of base s.page) 7) (lt-leb 2 (descriptor_of base s.page) (omega (arith, is_low))))

  pub blank_same : SameHeap base (set base (page_at s.page) 0)
  blank_same = set_bitmap-same base s.page may.page_is 0 not_small

  pub blank_descriptors : (page : ℕ) → descriptor_of (set base (page_at s.page) 0) page ≡ descriptor_of base page
  blank_descriptors page = (blank_same.pages page).descriptor

  blank_page : IsHeapPage blank s.page
  blank_page = record { in_image = subst (λ (n : ℕ). s.page < n / 512) (sym (length-set base (page_at s.page) 0)) may.page_is.in_image; behind_header = may.page_is.behind_header; behind_fixed = may.page_is.behind_fixed }

  blank_descriptor : descriptor_of blank s.page ≡ descriptor_of base s.page
  blank_descriptor = get_or-set_other base (page_at s.page) (descriptor_at s.page) 0 0 (λ e. omega (arith, e, may.page_is.behind_header))

  blank_blocks : live_blocks blank ≡ live_blocks base
  blank_blocks = live_blocks-same base blank (set_bitmap-same base s.page may.page_is 0 not_small)

  pub new_page_one : OnePage blank new_page_words s.page
  new_page_one = set_descriptor-one blank s.page blank_page (2 + s.class) (omega (arith, may.class_is, blank_descriptor, is_low))

  pub new_descriptor : descriptor_of new_page_words s.page ≡ 2 + s.class
  new_descriptor = set_descriptor-here blank s.page blank_page (2 + s.class)

  pub new_bitmap : bitmap_of new_page_words s.page ≡ 0
  new_bitmap = set_descriptor-bitmap blank s.page blank_page (2 + s.class) s.page ∙ get_or-set_same base (page_at s.page) 0 0 (omega (arith, may.page_is.in_image))

  inside_kept : not (is_inside new_page_words s.page) ≡ not (is_inside base s.page)
  inside_kept = ap not (is_inside-same blank new_page_words new_page_one.inside s.page ∙ is_inside-same base blank (inside_from base blank (λ p. ((set_bitmap-same base s.page may.page_is 0 not_small).pages p).descriptor)) s.page)

  new_small : is_small_page new_page_words s.page ≡ true
  new_small = ap (λ (b : Bool). b && says_small (descriptor_of new_page_words s.page)) (inside_kept ∙ outside)
      ∙ ap says_small new_descriptor ∙ ap (λ (b : Bool). b && leb (2 + s.class) 7) (le-leb 2 (2 + s.class) (omega arith)) ∙ le-leb (2 + s.class) 7 (omega (arith, may.class_is))

  pub new_page_blocks : live_blocks new_page_words ≡ live_blocks base
  new_page_blocks = live_blocks-kept blank new_page_words s.page new_page_one
      (small_page-blocks new_page_words s.page new_small ∙ ap (small_blocks s.page (class_of new_page_words s.page)) new_bitmap ∙ small_blocks-zero s.page (class_of new_page_words s.page)
      ∙ sym (free_descriptor-blocks blank s.page (omega (arith, blank_descriptor, is_low))))
      ∙ blank_blocks

  pub blank-kept : (w : ℕ) → w ≢ page_at s.page → get_or blank w 0 ≡ get_or base w 0
  blank-kept w apart = get_or-set_other base (page_at s.page) w 0 0 apart

  pub new_page-kept : (w : ℕ) → w ≢ page_at s.page → w ≢ descriptor_at s.page → get_or new_page_words w 0 ≡ get_or base w 0
  new_page-kept w x y = get_or-set_other blank (descriptor_at s.page) w (2 + s.class) 0 y ∙ blank-kept w x

  pub blank_keeps : KeepsElsewhere s.lane s.owner s.page 1 base blank
  blank_keeps = record { size = length-set base (page_at s.page) 0; each = λ w e. blank-kept w e.no_bitmap }

  pub new_page_keeps : KeepsElsewhere s.lane s.owner s.page 1 base new_page_words
  new_page_keeps = record { size = length-set blank (descriptor_at s.page) (2 + s.class) ∙ length-set base (page_at s.page) 0; each = λ w e. new_page-kept w e.no_bitmap (λ x. e.no_descriptor s.page (omega arith) (omega arith) x) }

  pub op_a : lane_op_at s.lane ≢ page_at s.page
  op_a e = (bitmap_outside-lane s.lane s.page may.idle.lane_is).0 (sym e)

  pub op_b : lane_op_at s.lane ≢ descriptor_at s.page
  op_b e = (descriptor_outside-lane s.lane s.page may.idle.lane_is).0 (sym e)

  pub owner_a : s.owner ≢ page_at s.page
  owner_a e = may.owner_elsewhere (omega (arith, e))

  pub owner_b : s.owner ≢ descriptor_at s.page
  owner_b e = omega (arith, e, may.idle.owner_is.no_descriptor)

  abbrev ShowsNone : List ℕ → Type 0
  ShowsNone image = Shows s.lane s.owner s.page 1 base (live_blocks base) 0 (mended_lane s.lane image)

  -- making the page shows no block and 0
  page_made : EachCut ShowsNone (new_page_parts s.page s.class) base
  page_made =
      let none0 : ShowsNone base = shows-idle s.lane s.owner s.page 1 base (live_blocks base) 0 base may.idle.op refl may.unowned (keeps-all s.lane s.owner s.page 1 base) in
      let none1 : ShowsNone blank = shows-idle s.lane s.owner s.page 1 base (live_blocks base) 0 blank (blank-kept (lane_op_at s.lane) op_a ∙ may.idle.op) blank_blocks (blank-kept s.owner owner_a ∙ may.unowned) blank_keeps in
      let none2 : ShowsNone new_page_words = shows-idle s.lane s.owner s.page 1 base (live_blocks base) 0 new_page_words (new_page-kept (lane_op_at s.lane) op_a op_b ∙ may.idle.op) new_page_blocks (new_page-kept s.owner owner_a owner_b ∙ may.unowned) new_page_keeps in
      (cut-one_store ShowsNone (page_at s.page) 0 base none0 none1, (cut-one_store ShowsNone (descriptor_at s.page) (2 + s.class) blank none1 none2, none2))

  size_kept : length new_page_words ≡ length base
  size_kept = length-set blank (descriptor_at s.page) (2 + s.class) ∙ length-set base (page_at s.page) 0

  owner_small : is_small_page new_page_words (page_of s.owner) ≡ is_small_page base (page_of s.owner)
  owner_small =
      is_small_page-same blank new_page_words new_page_one.inside (page_of s.owner) (new_page_one.others (page_of s.owner) may.owner_elsewhere).descriptor
      ∙ is_small_page-same base blank (inside_from base blank (λ p. ((set_bitmap-same base s.page may.page_is 0 not_small).pages p).descriptor)) (page_of s.owner) ((set_bitmap-same base s.page may.page_is 0 not_small).pages (page_of s.owner)).descriptor

  -- and then its slot may be allocated
  pub new_slot_may : MayTakeSlot new_page_words s
  new_slot_may = record {
    idle = record {
      lane_is = may.idle.lane_is;
      op = new_page-kept (lane_op_at s.lane) op_a op_b ∙ may.idle.op;
      owner_is = record {
        in_image = subst (λ (n : ℕ). s.owner < n) (sym size_kept) may.idle.owner_is.in_image;
        outside_lanes = may.idle.owner_is.outside_lanes;
        no_descriptor = may.idle.owner_is.no_descriptor;
        no_bitmap = λ small. may.idle.owner_is.no_bitmap (sym owner_small ∙ small);
      };
    };
    unowned = new_page-kept s.owner owner_a owner_b ∙ may.unowned;
    page_is = record {
      page_is = record { in_image = subst (λ (n : ℕ). s.page < n / 512) (sym size_kept) may.page_is.in_image; behind_header = may.page_is.behind_header; behind_fixed = may.page_is.behind_fixed };
      class_is = may.class_is;
      small = new_small;
      descriptor = new_descriptor;
    };
    slot_is = may.slot_is;
    clear = ap (λ (b : ℕ). bit_at b s.slot) new_bitmap ∙ bit_at-zero s.slot;
  }

  abbrev new_parts : Allocation → List (List Action)
  new_parts a = new_page_allocation_parts s.page s.class a

  law_by : (a : Allocation) → a ≡ taking new_page_words s → Allocates a s.page 1 (slot_words s.class) (new_parts a) base
  law_by a is = subst (λ (x : Allocation). Allocates x s.page 1 (slot_words s.class) (new_parts x) base) (sym is)
      (let allocates = take_slot_allocates new_page_words s new_slot_may in
      let last : live_blocks (finished (new_parts (taking new_page_words s)) base) ≡ live_blocks (finished (allocation_parts (taking new_page_words s)) new_page_words) = ap live_blocks (finished-append (new_page_parts s.page s.class) (allocation_parts (taking new_page_words s)) base) in
      let P : List Block → Type 0 = λ blocks. GainsOne blocks (slot_block s.page s.class s.slot) (live_blocks (finished (allocation_parts (taking new_page_words s)) new_page_words)) in
      let R : List Block → Type 0 = λ blocks. ChangesShown s.lane s.owner s.page 1 base blocks 0 (live_blocks (finished (allocation_parts (taking new_page_words s)) new_page_words)) (pointer_word (slot_at s.page s.class s.slot)) (allocation_parts (taking new_page_words s)) new_page_words in
      record {
        gains = subst P new_page_blocks allocates.gains;
        changes = changes-front s.lane s.owner s.page 1 base (live_blocks base) 0 (live_blocks (finished (allocation_parts (taking new_page_words s)) new_page_words)) (pointer_word (slot_at s.page s.class s.slot))
            (new_page_parts s.page s.class) (allocation_parts (taking new_page_words s)) base page_made (subst R new_page_blocks
            (changes-origin s.lane s.owner s.page 1 new_page_words (live_blocks new_page_words) 0 (live_blocks (finished (allocation_parts (taking new_page_words s)) new_page_words)) (pointer_word (slot_at s.page s.class s.slot)) base
            (allocation_parts (taking new_page_words s)) new_page_words new_page_keeps allocates.changes));
      })

  pub new_slot_allocates : Allocates (slot_allocation s (with_bit 0 s.slot)) s.page 1 (slot_words s.class) (new_parts (slot_allocation s (with_bit 0 s.slot))) base
  new_slot_allocates = law_by (slot_allocation s (with_bit 0 s.slot)) (ap (λ (b : ℕ). slot_allocation s (with_bit b s.slot)) (sym new_bitmap))

  -- what it leaves of the page, and of all others
  pub new_slot_words : finished (new_parts (slot_allocation s (with_bit 0 s.slot))) base ≡ finished (allocation_parts (taking new_page_words s)) new_page_words
  new_slot_words =
      finished-append (new_page_parts s.page s.class) (allocation_parts (slot_allocation s (with_bit 0 s.slot))) base
      ∙ ap (λ (b : ℕ). finished (allocation_parts (slot_allocation s (with_bit b s.slot))) new_page_words) (sym new_bitmap)

  pub new_slot_one : OnePage base (finished (allocation_parts (taking new_page_words s)) new_page_words) s.page
  new_slot_one =
      one_page-then base new_page_words (finished (allocation_parts (taking new_page_words s)) new_page_words) s.page
      (one_page-then base blank new_page_words s.page (same_heap-one base blank s.page may.page_is.in_image (set_bitmap-same base s.page may.page_is 0 not_small)) new_page_one)
      (take_one new_page_words s new_slot_may)

  pub new_slot_descriptor : descriptor_of (finished (allocation_parts (taking new_page_words s)) new_page_words) s.page ≡ 2 + s.class
  new_slot_descriptor = take_descriptor new_page_words s new_slot_may ∙ new_descriptor

  pub new_slot_bitmap : bitmap_of (finished (allocation_parts (taking new_page_words s)) new_page_words) s.page ≡ with_bit 0 s.slot
  new_slot_bitmap = take_bitmap new_page_words s new_slot_may ∙ ap (λ (b : ℕ). with_bit b s.slot) new_bitmap

  pub was_low : descriptor_of base s.page ≤ 1
  was_low = is_low
