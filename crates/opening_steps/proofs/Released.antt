-- A block is released: its mark is cleared, whether or not it had one. The heap's rules go on to hold, and no other block is lost.
use Rattle.std.proofs.Common.{◌≡◌, ◌≢◌, ◌⊎◌, inl, inr, ⊎_elim, ℕ, ◌+◌, ◌-◌, ◌*◌, ◌%◌, ◌^◌, ◌<◌, ◌≤◌, Bool, true, false, not, ◌&&◌, eqb, leb, ltb, List, ◌∷◌, ◌++◌, length, get_or, sym, ◌∙◌, ap, subst, arith}
use Rattle.std.specs.Prelude.{Contains}
use Rattle.std.specs.Int.{bit_at}
use Rattle.std.proofs.lemmas.Bool.{and_from, and_parts, both_ways, cases_eq, cases_lt, cond-false, cond-true, eq-eqb, eqb-true, false_from_ne_true, le-leb, leb-true, ltb-true, ne_eqb, or_cases}
use Rattle.std.proofs.lemmas.List.Elements.{Contains-append_cases, Contains-append_left, Contains-append_right}
use Rattle.image_layout.specs.Blocks.{bitmap_of, Block, class_of, descriptor_of, is_given_back, is_inside, is_reserved, is_slot, is_small_page, live_blocks, says_big, says_small, slot_at, slot_in, slots_of}
use Rattle.image_layout.specs.Fixed.{descriptor_at}
use Rattle.image_layout.specs.Places.{page_at, page_count, page_of}
use Rattle.image_layout.proofs.Heap.{big_pages, IsBigOf, IsSmallOf, page_of_block, small_class}
use Rattle.image_layout.proofs.Members.{Contains-cons}
use Rattle.heap_small.specs.Bitmap.{without_bit}
use Rattle.heap_small.proofs.Bitmaps.{without_bit-other, without_bit-same}
use Rattle.heap_palloc.specs.Calls.{KeepsHeapRules}
use Rattle.heap_palloc.specs.Lane.{is_big_place, mark_at}
use Rattle.heap_palloc.specs.Law.{slot_block}
use Rattle.heap_palloc.specs.Shown.{GainsOne}
use Rattle.heap_palloc.proofs.BigBlocks.{head-gains, HeadsRun, inside_elsewhere, inside_run, is_inside-before, no_small_new, no_small_old}
use Rattle.heap_palloc.proofs.Dests.{heap_page}
use Rattle.heap_palloc.proofs.LiveBlocks.{inside_from, is_inside-same, is_small_page-same, live_blocks-kept, live_blocks-same, OnePage, one_page-back, SameHeap, SameInside}
use Rattle.heap_palloc.proofs.Owners.{more_live}
use Rattle.heap_palloc.proofs.Pages.{free_descriptor-blocks}
use Rattle.heap_palloc.proofs.RulesKept.{heads_rules_back, kept_low, kept_small, rules_at, rules_one, without_bit-fits}
use Rattle.heap_palloc.proofs.SameHeaps.{rules_same}
use Rattle.heap_palloc.proofs.Slots.{bit-gains, slot_place, without_bit-clear}
use Rattle.shown_state.specs.Logs.{BeginsPages}
use Rattle.shown_state.specs.Mending.{cleared_mark}

one_or_live : (old new : List Block) (one block : Block) → GainsOne old one new → Contains new block → (one ≡ block) ⊎ Contains old block
one_or_live old new one block gains has = ⊎_elim
    (λ front. inr (back_in (Contains-append_left gains.front gains.back block front)))
    (λ back. ⊎_elim (λ here. inl here) (λ there. inr (back_in (Contains-append_right gains.front gains.back block there))) (Contains-cons one block gains.back back))
    (Contains-append_cases gains.front (one ∷ gains.back) block (subst (λ (xs : List Block). Contains xs block) gains.new_is has))
  where
    back_in : Contains (gains.front ++ gains.back) block → Contains old block
    back_in among = subst (λ (xs : List Block). Contains xs block) (sym gains.old_is) among

-- What becomes of the heap where blocks may go that begin at some places.
pub record HeapGoesOn (old new : List ℕ) (gone : ℕ → Type 0) : Type 0 where
  pub rules : KeepsHeapRules new
  pub blocks : (block : Block) → Contains (live_blocks new) block → Contains (live_blocks old) block
  pub none : (block : Block) → Contains (live_blocks new) block → gone block.first → ⊥
  pub kept : (block : Block) → Contains (live_blocks old) block → gone block.first ⊎ Contains (live_blocks new) block
  pub small : (page : ℕ) → is_small_page new page ≡ is_small_page old page
  pub inside : (page : ℕ) → is_inside new page ≡ true → is_inside old page ≡ true
  pub descriptors : (page : ℕ) → (descriptor_of new page ≡ descriptor_of old page) ⊎ (descriptor_of new page ≡ 0)
  pub given : (page : ℕ) → is_given_back new page ≡ true → is_given_back old page ≡ true

-- where the heap is the same, no block goes
pub heap_same : (old new : List ℕ) → KeepsHeapRules old → SameHeap old new → HeapGoesOn old new (λ place. ⊥)
heap_same old new rules same = record {
  rules = rules_same old new same rules;
  blocks = λ block is. subst (λ (xs : List Block). Contains xs block) (live_blocks-same old new same) is;
  none = λ block is gone. gone;
  kept = λ block is. inr (subst (λ (xs : List Block). Contains xs block) (sym (live_blocks-same old new same)) is);
  small = λ page. is_small_page-same old new inside page (same.pages page).descriptor;
  inside = λ page is. sym (is_inside-same old new inside page) ∙ is;
  descriptors = λ page. inl (same.pages page).descriptor;
  given = λ page is. sym (given page) ∙ is;
}
  where
    inside : SameInside old new
    inside = inside_from old new (λ page. (same.pages page).descriptor)

    given : (page : ℕ) → is_given_back new page ≡ is_given_back old page
    given page =
        ap (λ (b : Bool). not b && eqb (descriptor_of new page) 1) (is_inside-same old new inside page)
        ∙ ap (λ (d : ℕ). not (is_inside old page) && eqb d 1) (same.pages page).descriptor

-- the words of the heap are the same but for a mark, which is cleared
pub record ClearsMark (old new : List ℕ) (place : ℕ) : Type 0 where
  pub size : length new ≡ length old
  pub mark : get_or new (mark_at place) 0 ≡ cleared_mark old place
  pub descriptors : (page : ℕ) → descriptor_at page ≢ mark_at place → descriptor_of new page ≡ descriptor_of old page
  pub bitmaps : (page : ℕ) → is_small_page old page ≡ true → page_at page ≢ mark_at place → bitmap_of new page ≡ bitmap_of old page

-- what is known of a block's place
pub record IsBlockPlace (words : List ℕ) (place : ℕ) : Type 0 where
  pub in_image : page_of place < page_count words
  pub unreserved : is_reserved (page_of place) ≡ false
  pub slot : place % 512 ≢ 0 → is_slot words place ≡ true
  pub pages : place % 512 ≡ 0 → BeginsPages words (page_of place)

module _ (old new : List ℕ) (place : ℕ) (rules : KeepsHeapRules old) (is : IsBlockPlace old place) (clears : ClearsMark old new place) where
  abbrev page : ℕ
  page = page_of place

  header : page % 64 ≢ 0
  header none = let of = heap_page old page is.in_image is.unreserved in let behind = of.behind_header in omega (arith, none, behind)

  -- ── a slot of a small page ──

  module _ (small_place : place % 512 ≢ 0) where
    abbrev class : ℕ
    class = class_of old page

    abbrev slot : ℕ
    slot = slot_in (class_of old page) place

    record IsOwnSlot : Type 0 where
      small : is_small_page old page ≡ true
      within : slot < slots_of class
      at : slot_at page class slot ≡ place

    own : IsOwnSlot
    own =
        let outer = and_parts (is_small_page old page && ltb slot (slots_of class)) (eqb (slot_at page class slot) place) (is.slot small_place) in
        let inner = and_parts (is_small_page old page) (ltb slot (slots_of class)) outer.0 in
        record { small = inner.0; within = ltb-true slot (slots_of class) inner.1; at = eqb-true (slot_at page class slot) place outer.1 }

    says : says_small (descriptor_of old page) ≡ true
    says = (and_parts (not (is_inside old page)) (says_small (descriptor_of old page)) own.small).1

    class_low : class < 6
    class_low = let known = small_class (descriptor_of old page) says in omega (arith, known)

    descriptor_is : descriptor_of old page ≡ 2 + class
    descriptor_is = let known = small_class (descriptor_of old page) says in omega (arith, known)

    mark_is : mark_at place ≡ page_at page
    mark_is = cond-false (is_big_place place) (descriptor_at page) (page_at page) (ne_eqb (place % 512) 0 small_place)

    bitmap_is : bitmap_of new page ≡ without_bit (bitmap_of old page) slot
    bitmap_is =
        ap (λ (w : ℕ). get_or new w 0) (sym mark_is) ∙ clears.mark
        ∙ cond-false (is_big_place place) 0 (without_bit (get_or old (mark_at place) 0) slot) (ne_eqb (place % 512) 0 small_place)
        ∙ ap (λ (w : ℕ). without_bit (get_or old w 0) slot) mark_is

    descriptors_same : (other : ℕ) → descriptor_of new other ≡ descriptor_of old other
    descriptors_same other = clears.descriptors other (λ e. header (omega (arith, e, mark_is)))

    inside_same : SameInside old new
    inside_same = inside_from old new descriptors_same

    one_page : OnePage old new page
    one_page = record {
      size = clears.size;
      in_image = is.in_image;
      inside = inside_same;
      others = λ other apart. record { descriptor = descriptors_same other; bitmap = λ small. clears.bitmaps other small (λ e. apart (omega (arith, e, mark_is))) };
    }

    small_same : (other : ℕ) → is_small_page new other ≡ is_small_page old other
    small_same other = is_small_page-same old new inside_same other (descriptors_same other)

    bit_clear : bit_at (bitmap_of new page) slot ≡ 0
    bit_clear = ap (λ (b : ℕ). bit_at b slot) bitmap_is ∙ without_bit-same (bitmap_of old page) slot

    small_rules : KeepsHeapRules new
    small_rules =
        let was = rules_at old rules page is.in_image in
        let low = was.bitmap own.small in
        rules_one old new page one_page rules
        (kept_small new page class is.unreserved class_low (descriptors_same page ∙ descriptor_is)
        (subst (λ (b : ℕ). b < 2 ^ slots_of class) (sym bitmap_is) (without_bit-fits (bitmap_of old page) slot (slots_of class) own.within low)))

    small_gone : (block : Block) → Contains (live_blocks new) block → block.first ≡ place → ⊥
    small_gone block live first =
        let (other, lt, of) = page_of_block new block live in
        ⊎_elim (λ small. of_small other small) (λ big. of_big other big) of
      where
        of_small : (other : ℕ) → IsSmallOf new other block → ⊥
        of_small other small =
            let same : class_of new other ≡ class_of old other = ap (λ (d : ℕ). d - 2) (descriptors_same other) in
            let known = small_class (descriptor_of new other) small.small in
            let spot = slot_place other (class_of new other) small.slot (omega (arith, known)) small.within in
            let at = ap (λ (b : Block). b.first) small.block_is in
            let here : other ≡ page = sym spot.page_is ∙ ap page_of (at ∙ first) in
            let class_is : class_of new other ≡ class = same ∙ ap (class_of old) here in
            let slot_is : small.slot ≡ slot = sym spot.slot_is ∙ ap (slot_in (class_of new other)) (at ∙ first) ∙ ap (λ (c : ℕ). slot_in c place) class_is in
            let set : bit_at (bitmap_of new page) slot ≡ 1 = ap (bit_at (bitmap_of new page)) (sym slot_is) ∙ ap (λ (p : ℕ). bit_at (bitmap_of new p) small.slot) (sym here) ∙ small.set in
            omega (arith, set, bit_clear)

        of_big : (other : ℕ) → IsBigOf new other block → ⊥
        of_big other big = let at = ap (λ (b : Block). b.first) big.block_is in small_place (omega (arith, at, first))

    same_heap : bit_at (bitmap_of old page) slot ≡ 0 → SameHeap old new
    same_heap none = record {
      size = clears.size;
      pages = λ other. record {
        descriptor = descriptors_same other;
        bitmap = λ small. ⊎_elim
            (λ (e : other ≡ page). ap (bitmap_of new) e ∙ bitmap_is ∙ without_bit-clear (bitmap_of old page) slot none ∙ ap (bitmap_of old) (sym e))
            (λ apart. clears.bitmaps other small (λ e. apart (omega (arith, e, mark_is)))) (cases_eq other page);
      };
    }

    gains : bit_at (bitmap_of old page) slot ≡ 1 → GainsOne (live_blocks new) (slot_block page class slot) (live_blocks old)
    gains set = bit-gains new old page class slot
        (record { page_is = heap_page new page (let lt = is.in_image in let size = clears.size in omega (arith, lt, size)) is.unreserved; class_is = class_low; small = small_same page ∙ own.small; descriptor = descriptors_same page ∙ descriptor_is })
        own.within (one_page-back old new page one_page) (sym (descriptors_same page)) bit_clear set
        (λ other apart. sym (ap (λ (b : ℕ). bit_at b other) bitmap_is ∙ without_bit-other (bitmap_of old page) slot other apart))

    bit_is : (bit_at (bitmap_of old page) slot ≡ 0) ⊎ (bit_at (bitmap_of old page) slot ≡ 1)
    bit_is = omega_bit
      where
        omega_bit : (bit_at (bitmap_of old page) slot ≡ 0) ⊎ (bit_at (bitmap_of old page) slot ≡ 1)
        omega_bit = ⊎_elim (λ none. inl none) (λ some. inr (omega (arith, some))) (cases_eq (bit_at (bitmap_of old page) slot) 0)

    small_released : HeapGoesOn old new (λ other. other ≡ place)
    small_released = record {
      rules = small_rules;
      blocks = λ block live. ⊎_elim
          (λ none. subst (λ (xs : List Block). Contains xs block) (live_blocks-same old new (same_heap none)) live)
          (λ set. more_live (live_blocks new) (live_blocks old) (slot_block page class slot) block (gains set) live) bit_is;
      none = small_gone;
      kept = λ block live. ⊎_elim
          (λ none. inr (subst (λ (xs : List Block). Contains xs block) (sym (live_blocks-same old new (same_heap none))) live))
          (λ set. ⊎_elim (λ same. inl (sym (ap (λ (b : Block). b.first) same) ∙ own.at)) (λ there. inr there)
          (one_or_live (live_blocks new) (live_blocks old) (slot_block page class slot) block (gains set) live)) bit_is;
      small = small_same;
      inside = λ other inside. sym (is_inside-same old new inside_same other) ∙ inside;
      descriptors = λ other. inl (descriptors_same other);
      given = λ other given.
          ap (λ (b : Bool). not b && eqb (descriptor_of old other) 1) (sym (is_inside-same old new inside_same other))
          ∙ ap (λ (d : ℕ). not (is_inside new other) && eqb d 1) (sym (descriptors_same other)) ∙ given;
    }

  -- ── pages ──

  module _ (big_place : place % 512 ≡ 0) where
    begins : BeginsPages old page
    begins = is.pages big_place

    head_mark : mark_at place ≡ descriptor_at page
    head_mark = cond-true (is_big_place place) (descriptor_at page) (page_at page) (eq-eqb (place % 512) 0 big_place)

    head_zero : descriptor_of new page ≡ 0
    head_zero = ap (λ (w : ℕ). get_or new w 0) (sym head_mark) ∙ clears.mark ∙ cond-true (is_big_place place) 0 _ (eq-eqb (place % 512) 0 big_place)

    others_same : (other : ℕ) → other ≢ page → descriptor_of new other ≡ descriptor_of old other
    others_same other apart = clears.descriptors other (λ e. apart (omega (arith, e, head_mark)))

    -- a bitmap stands at no descriptor's place
    bitmaps_same : (other : ℕ) → is_small_page old other ≡ true → bitmap_of new other ≡ bitmap_of old other
    bitmaps_same other small = clears.bitmaps other small (λ e. header (omega (arith, e, head_mark)))

    no_small_page : (words : List ℕ) (other : ℕ) → descriptor_of words other ≤ 1 → is_small_page words other ≡ false
    no_small_page words other low = false_from_ne_true (is_small_page words other) (λ small.
        let known = small_class (descriptor_of words other) (and_parts (not (is_inside words other)) (says_small (descriptor_of words other)) small).1 in
        omega (arith, low, known))

    big_gone : (block : Block) → Contains (live_blocks new) block → block.first ≡ place → ⊥
    big_gone block live first =
        let (other, lt, of) = page_of_block new block live in
        ⊎_elim (λ small. of_small other small) (λ big. of_big other big) of
      where
        of_small : (other : ℕ) → IsSmallOf new other block → ⊥
        of_small other small =
            let known = small_class (descriptor_of new other) small.small in
            let spot = slot_place other (class_of new other) small.slot (omega (arith, known)) small.within in
            let at = ap (λ (b : Block). b.first) small.block_is in
            let behind = spot.behind_bitmap in
            omega (arith, behind, at, first, big_place)

        of_big : (other : ℕ) → IsBigOf new other block → ⊥
        of_big other big =
            let at = ap (λ (b : Block). b.first) big.block_is in
            let here : other ≡ page = omega (arith, at, first, big_place) in
            let head = ap (descriptor_of new) here in
            let high = (big_pages (descriptor_of new other) big.big).0 in
            omega (arith, high, head, head_zero)

    -- ── a page that is free ──

    module _ (low : descriptor_of old page ≤ 1) where
      inside_low : SameInside old new
      inside_low = record {
        each = λ other. ⊎_elim
            (λ (e : other ≡ page). let one = ap (descriptor_of new) e in let two = ap (descriptor_of old) e in omega (arith, one, two, low, head_zero))
            (λ apart. ap (λ (d : ℕ). d - 17) (others_same other apart)) (cases_eq other page);
      }

      low_page : OnePage old new page
      low_page = record {
        size = clears.size;
        in_image = is.in_image;
        inside = inside_low;
        others = λ other apart. record { descriptor = others_same other apart; bitmap = bitmaps_same other };
      }

      low_blocks : live_blocks new ≡ live_blocks old
      low_blocks = live_blocks-kept old new page low_page (free_descriptor-blocks new page (omega (arith, head_zero)) ∙ sym (free_descriptor-blocks old page low))

      low_released : HeapGoesOn old new (λ other. other ≡ place)
      low_released = record {
        rules = rules_one old new page low_page rules (kept_low new page is.unreserved (omega (arith, head_zero)));
        blocks = λ block live. subst (λ (xs : List Block). Contains xs block) low_blocks live;
        none = big_gone;
        kept = λ block live. inr (subst (λ (xs : List Block). Contains xs block) (sym low_blocks) live);
        small = λ other. ⊎_elim
            (λ (e : other ≡ page). ap (is_small_page new) e ∙ no_small_page new page (omega (arith, head_zero)) ∙ sym (no_small_page old page low) ∙ ap (is_small_page old) (sym e))
            (λ apart. is_small_page-same old new inside_low other (others_same other apart)) (cases_eq other page);
        inside = λ other inside. sym (is_inside-same old new inside_low other) ∙ inside;
        descriptors = λ other. ⊎_elim (λ (e : other ≡ page). inr (ap (descriptor_of new) e ∙ head_zero)) (λ apart. inl (others_same other apart)) (cases_eq other page);
        given = λ other given.
            let parts = and_parts (not (is_inside new other)) (eqb (descriptor_of new other) 1) given in
            let one = eqb-true (descriptor_of new other) 1 parts.1 in
            let same = others_same other (λ e. let at = ap (descriptor_of new) e in omega (arith, one, at, head_zero)) in
            and_from (not (is_inside old other)) (eqb (descriptor_of old other) 1)
            (ap not (sym (is_inside-same old new inside_low other)) ∙ parts.0) (ap (λ (d : ℕ). eqb d 1) (sym same) ∙ parts.1);
      }

    -- ── a big block ──

    module _ (whole : length old % 32768 ≡ 0) (big : says_big (descriptor_of old page) ≡ true) (ends : page % 64 + (descriptor_of old page - 16) ≤ 64) where
      abbrev count : ℕ
      count = descriptor_of old page - 16

      zero_in : (k : ℕ) → k < count → descriptor_of new (page + k) ≡ 0
      zero_in k lt = ⊎_elim
          (λ (e : k ≡ 0). ap (λ (i : ℕ). descriptor_of new (page + i)) e ∙ ap (descriptor_of new) (add_zero page) ∙ head_zero)
          (λ some.
          let clean = begins.clean k (omega (arith, some)) (omega (arith, lt)) in
          others_same (page + k) (λ e. omega (arith, e, some)) ∙ clean) (cases_eq k 0)
        where
          add_zero : (n : ℕ) → n + 0 ≡ n
          add_zero n = omega arith

      run : HeadsRun new old page count
      run = record {
        size = sym clears.size;
        in_image = let size = clears.size in let lt = is.in_image in omega (arith, size, lt, whole, ends);
        in_segment = ends;
        some = let known = big_pages (descriptor_of old page) big in let low = known.0 in omega (arith, low);
        most = let known = big_pages (descriptor_of old page) big in let high = known.1 in omega (arith, high);
        not_inside = is_inside-before old new page (λ other apart. others_same other apart) ∙ begins.outside;
        are_free = λ k lt. let none = zero_in k lt in omega (arith, none);
        head = let known = big_pages (descriptor_of old page) big in let low = known.0 in omega (arith, low);
        others = λ other apart. sym (others_same other apart);
        bitmaps = λ other small_new small_old. sym (bitmaps_same other small_old);
      }

      lost : GainsOne (live_blocks new) (record { first = page_at page; words = 512 * count }) (live_blocks old)
      lost = head-gains new old page count run

      -- a page in the run, or not
      where_is : (other : ℕ) → ((page ≤ other) × (other < page + count)) ⊎ ((other < page) ⊎ (page + count ≤ other))
      where_is other = ⊎_elim (λ (before : other < page). inr (inl before))
          (λ from. ⊎_elim (λ (within : other < page + count). inl (from, within)) (λ behind. inr (inr behind)) (cases_lt other (page + count))) (cases_lt other page)

      outside : (other : ℕ) → (other < page) ⊎ (page + count ≤ other) → is_inside old other ≡ is_inside new other
      outside other apart = inside_elsewhere new old page count run other (⊎_elim (λ before. inl before) (λ behind. inr (inl behind)) apart)

      not_page : (other : ℕ) → (other < page) ⊎ (page + count ≤ other) → other ≢ page
      not_page other apart e = let some = run.some in ⊎_elim (λ before. omega (arith, before, e)) (λ behind. omega (arith, behind, e, some)) apart

      big_released : HeapGoesOn old new (λ other. other ≡ place)
      big_released = record {
        rules = heads_rules_back new old page count run (heap_page new page (let lt = is.in_image in let size = clears.size in omega (arith, lt, size)) is.unreserved) rules;
        blocks = λ block live. more_live (live_blocks new) (live_blocks old) (record { first = page_at page; words = 512 * count }) block lost live;
        none = big_gone;
        kept = λ block live. ⊎_elim (λ same. inl (let at = ap (λ (b : Block). b.first) same in omega (arith, at, big_place))) (λ there. inr there)
            (one_or_live (live_blocks new) (live_blocks old) (record { first = page_at page; words = 512 * count }) block lost live);
        small = λ other. ⊎_elim
            (λ within. no_small_old new old page count run other within.0 within.1 ∙ sym (no_small_new new old page count run other within.0 within.1))
            (λ apart.
            ap (λ (b : Bool). not b && says_small (descriptor_of new other)) (sym (outside other apart))
            ∙ ap (λ (d : ℕ). not (is_inside old other) && says_small d) (others_same other (not_page other apart)))
            (where_is other);
        inside = λ other inside. ⊎_elim
            (λ within. ⊎_elim
            (λ (e : other ≡ page). absurd (both_ways (is_inside new other) (ap (is_inside new) e ∙ run.not_inside) inside))
            (λ apart. let low = within.0 in inside_run new old page count run other (omega (arith, low, apart)) within.1) (cases_eq other page))
            (λ apart. outside other apart ∙ inside)
            (where_is other);
        descriptors = λ other. ⊎_elim (λ (e : other ≡ page). inr (ap (descriptor_of new) e ∙ head_zero)) (λ apart. inl (others_same other apart)) (cases_eq other page);
        given = λ other given.
            let parts = and_parts (not (is_inside new other)) (eqb (descriptor_of new other) 1) given in
            let one = eqb-true (descriptor_of new other) 1 parts.1 in
            ⊎_elim
            (λ within.
            let low = within.0 in
            let high = within.1 in
            let back : page + (other - page) ≡ other = omega (arith, low) in
            let none = zero_in (other - page) (omega (arith, low, high)) in
            let at = ap (descriptor_of new) back in
            absurd (omega (arith, none, at, one)))
            (λ apart. and_from (not (is_inside old other)) (eqb (descriptor_of old other) 1)
            (ap not (outside other apart) ∙ parts.0) (ap (λ (d : ℕ). eqb d 1) (sym (others_same other (not_page other apart))) ∙ parts.1))
            (where_is other);
      }

    big_place_released : length old % 32768 ≡ 0 → HeapGoesOn old new (λ other. other ≡ place)
    big_place_released whole =
        let was = rules_at old rules page is.in_image in
        let known = was.known is.unreserved begins.outside in
        ⊎_elim
        (λ low. low_released (free_if (leb-true (descriptor_of old page) 7 low)))
        (λ both.
        let parts = and_parts (says_big (descriptor_of old page)) (leb (page % 64 + (descriptor_of old page - 16)) 64) both in
        big_released whole parts.0 (leb-true (page % 64 + (descriptor_of old page - 16)) 64 parts.1))
        (or_cases (leb (descriptor_of old page) 7) (says_big (descriptor_of old page) && leb (page % 64 + (descriptor_of old page - 16)) 64) known)
      where
        free_if : descriptor_of old page ≤ 7 → descriptor_of old page ≤ 1
        free_if seven = ⊎_elim
            (λ (more : 1 < descriptor_of old page). absurd (both_ways (is_small_page old page) begins.no_small
            (and_from (not (is_inside old page)) (says_small (descriptor_of old page)) (ap not begins.outside)
            (and_from (leb 2 (descriptor_of old page)) (leb (descriptor_of old page) 7) (le-leb 2 (descriptor_of old page) more) (le-leb (descriptor_of old page) 7 seven)))))
            (λ less. less) (cases_lt 1 (descriptor_of old page))

  -- Releasing a block, in an image of whole segments.
  pub released_goes_on : length old % 32768 ≡ 0 → HeapGoesOn old new (λ other. other ≡ place)
  released_goes_on whole = ⊎_elim (λ big. big_place_released big whole) (λ small. small_released small) (cases_eq (place % 512) 0)
