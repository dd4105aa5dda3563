-- A slot of a small page: where it stands, and what its bit changes in the live blocks.
use Rattle.std.proofs.Common.{◌≡◌, ◌≢◌, ⊎_elim, ℕ, ◌+◌, ◌-◌, ◌*◌, ◌%◌, ◌<◌, ◌≤◌, true, false, eqb, List, get_or, refl, sym, ◌∙◌, ap, subst, arith}
use Rattle.std.specs.List.{filter}
use Rattle.std.specs.Int.{bit_at}
use Rattle.std.proofs.lemmas.Bool.{cases_eq, cond-true, cond-false, eq-eqb, ne_eqb}
use Rattle.image_layout.specs.Fixed.{descriptor_at}
use Rattle.image_layout.specs.Places.{below, page_of, page_at}
use Rattle.image_layout.specs.Blocks.{Block, slot_words, slots_of, slot_at, slot_in, descriptor_of, is_small_page, bitmap_of, class_of, blocks_of_page, live_blocks}
use Rattle.heap_small.specs.Bitmap.{without_bit}
use Rattle.heap_palloc.specs.Lane.{is_big_place, mark_at, unmarked}
use Rattle.heap_palloc.specs.Parts.{Allocation}
use Rattle.heap_palloc.specs.Shown.{IsOutsideLane, SameButLane, IsAt, GainsOne}
use Rattle.heap_palloc.specs.Law.{slot_block, IsOwnerPlace, IsHeapPage, IsSmallPage}
use Rattle.heap_small.proofs.Bitmaps.{without_bit-is}
use Rattle.heap_big.proofs.Gains.{gains-map, filter-gains}
use Rattle.heap_palloc.proofs.LiveBlocks.{small_blocks, blocks_of_page-by, is_small_page-same, SameHeap, OnePage, live_blocks-gains}

-- ── the bit of a slot ──

-- a bit that is clear stays so where it is cleared
pub without_bit-clear : (n bit : ℕ) → bit_at n bit ≡ 0 → without_bit n bit ≡ n
without_bit-clear n bit clear = sym (without_bit-is n bit n clear (λ other apart. refl))

-- ── where a slot stands ──

-- what holds at each class holds below 6
each_class : (P : ℕ → Type 0) → P 0 → P 1 → P 2 → P 3 → P 4 → P 5 → (class : ℕ) → class < 6 → P class
each_class P p0 p1 p2 p3 p4 p5 class lt = is 0 p0 (λ n0. is 1 p1 (λ n1. is 2 p2 (λ n2. is 3 p3 (λ n3. is 4 p4 (λ n4. is 5 p5 (λ n5. absurd (omega arith)))))))
  where
    is : (k : ℕ) → P k → ((class ≡ k → ⊥) → P class) → P class
    is k here elsewhere = ⊎_elim (λ (e : class ≡ k). subst P (sym e) here) elsewhere (cases_eq class k)

-- a slot lies in its page, behind the bitmap
pub record IsSlotPlace (page class slot place : ℕ) : Type 0 where
  pub page_is : page_of place ≡ page
  pub slot_is : slot_in class place ≡ slot
  pub behind_bitmap : 8 ≤ place % 512

pub slot_place : (page class slot : ℕ) → class < 6 → slot < slots_of class → IsSlotPlace page class slot (slot_at page class slot)
slot_place page class slot lt slot_lt = each_class (λ c. slot < slots_of c → IsSlotPlace page c slot (slot_at page c slot))
    (λ h. record { page_is = omega (arith, h); slot_is = omega (arith, h); behind_bitmap = omega (arith, h) })
    (λ h. record { page_is = omega (arith, h); slot_is = omega (arith, h); behind_bitmap = omega (arith, h) })
    (λ h. record { page_is = omega (arith, h); slot_is = omega (arith, h); behind_bitmap = omega (arith, h) })
    (λ h. record { page_is = omega (arith, h); slot_is = omega (arith, h); behind_bitmap = omega (arith, h) })
    (λ h. record { page_is = omega (arith, h); slot_is = omega (arith, h); behind_bitmap = omega (arith, h) })
    (λ h. record { page_is = omega (arith, h); slot_is = omega (arith, h); behind_bitmap = omega (arith, h) })
    class lt slot_lt

pub slot_at-below : (page class slot : ℕ) → class < 6 → slot < slots_of class → slot_at page class slot < 512 * page + 512
slot_at-below page class slot lt slot_lt = each_class (λ c. slot < slots_of c → slot_at page c slot < 512 * page + 512)
    (λ h. omega (arith, h)) (λ h. omega (arith, h)) (λ h. omega (arith, h)) (λ h. omega (arith, h)) (λ h. omega (arith, h)) (λ h. omega (arith, h)) class lt slot_lt

-- its mark is the bitmap of its page
pub mark-slot : (page class slot place : ℕ) → IsSlotPlace page class slot place → (is_big_place place ≡ false) × (mark_at place ≡ page_at page)
mark-slot page class slot place at =
    let small : is_big_place place ≡ false = ne_eqb (place % 512) 0 (λ e. omega (arith, e, at.behind_bitmap)) in
    (small, cond-false (is_big_place place) _ _ small ∙ ap page_at at.page_is)

-- and cleared, it is without the slot's bit
pub unmarked-slot : (page class slot place mark : ℕ) → IsSlotPlace page class slot place → unmarked place (2 + class) mark ≡ without_bit mark slot
unmarked-slot page class slot place mark at =
    cond-false (is_big_place place) 0 (without_bit mark (slot_in (2 + class - 2) place)) (mark-slot page class slot place at).0
    ∙ ap (λ (c : ℕ). without_bit mark (slot_in c place)) (omega arith) ∙ ap (without_bit mark) at.slot_is

-- ── words that the heap doesn't read ──

pub descriptor_outside-lane : (lane page : ℕ) → lane < 16 → IsOutsideLane lane (descriptor_at page)
descriptor_outside-lane lane page lt = (λ e. omega (arith, e, lt), λ e. omega (arith, e, lt), λ e. omega (arith, e, lt))

pub bitmap_outside-lane : (lane page : ℕ) → lane < 16 → IsOutsideLane lane (page_at page)
bitmap_outside-lane lane page lt = (λ e. omega (arith, e, lt), λ e. omega (arith, e, lt), λ e. omega (arith, e, lt))

-- words that differ in a lane alone have the same heap
pub lane-same_heap : (lane : ℕ) (old new : List ℕ) → lane < 16 → SameButLane lane old new → SameHeap old new
lane-same_heap lane old new lt same = record {
  size = same.size;
  pages = λ page. record {
    descriptor = same.each (descriptor_at page) (descriptor_outside-lane lane page lt).1 (descriptor_outside-lane lane page lt).2;
    bitmap = λ small. same.each (page_at page) (bitmap_outside-lane lane page lt).1 (bitmap_outside-lane lane page lt).2;
  };
}

-- ── one bit of a small page ──

pub small_page-blocks : (words : List ℕ) (page : ℕ) → is_small_page words page ≡ true → blocks_of_page words page ≡ small_blocks page (class_of words page) (bitmap_of words page)
small_page-blocks words page small = blocks_of_page-by words page ∙ cond-true (is_small_page words page) _ _ small

pub small_blocks-gains : (page class old new slot : ℕ) → slot < slots_of class → bit_at old slot ≡ 0 → bit_at new slot ≡ 1 → ((other : ℕ) → other ≢ slot → bit_at new other ≡ bit_at old other)
    → GainsOne (small_blocks page class old) (slot_block page class slot) (small_blocks page class new)
small_blocks-gains page class old new slot lt clear set others = gains-map (λ (s : ℕ). block s) (filter (λ s. eqb (bit_at old s) 1) (below (slots_of class))) slot (filter (λ s. eqb (bit_at new s) 1) (below (slots_of class)))
    (filter-gains (λ s. eqb (bit_at old s) 1) (λ s. eqb (bit_at new s) 1) slot (ne_eqb (bit_at old slot) 1 (λ e. omega (arith, e, clear))) (eq-eqb (bit_at new slot) 1 set)
    (slots_of class) 0 (omega arith) (omega arith) (λ other apart. ap (λ (b : ℕ). eqb b 1) (sym (others other apart))))
  where
    block : ℕ → Block
    block s = record { first = slot_at page class s; words = slot_words class }

-- Where only the bitmap of a small page changes, and in it one bit that was clear, the live blocks gain the slot.
pub bit-gains : (old new : List ℕ) (page class slot : ℕ) → IsSmallPage old page class → slot < slots_of class → OnePage old new page → descriptor_of new page ≡ descriptor_of old page
    → bit_at (bitmap_of old page) slot ≡ 0 → bit_at (bitmap_of new page) slot ≡ 1 → ((other : ℕ) → other ≢ slot → bit_at (bitmap_of new page) other ≡ bit_at (bitmap_of old page) other)
    → GainsOne (live_blocks old) (slot_block page class slot) (live_blocks new)
bit-gains old new page class slot small lt one same clear set others = live_blocks-gains old new page (slot_block page class slot) one
    (subst (λ (xs : List Block). GainsOne xs (slot_block page class slot) (blocks_of_page new page)) (sym (small_page-blocks old page small.small ∙ ap (λ (c : ℕ). small_blocks page c (bitmap_of old page)) old_class))
    (subst (λ (xs : List Block). GainsOne (small_blocks page class (bitmap_of old page)) (slot_block page class slot) xs) (sym (small_page-blocks new page new_small ∙ ap (λ (c : ℕ). small_blocks page c (bitmap_of new page)) new_class))
    (small_blocks-gains page class (bitmap_of old page) (bitmap_of new page) slot lt clear set others)))
  where
    old_class : class_of old page ≡ class
    old_class = ap (λ (d : ℕ). d - 2) small.descriptor ∙ omega arith

    new_class : class_of new page ≡ class
    new_class = ap (λ (d : ℕ). d - 2) same ∙ old_class

    new_small : is_small_page new page ≡ true
    new_small = is_small_page-same old new one.inside page same ∙ small.small

-- ── the stages of an allocation of a slot, as a heap ──

module _ (base words : List ℕ) (a : Allocation) (op mark owner page : ℕ) (lane_is : a.lane < 16) (mark_is : mark_at a.block ≡ page_at page)
    (page_is : IsHeapPage base page) (owner_place : IsOwnerPlace base a.owner) (at : IsAt base a op mark owner words) where
  pub at-descriptor : (other : ℕ) → descriptor_of words other ≡ descriptor_of base other
  at-descriptor other = at.others (descriptor_at other) (descriptor_outside-lane a.lane other lane_is) (λ e. omega (arith, e ∙ mark_is, page_is.behind_header)) (λ e. omega (arith, e, owner_place.no_descriptor))

  pub at-bitmap : bitmap_of words page ≡ mark
  at-bitmap = ap (λ (w : ℕ). get_or words w 0) (sym mark_is) ∙ at.mark_is

  pub at-one_page : OnePage base words page
  at-one_page = record {
    size = at.size;
    in_image = page_is.in_image;
    inside = record { each = λ other. ap (λ (d : ℕ). d - 17) (at-descriptor other) };
    others = λ other apart. record {
      descriptor = at-descriptor other;
      bitmap = λ small. at.others (page_at other) (bitmap_outside-lane a.lane other lane_is) (λ e. apart (omega (arith, e ∙ mark_is)))
          (λ e. owner_place.no_bitmap (ap (is_small_page base) (omega (arith, e)) ∙ small) (omega (arith, e)));
    };
  }

-- a page has at most 63 slots
pub slot_low : (class slot : ℕ) → class < 6 → slot < slots_of class → slot < 63
slot_low class slot lt slot_lt = each_class (λ c. slot < slots_of c → slot < 63) (λ h. omega (arith, h)) (λ h. omega (arith, h)) (λ h. omega (arith, h)) (λ h. omega (arith, h)) (λ h. omega (arith, h)) (λ h. omega (arith, h)) class lt slot_lt
