-- Which pages the heap has for its blocks, and where a word that may hold a pointer lies.
use Rattle.std.proofs.Common.{◌≡◌, ◌≢◌, ◌⊎◌, inr, ⊎_elim, ℕ, ◌+◌, ◌-◌, ◌*◌, ◌/◌, ◌%◌, ◌<◌, ◌≤◌, true, false, not, eqb, ltb, leb, List, length, ap, subst, arith}
use Rattle.std.specs.Prelude.{Contains}
use Rattle.std.proofs.lemmas.Bool.{cases_eq, false_from_ne_true, not-true, eqb-false, ltb-false, lt-ltb, leb-true, and_parts, or_parts, or_right}
use Rattle.image_layout.specs.Places.{page_of, page_at, page_count}
use Rattle.image_layout.specs.Blocks.{Block, slot_words, slot_at, descriptor_of, says_small, says_big, is_inside, is_free_page, is_small_page, is_reserved, class_of, live_blocks}
use Rattle.image_layout.proofs.Heap.{reserved_descriptor, slot_fits, small_class, big_pages, big_ends, IsSmallOf, IsBigOf, stands, page_of_block, free_pages_unused}
use Rattle.heap_palloc.specs.Law.{IsOwnerPlace, IsHeapPage}
use Rattle.heap_palloc.specs.Calls.{KeepsHeapRules, IsDest}

-- a page with another descriptor isn't reserved
pub unreserved : (words : List ℕ) → KeepsHeapRules words → (page : ℕ) → page < page_count words → descriptor_of words page ≢ 8 → is_reserved page ≡ false
unreserved words rules page lt apart = false_from_ne_true (is_reserved page) (λ is. apart (reserved_descriptor words rules.reserved page lt is))

pub heap_page : (words : List ℕ) (page : ℕ) → page < page_count words → is_reserved page ≡ false → IsHeapPage words page
heap_page words page lt free =
    let parts = or_parts (eqb (page % 64) 0) (ltb page 4) free in
    let header = eqb-false (page % 64) 0 parts.0 in
    record { in_image = lt; behind_header = omega (arith, header); behind_fixed = ltb-false page 4 parts.1 }

pub small_heap_page : (words : List ℕ) → KeepsHeapRules words → (page : ℕ) → page < page_count words → says_small (descriptor_of words page) ≡ true → IsHeapPage words page
small_heap_page words rules page lt small =
    heap_page words page lt (unreserved words rules page lt (λ e. let low = (small_class (descriptor_of words page) small).1 in omega (arith, e, low)))

pub big_heap_page : (words : List ℕ) → KeepsHeapRules words → (page : ℕ) → page < page_count words → says_big (descriptor_of words page) ≡ true → IsHeapPage words page
big_heap_page words rules page lt big =
    heap_page words page lt (unreserved words rules page lt (λ e. let high = (big_pages (descriptor_of words page) big).0 in omega (arith, e, high)))

pub free_heap_page : (words : List ℕ) → KeepsHeapRules words → (page : ℕ) → page < page_count words → is_free_page words page ≡ true → IsHeapPage words page
free_heap_page words rules page lt free = heap_page words page lt ((free_pages_unused words rules.reserved rules.descriptors page lt).0 free).0

-- what a word that may hold a pointer is
pub record IsDestPlace (words : List ℕ) (dest : ℕ) : Type 0 where
  pub owner_is : IsOwnerPlace words dest
  pub not_free : is_free_page words (page_of dest) ≡ false

module _ (words : List ℕ) (whole : length words % 32768 ≡ 0) (some : 32768 ≤ length words) (rules : KeepsHeapRules words) (dest : ℕ) where
  -- of the fixed pages
  fixed_dest : 512 ≤ dest → dest < 2048 → (dest < 576) ⊎ (704 ≤ dest) → IsDestPlace words dest
  fixed_dest low high lanes =
      let reserved : is_reserved (page_of dest) ≡ true = or_right (eqb (page_of dest % 64) 0) (ltb (page_of dest) 4) (lt-ltb (page_of dest) 4 (omega (arith, high))) in
      let is8 : descriptor_of words (page_of dest) ≡ 8 = reserved_descriptor words rules.reserved (page_of dest) (omega (arith, high, some)) reserved in
      record {
        owner_is = record {
          in_image = omega (arith, high, some);
          outside_lanes = lanes;
          no_descriptor = omega (arith, low, high);
          no_bitmap = λ small. absurd (let class = (small_class (descriptor_of words (page_of dest)) (and_parts (not (is_inside words (page_of dest))) (says_small (descriptor_of words (page_of dest))) small).1).1 in omega (arith, class, is8));
        };
        not_free = false_from_ne_true (is_free_page words (page_of dest)) (λ free.
            let one = leb-true (descriptor_of words (page_of dest)) 1 (and_parts (not (is_inside words (page_of dest))) (leb (descriptor_of words (page_of dest)) 1) free).1 in
            omega (arith, one, is8));
      }

  -- of a slot
  slot_dest : (page : ℕ) (block : Block) → page < page_count words → IsSmallOf words page block → block.first ≤ dest → dest < block.first + block.words → IsDestPlace words dest
  slot_dest page block lt of low high =
      let class = class_of words page in
      let known = small_class (descriptor_of words page) of.small in
      let fits = slot_fits class of.slot (omega (arith, known)) of.within in
      let first : slot_at page class of.slot ≡ block.first = ap (λ (b : Block). b.first) of.block_is in
      let size : slot_words class ≡ block.words = ap (λ (b : Block). b.words) of.block_is in
      let page_is = small_heap_page words rules page lt of.small in
      let here : page_of dest ≡ page = in_page page (of.slot * slot_words class) (slot_words class) block.first block.words first size fits low high in
      let header = page_is.behind_header in
      let fixed = page_is.behind_fixed in
      let behind : 8 ≤ dest % 512 = behind_bitmap page (of.slot * slot_words class) (slot_words class) block.first block.words first size fits low high in
      record {
        owner_is = record {
          in_image = omega (arith, here, lt);
          outside_lanes = inr (omega (arith, here, fixed));
          no_descriptor = omega (arith, here, header);
          no_bitmap = λ small e. omega (arith, e, behind);
        };
        not_free = false_from_ne_true (is_free_page words (page_of dest)) (λ free.
            let is : is_free_page words page ≡ true = subst (λ (p : ℕ). is_free_page words p ≡ true) here free in
            let one = leb-true (descriptor_of words page) 1 (and_parts (not (is_inside words page)) (leb (descriptor_of words page) 1) is).1 in
            omega (arith, one, known));
      }
    where
      in_page : (page offset size first count : ℕ) → 512 * page + 8 + offset ≡ first → size ≡ count → 8 + offset + size ≤ 512 → first ≤ dest → dest < first + count → dest / 512 ≡ page
      in_page page offset size first count a b c d e = omega arith

      behind_bitmap : (page offset size first count : ℕ) → 512 * page + 8 + offset ≡ first → size ≡ count → 8 + offset + size ≤ 512 → first ≤ dest → dest < first + count → 8 ≤ dest % 512
      behind_bitmap page offset size first count a b c d e = omega arith

  -- of a big block
  pages_dest : (page : ℕ) (block : Block) → page < page_count words → Contains (live_blocks words) block → IsBigOf words page block → block.first ≤ dest → dest < block.first + block.words → IsDestPlace words dest
  pages_dest page block lt live of low high =
      let big = (big_pages (descriptor_of words page) of.big).0 in
      let ends = big_ends words rules.reserved rules.descriptors page lt of.outside of.big in
      let first : page_at page ≡ block.first = ap (λ (b : Block). b.first) of.block_is in
      let size : 512 * (descriptor_of words page - 16) ≡ block.words = ap (λ (b : Block). b.words) of.block_is in
      let page_is = big_heap_page words rules page lt of.big in
      let from : page ≤ page_of dest = omega (arith, first, low) in
      let to : page_of dest < page + (descriptor_of words page - 16) = omega (arith, first, size, high) in
      let header = page_is.behind_header in
      let fixed = page_is.behind_fixed in
      let within : page_of dest < page_count words = in_image page (descriptor_of words page - 16) lt ends to in
      record {
        owner_is = record {
          in_image = omega (arith, within);
          outside_lanes = inr (omega (arith, from, fixed));
          no_descriptor = no_header page (descriptor_of words page - 16) header ends from to;
          no_bitmap = λ small. absurd (not_small page block lt of low high from small);
        };
        not_free = false_from_ne_true (is_free_page words (page_of dest)) (λ free.
            ((free_pages_unused words rules.reserved rules.descriptors (page_of dest) within).0 free).2 block live (omega (arith, low, high), omega (arith, high)));
      }
    where
      in_image : (page pages : ℕ) → page < page_count words → page % 64 + pages ≤ 64 → page_of dest < page + pages → page_of dest < page_count words
      in_image page pages lt ends to = omega (arith, whole)

      no_header : (page pages : ℕ) → 0 < page % 64 → page % 64 + pages ≤ 64 → page ≤ page_of dest → page_of dest < page + pages → 64 ≤ dest % 32768
      no_header page pages header ends from to = omega arith

      not_small : (page : ℕ) (block : Block) → page < page_count words → IsBigOf words page block → block.first ≤ dest → dest < block.first + block.words → page ≤ page_of dest → is_small_page words (page_of dest) ≡ true → ⊥
      not_small page block lt of low high from small =
          let parts = and_parts (not (is_inside words (page_of dest))) (says_small (descriptor_of words (page_of dest))) small in
          let outside = not-true (is_inside words (page_of dest)) parts.0 in
          let class = (small_class (descriptor_of words (page_of dest)) parts.1).1 in
          let big = (big_pages (descriptor_of words page) of.big).0 in
          let stand = stands words rules.reserved rules.descriptors page block lt (inr of) in
          ⊎_elim (λ (same : page ≡ page_of dest). let is : descriptor_of words page ≡ descriptor_of words (page_of dest) = ap (descriptor_of words) same in omega (arith, is, class, big))
          (λ apart. let past = stand.ends (page_of dest) outside (omega (arith, from, apart)) in omega (arith, past, high))
          (cases_eq page (page_of dest))

  pub dest_place : IsDest words dest → IsDestPlace words dest
  dest_place is = ⊎_elim (λ fixed. fixed_dest fixed.0 fixed.1 fixed.2)
      (λ (block, live, low, high). let (page, lt, of) = page_of_block words block live in ⊎_elim (λ small. slot_dest page block lt small low high) (λ big. pages_dest page block lt live big low high) of)
      is
