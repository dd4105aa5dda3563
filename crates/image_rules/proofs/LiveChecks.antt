-- Whether a live block of so many words begins at a place, by the page of the place alone.
use Rattle.std.proofs.Common.{◌≡◌, ◌⊎◌, ⊎_elim, ℕ, ◌+◌, ◌-◌, ◌*◌, ◌/◌, ◌%◌, ◌<◌, ◌≤◌, Bool, true, false, not, ◌&&◌, ltb, eqb, List, [], ◌∷◌, length, map, refl, sym, ◌∙◌, ap, subst, arith}
use Rattle.std.specs.Prelude.{Contains}
use Rattle.std.specs.List.{list_any}
use Rattle.std.specs.Int.{bit_at}
use Rattle.std.proofs.Math.Nat.{mul-div_cancel}
use Rattle.std.proofs.Math.Pow.{pow_mono}
use Rattle.std.proofs.lemmas.Bool.{false≢true, both_ways, false_from_ne_true, or_cases, and_parts, and_from, not_from_false, eq-eqb, eqb-true, lt-ltb, ltb-true, cond-true}
use Rattle.std.proofs.lemmas.List.Folds.{list_any_at}
use Rattle.image_layout.specs.Places.{below, page_count}
use Rattle.image_layout.specs.Blocks.{Block, slot_words, slots_of, descriptor_of, says_small, says_big, is_inside, is_small_page, class_of, bitmap_of, small_block, big_block, used_slots, blocks_of_page, live_blocks, is_live}
use Rattle.image_layout.proofs.Heap.{IsSmallOf, IsBigOf, page_of_block, small_class, big_pages, slot_fits, big_live}
use Rattle.image_layout.proofs.Members.{Contains-here, Contains-there, below-Contains, flat_map-Contains, map-Contains, filter-Contains}
use Rattle.image_rules.specs.BuiltOwners.{is_slot_block, is_head_block}

same_truth : (a b : Bool) → (a ≡ true → b ≡ true) → (b ≡ true → a ≡ true) → a ≡ b
same_truth true b there back = sym (there refl)
same_truth false b there back = sym (false_from_ne_true b (λ is. false≢true (back is)))

any_found : {X : Type 0} (p : X → Bool) (xs : List X) → list_any p xs ≡ true → (x : X) × Contains xs x × (p x ≡ true)
any_found p [] is = absurd (false≢true is)
any_found p (x ∷ xs) is =
    ⊎_elim (λ here. (x, Contains-here x xs, here)) (λ later. let rest = any_found p xs later in (rest.0, Contains-there x rest.0 xs rest.1, rest.2))
    (or_cases (p x) (list_any p xs) is)

any_from : {X : Type 0} (p : X → Bool) (xs : List X) (x : X) → Contains xs x → p x ≡ true → list_any p xs ≡ true
any_from p xs x (k, lt, is) hit = list_any_at p xs k x lt (ap p is ∙ hit)

-- where a slot stands in its page, and which one it is
in_page : (page slots_before size first : ℕ) → 8 + slots_before + size ≤ 512 → 0 < size → 512 * page + 8 + slots_before ≡ first → (first / 512 ≡ page) × (first % 512 ≡ 8 + slots_before)
in_page page slots_before size first fits some is = (omega arith, omega arith)

slot_back : (slot size offset : ℕ) → 0 < size → offset ≡ 8 + slot * size → (offset - 8) / size ≡ slot
slot_back slot size offset some is = let e : offset - 8 ≡ slot * size = omega (arith, is) in ap (λ (n : ℕ). n / size) e ∙ mul-div_cancel slot some

slot_some : (class : ℕ) → 0 < slot_words class
slot_some class = let one = pow_mono {i = 0} {j = class} (omega arith) in omega (arith, one)

module _ (words : List ℕ) (place count : ℕ) where
  abbrev fits : Block → Bool
  fits block = eqb block.first place && eqb block.words count

  abbrev Begins : ℕ → Block → Type 0
  Begins page block = IsSmallOf words page block ⊎ IsBigOf words page block

  abbrev Found : Type 0
  Found = (block : Block) × (block.first ≡ place) × (block.words ≡ count) × ((page : ℕ) × (page < page_count words) × (IsSmallOf words page block ⊎ IsBigOf words page block))

  found : is_live words place count ≡ true → Found
  found is =
      let any = any_found fits (live_blocks words) is in
      let both = and_parts (eqb any.0.first place) (eqb any.0.words count) any.2 in
      (any.0, eqb-true any.0.first place both.0, eqb-true any.0.words count both.1, page_of_block words any.0 any.1)

  live_from : (block : Block) → Contains (live_blocks words) block → block.first ≡ place → block.words ≡ count → is_live words place count ≡ true
  live_from block live first size = any_from fits (live_blocks words) block live (and_from (eqb block.first place) (eqb block.words count) (eq-eqb block.first place first) (eq-eqb block.words count size))

  small_page : (page : ℕ) (block : Block) (of : IsSmallOf words page block) → block.first ≡ place → (place / 512 ≡ page) × (place % 512 ≡ 8 + of.slot * slot_words (class_of words page))
  small_page page block of first =
      let low = small_class (descriptor_of words page) of.small in
      let fit = slot_fits (class_of words page) of.slot (omega arith) of.within in
      in_page page (of.slot * slot_words (class_of words page)) (slot_words (class_of words page)) place fit (slot_some (class_of words page)) (ap (λ b. b.first) of.block_is ∙ first)

  big_page : (page : ℕ) (block : Block) → IsBigOf words page block → block.first ≡ place → (place / 512 ≡ page) × (place % 512 ≡ 0)
  big_page page block of first =
      let at : 512 * page ≡ place = ap (λ b. b.first) of.block_is ∙ first in
      (omega (arith, at), omega (arith, at))

  small_holds : (page : ℕ) (block : Block) → IsSmallOf words page block → block.first ≡ place → block.words ≡ count → is_slot_block (bitmap_of words page) (class_of words page) (place % 512) count ≡ true
  small_holds page block of first size =
      let class : ℕ = class_of words page in
      let slot : ℕ = (place % 512 - 8) / slot_words class in
      let where_is = small_page page block of first in
      let is : slot ≡ of.slot = slot_back of.slot (slot_words class) (place % 512) (slot_some class) where_is.1 in
      and_from _ (eqb (bit_at (bitmap_of words page) slot) 1)
      (and_from _ (eqb (8 + slot * slot_words class) (place % 512))
      (and_from (eqb (slot_words class) count) (ltb slot (slots_of class)) (eq-eqb (slot_words class) count (ap (λ b. b.words) of.block_is ∙ size))
      (lt-ltb slot (slots_of class) (subst (λ (s : ℕ). s < slots_of class) (sym is) of.within)))
      (eq-eqb (8 + slot * slot_words class) (place % 512) (ap (λ (s : ℕ). 8 + s * slot_words class) is ∙ sym where_is.1)))
      (eq-eqb (bit_at (bitmap_of words page) slot) 1 (ap (bit_at (bitmap_of words page)) is ∙ of.set))

  big_holds : (page : ℕ) (block : Block) → IsBigOf words page block → block.first ≡ place → block.words ≡ count → is_head_block (descriptor_of words page) (place % 512) count ≡ true
  big_holds page block of first size =
      and_from _ (eqb (512 * (descriptor_of words page - 16)) count)
      (and_from (says_big (descriptor_of words page)) (eqb (place % 512) 0) of.big (eq-eqb (place % 512) 0 (big_page page block of first).1))
      (eq-eqb (512 * (descriptor_of words page - 16)) count (ap (λ b. b.words) of.block_is ∙ size))

  never_both : (descriptor : ℕ) → says_small descriptor ≡ true → says_big descriptor ≡ true → ⊥
  never_both descriptor small big =
      let low = small_class descriptor small in
      let high = big_pages descriptor big in
      omega arith

  small_live : (page slot : ℕ) → page < page_count words → is_inside words page ≡ false → says_small (descriptor_of words page) ≡ true → slot < slots_of (class_of words page) → bit_at (bitmap_of words page) slot ≡ 1
      → Contains (live_blocks words) (small_block words page slot)
  unfolding blocks_of_page
  small_live page slot lt outside small within set =
      flat_map-Contains (blocks_of_page words) (below (page_count words)) page (small_block words page slot) (below-Contains (page_count words) page lt)
      (subst (λ (xs : List Block). Contains xs (small_block words page slot))
      (sym (cond-true (is_small_page words page) (map (small_block words page) (used_slots words page)) _ (and_from (not (is_inside words page)) (says_small (descriptor_of words page)) (not_from_false (is_inside words page) outside) small)))
      (map-Contains (small_block words page) (used_slots words page) slot
      (filter-Contains (λ (s : ℕ). eqb (bit_at (bitmap_of words page) s) 1) (below (slots_of (class_of words page))) slot (below-Contains (slots_of (class_of words page)) slot within) (eq-eqb (bit_at (bitmap_of words page) slot) 1 set))))

  -- ── by the page of the place ──

  module _ (page : ℕ) (page_is : page ≡ place / 512) where
    page_lt : length words % 32768 ≡ 0 → place < length words → page < page_count words
    page_lt whole lt = omega (arith, page_is)

    pub none_inside : is_inside words page ≡ true → false ≡ is_live words place count
    none_inside inside = sym (false_from_ne_true (is_live words place count) (λ is. no (found is)))
      where
        no : Found → ⊥
        no (block, first, size, (other, lt, of)) =
            ⊎_elim
            (λ small. both_ways (is_inside words page) (ap (is_inside words) (page_is ∙ (small_page other block small first).0) ∙ small.outside) inside)
            (λ big. both_ways (is_inside words page) (ap (is_inside words) (page_is ∙ (big_page other block big first).0) ∙ big.outside) inside) of

    pub slot_live : length words % 32768 ≡ 0 → place < length words → is_inside words page ≡ false → says_small (descriptor_of words page) ≡ true
        → is_slot_block (bitmap_of words page) (class_of words page) (place % 512) count ≡ is_live words place count
    slot_live whole lt outside small = same_truth (is_slot_block (bitmap_of words page) (class_of words page) (place % 512) count) (is_live words place count) there (λ is. back (found is))
      where
        there : is_slot_block (bitmap_of words page) (class_of words page) (place % 512) count ≡ true → is_live words place count ≡ true
        there is =
            let class : ℕ = class_of words page in
            let slot : ℕ = (place % 512 - 8) / slot_words class in
            let three = and_parts _ (eqb (bit_at (bitmap_of words page) slot) 1) is in
            let two = and_parts _ (eqb (8 + slot * slot_words class) (place % 512)) three.0 in
            let one = and_parts (eqb (slot_words class) count) (ltb slot (slots_of class)) two.0 in
            let at : 8 + slot * slot_words class ≡ place % 512 = eqb-true (8 + slot * slot_words class) (place % 512) two.1 in
            live_from (small_block words page slot)
            (small_live page slot (page_lt whole lt) outside small (ltb-true slot (slots_of class) one.1) (eqb-true (bit_at (bitmap_of words page) slot) 1 three.1))
            (place_of (slot * slot_words class) at) (eqb-true (slot_words class) count one.0)
          where
            place_of : (before : ℕ) → 8 + before ≡ place % 512 → 512 * page + 8 + before ≡ place
            place_of before at = omega (arith, at, page_is)

        back : Found → is_slot_block (bitmap_of words page) (class_of words page) (place % 512) count ≡ true
        back (block, first, size, (other, other_lt, of)) =
            ⊎_elim
            (λ a. subst (λ (p : ℕ). is_slot_block (bitmap_of words p) (class_of words p) (place % 512) count ≡ true) (sym (page_is ∙ (small_page other block a first).0)) (small_holds other block a first size))
            (λ a. absurd (never_both (descriptor_of words page) small (ap (λ (p : ℕ). says_big (descriptor_of words p)) (page_is ∙ (big_page other block a first).0) ∙ a.big))) of

    pub head_live : length words % 32768 ≡ 0 → place < length words → is_inside words page ≡ false → says_small (descriptor_of words page) ≡ false
        → is_head_block (descriptor_of words page) (place % 512) count ≡ is_live words place count
    head_live whole lt outside other_kind = same_truth (is_head_block (descriptor_of words page) (place % 512) count) (is_live words place count) there (λ is. back (found is))
      where
        there : is_head_block (descriptor_of words page) (place % 512) count ≡ true → is_live words place count ≡ true
        there is =
            let two = and_parts _ (eqb (512 * (descriptor_of words page - 16)) count) is in
            let one = and_parts (says_big (descriptor_of words page)) (eqb (place % 512) 0) two.0 in
            let none = eqb-true (place % 512) 0 one.1 in
            live_from (big_block words page) (big_live words page (page_lt whole lt) outside one.0) (omega (arith, none, page_is)) (eqb-true (512 * (descriptor_of words page - 16)) count two.1)

        back : Found → is_head_block (descriptor_of words page) (place % 512) count ≡ true
        back (block, first, size, (other, other_lt, of)) =
            ⊎_elim
            (λ a. absurd (both_ways (says_small (descriptor_of words page)) other_kind (ap (λ (p : ℕ). says_small (descriptor_of words p)) (page_is ∙ (small_page other block a first).0) ∙ a.small)))
            (λ a. subst (λ (p : ℕ). is_head_block (descriptor_of words p) (place % 512) count ≡ true) (sym (page_is ∙ (big_page other block a first).0)) (big_holds other block a first size)) of
