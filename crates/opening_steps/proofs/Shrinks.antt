-- What becomes of the heap where blocks may go that begin at some places, and where a small page without a block may become free.
use Rattle.std.proofs.Common.{◌≡◌, ◌⊎◌, inl, inr, ⊎_elim, ℕ, ◌-◌, ◌%◌, Bool, true, false, not, ◌&&◌, ◌||◌, eqb, ltb, List, length, set, sym, ◌∙◌, ap, subst, arith}
use Rattle.std.specs.Prelude.{Contains}
use Rattle.std.proofs.lemmas.Bool.{and_from, and_parts, cases_eq, eqb-true, or_cases, or_left, or_right}
use Rattle.image_layout.specs.Blocks.{bitmap_of, Block, class_of, descriptor_of, is_block_pointer, is_given_back, is_inside, is_reserved, is_slot, is_small_page, live_blocks, says_small, slot_at, slot_in, slots_of}
use Rattle.image_layout.specs.Fixed.{descriptor_at}
use Rattle.image_layout.specs.Places.{is_pointer, page_of, place_in}
use Rattle.image_layout.proofs.Heap.{small_class}
use Rattle.heap_palloc.specs.Calls.{KeepsHeapRules}
use Rattle.heap_palloc.proofs.LiveBlocks.{is_inside-same, is_small_page-same, live_blocks-kept, OnePage, small_blocks}
use Rattle.heap_palloc.proofs.Pages.{free_descriptor-blocks, set_descriptor-here, set_descriptor-one, small_blocks-zero}
use Rattle.heap_palloc.proofs.RulesKept.{kept_low, rules_one}
use Rattle.heap_palloc.proofs.Slots.{small_page-blocks}
use Rattle.heap_palloc.specs.Law.{IsHeapPage}
use Rattle.shown_state.proofs.SameTreeRules.{pointer_is_same}
use Rattle.opening_steps.proofs.Released.{HeapGoesOn}

pub record HeapShrinks (old new : List ℕ) (gone : ℕ → Type 0) : Type 0 where
  pub rules : KeepsHeapRules new
  pub blocks : (block : Block) → Contains (live_blocks new) block → Contains (live_blocks old) block
  pub none : (block : Block) → Contains (live_blocks new) block → gone block.first → ⊥
  pub kept : (block : Block) → Contains (live_blocks old) block → gone block.first ⊎ Contains (live_blocks new) block
  pub small : (page : ℕ) → is_small_page new page ≡ true → is_small_page old page ≡ true
  pub inside : (page : ℕ) → is_inside new page ≡ true → is_inside old page ≡ true
  pub descriptors : (page : ℕ) → (descriptor_of new page ≡ descriptor_of old page) ⊎ (descriptor_of new page ≡ 0)
  pub given : (page : ℕ) → is_given_back new page ≡ true → is_given_back old page ≡ true

-- ── where small pages stay ──

module _ (old new : List ℕ) (gone : ℕ → Type 0) (size : length new ≡ length old) (heap : HeapGoesOn old new gone) where
  pub shrinks : HeapShrinks old new gone
  shrinks = record {
    rules = heap.rules;
    blocks = heap.blocks;
    none = heap.none;
    kept = heap.kept;
    small = λ page is. sym (heap.small page) ∙ is;
    inside = heap.inside;
    descriptors = heap.descriptors;
    given = heap.given;
  }

  -- they have their classes still
  small_descriptor : (page : ℕ) → is_small_page old page ≡ true → descriptor_of new page ≡ descriptor_of old page
  small_descriptor page small = ⊎_elim (λ e. e)
      (λ none.
      let still = heap.small page ∙ small in
      let known = small_class (descriptor_of new page) (and_parts (not (is_inside new page)) (says_small (descriptor_of new page)) still).1 in
      absurd (omega (arith, known, none)))
      (heap.descriptors page)

  slot_still : (place : ℕ) → is_slot old place ≡ true → is_slot new place ≡ true
  slot_still place is =
      let page = page_of place in
      let says : Bool → ℕ → Bool = λ small class. small && ltb (slot_in class place) (slots_of class) && eqb (slot_at page class (slot_in class place)) place in
      let small = (and_parts (is_small_page old page) (ltb (slot_in (class_of old page) place) (slots_of (class_of old page))) (and_parts (is_small_page old page && ltb (slot_in (class_of old page) place) (slots_of (class_of old page))) (eqb (slot_at page (class_of old page) (slot_in (class_of old page) place)) place) is).0).0 in
      ap (λ (b : Bool). says b (class_of new page)) (heap.small page) ∙ ap (λ (d : ℕ). says (is_small_page old page) (d - 2)) (small_descriptor page small) ∙ is

  -- so a block's pointer is one still
  pub block_still : (word : ℕ) → is_block_pointer old word ≡ true → is_block_pointer new word ≡ true
  block_still word is =
      let place = place_in word in
      let outer = and_parts (is_pointer old word && not (is_reserved (page_of place))) (eqb (place % 512) 0 || is_slot old place) is in
      let inner = and_parts (is_pointer old word) (not (is_reserved (page_of place))) outer.0 in
      and_from (is_pointer new word && not (is_reserved (page_of place))) (eqb (place % 512) 0 || is_slot new place)
      (and_from (is_pointer new word) (not (is_reserved (page_of place))) (pointer_is_same old new size word ∙ inner.0) inner.1)
      (⊎_elim (λ big. or_left (eqb (place % 512) 0) (is_slot new place) big) (λ slot. or_right (eqb (place % 512) 0) (is_slot new place) (slot_still place slot)) (or_cases (eqb (place % 512) 0) (is_slot old place) outer.1))

-- ── a small page without a block becomes free ──

module _ (old : List ℕ) (page : ℕ) (rules : KeepsHeapRules old) (unreserved : is_reserved page ≡ false) (page_is : IsHeapPage old page) (small : is_small_page old page ≡ true) (none : bitmap_of old page ≡ 0) where
  abbrev new : List ℕ
  new = set old (descriptor_at page) 0

  no_pages : 0 - 17 ≡ descriptor_of old page - 17
  no_pages = let known = small_class (descriptor_of old page) (and_parts (not (is_inside old page)) (says_small (descriptor_of old page)) small).1 in omega (arith, known)

  one : OnePage old new page
  one = set_descriptor-one old page page_is 0 no_pages

  here : descriptor_of new page ≡ 0
  here = set_descriptor-here old page page_is 0

  live_same : live_blocks new ≡ live_blocks old
  live_same = live_blocks-kept old new page one
      (free_descriptor-blocks new page (omega (arith, here))
      ∙ sym (small_page-blocks old page small ∙ ap (small_blocks page (class_of old page)) none ∙ small_blocks-zero page (class_of old page)))

  pub emptied : HeapShrinks old new (λ place. ⊥)
  emptied = record {
    rules = rules_one old new page one rules (kept_low new page unreserved (omega (arith, here)));
    blocks = λ block is. subst (λ (xs : List Block). Contains xs block) live_same is;
    none = λ block is gone. gone;
    kept = λ block is. inr (subst (λ (xs : List Block). Contains xs block) (sym live_same) is);
    small = λ other is. ⊎_elim
        (λ (e : other ≡ page). ap (is_small_page old) e ∙ small)
        (λ apart. sym (is_small_page-same old new one.inside other (one.others other apart).descriptor) ∙ is) (cases_eq other page);
    inside = λ other is. sym (is_inside-same old new one.inside other) ∙ is;
    descriptors = λ other. ⊎_elim (λ (e : other ≡ page). inr (ap (descriptor_of new) e ∙ here)) (λ apart. inl (one.others other apart).descriptor) (cases_eq other page);
    given = λ other is.
        let parts = and_parts (not (is_inside new other)) (eqb (descriptor_of new other) 1) is in
        let is_one = eqb-true (descriptor_of new other) 1 parts.1 in
        let same = (one.others other (λ e. let at = ap (descriptor_of new) e in omega (arith, is_one, at, here))).descriptor in
        and_from (not (is_inside old other)) (eqb (descriptor_of old other) 1)
        (ap not (sym (is_inside-same old new one.inside other)) ∙ parts.0) (ap (λ (d : ℕ). eqb d 1) (sym same) ∙ parts.1);
  }

-- the one after the other
pub shrinks_then : (first_words middle last : List ℕ) (gone : ℕ → Type 0) → HeapGoesOn first_words middle gone → HeapShrinks middle last (λ place. ⊥) → HeapShrinks first_words last gone
shrinks_then first_words middle last gone first second = record {
  rules = second.rules;
  blocks = λ block is. first.blocks block (second.blocks block is);
  none = λ block is lost. first.none block (second.blocks block is) lost;
  kept = λ block is. ⊎_elim (λ lost. inl lost) (λ there. ⊎_elim (λ none. absurd none) (λ still. inr still) (second.kept block there)) (first.kept block is);
  small = λ page is. sym (first.small page) ∙ second.small page is;
  inside = λ page is. first.inside page (second.inside page is);
  descriptors = λ page. ⊎_elim
      (λ same. ⊎_elim (λ was. inl (same ∙ was)) (λ none. inr (same ∙ none)) (first.descriptors page))
      (λ none. inr none) (second.descriptors page);
  given = λ page is. first.given page (second.given page is);
}
