-- Opening's step of the table slot at the count keeps what fits, and shows the same.
use Rattle.std.proofs.Common.{◌≡◌, ◌≢◌, ◌⊎◌, inl, ⊎_elim, ℕ, ◌%◌, ◌<◌, true, cond, not, ◌&&◌, ◌||◌, eqb, ltb, List, [], ◌∷◌, get_or, map, refl, sym, ◌∙◌, ap, subst, append-nil, arith}
use Rattle.std.specs.Prelude.{Contains}
use Rattle.std.specs.List.{flat_map}
use Rattle.std.proofs.lemmas.Bool.{and_from, cases_Bool, cases_eq, cond-false, cond-true, eq-eqb, false_from_ne_true, lt-ltb, ltb-true, ne_eqb, or_left, or_right}
use Rattle.std.proofs.lemmas.List.Elements.{Contains-append_left}
use Rattle.pm_model.specs.Needed.{Mending}
use Rattle.pm_model.specs.Plans.{finished}
use Rattle.image_layout.specs.Blocks.{Block, class_of, descriptor_of, is_block_pointer, is_inside, is_reserved, is_slot, is_small_page, live_blocks, says_small, slot_at, slot_in, slots_of}
use Rattle.image_layout.specs.Fixed.{table_slot_at}
use Rattle.image_layout.specs.Owners.{next_table_slots, next_text_slots, unfinished_slots}
use Rattle.image_layout.specs.Places.{is_pointer, page_count, page_of, place_in}
use Rattle.image_layout.specs.Tables.{all_columns, table_count}
use Rattle.image_layout.proofs.Heap.{big_pages, IsBigOf, IsSmallOf, page_of_block, reserved_descriptor, small_class}
use Rattle.image_layout.proofs.Members.{Contains-cons, Contains-map, Contains-nil}
use Rattle.image_layout.proofs.OwnersApart.{all_from}
use Rattle.heap_palloc.proofs.Slots.{slot_place}
use Rattle.shown_state.specs.Fits.{Fits}
use Rattle.shown_state.specs.Mending.{free_block, free_table, slot_mending}
use Rattle.shown_state.specs.OpeningParts.{IsImage}
use Rattle.shown_state.specs.StepLaws.{AreJoined, HaveNoNew, NoTableIsNew, NoTextIsNew, SlotKeeps}
use Rattle.shown_state.proofs.ReadLaw.{reads_decide}
use Rattle.opening_steps.proofs.FreedSlot.{freed_cuts, freed_end, freed_stores, IsFreed}
use Rattle.opening_steps.proofs.NextSlots.{next_slot, slot_pointer}
use Rattle.opening_steps.proofs.Steps.{plain_as_it_is, plain_by, plain_keeps, StepIsPlain}

-- a word that names a live block is a block's pointer
pub live_pointer : (words : List ℕ) → Fits words → (word : ℕ) → is_pointer words word ≡ true → Contains (map (λ block. block.first) (live_blocks words)) (place_in word) → is_block_pointer words word ≡ true
live_pointer words fits word is live =
    let (block, among, first) = Contains-map (λ (b : Block). b.first) (live_blocks words) (place_in word) live in
    let (page, lt, of) = page_of_block words block among in
    ⊎_elim (λ small. of_small block page lt first small) (λ big. of_big block page lt first big) of
  where
    unreserved : (page : ℕ) → page < page_count words → descriptor_of words page ≢ 8 → not (is_reserved page) ≡ true
    unreserved page lt other = ap not (false_from_ne_true (is_reserved page) (λ reserved. other (reserved_descriptor words fits.entry.reserved page lt reserved)))

    pointer_from : (page : ℕ) → page_of (place_in word) ≡ page → not (is_reserved page) ≡ true → (eqb (place_in word % 512) 0 || is_slot words (place_in word)) ≡ true → is_block_pointer words word ≡ true
    pointer_from page here free place =
        and_from (is_pointer words word && not (is_reserved (page_of (place_in word)))) (eqb (place_in word % 512) 0 || is_slot words (place_in word))
        (and_from (is_pointer words word) (not (is_reserved (page_of (place_in word)))) is (ap (λ (p : ℕ). not (is_reserved p)) here ∙ free)) place

    of_small : (block : Block) (page : ℕ) → page < page_count words → block.first ≡ place_in word → IsSmallOf words page block → is_block_pointer words word ≡ true
    of_small block page lt first small =
        let known = small_class (descriptor_of words page) small.small in
        let class = class_of words page in
        let spot = slot_place page class small.slot (omega (arith, known)) small.within in
        let at : slot_at page class small.slot ≡ place_in word = ap (λ (b : Block). b.first) small.block_is ∙ first in
        let here : page_of (place_in word) ≡ page = ap page_of (sym at) ∙ spot.page_is in
        let own : slot_in class (place_in word) ≡ small.slot = ap (slot_in class) (sym at) ∙ spot.slot_is in
        let small_page : is_small_page words page ≡ true = and_from (not (is_inside words page)) (says_small (descriptor_of words page)) (ap not small.outside) small.small in
        let slot : is_slot words (place_in word) ≡ true = subst (λ (p : ℕ). (is_small_page words p && ltb (slot_in (class_of words p) (place_in word)) (slots_of (class_of words p)) && eqb (slot_at p (class_of words p) (slot_in (class_of words p) (place_in word))) (place_in word)) ≡ true) (sym here)
        (and_from (is_small_page words page && ltb (slot_in class (place_in word)) (slots_of class)) (eqb (slot_at page class (slot_in class (place_in word))) (place_in word))
        (and_from (is_small_page words page) (ltb (slot_in class (place_in word)) (slots_of class)) small_page
        (lt-ltb (slot_in class (place_in word)) (slots_of class) (subst (λ (k : ℕ). k < slots_of class) (sym own) small.within)))
        (eq-eqb (slot_at page class (slot_in class (place_in word))) (place_in word) (ap (slot_at page class) own ∙ at))) in
        pointer_from page here (unreserved page lt (λ e. omega (arith, e, known))) (or_right (eqb (place_in word % 512) 0) (is_slot words (place_in word)) slot)

    of_big : (block : Block) (page : ℕ) → page < page_count words → block.first ≡ place_in word → IsBigOf words page block → is_block_pointer words word ≡ true
    of_big block page lt first big =
        let known = big_pages (descriptor_of words page) big.big in
        let at = ap (λ (b : Block). b.first) big.block_is in
        pointer_from page (omega (arith, at, first)) (unreserved page lt (λ e. omega (arith, e, known))) (or_left (eqb (place_in word % 512) 0) (is_slot words (place_in word)) (eq-eqb (place_in word % 512) 0 (omega (arith, at, first))))

-- a step that frees the block of an unfinished slot
pub freeing_is_plain : (After : List ℕ → Type 0) (mending : Mending) (words : List ℕ) (at : ℕ) (image : IsImage words) (fits : Fits words) (joined : AreJoined 512 words) (slot : Contains (unfinished_slots words) at) (some : get_or words at 0 ≢ 0)
    (pointer : is_block_pointer words (get_or words at 0) ≡ true) (tables : (place : ℕ) → Contains (next_table_slots words) place → (place ≡ at) ⊎ (get_or words place 0 ≡ 0)) → mending words ≡ free_block words at
    → ((new : List ℕ) → IsFreed words at image fits joined slot some pointer tables new → After new) → StepIsPlain After mending words
freeing_is_plain After mending words at image fits joined slot some pointer tables is after =
    plain_by After mending words (free_block words at) is
    (freed_stores words at image fits joined slot some pointer tables) (freed_cuts words at image fits joined slot some pointer tables)
    (after (finished (free_block words at) words) (freed_end words at image fits joined slot some pointer tables))

-- ── the table slot at the count ──

pub tables_null : (words new : List ℕ) → table_count new ≡ table_count words → ((place : ℕ) → Contains (next_table_slots words) place → get_or new place 0 ≡ 0) → NoTableIsNew new
tables_null words new count null = all_from (λ place. get_or new place 0 ≡ 0) (next_table_slots new) (λ place is.
    null place (subst (λ (n : ℕ). Contains (cond (ltb n 32) (table_slot_at n ∷ []) []) place) count is))

no_texts : (words : List ℕ) → NoTextIsNew 0 words
no_texts words i d lt = absurd (omega (arith, lt))

module _ (words : List ℕ) (image : IsImage words) (fits : Fits words) (joined : AreJoined 512 words) where
  abbrev at : ℕ
  at = table_slot_at (table_count words)

  -- there is no such slot, or it is null
  idle_slot : slot_mending words ≡ [] → ((place : ℕ) → Contains (next_table_slots words) place → get_or words place 0 ≡ 0) → StepIsPlain (HaveNoNew 0) slot_mending words
  idle_slot none null = plain_by (HaveNoNew 0) slot_mending words [] none tt (plain_as_it_is words fits)
      (joined, tables_null words words refl null, no_texts words)

  -- or it names a block
  named_slot : table_count words < 32 → next_table_slots words ≡ at ∷ [] → get_or words at 0 ≢ 0 → StepIsPlain (HaveNoNew 0) slot_mending words
  named_slot under slots some =
      let slot : Contains (unfinished_slots words) at = Contains-append_left (next_table_slots words) (flat_map (next_text_slots words) (all_columns words)) at (next_slot words (table_count words) refl under) in
      let pointer = slot_pointer words fits (table_count words) refl under some in
      let tables : (place : ℕ) → Contains (next_table_slots words) place → (place ≡ at) ⊎ (get_or words place 0 ≡ 0) = λ place is. inl (only place is) in
      freeing_is_plain (HaveNoNew 0) slot_mending words at image fits joined slot some pointer tables
      (ap (flat_map (free_table words)) slots ∙ append-nil (free_table words at) ∙ cond-false (eqb (get_or words at 0) 0) [] (free_block words at) (ne_eqb (get_or words at 0) 0 some))
      (λ new freed.
      let (read, b, c, d, e, f) = reads_decide words new fits freed.reads in
      let still = freed.still in (
        (freed.idle, still.plain joined.1),
        tables_null words new read.count (λ place is. ap (λ (w : ℕ). get_or new w 0) (only place is) ∙ freed.null),
        no_texts new,
      ))
    where
      only : (place : ℕ) → Contains (next_table_slots words) place → place ≡ at
      only place is = ⊎_elim (λ here. sym here) (λ none. absurd (Contains-nil place none)) (Contains-cons at place [] (subst (λ (xs : List ℕ). Contains xs place) slots is))

  pub slot_is_plain : StepIsPlain (HaveNoNew 0) slot_mending words
  slot_is_plain = ⊎_elim
      (λ hit.
      let slots : next_table_slots words ≡ at ∷ [] = cond-true (ltb (table_count words) 32) (at ∷ []) [] hit in
      ⊎_elim
      (λ none. idle_slot (ap (flat_map (free_table words)) slots ∙ append-nil (free_table words at) ∙ cond-true (eqb (get_or words at 0) 0) [] (free_block words at) (eq-eqb (get_or words at 0) 0 none))
      (λ place is. ⊎_elim (λ (here : at ≡ place). ap (λ (w : ℕ). get_or words w 0) (sym here) ∙ none) (λ nil. absurd (Contains-nil place nil)) (Contains-cons at place [] (subst (λ (xs : List ℕ). Contains xs place) slots is))))
      (λ some. named_slot (ltb-true (table_count words) 32 hit) slots some)
      (cases_eq (get_or words at 0) 0))
      (λ miss.
      let slots : next_table_slots words ≡ [] = cond-false (ltb (table_count words) 32) (at ∷ []) [] miss in
      idle_slot (ap (flat_map (free_table words)) slots) (λ place is. absurd (Contains-nil place (subst (λ (xs : List ℕ). Contains xs place) slots is))))
      (cases_Bool (ltb (table_count words) 32))

pub slot_keeps : SlotKeeps
slot_keeps words image fits joined = plain_keeps (HaveNoNew 0) slot_mending words (slot_is_plain words image fits joined)
