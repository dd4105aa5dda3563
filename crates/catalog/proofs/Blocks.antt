-- The block of a new table as a block of the heap, and its freeing.
use Rattle.std.proofs.Common.{◌≡◌, ⊎_elim, ℕ, ◌+◌, ◌-◌, ◌*◌, ◌%◌, ◌<◌, ◌≤◌, true, false, not, List, [], ◌∷◌, ◌++◌, get_or, map, refl, sym, ◌∙◌, ap, subst, arith}
use Rattle.std.specs.Prelude.{Contains}
use Rattle.std.proofs.lemmas.Bool.{both_ways, and_from, not_from_false, cond-true, cond-false}
use Rattle.image_layout.specs.Pointer.{pointer_word}
use Rattle.image_layout.specs.Places.{page_of, page_at, page_count, place_in}
use Rattle.image_layout.specs.Blocks.{Block, slot_at, slot_in, descriptor_of, says_small, is_inside, class_of, live_blocks}
use Rattle.image_layout.proofs.Heap.{small_class, big_pages, page_of_block, IsSmallOf, IsBigOf}
use Rattle.heap_palloc.specs.Choice.{Choice, in_page, on_new_page, in_run, choice_block, choice_page, choice_pages, MayMake, Freed, of_slot, of_pages, slot_named, pages_named, freed_named, freed_block, freed_page, freed_pages, MayRelease}
use Rattle.heap_palloc.specs.Lane.{is_big_place}
use Rattle.heap_palloc.specs.Law.{IsHeapPage, IsIdle, Slot, Pages}
use Rattle.heap_palloc.specs.Shown.{GainsOne}
use Rattle.heap_palloc.proofs.BigPlans.{big_place}
use Rattle.heap_palloc.proofs.Slots.{slot_place, mark-slot}
use Rattle.heap_palloc.proofs.Stages.{place_in-pointer}
use Rattle.std.proofs.lemmas.List.Elements.{Contains-append_right}
use Rattle.image_layout.proofs.Members.{Contains-here, map-Contains}
use Rattle.heap_palloc.specs.Choice.{freed_allocation}
use Rattle.shown_state.proofs.OneOwner.{Differ, first_of}

-- what is known of the block that is chosen
pub record IsChoiceBlock (words : List ℕ) (choice : Choice) : Type 0 where
  pub page_is : IsHeapPage words (choice_page choice)
  pub first_page : page_of (choice_block choice).first ≡ choice_page choice
  pub small : is_big_place (choice_block choice).first ≡ false → choice_pages choice ≡ 1
  pub big : is_big_place (choice_block choice).first ≡ true → ((choice_block choice).words ≡ 512 * choice_pages choice) × (choice_page choice + choice_pages choice ≤ page_count words) × (choice_page choice % 64 + choice_pages choice ≤ 64)

pub choice_is_block : (words : List ℕ) (choice : Choice) → MayMake words choice → IsChoiceBlock words choice
choice_is_block words (in_page s) may =
    let place = slot_place s.page s.class s.slot may.page_is.class_is may.slot_is in
    record { page_is = may.page_is.page_is; first_page = place.page_is; small = λ _. refl; big = λ big. absurd (both_ways (is_big_place (slot_at s.page s.class s.slot)) (mark-slot s.page s.class s.slot (slot_at s.page s.class s.slot) place).0 big) }
choice_is_block words (on_new_page s) may =
    let place = slot_place s.page s.class s.slot may.class_is may.slot_is in
    record { page_is = may.page_is; first_page = place.page_is; small = λ _. refl; big = λ big. absurd (both_ways (is_big_place (slot_at s.page s.class s.slot)) (mark-slot s.page s.class s.slot (slot_at s.page s.class s.slot) place).0 big) }
choice_is_block words (in_run r) may = record {
  page_is = may.run.page_is;
  first_page = omega arith;
  small = λ small. absurd (both_ways (is_big_place (page_at r.first)) small (big_place r.first));
  big = λ _. (refl, may.run.in_image, may.run.in_segment);
}

-- what a freeing needs to know of words in which the block is live
pub record IsFreeable (words : List ℕ) (owner first pages : ℕ) (block : Block) : Type 0 where
  pub idle : IsIdle words 0 owner
  pub live : Contains (live_blocks words) block
  pub named : get_or words owner 0 ≡ pointer_word block.first
  pub page_is : IsHeapPage words first
  pub first_page : page_of block.first ≡ first
  pub small : is_big_place block.first ≡ false → pages ≡ 1
  pub big : is_big_place block.first ≡ true → (block.words ≡ 512 * pages) × (first + pages ≤ page_count words) × (first % 64 + pages ≤ 64)
  pub clean : (k : ℕ) → 0 < k → k < pages → descriptor_of words (first + k) ≡ 0

-- the freeing is that of the block
pub record IsFreeing (words : List ℕ) (owner : ℕ) (freed : Freed) (first pages : ℕ) (block : Block) : Type 0 where
  pub may : MayRelease words freed
  pub block_is : freed_block freed ≡ block
  pub page_is : freed_page freed ≡ first
  pub pages_are : freed_pages freed ≡ pages
  pub lane_is : (freed_allocation words freed).lane ≡ 0
  pub owner_is : (freed_allocation words freed).owner ≡ owner

module _ (words : List ℕ) (owner first pages : ℕ) (block : Block) (known : IsFreeable words owner first pages block) where
  named_at : place_in (get_or words owner 0) ≡ block.first
  named_at = ap place_in known.named ∙ place_in-pointer block.first

  small_freeing : (page : ℕ) → page < page_count words → IsSmallOf words page block → IsFreeing words owner (freed_named words 0 owner) first pages block
  small_freeing page lt a =
      let class = small_class (descriptor_of words page) a.small in
      let at : slot_at page (class_of words page) a.slot ≡ block.first = ap (λ (b : Block). b.first) a.block_is in
      let place = slot_place page (class_of words page) a.slot (omega (arith, class)) a.within in
      let small : is_big_place block.first ≡ false = ap is_big_place (sym at) ∙ (mark-slot page (class_of words page) a.slot (slot_at page (class_of words page) a.slot) place).0 in
      let here : page ≡ first = sym place.page_is ∙ ap page_of at ∙ known.first_page in
      let slot : Slot = record { lane = 0; owner = owner; page = page; class = class_of words page; slot = a.slot } in
      let is : slot_named words 0 owner ≡ slot =
      ap (λ (f : ℕ). at_page f (page_of f)) (named_at ∙ sym at) ∙ ap (λ (p : ℕ). at_page (slot_at page (class_of words page) a.slot) p) place.page_is ∙ ap (λ (n : ℕ). with_slot page n) place.slot_is in
      let freeing : IsFreeing words owner (of_slot slot) first pages block = record {
        may = record {
          idle = known.idle;
          owned = known.named ∙ ap pointer_word (sym at);
          page_is = record {
            page_is = subst (IsHeapPage words) (sym here) known.page_is;
            class_is = omega (arith, class);
            small = and_from (not (is_inside words page)) (says_small (descriptor_of words page)) (not_from_false (is_inside words page) a.outside) a.small;
            descriptor = omega (arith, class);
          };
          slot_is = a.within;
          set = a.set;
        };
        block_is = a.block_is;
        page_is = here;
        pages_are = sym (known.small small);
        lane_is = refl;
        owner_is = refl;
      } in
      subst (λ (f : Freed). IsFreeing words owner f first pages block)
      (ap of_slot (sym is) ∙ sym (cond-false (is_big_place (place_in (get_or words owner 0))) (of_pages (pages_named words 0 owner)) (of_slot (slot_named words 0 owner)) (ap is_big_place named_at ∙ small))) freeing
    where
      at_page : ℕ → ℕ → Slot
      at_page f p = record { lane = 0; owner = owner; page = p; class = descriptor_of words p - 2; slot = slot_in (descriptor_of words p - 2) f }

      with_slot : ℕ → ℕ → Slot
      with_slot p n = record { lane = 0; owner = owner; page = p; class = descriptor_of words p - 2; slot = n }

  big_freeing : (page : ℕ) → page < page_count words → IsBigOf words page block → IsFreeing words owner (freed_named words 0 owner) first pages block
  big_freeing page lt a =
      let size = big_pages (descriptor_of words page) a.big in
      let at : page_at page ≡ block.first = ap (λ (b : Block). b.first) a.block_is in
      let count : 512 * (descriptor_of words page - 16) ≡ block.words = ap (λ (b : Block). b.words) a.block_is in
      let big : is_big_place block.first ≡ true = ap is_big_place (sym at) ∙ big_place page in
      let here : page ≡ first = let e = known.first_page in omega (arith, at, e) in
      let fits = known.big big in
      let many : descriptor_of words page - 16 ≡ pages = let w = fits.0 in omega (arith, count, w) in
      let run : Pages = record { lane = 0; owner = owner; first = page; pages = descriptor_of words page - 16 } in
      let page_is : page_of (place_in (get_or words owner 0)) ≡ page = let e = named_at in omega (arith, e, at) in
      let is : pages_named words 0 owner ≡ run = ap (λ (p : ℕ). at_page p) page_is in
      let freeing : IsFreeing words owner (of_pages run) first pages block = record {
        may = record {
          idle = known.idle;
          owned = known.named ∙ ap pointer_word (sym at);
          run = record {
            page_is = subst (IsHeapPage words) (sym here) known.page_is;
            in_image = omega (arith, fits, here, many);
            in_segment = omega (arith, fits, here, many);
            some = omega (arith, size);
            not_inside = a.outside;
          };
          head = omega (arith, size);
          clean = λ k some within. ap (λ (p : ℕ). descriptor_of words (p + k)) here ∙ known.clean k some (omega (arith, within, many));
        };
        block_is = a.block_is;
        page_is = here;
        pages_are = many;
        lane_is = refl;
        owner_is = refl;
      } in
      subst (λ (f : Freed). IsFreeing words owner f first pages block)
      (ap of_pages (sym is) ∙ sym (cond-true (is_big_place (place_in (get_or words owner 0))) (of_pages (pages_named words 0 owner)) (of_slot (slot_named words 0 owner)) (ap is_big_place named_at ∙ big))) freeing
    where
      at_page : ℕ → Pages
      at_page p = record { lane = 0; owner = owner; first = p; pages = descriptor_of words p - 16 }

  pub freeing_is : IsFreeing words owner (freed_named words 0 owner) first pages block
  freeing_is = let (page, lt, of) = page_of_block words block known.live in ⊎_elim (small_freeing page lt) (big_freeing page lt) of

-- ── one block stands once ──

front_differs : (front : List Block) (block : Block) (back : List Block) → Differ (map first_of (front ++ block ∷ back)) → (other : List Block) (rest : List Block) → front ++ block ∷ back ≡ other ++ block ∷ rest → front ++ back ≡ other ++ rest
front_differs [] block back differ [] rest same = cc
front_differs [] block back differ (o ∷ other) rest same =
    let tail : back ≡ other ++ block ∷ rest = cc in
    absurd (differ.0 block.first (map-Contains first_of back block (subst (λ (xs : List Block). Contains xs block) (sym tail) (Contains-append_right other (block ∷ rest) block (Contains-here block rest)))) refl)
front_differs (f ∷ front) block back differ [] rest same =
    let head : f ≡ block = cc in
    absurd (differ.0 block.first (map-Contains first_of (front ++ block ∷ back) block (Contains-append_right front (block ∷ back) block (Contains-here block back))) (ap (λ (b : Block). b.first) head))
front_differs (f ∷ front) block back differ (o ∷ other) rest same =
    let head : f ≡ o = cc in
    let tail : front ++ block ∷ back ≡ other ++ block ∷ rest = cc in
    ap (λ (b : Block). b ∷ (front ++ back)) head ∙ ap (λ (xs : List Block). o ∷ xs) (front_differs front block back differ.1 other rest tail)

pub taken_back : (words base freed : List Block) (block : Block) → Differ (map first_of words) → GainsOne base block words → GainsOne freed block words → freed ≡ base
taken_back words base freed block differ gained lost =
    lost.old_is ∙ front_differs lost.front block lost.back (subst (λ (xs : List Block). Differ (map first_of xs)) lost.new_is differ) gained.front gained.back (sym lost.new_is ∙ gained.new_is) ∙ sym gained.old_is
