-- What the calls rely on lets the block that a word names be freed.
use Rattle.std.proofs.Common.{◌≡◌, ◌≢◌, ◌⊎◌, inl, inr, ⊎_elim, ℕ, ◌+◌, ◌-◌, ◌*◌, ◌/◌, ◌%◌, ◌<◌, ◌≤◌, Bool, true, false, not, eqb, ltb, cond, List, [], ◌++◌, length, get_or, refl, sym, ◌∙◌, ap, subst, arith, append-nil}
use Rattle.std.specs.Prelude.{Contains}
use Rattle.std.specs.Int.{bit_at}
use Rattle.std.proofs.lemmas.Bool.{cases_eq, both_ways, not_from_false, not_from_true, and_from, eq-eqb, ne_eqb, lt-ltb, cond-true, cond-false}
use Rattle.std.proofs.lemmas.Grind.{flat_map-append}
use Rattle.pm_model.specs.declared.action.Action.{Action}
use Rattle.pm_model.specs.Device.{Device, IsWhole}
use Rattle.image_layout.specs.Fixed.{descriptor_at}
use Rattle.image_layout.specs.Pointer.{pointer_word}
use Rattle.image_layout.specs.Places.{page_of, page_at, page_count, place_in, is_pointer}
use Rattle.pm_model.specs.Plans.{one_store, part_actions, plan_of, finished}
use Rattle.image_layout.specs.Blocks.{Block, slot_words, slots_of, slot_at, slot_in, descriptor_of, says_small, is_inside, is_small_page, class_of, bitmap_of, small_block}
use Rattle.image_layout.proofs.Heap.{IsBigOf, small_class, big_pages, big_ends, page_of_block, free_pages_unused}
use Rattle.heap_small.specs.Bitmap.{without_bit}
use Rattle.heap_big.specs.declared.run.Run.{Run}
use Rattle.heap_big.specs.Runs.{HasPage, IsFree, IsInSegment, IsWellFormed, Adds, end_of}
use Rattle.heap_palloc.specs.Lane.{is_big_place}
use Rattle.heap_palloc.specs.Parts.{freeing_parts, free_page_parts, small_freeing_parts}
use Rattle.heap_palloc.specs.Shown.{GainsOne}
use Rattle.heap_palloc.specs.Law.{IsSmallPage, Slot, taken, Pages, MayFreeSlot, MayFreePages}
use Rattle.heap_palloc.specs.Index.{HeapIndex, rooms_of, is_full, has_room, IsIndexOf}
use Rattle.heap_palloc.specs.Choice.{Freed, of_slot, of_pages, slot_named, pages_named, freed_named}
use Rattle.heap_palloc.specs.Calls.{MayCall, OwnsBlock, IsReleased}
use Rattle.heap_palloc.proofs.Allocating.{idle_is, pages_whole}
use Rattle.heap_palloc.proofs.BigPlans.{big_place}
use Rattle.heap_palloc.proofs.Dests.{small_heap_page, big_heap_page}
use Rattle.heap_palloc.proofs.Indexed.{KeepsRooms, GainsRoom, LosesRoom, KeepsRuns, AddsRun, free_slot_keeps, free_slot_gains, free_page_keeps, free_page_loses, free_pages_index}
use Rattle.heap_palloc.proofs.Reindex.{small_room}
use Rattle.heap_palloc.proofs.Rooms.{room_has, has_room_of}
use Rattle.heap_palloc.proofs.Slots.{IsSlotPlace, slot_place, slot_low, slot_at-below, mark-slot}
use Rattle.heap_palloc.proofs.Stages.{place_in-pointer}

-- what becomes of the index where a slot of a page with this bitmap is freed, which is then this
abbrev pub ReleasesAt : HeapIndex → HeapIndex → ℕ → ℕ → ℕ → ℕ → Type 0
ReleasesAt old after class page bitmap clear =
    (((clear ≡ 0) × (is_full class bitmap ≡ true) × AddsRun old after (record { first = page; pages = 1 }) × KeepsRooms old after)
    ⊎ ((clear ≡ 0) × (is_full class bitmap ≡ false) × AddsRun old after (record { first = page; pages = 1 }) × LosesRoom old after class page))
    ⊎ (((clear ≢ 0) × (is_full class bitmap ≡ true) × KeepsRuns old after × GainsRoom old after class page)
    ⊎ ((clear ≢ 0) × (is_full class bitmap ≡ false) × KeepsRuns old after × KeepsRooms old after))

-- the page was given back
pub record GaveBack (old after : HeapIndex) (class page : ℕ) (was_full : Bool) : Type 0 where
  pub loses : was_full ≡ false → GainsOne (rooms_of after class) page (rooms_of old class)
  pub others : (c : ℕ) → c ≢ class → rooms_of after c ≡ rooms_of old c
  pub same : was_full ≡ true → rooms_of after class ≡ rooms_of old class
  pub added : AddsRun old after (record { first = page; pages = 1 })

pub gave_back : (old after : HeapIndex) (class page bitmap clear : ℕ) (was_full : Bool) → clear ≡ 0 → is_full class bitmap ≡ was_full → GaveBack old after class page was_full → ReleasesAt old after class page bitmap clear
gave_back old after class page bitmap clear true zero full gave = inl (inl (
  zero,
  full,
  gave.added,
  record { each = λ c. ⊎_elim (λ (e : c ≡ class). subst (λ (k : ℕ). rooms_of after k ≡ rooms_of old k) (sym e) (gave.same refl)) (λ apart. gave.others c apart) (cases_eq c class) },
))
gave_back old after class page bitmap clear false zero full gave = inl (inr (zero, full, gave.added, record { loses = gave.loses refl; others = gave.others }))

module _ (d : Device) (whole : IsWhole d) (index : HeapIndex) (lane dest : ℕ) (may : MayCall d.cached index lane dest) where
  -- the place that the word names
  abbrev pub named : ℕ
  named = place_in (get_or d.cached dest 0)

  pub named_is : (block : Block) → OwnsBlock d.cached dest block → place_in (get_or d.cached dest 0) ≡ block.first
  named_is block owns = ap place_in owns.named ∙ place_in-pointer block.first

  -- which is one of the image
  pub named_pointer : (block : Block) → OwnsBlock d.cached dest block → is_pointer d.cached (get_or d.cached dest 0) ≡ true
  named_pointer block owns =
      let (page, lt, of) = page_of_block d.cached block owns.live in
      let within : block.first < 512 * page + 512 = ⊎_elim
      (λ a.
      let class = small_class (descriptor_of d.cached page) a.small in
      let first : slot_at page (class_of d.cached page) a.slot ≡ block.first = ap (λ (b : Block). b.first) a.block_is in
      subst (λ (n : ℕ). n < 512 * page + 512) first (slot_at-below page (class_of d.cached page) a.slot (omega (arith, class)) a.within))
      (λ a. let first : page_at page ≡ block.first = ap (λ (b : Block). b.first) a.block_is in omega (arith, first))
      of in
      let first = named_is block owns in
      let inside : place_in (get_or d.cached dest 0) < length d.cached = omega (arith, first, within, lt) in
      and_from (eqb (get_or d.cached dest 0) (pointer_word (place_in (get_or d.cached dest 0)))) (ltb (place_in (get_or d.cached dest 0)) (length d.cached))
      (eq-eqb (get_or d.cached dest 0) (pointer_word (place_in (get_or d.cached dest 0))) (owns.named ∙ ap pointer_word (sym first))) (lt-ltb (place_in (get_or d.cached dest 0)) (length d.cached) inside)

  -- ── a slot ──

  -- what a small block's slot is
  pub record IsSlotOf (block : Block) : Type 0 where
    pub page : ℕ
    pub slot : ℕ
    pub in_image : page < page_count d.cached
    pub page_is : IsSmallPage d.cached page (class_of d.cached page)
    pub within : slot < slots_of (class_of d.cached page)
    pub set : bit_at (bitmap_of d.cached page) slot ≡ 1
    pub block_is : small_block d.cached page slot ≡ block
    pub named_at : place_in (get_or d.cached dest 0) ≡ slot_at page (class_of d.cached page) slot

  slot_of : (block : Block) → OwnsBlock d.cached dest block → is_big_place (place_in (get_or d.cached dest 0)) ≡ false → IsSlotOf block
  slot_of block owns small =
      let (page, lt, of) = page_of_block d.cached block owns.live in
      ⊎_elim
      (λ a.
      let class = small_class (descriptor_of d.cached page) a.small in
      record {
        page = page;
        slot = a.slot;
        in_image = lt;
        page_is = record {
          page_is = small_heap_page d.cached may.rules page lt a.small;
          class_is = omega (arith, class);
          small = and_from (not (is_inside d.cached page)) (says_small (descriptor_of d.cached page)) (not_from_false (is_inside d.cached page) a.outside) a.small;
          descriptor = omega (arith, class);
        };
        within = a.within;
        set = a.set;
        block_is = a.block_is;
        named_at = named_is block owns ∙ sym (ap (λ (b : Block). b.first) a.block_is);
      })
      (λ a. absurd (both_ways (is_big_place (place_in (get_or d.cached dest 0))) small
      (ap is_big_place (named_is block owns ∙ sym (ap (λ (b : Block). b.first) a.block_is)) ∙ big_place page)))
      of

  module _ (small : is_big_place (place_in (get_or d.cached dest 0)) ≡ false) where
    abbrev pub slot : Slot
    slot = slot_named d.cached lane dest

    -- the slot that the word names is the block's
    slot_is : (block : Block) (of : IsSlotOf block) → slot_named d.cached lane dest ≡ record { lane = lane; owner = dest; page = of.page; class = class_of d.cached of.page; slot = of.slot }
    slot_is block of =
        let place : IsSlotPlace of.page (class_of d.cached of.page) of.slot (slot_at of.page (class_of d.cached of.page) of.slot) = slot_place of.page (class_of d.cached of.page) of.slot of.page_is.class_is of.within in
        ap (λ (f : ℕ). at f (page_of f)) of.named_at
        ∙ ap (λ (p : ℕ). at (slot_at of.page (class_of d.cached of.page) of.slot) p) place.page_is
        ∙ ap (λ (n : ℕ). with_slot of.page n) place.slot_is
      where
        at : ℕ → ℕ → Slot
        at f p = record { lane = lane; owner = dest; page = p; class = descriptor_of d.cached p - 2; slot = slot_in (descriptor_of d.cached p - 2) f }

        with_slot : ℕ → ℕ → Slot
        with_slot p n = record { lane = lane; owner = dest; page = p; class = descriptor_of d.cached p - 2; slot = n }

    slot_release : (block : Block) (of : IsSlotOf block) → OwnsBlock d.cached dest block → MayFreeSlot d.cached (record { lane = lane; owner = dest; page = of.page; class = class_of d.cached of.page; slot = of.slot })
    slot_release block of owns = record {
      idle = idle_is d whole index lane dest may;
      owned = owns.named ∙ ap (λ (b : Block). pointer_word b.first) (sym of.block_is);
      page_is = of.page_is;
      slot_is = of.within;
      set = of.set;
    }

    pub slot_may_free : (block : Block) → OwnsBlock d.cached dest block → MayFreeSlot d.cached (slot_named d.cached lane dest)
    slot_may_free block owns = let of = slot_of block owns small in subst (λ (s : Slot). MayFreeSlot d.cached s) (sym (slot_is block of)) (slot_release block of owns)

    pub slot_block_is : (block : Block) → OwnsBlock d.cached dest block → ◌≡◌ {A = Block} (record { first = slot_at slot.page slot.class slot.slot; words = slot_words slot.class }) block
    slot_block_is block owns =
        let of = slot_of block owns small in
        ap (λ (s : Slot). of_slot_block s) (slot_is block of) ∙ of.block_is
      where
        of_slot_block : Slot → Block
        of_slot_block s = record { first = slot_at s.page s.class s.slot; words = slot_words s.class }

    module _ (block : Block) (owns : OwnsBlock d.cached dest block) where
      can : MayFreeSlot d.cached (slot_named d.cached lane dest)
      can = slot_may_free block owns

      pub slot_page_in : slot.page < page_count d.cached
      slot_page_in = can.page_is.page_is.in_image

      pub slot_class_low : slot.class < 6
      slot_class_low = can.page_is.class_is

      pub slot_descriptor : descriptor_of d.cached slot.page ≡ 2 + slot.class
      slot_descriptor = can.page_is.descriptor

      pub slot_not_free : IsFree index.free.runs slot.page → ⊥
      slot_not_free free =
          let is = ((may.index_of.runs slot.page).0 free).1 in
          both_ways (is_small_page d.cached slot.page) (((free_pages_unused d.cached may.rules.reserved may.rules.descriptors slot.page slot_page_in).0 is).1) can.page_is.small

      -- by the place that the code has
      pub slot_page : (first : ℕ) → first ≡ place_in (get_or d.cached dest 0) → (first / 512 ≡ slot.page) × (slot.page < 8192) × (first < 4194304)
      slot_page first is =
          let page : first / 512 ≡ slot.page = ap page_of is in
          (page, omega (arith, slot_page_in, whole.most), omega (arith, page, slot_page_in, whole.most))

      pub slot_number : (first : ℕ) → first ≡ place_in (get_or d.cached dest 0) → (8 ≤ first % 512) × ((first % 512 - 8) / slot_words slot.class ≡ slot.slot) × (slot.slot < 63)
      slot_number first is =
          let place = slot_place slot.page slot.class slot.slot slot_class_low can.slot_is in
          let block_at : first ≡ slot_at slot.page slot.class slot.slot = is ∙ named_is block owns ∙ sym (ap (λ (b : Block). b.first) (slot_block_is block owns)) in
          (subst (λ (f : ℕ). 8 ≤ f % 512) (sym block_at) place.behind_bitmap, ap (λ (f : ℕ). slot_in slot.class f) block_at ∙ place.slot_is, slot_low slot.class slot.slot slot_class_low can.slot_is)

      pub slot_value : (first at value : ℕ) → first ≡ place_in (get_or d.cached dest 0) → at ≡ descriptor_at (first / 512) → value ≡ get_or d.cached at 0 → (2 ≤ value) × (value - 2 ≡ slot.class) × (value < 8)
      slot_value first at value is at_is value_is =
          let head : value ≡ 2 + slot.class = value_is ∙ ap (λ (w : ℕ). get_or d.cached w 0) at_is ∙ ap (λ (f : ℕ). descriptor_of d.cached (page_of f)) is ∙ slot_descriptor in
          (omega (arith, head), omega (arith, head), omega (arith, head, slot_class_low))

      -- what the code reads
      pub record IsRead (first class number bitmap clear : ℕ) : Type 0 where
        pub page_is : first / 512 ≡ slot.page
        pub class_is : class ≡ slot.class
        pub number_is : number ≡ slot.slot
        pub bitmap_is : bitmap ≡ bitmap_of d.cached slot.page
        pub clear_is : clear ≡ without_bit bitmap slot.slot

      pub slot_read : (first at value class words number from bitmap clear : ℕ) → first ≡ place_in (get_or d.cached dest 0) → at ≡ descriptor_at (first / 512) → value ≡ get_or d.cached at 0 → class ≡ value - 2 → words ≡ slot_words class
          → number ≡ (first % 512 - 8) / words → from ≡ first / 512 → bitmap ≡ get_or d.cached (512 * from) 0 → clear ≡ without_bit bitmap number → IsRead first class number bitmap clear
      slot_read first at value class words number from bitmap clear is at_is value_is class_is words_is number_is from_is bitmap_is clear_is =
          let page = slot_page first is in
          let value_at = slot_value first at value is at_is value_is in
          let class_at : class ≡ slot.class = class_is ∙ value_at.1 in
          let number_at : number ≡ slot.slot = number_is ∙ ap (λ (w : ℕ). (first % 512 - 8) / w) (words_is ∙ ap slot_words class_at) ∙ (slot_number first is).1 in
          record {
            page_is = page.0;
            class_is = class_at;
            number_is = number_at;
            bitmap_is = bitmap_is ∙ ap (λ (p : ℕ). get_or d.cached (512 * p) 0) (from_is ∙ page.0);
            clear_is = clear_is ∙ ap (λ (n : ℕ). without_bit bitmap n) number_at;
          }

      room_is : has_room d.cached slot.class slot.page ≡ not (is_full slot.class (bitmap_of d.cached slot.page))
      room_is = small_room d.cached slot.page slot.class can.page_is

      pub slot_has_room : (bitmap : ℕ) → bitmap ≡ bitmap_of d.cached slot.page → is_full slot.class bitmap ≡ false → Contains (rooms_of index slot.class) slot.page
      slot_has_room bitmap is rest =
          subst (λ (xs : List ℕ). Contains xs slot.page) (sym (may.index_of.rooms slot.class slot_class_low))
          (room_has d.cached slot.class slot.page slot_page_in (room_is ∙ not_from_false (is_full slot.class (bitmap_of d.cached slot.page)) (ap (is_full slot.class) (sym is) ∙ rest)))

      pub slot_no_room : (bitmap : ℕ) → bitmap ≡ bitmap_of d.cached slot.page → is_full slot.class bitmap ≡ true → Contains (rooms_of index slot.class) slot.page → ⊥
      slot_no_room bitmap is full has =
          let hit = (has_room_of d.cached slot.class slot.page (subst (λ (xs : List ℕ). Contains xs slot.page) (may.index_of.rooms slot.class slot_class_low) has)).1 in
          both_ways (has_room d.cached slot.class slot.page) (room_is ∙ not_from_true (is_full slot.class (bitmap_of d.cached slot.page)) (ap (is_full slot.class) (sym is) ∙ full)) hit

      -- what becomes of the index
      abbrev pub Releases : HeapIndex → ℕ → ℕ → Type 0
      Releases after bitmap clear = ReleasesAt index after slot.class slot.page bitmap clear

      slot_index : (after : HeapIndex) → Releases after (bitmap_of d.cached slot.page) (without_bit (bitmap_of d.cached slot.page) slot.slot)
          → IsIndexOf (finished (small_freeing_parts slot.page (taken d.cached slot) (without_bit (bitmap_of d.cached slot.page) slot.slot)) d.cached) after
      slot_index after releases = ⊎_elim
          (λ empty. ⊎_elim
          (λ (zero, full, adds, keeps). free_page_keeps d.cached slot can index after may.index_of zero full adds keeps)
          (λ (zero, rest, adds, loses). free_page_loses d.cached slot can index after may.index_of zero rest adds loses) empty)
          (λ some. ⊎_elim
          (λ (more, full, runs, gains). free_slot_gains d.cached slot can index after may.index_of more full (pages_whole d whole index lane dest may).1 runs gains)
          (λ (more, rest, runs, keeps). free_slot_keeps d.cached slot can index after may.index_of more rest runs keeps) some)
          releases

      -- the plan, whose last part is there where the page becomes empty
      abbrev pub Ends : List Action → List Action → ℕ → Type 0
      Ends left half clear = ((clear ≡ 0) × (left ≡ half ++ part_actions (one_store (descriptor_at slot.page) 0))) ⊎ ((clear ≢ 0) × (left ≡ half))

      ends_with : (left half : List Action) (clear : ℕ) → Ends left half clear → left ≡ half ++ plan_of (cond (eqb clear 0) (free_page_parts slot.page) [])
      ends_with left half clear ends = ⊎_elim
          (λ (zero, is). is ∙ ap (λ (xs : List Action). half ++ xs) (sym (append-nil (part_actions (one_store (descriptor_at slot.page) 0)))) ∙ ap (λ (b : Bool). half ++ plan_of (cond b (free_page_parts slot.page) [])) (sym (eq-eqb clear 0 zero)))
          (λ (some, is). is ∙ sym (append-nil half) ∙ ap (λ (b : Bool). half ++ plan_of (cond b (free_page_parts slot.page) [])) (sym (ne_eqb clear 0 some)))
          ends

      pub slot_released : (first bitmap clear : ℕ) (left half old : List Action) (after : HeapIndex) → first ≡ place_in (get_or d.cached dest 0) → bitmap ≡ bitmap_of d.cached slot.page → clear ≡ without_bit bitmap slot.slot
          → half ≡ old ++ plan_of (freeing_parts (record { lane = lane; owner = dest; block = first; marked = 0 }) clear) → old ≡ [] → Ends left half clear → Releases after bitmap clear
          → IsReleased d.cached after dest (freed_named d.cached lane dest) left
      slot_released first bitmap clear left half old after first_is bitmap_is clear_is pushed none ends releases =
          let clear_at : clear ≡ without_bit (bitmap_of d.cached slot.page) slot.slot = clear_is ∙ ap (λ (b : ℕ). without_bit b slot.slot) bitmap_is in
          let block_at : first ≡ slot_at slot.page slot.class slot.slot = first_is ∙ named_is block owns ∙ sym (ap (λ (b : Block). b.first) (slot_block_is block owns)) in
          let half_is : half ≡ plan_of (freeing_parts (taken d.cached slot) clear) = pushed ∙ ap (λ (xs : List Action). xs ++ plan_of (freeing_parts (record { lane = lane; owner = dest; block = first; marked = 0 }) clear)) none
          ∙ ap (λ (b : ℕ). plan_of (freeing_parts (record { lane = lane; owner = dest; block = b; marked = 0 }) clear)) block_at in
          let released : IsReleased d.cached after dest (of_slot slot) left = record {
            may = can;
            block_is = slot_block_is;
            plan_is = ends_with left half clear ends ∙ ap (λ (xs : List Action). xs ++ plan_of (cond (eqb clear 0) (free_page_parts slot.page) [])) half_is
                ∙ sym (flat_map-append part_actions (freeing_parts (taken d.cached slot) clear) (cond (eqb clear 0) (free_page_parts slot.page) []))
                ∙ ap (λ (n : ℕ). plan_of (small_freeing_parts slot.page (taken d.cached slot) n)) clear_at;
            index_of = slot_index after (subst (λ (b : ℕ). Releases after b (without_bit (bitmap_of d.cached slot.page) slot.slot)) bitmap_is (subst (λ (n : ℕ). Releases after bitmap n) clear_at releases));
          } in
          subst (λ (f : Freed). IsReleased d.cached after dest f left) (sym (cond-false (is_big_place (place_in (get_or d.cached dest 0))) (of_pages (pages_named d.cached lane dest)) (of_slot slot) small)) released

      -- in the numbers that the code has
      pub read_has_room : (first class number bitmap clear : ℕ) → IsRead first class number bitmap clear → is_full class bitmap ≡ false → Contains (rooms_of index class) (first / 512)
      read_has_room first class number bitmap clear read rest =
          subst (λ (k : ℕ). Contains (rooms_of index k) (first / 512)) (sym read.class_is) (subst (λ (p : ℕ). Contains (rooms_of index slot.class) p) (sym read.page_is)
          (slot_has_room bitmap read.bitmap_is (ap (λ (k : ℕ). is_full k bitmap) (sym read.class_is) ∙ rest)))

      pub read_no_room : (first class number bitmap clear : ℕ) → IsRead first class number bitmap clear → is_full class bitmap ≡ true → Contains (rooms_of index class) (first / 512) → ⊥
      read_no_room first class number bitmap clear read full has =
          slot_no_room bitmap read.bitmap_is (ap (λ (k : ℕ). is_full k bitmap) (sym read.class_is) ∙ full)
          (subst (λ (p : ℕ). Contains (rooms_of index slot.class) p) read.page_is (subst (λ (k : ℕ). Contains (rooms_of index k) (first / 512)) read.class_is has))

      pub read_not_free : (first class number bitmap clear : ℕ) → IsRead first class number bitmap clear → IsFree index.free.runs (first / 512) → ⊥
      read_not_free first class number bitmap clear read free = slot_not_free (subst (IsFree index.free.runs) read.page_is free)

      pub read_within : (first class number bitmap clear : ℕ) → IsRead first class number bitmap clear → first / 512 < index.free.page_count
      read_within first class number bitmap clear read = omega (arith, read.page_is, slot_page_in, may.index_of.pages)

      abbrev pub EndsAt : List Action → List Action → ℕ → ℕ → Type 0
      EndsAt left half at clear = ((clear ≡ 0) × (left ≡ half ++ part_actions (one_store at 0))) ⊎ ((clear ≢ 0) × (left ≡ half))

      pub read_released : (first class number bitmap clear at : ℕ) (left half old : List Action) (after : HeapIndex) → IsRead first class number bitmap clear → first ≡ place_in (get_or d.cached dest 0)
          → half ≡ old ++ plan_of (freeing_parts (record { lane = lane; owner = dest; block = first; marked = 0 }) clear) → old ≡ [] → (clear ≡ 0 → at ≡ descriptor_at (first / 512)) → EndsAt left half at clear → ReleasesAt index after class (first / 512) bitmap clear
          → IsReleased d.cached after dest (freed_named d.cached lane dest) left
      read_released first class number bitmap clear at left half old after read is pushed none at_is ends releases =
          slot_released first bitmap clear left half old after is read.bitmap_is read.clear_is pushed none
          (⊎_elim (λ (zero, end). inl (zero, end ∙ ap (λ (w : ℕ). half ++ part_actions (one_store w 0)) (at_is zero ∙ ap descriptor_at read.page_is))) (λ some. inr some) ends)
          (subst (λ (p : ℕ). ReleasesAt index after slot.class p bitmap clear) read.page_is (subst (λ (k : ℕ). ReleasesAt index after k (first / 512) bitmap clear) read.class_is releases))

  -- ── pages ──

  pub record IsPagesOf (block : Block) : Type 0 where
    pub page : ℕ
    pub in_image : page < page_count d.cached
    pub of : IsBigOf d.cached page block
    pub named_at : place_in (get_or d.cached dest 0) ≡ page_at page

  pages_of : (block : Block) → OwnsBlock d.cached dest block → is_big_place (place_in (get_or d.cached dest 0)) ≡ true → IsPagesOf block
  pages_of block owns big =
      let (page, lt, of) = page_of_block d.cached block owns.live in
      ⊎_elim
      (λ a.
      let class = small_class (descriptor_of d.cached page) a.small in
      let place = slot_place page (class_of d.cached page) a.slot (omega (arith, class)) a.within in
      absurd (both_ways (is_big_place (place_in (get_or d.cached dest 0)))
      (ap is_big_place (named_is block owns ∙ sym (ap (λ (b : Block). b.first) a.block_is)) ∙ (mark-slot page (class_of d.cached page) a.slot (slot_at page (class_of d.cached page) a.slot) place).0) big))
      (λ a. record { page = page; in_image = lt; of = a; named_at = named_is block owns ∙ sym (ap (λ (b : Block). b.first) a.block_is) })
      of

  module _ (big : is_big_place (place_in (get_or d.cached dest 0)) ≡ true) where
    abbrev pub pages : Pages
    pages = pages_named d.cached lane dest

    pages_is : (block : Block) (of : IsPagesOf block) → pages_named d.cached lane dest ≡ record { lane = lane; owner = dest; first = of.page; pages = descriptor_of d.cached of.page - 16 }
    pages_is block of =
        let page : page_of (place_in (get_or d.cached dest 0)) ≡ of.page = omega (arith, of.named_at) in
        ap (λ (p : ℕ). at p) page
      where
        at : ℕ → Pages
        at p = record { lane = lane; owner = dest; first = p; pages = descriptor_of d.cached p - 16 }

    pages_release : (block : Block) (of : IsPagesOf block) → OwnsBlock d.cached dest block → MayFreePages d.cached (record { lane = lane; owner = dest; first = of.page; pages = descriptor_of d.cached of.page - 16 })
    pages_release block of owns =
        let size = big_pages (descriptor_of d.cached of.page) of.of.big in
        let ends = big_ends d.cached may.rules.reserved may.rules.descriptors of.page of.in_image of.of.outside of.of.big in
        let first : page_at of.page ≡ block.first = ap (λ (b : Block). b.first) of.of.block_is in
        let count : 512 * (descriptor_of d.cached of.page - 16) ≡ block.words = ap (λ (b : Block). b.words) of.of.block_is in
        record {
          idle = idle_is d whole index lane dest may;
          owned = owns.named ∙ ap pointer_word (sym first);
          run = record {
            page_is = big_heap_page d.cached may.rules of.page of.in_image of.of.big;
            in_image = omega (arith, ends, of.in_image, (pages_whole d whole index lane dest may).0);
            in_segment = ends;
            some = omega (arith, size);
            not_inside = of.of.outside;
          };
          head = omega (arith, size);
          clean = λ k some lt. owns.clean (of.page + k) (omega (arith, first, some)) (omega (arith, first, count, lt));
        }

    pub pages_may_free : (block : Block) → OwnsBlock d.cached dest block → MayFreePages d.cached (pages_named d.cached lane dest)
    pages_may_free block owns = let of = pages_of block owns big in subst (λ (r : Pages). MayFreePages d.cached r) (sym (pages_is block of)) (pages_release block of owns)

    pub pages_block_is : (block : Block) → OwnsBlock d.cached dest block → ◌≡◌ {A = Block} (record { first = page_at pages.first; words = 512 * pages.pages }) block
    pages_block_is block owns =
        let of = pages_of block owns big in
        ap (λ (r : Pages). of_pages_block r) (pages_is block of) ∙ of.of.block_is
      where
        of_pages_block : Pages → Block
        of_pages_block r = record { first = page_at r.first; words = 512 * r.pages }

    module _ (block : Block) (owns : OwnsBlock d.cached dest block) where
      pages_can : MayFreePages d.cached (pages_named d.cached lane dest)
      pages_can = pages_may_free block owns

      pub pages_in : pages.first < page_count d.cached
      pages_in = pages_can.run.page_is.in_image

      pub pages_head : descriptor_of d.cached pages.first ≡ 16 + pages.pages
      pages_head = pages_can.head

      -- by the place that the code has
      pub pages_page : (first : ℕ) → first ≡ place_in (get_or d.cached dest 0) → (first / 512 ≡ pages.first) × (pages.first < 8192) × (first < 4194304)
      pages_page first is =
          let page : first / 512 ≡ pages.first = ap page_of is in
          (page, omega (arith, pages_in, whole.most), omega (arith, page, pages_in, whole.most))

      pub pages_few : pages.pages ≤ 64
      pages_few = omega (arith, pages_can.run.in_segment)

      pub pages_value : (first at value : ℕ) → first ≡ place_in (get_or d.cached dest 0) → at ≡ descriptor_at (first / 512) → value ≡ get_or d.cached at 0 → (16 ≤ value) × (value - 16 ≡ pages.pages) × (value < 4294967296)
      pages_value first at value is at_is value_is =
          let head : value ≡ 16 + pages.pages = value_is ∙ ap (λ (w : ℕ). get_or d.cached w 0) at_is ∙ ap (λ (f : ℕ). descriptor_of d.cached (page_of f)) is ∙ pages_head in
          (omega (arith, head), omega (arith, head), omega (arith, head, pages_few))

      -- none of them is free
      pub pages_not_free : (run : Run) → run.first ≡ pages.first → run.pages ≡ pages.pages → IsInSegment run × (end_of run ≤ index.free.page_count) × ((page : ℕ) → HasPage run page → IsFree index.free.runs page → ⊥)
      pages_not_free run first_is size_is =
          let first : page_at pages.first ≡ block.first = ap (λ (b : Block). b.first) (pages_block_is block owns) in
          let count : 512 * pages.pages ≡ block.words = ap (λ (b : Block). b.words) (pages_block_is block owns) in (
            record { some = omega (arith, size_is, pages_can.run.some); within = in_segment run.first run.pages first_is size_is },
            omega (arith, first_is, size_is, pages_can.run.in_image, may.index_of.pages),
            λ page has free.
                let is = (may.index_of.runs page).0 free in
                ((free_pages_unused d.cached may.rules.reserved may.rules.descriptors page is.0).0 is.1).2 block owns.live (omega (arith, has.0, first_is, first), omega (arith, has.1, first_is, size_is, first, count)),
          )
        where
          in_segment : (first size : ℕ) → first ≡ pages.first → size ≡ pages.pages → first % 64 + size ≤ 64
          in_segment first size a b = subst (λ (n : ℕ). n % 64 + size ≤ 64) (sym a) (subst (λ (n : ℕ). pages.first % 64 + n ≤ 64) (sym b) pages_can.run.in_segment)

      pub pages_released : (first : ℕ) (left old : List Action) (after : HeapIndex) → first ≡ place_in (get_or d.cached dest 0)
          → left ≡ old ++ plan_of (freeing_parts (record { lane = lane; owner = dest; block = first; marked = 0 }) 0) → old ≡ [] → AddsRun index after (record { first = pages.first; pages = pages.pages }) → KeepsRooms index after
          → IsReleased d.cached after dest (freed_named d.cached lane dest) left
      pages_released first left old after first_is pushed none adds keeps =
          let block_at : first ≡ page_at pages.first = first_is ∙ named_is block owns ∙ sym (ap (λ (b : Block). b.first) (pages_block_is block owns)) in
          let released : IsReleased d.cached after dest (of_pages pages) left = record {
            may = pages_can;
            block_is = pages_block_is;
            plan_is = pushed ∙ ap (λ (xs : List Action). xs ++ plan_of (freeing_parts (record { lane = lane; owner = dest; block = first; marked = 0 }) 0)) none
                ∙ ap (λ (b : ℕ). plan_of (freeing_parts (record { lane = lane; owner = dest; block = b; marked = 0 }) 0)) block_at;
            index_of = free_pages_index d.cached pages pages_can index after may.index_of adds keeps;
          } in
          subst (λ (f : Freed). IsReleased d.cached after dest f left) (sym (cond-true (is_big_place (place_in (get_or d.cached dest 0))) (of_pages pages) (of_slot (slot_named d.cached lane dest)) big)) released

-- what a run that was put back is to the index
pub run_adds : (old new : HeapIndex) (run : Run) (first count : ℕ) → run.first ≡ first → run.pages ≡ count → Adds old.free.runs run new.free.runs → IsWellFormed new.free → new.free.page_count ≡ old.free.page_count → AddsRun old new (record { first = first; pages = count })
run_adds old new run first count first_is size_is adds well_formed total = record {
  adds = subst (λ (r : Run). Adds old.free.runs r new.free.runs) (ap (λ (p : ℕ). of p run.pages) first_is ∙ ap (λ (n : ℕ). of first n) size_is) adds;
  well_formed = well_formed;
  count = total;
}
  where
    of : ℕ → ℕ → Run
    of p n = record { first = p; pages = n }
