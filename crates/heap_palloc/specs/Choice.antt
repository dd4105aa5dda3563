-- Where an allocation goes, all its ways as one: so users of the heap have one law. And which block a freeing frees.
use Rattle.std.specs.Prelude.{◌≡◌, ℕ, ◌-◌, ◌*◌, ◌<◌, ◌≤◌, nat_le, if◌then◌else◌, List, [], ◌∷◌, slice_index}
use Rattle.pm_model.specs.declared.action.Action.{Action}
use Rattle.image_layout.specs.Places.{page_of, page_at, place_in}
use Rattle.image_layout.specs.Blocks.{Block, slot_words, slot_at, slot_in, class_for, pages_for, descriptor_of, bitmap_of}
use Rattle.heap_small.specs.Bitmap.{IsFirstClear, with_bit, without_bit}
use Rattle.heap_big.specs.declared.run.Run.{Run}
use Rattle.heap_big.specs.Fit.{TakesBestFit}
use Rattle.heap_palloc.specs.Lane.{is_big_place}
use Rattle.heap_palloc.specs.Parts.{Allocation, allocation_parts, new_page_allocation_parts, big_allocation_parts, freeing_parts, small_freeing_parts}
use Rattle.heap_palloc.specs.Law.{Slot, slot_allocation, taking, taken, Pages, pages_allocation, MayTakeSlot, MayTakeNewSlot, MayTakeRun, MayFreeSlot, MayFreePages}
use Rattle.heap_palloc.specs.Index.{pages_with_room}

-- ── allocating ──

-- a slot of a small page, one of a page that is made small first, or pages
pub data Choice : Type 0 where
  in_page : Slot → Choice
  on_new_page : Slot → Choice
  in_run : Pages → Choice

abbrev pub choice_allocation : List ℕ → Choice → Allocation
choice_allocation words (in_page s) = taking words s
choice_allocation words (on_new_page s) = slot_allocation s (with_bit 0 s.slot)
choice_allocation words (in_run r) = pages_allocation r

-- the parts of its plan
abbrev pub choice_parts : List ℕ → Choice → List (List Action)
choice_parts words (in_page s) = allocation_parts (taking words s)
choice_parts words (on_new_page s) = new_page_allocation_parts s.page s.class (slot_allocation s (with_bit 0 s.slot))
choice_parts words (in_run r) = big_allocation_parts words r.pages (pages_allocation r)

-- its block, and the first page and the pages of that
abbrev pub choice_page : Choice → ℕ
choice_page (in_page s) = s.page
choice_page (on_new_page s) = s.page
choice_page (in_run r) = r.first

abbrev pub choice_pages : Choice → ℕ
choice_pages (in_page s) = 1
choice_pages (on_new_page s) = 1
choice_pages (in_run r) = r.pages

abbrev pub choice_block : Choice → Block
choice_block (in_page s) = record { first = slot_at s.page s.class s.slot; words = slot_words s.class }
choice_block (on_new_page s) = record { first = slot_at s.page s.class s.slot; words = slot_words s.class }
choice_block (in_run r) = record { first = page_at r.first; words = 512 * r.pages }

-- the choice is one for this lane and owner's word
abbrev pub IsThrough : ℕ → ℕ → Choice → Type 0
IsThrough lane owner (in_page s) = (s.lane ≡ lane) × (s.owner ≡ owner)
IsThrough lane owner (on_new_page s) = (s.lane ≡ lane) × (s.owner ≡ owner)
IsThrough lane owner (in_run r) = (r.lane ≡ lane) × (r.owner ≡ owner)

abbrev pub MayMake : List ℕ → Choice → Type 0
MayMake words (in_page s) = MayTakeSlot words s
MayMake words (on_new_page s) = MayTakeNewSlot words s
MayMake words (in_run r) = MayTakeRun words r

-- of the runs, the best fit for so many pages begins at this one
abbrev pub IsBestFit : List Run → ℕ → ℕ → Type 0
IsBestFit runs pages first = (left : List Run) × TakesBestFit runs pages (record { first = first; pages = pages }) left

-- the lowest small page of the class that has a free slot
abbrev pub IsFirstWithRoom : List ℕ → ℕ → ℕ → Type 0
IsFirstWithRoom words class page = (rest : List ℕ) × (pages_with_room words class ≡ page ∷ rest)

-- Where a request for so many words goes. Up to 256 it takes the least class that holds them: the least free slot of
-- the lowest small page of the class that has one, and where there is none the first slot of a page of the best fit.
-- Above that it takes the least number of pages that holds them, of the best fit.
abbrev pub IsChosen : List ℕ → List Run → ℕ → Choice → Type 0
IsChosen words runs count (in_page s) =
    (count ≤ 256) × (s.class ≡ class_for count)
    × IsFirstWithRoom words s.class s.page × IsFirstClear (bitmap_of words s.page) s.slot
IsChosen words runs count (on_new_page s) =
    (count ≤ 256) × (s.class ≡ class_for count)
    × (pages_with_room words s.class ≡ []) × IsBestFit runs 1 s.page × (s.slot ≡ 0)
IsChosen words runs count (in_run r) = (256 < count) × (r.pages ≡ pages_for count) × IsBestFit runs r.pages r.first

-- how many neighbouring free pages a request needs where no slot is free
abbrev pub needed_pages : ℕ → ℕ
needed_pages count = (if nat_le count 256 then 1 else pages_for count)

-- ── freeing ──

-- a slot of a small page, or pages
pub data Freed : Type 0 where
  of_slot : Slot → Freed
  of_pages : Pages → Freed

-- the block whose pointer the word at a place holds
abbrev pub slot_named : List ℕ → ℕ → ℕ → Slot
slot_named words lane owner =
    let block = place_in (slice_index words owner) in
    let class = descriptor_of words (page_of block) - 2 in
    record { lane = lane; owner = owner; page = page_of block; class = class; slot = slot_in class block }

abbrev pub pages_named : List ℕ → ℕ → ℕ → Pages
pages_named words lane owner =
    let page = page_of (place_in (slice_index words owner)) in
    record { lane = lane; owner = owner; first = page; pages = descriptor_of words page - 16 }

abbrev pub freed_named : List ℕ → ℕ → ℕ → Freed
freed_named words lane owner =
    if is_big_place (place_in (slice_index words owner)) then of_pages (pages_named words lane owner)
    else of_slot (slot_named words lane owner)

-- the parts of its plan
abbrev pub freed_parts : List ℕ → Freed → List (List Action)
freed_parts words (of_slot s) = small_freeing_parts s.page (taken words s) (without_bit (bitmap_of words s.page) s.slot)
freed_parts words (of_pages r) = freeing_parts (pages_allocation r) 0

-- its allocation, its block, and the first page and the pages of that
abbrev pub freed_allocation : List ℕ → Freed → Allocation
freed_allocation words (of_slot s) = taken words s
freed_allocation words (of_pages r) = pages_allocation r

abbrev pub freed_page : Freed → ℕ
freed_page (of_slot s) = s.page
freed_page (of_pages r) = r.first

abbrev pub freed_pages : Freed → ℕ
freed_pages (of_slot s) = 1
freed_pages (of_pages r) = r.pages

abbrev pub freed_block : Freed → Block
freed_block (of_slot s) = record { first = slot_at s.page s.class s.slot; words = slot_words s.class }
freed_block (of_pages r) = record { first = page_at r.first; words = 512 * r.pages }

abbrev pub MayRelease : List ℕ → Freed → Type 0
MayRelease words (of_slot s) = MayFreeSlot words s
MayRelease words (of_pages r) = MayFreePages words r
