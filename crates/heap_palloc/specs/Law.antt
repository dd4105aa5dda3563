-- What a heap plan keeps through each power cut: the live blocks gain or lose one block, and the owner's word with
-- them.
use Rattle.std.specs.Prelude.{◌≡◌, ◌≢◌, ◌⊎◌, ℕ, ◌+◌, ◌%◌, ◌<◌, ◌≤◌, true, false, List, length, slice_index}
use Rattle.std.specs.Int.{bit_at}
use Rattle.pm_model.specs.declared.action.Action.{Action}
use Rattle.image_layout.specs.Fixed.{descriptor_at, lane_op_at}
use Rattle.image_layout.specs.Pointer.{pointer_word}
use Rattle.image_layout.specs.Places.{page_of, page_at, page_count}
use Rattle.image_layout.specs.Blocks.{Block, slot_words, slots_of, slot_at, descriptor_of, bitmap_of, is_inside, is_small_page, is_free_page, live_blocks}
use Rattle.pm_model.specs.Plans.{EachCut, finished}
use Rattle.heap_small.specs.Bitmap.{with_bit}
use Rattle.heap_palloc.specs.Lane.{mended_lane}
use Rattle.heap_palloc.specs.Parts.{Allocation}
use Rattle.heap_palloc.specs.Shown.{IsOutsideLane, GainsOne}

-- a word that no plan writes on a block of these pages: none of the lane, not the owner's, no descriptor of them, and
-- not the first word of the first one
pub record IsElsewhere (lane owner page pages w : ℕ) : Type 0 where
  pub outside_lane : IsOutsideLane lane w
  pub no_owner : w ≢ owner
  pub no_descriptor : (k : ℕ) → page ≤ k → k < page + pages → w ≢ descriptor_at k
  pub no_bitmap : w ≢ page_at page

-- all such words are the same
pub record KeepsElsewhere (lane owner page pages : ℕ) (old new : List ℕ) : Type 0 where
  pub size : length new ≡ length old
  pub each : (w : ℕ) → IsElsewhere lane owner page pages w → slice_index new w ≡ slice_index old w

-- the words show these live blocks and this as the owner's word, and elsewhere they are those of the origin
pub record Shows (lane owner page pages : ℕ) (origin : List ℕ) (blocks : List Block) (word : ℕ)
    (words : List ℕ) : Type 0 where
  pub blocks_are : live_blocks words ≡ blocks
  pub word_is : slice_index words owner ≡ word
  pub keeps : KeepsElsewhere lane owner page pages origin words

-- Mended, each image of the plan shows what stood before or what stands after, and from its end on what stands after.
pub record ChangesShown (lane owner page pages : ℕ) (origin : List ℕ) (before : List Block) (old : ℕ)
    (after : List Block) (new : ℕ) (parts : List (List Action)) (base : List ℕ) : Type 0 where
  pub cuts : EachCut (λ image. Shows lane owner page pages origin before old (mended_lane lane image)
      ⊎ Shows lane owner page pages origin after new (mended_lane lane image)) parts base
  pub ends : Shows lane owner page pages origin after new (mended_lane lane (finished parts base))
  pub idle : slice_index (finished parts base) (lane_op_at lane) ≡ 0

-- an allocation in so many pages from one on: no block and 0, or the block and its pointer
pub record Allocates (a : Allocation) (page pages size : ℕ) (parts : List (List Action)) (base : List ℕ) : Type 0 where
  pub gains : GainsOne (live_blocks base) (record { first = a.block; words = size }) (live_blocks (finished parts base))
  pub changes : ChangesShown a.lane a.owner page pages base (live_blocks base) 0 (live_blocks (finished parts base))
      (pointer_word a.block) parts base

-- a freeing: the block and its pointer, or no block and 0
pub record Frees (a : Allocation) (page pages size : ℕ) (parts : List (List Action)) (base : List ℕ) : Type 0 where
  pub loses : GainsOne (live_blocks (finished parts base)) (record { first = a.block; words = size }) (live_blocks base)
  pub changes : ChangesShown a.lane a.owner page pages base (live_blocks base) (pointer_word a.block)
      (live_blocks (finished parts base)) 0 parts base

-- A word can be an owner's: it is none of a lane, no descriptor, and not the bitmap of a small page.
pub record IsOwnerPlace (words : List ℕ) (owner : ℕ) : Type 0 where
  pub in_image : owner < length words
  pub outside_lanes : (owner < 576) ⊎ (704 ≤ owner)
  pub no_descriptor : 64 ≤ owner % 32768
  pub no_bitmap : is_small_page words (page_of owner) ≡ true → owner % 512 ≢ 0

-- a page that isn't reserved
pub record IsHeapPage (words : List ℕ) (page : ℕ) : Type 0 where
  pub in_image : page < page_count words
  pub behind_header : 0 < page % 64
  pub behind_fixed : 4 ≤ page

-- a small page of this class
pub record IsSmallPage (words : List ℕ) (page class : ℕ) : Type 0 where
  pub page_is : IsHeapPage words page
  pub class_is : class < 6
  pub small : is_small_page words page ≡ true
  pub descriptor : descriptor_of words page ≡ 2 + class

-- a slot of a small page, in an allocation through a lane
pub record Slot : Type 0 where
  pub lane : ℕ
  pub owner : ℕ
  pub page : ℕ
  pub class : ℕ
  pub slot : ℕ

abbrev pub slot_by : ℕ → ℕ → ℕ → ℕ → ℕ → Slot
slot_by lane owner page class slot = record { lane = lane; owner = owner; page = page; class = class; slot = slot }

-- its block
abbrev pub slot_block : ℕ → ℕ → ℕ → Block
slot_block page class slot = record { first = slot_at page class slot; words = slot_words class }

-- its allocation, after which the page has this bitmap
abbrev pub slot_allocation : Slot → ℕ → Allocation
slot_allocation s marked = record {
  lane = s.lane;
  owner = s.owner;
  block = slot_at s.page s.class s.slot;
  marked = marked;
}

-- the allocation of a slot that is free, and of one that is taken
abbrev pub taking : List ℕ → Slot → Allocation
taking words s = slot_allocation s (with_bit (bitmap_of words s.page) s.slot)

abbrev pub taken : List ℕ → Slot → Allocation
taken words s = slot_allocation s (bitmap_of words s.page)

-- the lane is idle, and the owner's word can be one
pub record IsIdle (words : List ℕ) (lane owner : ℕ) : Type 0 where
  pub lane_is : lane < 16
  pub op : slice_index words (lane_op_at lane) ≡ 0
  pub owner_is : IsOwnerPlace words owner

-- A slot may be allocated. Beside the lane's op and the owner's word this reads the page's descriptor and bitmap, and
-- of the owner's page and this one whether they are small pages.
pub record MayTakeSlot (words : List ℕ) (s : Slot) : Type 0 where
  pub idle : IsIdle words s.lane s.owner
  pub unowned : slice_index words s.owner ≡ 0
  pub page_is : IsSmallPage words s.page s.class
  pub slot_is : s.slot < slots_of s.class
  pub clear : bit_at (bitmap_of words s.page) s.slot ≡ 0

-- a slot of a free page may be allocated once that is made a small page
pub record MayTakeNewSlot (words : List ℕ) (s : Slot) : Type 0 where
  pub idle : IsIdle words s.lane s.owner
  pub unowned : slice_index words s.owner ≡ 0
  pub page_is : IsHeapPage words s.page
  pub class_is : s.class < 6
  pub is_free : is_free_page words s.page ≡ true
  pub owner_elsewhere : page_of s.owner ≢ s.page
  pub slot_is : s.slot < slots_of s.class

-- a slot may be freed
pub record MayFreeSlot (words : List ℕ) (s : Slot) : Type 0 where
  pub idle : IsIdle words s.lane s.owner
  pub owned : slice_index words s.owner ≡ pointer_word (slot_at s.page s.class s.slot)
  pub page_is : IsSmallPage words s.page s.class
  pub slot_is : s.slot < slots_of s.class
  pub set : bit_at (bitmap_of words s.page) s.slot ≡ 1

-- the pages of a big block, in an allocation through a lane
pub record Pages : Type 0 where
  pub lane : ℕ
  pub owner : ℕ
  pub first : ℕ
  pub pages : ℕ

abbrev pub pages_by : ℕ → ℕ → ℕ → ℕ → Pages
pages_by lane owner first pages = record { lane = lane; owner = owner; first = first; pages = pages }

abbrev pub pages_allocation : Pages → Allocation
pages_allocation r = record { lane = r.lane; owner = r.owner; block = page_at r.first; marked = 16 + r.pages }

-- pages of one segment of the image, of which none is reserved
pub record IsPageRun (words : List ℕ) (first pages : ℕ) : Type 0 where
  pub page_is : IsHeapPage words first
  pub in_image : first + pages ≤ page_count words
  pub in_segment : first % 64 + pages ≤ 64
  pub some : 0 < pages
  pub not_inside : is_inside words first ≡ false

-- Free pages may be allocated whose descriptors are 0. Beside the lane's op and the owner's word this reads the
-- descriptors of their segment, up to the last of them.
pub record MayTakePages (words : List ℕ) (r : Pages) : Type 0 where
  pub idle : IsIdle words r.lane r.owner
  pub unowned : slice_index words r.owner ≡ 0
  pub run : IsPageRun words r.first r.pages
  pub clean : (k : ℕ) → k < r.pages → descriptor_of words (r.first + k) ≡ 0

-- free pages may be allocated, also such as were given back
pub record MayTakeRun (words : List ℕ) (r : Pages) : Type 0 where
  pub idle : IsIdle words r.lane r.owner
  pub unowned : slice_index words r.owner ≡ 0
  pub run : IsPageRun words r.first r.pages
  pub are_free : (k : ℕ) → k < r.pages → descriptor_of words (r.first + k) ≤ 1

-- a big block may be freed
pub record MayFreePages (words : List ℕ) (r : Pages) : Type 0 where
  pub idle : IsIdle words r.lane r.owner
  pub owned : slice_index words r.owner ≡ pointer_word (page_at r.first)
  pub run : IsPageRun words r.first r.pages
  pub head : descriptor_of words r.first ≡ 16 + r.pages
  pub clean : (k : ℕ) → 0 < k → k < r.pages → descriptor_of words (r.first + k) ≡ 0

-- What the three of them read is the same: the lane's op, the owner's word, the page's descriptor and bitmap, and of
-- the owner's page and this one whether they are small and whether they are free.
pub record SameRead (old new : List ℕ) (s : Slot) : Type 0 where
  pub size : length new ≡ length old
  pub op : slice_index new (lane_op_at s.lane) ≡ slice_index old (lane_op_at s.lane)
  pub owner : slice_index new s.owner ≡ slice_index old s.owner
  pub descriptor : descriptor_of new s.page ≡ descriptor_of old s.page
  pub bitmap : bitmap_of new s.page ≡ bitmap_of old s.page
  pub small : is_small_page new s.page ≡ is_small_page old s.page
  pub is_free : is_free_page new s.page ≡ is_free_page old s.page
  pub owner_small : is_small_page new (page_of s.owner) ≡ is_small_page old (page_of s.owner)
