-- What the calls of the heap rely on, and what they give.
use Rattle.std.specs.Prelude.{◌≡◌, ◌⊎◌, ℕ, ◌+◌, ◌<◌, ◌≤◌, List, [], Contains, slice_index}
use Rattle.pm_model.specs.declared.action.Action.{Action}
use Rattle.pm_model.specs.Device.{Device, IsClean}
use Rattle.image_layout.specs.Fixed.{lane_op_at}
use Rattle.image_layout.specs.Pointer.{pointer_word}
use Rattle.image_layout.specs.Places.{page_of, page_at}
use Rattle.pm_model.specs.Plans.{plan_of, finished}
use Rattle.image_layout.specs.Blocks.{Block, bitmap_of, descriptor_of, class_for, live_blocks, longest_free_run}
use Rattle.image_layout.specs.Checks.{Keeps}
use Rattle.image_layout.specs.HeapRules.{reserved_rule, descriptor_rule, bitmap_rule}
use Rattle.heap_big.specs.declared.run.Run.{Run}
use Rattle.heap_small.specs.Bitmap.{IsFirstClear}
use Rattle.heap_palloc.specs.Law.{slot_by, pages_by}
use Rattle.heap_palloc.specs.Index.{HeapIndex, IsIndexOf, pages_with_room}
use Rattle.heap_palloc.specs.Choice.{Choice, in_page, on_new_page, in_run, choice_parts, choice_block, IsBestFit, IsThrough, IsChosen, MayMake, needed_pages, Freed, freed_named, freed_parts, freed_block, MayRelease}

-- rules 5 to 7, on which each call relies
pub record KeepsHeapRules (words : List ℕ) : Type 0 where
  pub reserved : Keeps words reserved_rule
  pub descriptors : Keeps words descriptor_rule
  pub bitmaps : Keeps words bitmap_rule

-- A word that may hold a block's pointer: it lies in pages 1 to 3, outside the lanes, or in a live block.
abbrev pub IsDest : List ℕ → ℕ → Type 0
IsDest words dest =
    ((512 ≤ dest) × (dest < 2048) × ((dest < 576) ⊎ (704 ≤ dest)))
    ⊎ ((block : Block) × Contains (live_blocks words) block × (block.first ≤ dest) × (dest < block.first + block.words))

-- the heap's rules hold, the index stands for the words, the lane is idle, and the word may hold a pointer
pub record MayCall (words : List ℕ) (index : HeapIndex) (lane dest : ℕ) : Type 0 where
  pub rules : KeepsHeapRules words
  pub index_of : IsIndexOf words index
  pub lane_is : lane < 16
  pub idle : slice_index words (lane_op_at lane) ≡ 0
  pub dest_is : IsDest words dest

-- The allocation that was chosen is planned: these actions, and a block that begins at this place with so many words.
-- Once the plan was played, the index stands for the words.
pub record IsPlanned (words : List ℕ) (new : HeapIndex) (choice : Choice) (plan : List Action) (first size : ℕ) : Type 0
  where
    pub may : MayMake words choice
    pub plan_is : plan ≡ plan_of (choice_parts words choice)
    pub first_is : first ≡ (choice_block choice).first
    pub size_is : size ≡ (choice_block choice).words
    pub index_of : IsIndexOf (finished (choice_parts words choice) words) new

-- the same of the first free slot of a small page, of the first slot of a page of the best fit that is made small, and
-- of so many pages of the best fit
abbrev pub IsSlotPlanned : List ℕ → HeapIndex → ℕ → ℕ → ℕ → ℕ → List Action → ℕ → ℕ → Type 0
IsSlotPlanned words new lane dest page class plan first size =
    (slot : ℕ) × IsFirstClear (bitmap_of words page) slot
    × IsPlanned words new (in_page (slot_by lane dest page class slot)) plan first size

abbrev pub IsNewSlotPlanned : List ℕ → List Run → HeapIndex → ℕ → ℕ → ℕ → List Action → ℕ → ℕ → Type 0
IsNewSlotPlanned words runs new lane dest class plan first size =
    (page : ℕ) × IsBestFit runs 1 page
    × IsPlanned words new (on_new_page (slot_by lane dest page class 0)) plan first size

abbrev pub IsRunPlanned : List ℕ → List Run → HeapIndex → ℕ → ℕ → ℕ → List Action → ℕ → ℕ → Type 0
IsRunPlanned words runs new lane dest pages plan first size =
    (page : ℕ) × IsBestFit runs pages page
    × IsPlanned words new (in_run (pages_by lane dest page pages)) plan first size

-- an allocation of so many words into the word at a place, where it is to go
pub record IsAllocated (words : List ℕ) (old new : HeapIndex) (lane dest count : ℕ) (plan : List Action)
    (first size : ℕ) : Type 0 where
  pub choice : Choice
  pub chosen : IsChosen words old.free.runs count choice
  pub through : IsThrough lane dest choice
  pub planned : IsPlanned words new choice plan first size

-- No slot of the class is free, or the block is big, and each run of free pages is too short.
pub record IsFull (words : List ℕ) (count : ℕ) : Type 0 where
  pub no_slot : count ≤ 256 → pages_with_room words (class_for count) ≡ []
  pub no_run : longest_free_run words < needed_pages count

-- The word holds the pointer of a live block, behind whose first page its descriptors are 0.
pub record OwnsBlock (words : List ℕ) (dest : ℕ) (block : Block) : Type 0 where
  pub live : Contains (live_blocks words) block
  pub named : slice_index words dest ≡ pointer_word block.first
  pub clean : (page : ℕ) → page_of block.first < page → page_at page < block.first + block.words
      → descriptor_of words page ≡ 0

-- The freeing of a block whose pointer the word at `dest` holds is planned: these actions. Once the plan was played,
-- the index stands for the words.
pub record IsReleased (words : List ℕ) (new : HeapIndex) (dest : ℕ) (freed : Freed) (plan : List Action) : Type 0 where
  pub may : MayRelease words freed
  pub block_is : (block : Block) → OwnsBlock words dest block → freed_block freed ≡ block
  pub plan_is : plan ≡ plan_of (freed_parts words freed)
  pub index_of : IsIndexOf (finished (freed_parts words freed) words) new

-- and that block is the one which the word names
abbrev pub IsFreed : List ℕ → HeapIndex → ℕ → ℕ → List Action → Type 0
IsFreed words new lane dest plan = IsReleased words new dest (freed_named words lane dest) plan

-- No plan is half played, and the index stands for the words, in which the heap's rules hold.
pub record IsSettled (d : Device) (index : HeapIndex) : Type 0 where
  pub rules : KeepsHeapRules d.cached
  pub index_of : IsIndexOf d.cached index
  pub clean : (w : ℕ) → IsClean d w
