-- An allocation and a freeing as changes: what they read, what their cuts show, and their ends.
use Rattle.std.specs.Prelude.{◌≡◌, ◌≢◌, ◌⊎◌, ℕ, ◌+◌, ◌<◌, List, length, slice_index}
use Rattle.pm_model.specs.Changes.{Change}
use Rattle.pm_model.specs.Plans.{finished}
use Rattle.image_layout.specs.declared.layout.TheConstants.{ALLOCATING, FREEING, GIVEN_BACK, IDLE}
use Rattle.image_layout.specs.Fixed.{lane_op_at, lane_dest_at, lane_block_at}
use Rattle.image_layout.specs.Places.{page_of, page_at}
use Rattle.image_layout.specs.Pointer.{pointer_word}
use Rattle.image_layout.specs.Blocks.{Block, descriptor_of, is_inside, is_small_page, live_blocks}
use Rattle.heap_palloc.specs.Lane.{mended_lane}
use Rattle.heap_palloc.specs.Shown.{GainsOne}
use Rattle.heap_palloc.specs.Law.{IsElsewhere, Pages, SameRead, Shows}
use Rattle.heap_palloc.specs.Choice.{Choice, in_page, on_new_page, in_run, choice_parts, choice_page, choice_pages, choice_block, MayMake, Freed, of_slot, of_pages, freed_parts, freed_page, freed_pages, freed_block, MayRelease}
use Rattle.heap_palloc.specs.Calls.{KeepsHeapRules}

-- ── what they read ──

-- What the plan of a big block reads is the same: the lane's op, the owner's word, the descriptors of the block's
-- pages, whether the first of them stands inside a big block, and whether the owner's page is a small one.
pub record SameRunRead (old new : List ℕ) (r : Pages) : Type 0 where
  pub size : length new ≡ length old
  pub op : slice_index new (lane_op_at r.lane) ≡ slice_index old (lane_op_at r.lane)
  pub owner : slice_index new r.owner ≡ slice_index old r.owner
  pub descriptors : (k : ℕ) → k < r.pages → descriptor_of new (r.first + k) ≡ descriptor_of old (r.first + k)
  pub inside : is_inside new r.first ≡ is_inside old r.first
  pub owner_small : is_small_page new (page_of r.owner) ≡ is_small_page old (page_of r.owner)

abbrev pub SameChoiceRead : Choice → List ℕ → List ℕ → Type 0
SameChoiceRead (in_page s) old new = SameRead old new s
SameChoiceRead (on_new_page s) old new = SameRead old new s
SameChoiceRead (in_run r) old new = SameRunRead old new r

abbrev pub SameFreedRead : Freed → List ℕ → List ℕ → Type 0
SameFreedRead (of_slot s) old new = SameRead old new s
SameFreedRead (of_pages r) old new = SameRunRead old new r

-- ── what they leave to a block's owner ──

-- The first word of a big block's pages stays, unless it is the owner's.
abbrev pub KeepsFirstWord : Pages → List ℕ → List ℕ → Type 0
KeepsFirstWord r old new =
    page_at r.first ≢ r.owner → slice_index new (page_at r.first) ≡ slice_index old (page_at r.first)

-- the same of an allocation; on a small page that word is the bitmap
abbrev pub KeepsChoiceFirst : Choice → List ℕ → List ℕ → Type 0
KeepsChoiceFirst (in_page s) old new = Unit {0}
KeepsChoiceFirst (on_new_page s) old new = Unit {0}
KeepsChoiceFirst (in_run r) old new = KeepsFirstWord r old new

-- and of a freeing
abbrev pub KeepsFreedFirst : Freed → List ℕ → List ℕ → Type 0
KeepsFreedFirst (of_slot s) old new = Unit {0}
KeepsFreedFirst (of_pages r) old new = KeepsFirstWord r old new

-- ── what stages say ──

-- What the lane of a plan is at work on, and while it is, which owner's word and which block it names.
pub record IsLaneAt (lane owner block op : ℕ) (words : List ℕ) : Type 0 where
  pub op_is : slice_index words (lane_op_at lane) ≡ op
  pub owner_is : op ≢ IDLE → slice_index words (lane_dest_at lane) ≡ pointer_word owner
  pub block_is : op ≢ IDLE → slice_index words (lane_block_at lane) ≡ pointer_word block

-- each page that is given back was given back before
abbrev pub IsNoneGivenBack : List ℕ → List ℕ → Type 0
IsNoneGivenBack base words = (page : ℕ) → descriptor_of words page ≡ GIVEN_BACK → descriptor_of base page ≡ GIVEN_BACK

-- ── an allocation ──

-- its lane, and its owner's word
abbrev pub choice_lane : Choice → ℕ
choice_lane (in_page s) = s.lane
choice_lane (on_new_page s) = s.lane
choice_lane (in_run r) = r.lane

abbrev pub choice_owner : Choice → ℕ
choice_owner (in_page s) = s.owner
choice_owner (on_new_page s) = s.owner
choice_owner (in_run r) = r.owner

-- the words after it
abbrev pub allocated_words : List ℕ → Choice → List ℕ
allocated_words base choice = finished (choice_parts base choice) base

-- a word that it doesn't write
abbrev pub IsBeside : Choice → ℕ → Type 0
IsBeside choice w = IsElsewhere (choice_lane choice) (choice_owner choice) (choice_page choice) (choice_pages choice) w

-- words show these live blocks, and this as the owner's word; each word beside the allocation is that of the base
abbrev pub ShowsMaking : List ℕ → Choice → List Block → ℕ → List ℕ → Type 0
ShowsMaking base choice blocks word words =
    Shows (choice_lane choice) (choice_owner choice) (choice_page choice) (choice_pages choice) base blocks word words

-- the live blocks before it, and the owner's word is null
abbrev pub IsUnmade : List ℕ → Choice → List ℕ → Type 0
IsUnmade base choice words = ShowsMaking base choice (live_blocks base) 0 words

-- the live blocks after it, and the owner's word names the new one
abbrev pub IsMade : List ℕ → Choice → List ℕ → Type 0
IsMade base choice words = ShowsMaking base choice (live_blocks (allocated_words base choice))
    (pointer_word (choice_block choice).first) words

-- the live blocks after it, and no word names the new one
abbrev pub IsUnnamed : List ℕ → Choice → List ℕ → Type 0
IsUnnamed base choice words = ShowsMaking base choice (live_blocks (allocated_words base choice)) 0 words

abbrev pub IsChoiceLaneAt : Choice → ℕ → List ℕ → Type 0
IsChoiceLaneAt choice op words =
    IsLaneAt (choice_lane choice) (choice_owner choice) (choice_block choice).first op words

-- The stages at which a cut can leave an allocation. Its lane isn't at work; it is, and the block has no mark; it has
-- one, and no word names it; its owner's word names it; and the lane is idle again.
pub data AllocationStage (base : List ℕ) (choice : Choice) (image : List ℕ) : Type 0 where
  before : IsChoiceLaneAt choice IDLE image → IsUnmade base choice image → AllocationStage base choice image
  logged : IsChoiceLaneAt choice ALLOCATING image → IsUnmade base choice image → AllocationStage base choice image
  marked : IsChoiceLaneAt choice ALLOCATING image → IsUnnamed base choice image → AllocationStage base choice image
  owned : IsChoiceLaneAt choice ALLOCATING image → IsMade base choice image → AllocationStage base choice image
  made : IsChoiceLaneAt choice IDLE image → IsMade base choice image → AllocationStage base choice image

-- What a cut of an allocation shows: as the cut left it one of the stages, where the heap's rules go on to hold, no
-- page is given back that wasn't, and a big block has its first word; and once the lane is mended the words before it
-- or after it.
pub record ShowsAllocation (choice : Choice) (base image : List ℕ) : Type 0 where
  pub stage : AllocationStage base choice image
  pub rules : KeepsHeapRules base → KeepsHeapRules image
  pub given_back : IsNoneGivenBack base image
  pub first_word : KeepsChoiceFirst choice base image
  pub mended : IsUnmade base choice (mended_lane (choice_lane choice) image)
      ⊎ IsMade base choice (mended_lane (choice_lane choice) image)

-- What the words after an allocation show: one live block more, whose pointer the owner's word holds, and of a big one
-- the first word as it was. The lane is idle, so that mending it leaves them, and the heap's rules hold as before.
pub record EndsAllocation (choice : Choice) (base words : List ℕ) : Type 0 where
  pub made : IsMade base choice words
  pub gains : GainsOne (live_blocks base) (choice_block choice) (live_blocks words)
  pub first_word : KeepsChoiceFirst choice base words
  pub idle : slice_index words (lane_op_at (choice_lane choice)) ≡ 0
  pub mended : mended_lane (choice_lane choice) words ≡ words
  pub rules : KeepsHeapRules base → KeepsHeapRules words

abbrev pub allocating : Choice → Change
allocating choice = record {
  asks = λ base. MayMake base choice;
  parts = λ base. choice_parts base choice;
  shows = ShowsAllocation choice;
  ends = EndsAllocation choice;
  reads = SameChoiceRead choice;
}

-- ── a freeing ──

-- its lane, and its owner's word
abbrev pub freed_lane : Freed → ℕ
freed_lane (of_slot s) = s.lane
freed_lane (of_pages r) = r.lane

abbrev pub freed_owner : Freed → ℕ
freed_owner (of_slot s) = s.owner
freed_owner (of_pages r) = r.owner

-- the words after it
abbrev pub released_words : List ℕ → Freed → List ℕ
released_words base freed = finished (freed_parts base freed) base

-- a word that it doesn't write
abbrev pub IsBesideFreed : Freed → ℕ → Type 0
IsBesideFreed freed w = IsElsewhere (freed_lane freed) (freed_owner freed) (freed_page freed) (freed_pages freed) w

-- it doesn't write the word, and the block isn't the one that it frees
pub record IsOther (freed : Freed) (w : ℕ) (block : Block) : Type 0 where
  pub beside : IsBesideFreed freed w
  pub other : block.first ≢ (freed_block freed).first

-- words show these live blocks, and this as the owner's word; each word beside the freeing is that of the base
abbrev pub ShowsFreeing : List ℕ → Freed → List Block → ℕ → List ℕ → Type 0
ShowsFreeing base freed blocks word words =
    Shows (freed_lane freed) (freed_owner freed) (freed_page freed) (freed_pages freed) base blocks word words

-- the live blocks before it, and the owner's word names the block
abbrev pub IsHeld : List ℕ → Freed → List ℕ → Type 0
IsHeld base freed words = ShowsFreeing base freed (live_blocks base) (pointer_word (freed_block freed).first) words

-- the live blocks after it, and the owner's word is null
abbrev pub IsLetGo : List ℕ → Freed → List ℕ → Type 0
IsLetGo base freed words = ShowsFreeing base freed (live_blocks (released_words base freed)) 0 words

-- the live blocks before it, and no word names the block
abbrev pub IsDisowned : List ℕ → Freed → List ℕ → Type 0
IsDisowned base freed words = ShowsFreeing base freed (live_blocks base) 0 words

abbrev pub IsFreedLaneAt : Freed → ℕ → List ℕ → Type 0
IsFreedLaneAt freed op words = IsLaneAt (freed_lane freed) (freed_owner freed) (freed_block freed).first op words

-- The stages at which a cut can leave a freeing. Its lane isn't at work; it is, and the owner's word names the block;
-- no word names it; it has no mark; and the lane is idle again.
pub data FreeingStage (base : List ℕ) (freed : Freed) (image : List ℕ) : Type 0 where
  held : IsFreedLaneAt freed IDLE image → IsHeld base freed image → FreeingStage base freed image
  noted : IsFreedLaneAt freed FREEING image → IsHeld base freed image → FreeingStage base freed image
  disowned : IsFreedLaneAt freed FREEING image → IsDisowned base freed image → FreeingStage base freed image
  unmarked : IsFreedLaneAt freed FREEING image → IsLetGo base freed image → FreeingStage base freed image
  let_go : IsFreedLaneAt freed IDLE image → IsLetGo base freed image → FreeingStage base freed image

-- What a cut of a freeing shows: as the cut left it one of the stages, where the heap's rules go on to hold, no page is
-- given back that wasn't, and a big block has its first word; and once the lane is mended the words before it or after
-- it.
pub record ShowsRelease (freed : Freed) (base image : List ℕ) : Type 0 where
  pub stage : FreeingStage base freed image
  pub rules : KeepsHeapRules base → KeepsHeapRules image
  pub given_back : IsNoneGivenBack base image
  pub first_word : KeepsFreedFirst freed base image
  pub mended : IsHeld base freed (mended_lane (freed_lane freed) image)
      ⊎ IsLetGo base freed (mended_lane (freed_lane freed) image)

-- What the words after a freeing show: one live block less, the owner's word null, and of a big one the first word as
-- it was. The lane is idle, so that mending it leaves them, and the heap's rules hold as before.
pub record EndsRelease (freed : Freed) (base words : List ℕ) : Type 0 where
  pub let_go : IsLetGo base freed words
  pub loses : GainsOne (live_blocks words) (freed_block freed) (live_blocks base)
  pub first_word : KeepsFreedFirst freed base words
  pub idle : slice_index words (lane_op_at (freed_lane freed)) ≡ 0
  pub mended : mended_lane (freed_lane freed) words ≡ words
  pub rules : KeepsHeapRules base → KeepsHeapRules words

abbrev pub freeing : Freed → Change
freeing freed = record {
  asks = λ base. MayRelease base freed;
  parts = λ base. freed_parts base freed;
  shows = ShowsRelease freed;
  ends = EndsRelease freed;
  reads = SameFreedRead freed;
}
