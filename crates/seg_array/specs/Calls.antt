-- What planning a growth relies on, and what it gives.
use Rattle.std.specs.Prelude.{◌≡◌, ◌⊎◌, ℕ, ◌+◌, ◌<◌, ◌≤◌, List, ◌++◌, Contains, slice_index}
use Rattle.pm_model.specs.declared.action.Action.{Action}
use Rattle.image_layout.specs.declared.layout.TheConstants.{HEADER_WORDS, LANES}
use Rattle.image_layout.specs.EntryRules.{KeepsEntryRules}
use Rattle.image_layout.specs.Fixed.{lane_op_at}
use Rattle.image_layout.specs.Owners.{OwnersAreApart}
use Rattle.image_layout.specs.Tables.{array_headers, table_block, table_count}
use Rattle.pm_model.specs.Plans.{plan_of}
use Rattle.image_layout.specs.Blocks.{Block, live_blocks, longest_free_run}
use Rattle.image_layout.specs.Checks.{Keeps}
use Rattle.heap_palloc.specs.Choice.{IsBestFit}
use Rattle.heap_palloc.specs.declared.error.AllocError.{AllocError}
use Rattle.heap_palloc.specs.declared.error.AllocError.TheVariants.{Full as HeapFull, NoMemory as HeapNoMemory}
use Rattle.heap_palloc.specs.Index.{HeapIndex, IsIndexOf}
use Rattle.heap_palloc.specs.Calls.{KeepsHeapRules}
use Rattle.seg_array.specs.declared.error.GrowError.{GrowError}
use Rattle.seg_array.specs.declared.error.GrowError.TheVariants.{ArrayFull, Full, NoMemory}
use Rattle.image_layout.specs.Arrays.{chunk_words, chunk_count, array_rule}
use Rattle.seg_array.specs.Growth.{HasNoNext, growth_by, grown_words, owning_words, next_chunk, next_pages, next_place, allocating_parts, growth_parts, MayGrow}

-- the header lies in a live block
pub record IsHeader (words : List ℕ) (header : ℕ) : Type 0 where
  pub block : Block
  pub live : Contains (live_blocks words) block
  pub begins : block.first ≤ header
  pub ends : header + HEADER_WORDS ≤ block.first + block.words

-- the chunk behind the published ones, as a block of its size
abbrev pub next_block : List ℕ → ℕ → Block
next_block words header = record { first = next_place words header; words = chunk_words (chunk_count words header) }

-- it is a live block, and the header isn't in it
pub record OwnsNext (words : List ℕ) (header : ℕ) : Type 0 where
  pub live : Contains (live_blocks words) (next_block words header)
  pub apart : (header + HEADER_WORDS ≤ next_place words header)
      ⊎ (next_place words header + chunk_words (chunk_count words header) ≤ header)

-- The rules of the heap and of the array hold, the index stands for the words, the lane is idle, and the array owns the
-- chunk behind its published ones where it has its pointer.
pub record MayPlanGrowth (words : List ℕ) (index : HeapIndex) (lane header : ℕ) : Type 0 where
  pub rules : KeepsHeapRules words
  pub index_of : IsIndexOf words index
  pub rule : Keeps words (array_rule header)
  pub lane_is : lane < 16
  pub idle : slice_index words (lane_op_at lane) ≡ 0
  pub header_is : IsHeader words header
  pub owned : chunk_count words header < 12 → ¬ HasNoNext words header → OwnsNext words header

-- The header is that of an array of a published table, in an image that keeps the rules which every image keeps, and
-- whose owner words are apart. The lane is idle.
pub record IsTableArray (words : List ℕ) (lane table header : ℕ) : Type 0 where
  pub rules : KeepsEntryRules words
  pub owners : OwnersAreApart words
  pub published : table < table_count words
  pub one_of : Contains (array_headers words (table_block words table)) header
  pub lane_is : lane < LANES
  pub idle : slice_index words (lane_op_at lane) ≡ 0

-- A growth is planned. Where the array didn't own the chunk, it is of the best fit; where it did, the index stays. Once
-- the plan was played, the index stands for the words.
pub record IsGrowthPlanned (words : List ℕ) (old new : HeapIndex) (lane header : ℕ) (plan : List Action) : Type 0 where
  pub first : ℕ
  pub may : MayGrow words (growth_by lane header first)
  pub plan_is : plan ≡ plan_of (growth_parts words (growth_by lane header first))
  pub chosen : HasNoNext words header → IsBestFit old.free.runs (next_pages words header) first
  pub kept : ¬ HasNoNext words header → new ≡ old
  pub index_of : IsIndexOf (grown_words words (growth_by lane header first)) new

-- once it was played, the next growth may be planned
abbrev pub MayGoOn : List ℕ → HeapIndex → HeapIndex → ℕ → ℕ → List Action → Type 0
MayGoOn words old new lane header plan =
    (planned : IsGrowthPlanned words old new lane header plan)
    → MayPlanGrowth (grown_words words (growth_by lane header planned.first)) new lane header

-- an error of the heap as one of growth
abbrev pub grow_error : AllocError → GrowError
grow_error (HeapFull need largest) = Full need largest
grow_error HeapNoMemory = NoMemory

-- the array doesn't own its next chunk, and no run of free pages has room for so many
abbrev pub HasNoRun : List ℕ → ℕ → ℕ → GrowError → Type 0
HasNoRun words header pages error =
    (error ≡ Full pages (longest_free_run words)) × HasNoNext words header × (longest_free_run words < pages)

-- why a growth is refused: want of memory, 12 chunks, or no room
abbrev pub IsRefused : List ℕ → ℕ → GrowError → Type 0
IsRefused words header error =
    (error ≡ NoMemory) ⊎ ((error ≡ ArrayFull) × (chunk_count words header ≡ 12))
    ⊎ HasNoRun words header (next_pages words header) error

-- The chunk is planned: its first page is this, its allocation, if it needs one, follows the actions, and the index
-- stands for the words behind it.
pub record IsChunkPlanned (words : List ℕ) (old new : HeapIndex) (lane header first : ℕ)
    (before after : List Action) : Type 0 where
  pub may : MayGrow words (growth_by lane header first)
  pub plan_is : after ≡ before ++ plan_of (allocating_parts words (next_chunk words (growth_by lane header first)))
  pub chosen : HasNoNext words header → IsBestFit old.free.runs (next_pages words header) first
  pub kept : ¬ HasNoNext words header → new ≡ old
  pub index_of : IsIndexOf (owning_words words (growth_by lane header first)) new
