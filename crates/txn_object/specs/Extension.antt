-- The extension of a transaction object by a segment: it is allocated, unless the object owns it already; its words are
-- made 0; and it is ready.
use Rattle.std.specs.Prelude.{◌≡◌, ◌≢◌, ℕ, ◌+◌, ◌<◌, List, [], ◌∷◌, ◌++◌, Contains, slice_index}
use Rattle.std.specs.List.{range_with_len}
use Rattle.image_layout.specs.Fixed.{lane_op_at, ready_at}
use Rattle.image_layout.specs.Pointer.{pointer_word}
use Rattle.pm_model.specs.Plans.{Part, stores, one_store}
use Rattle.image_layout.specs.Blocks.{Block, live_blocks}
use Rattle.image_layout.specs.Checks.{Keeps}
use Rattle.image_layout.specs.Objects.{ready_count, segment_of, pointer_after}
use Rattle.image_layout.specs.EntryRules.{object_rule}
use Rattle.heap_palloc.specs.Choice.{Choice, choice_parts, choice_block, IsThrough, MayMake}
use Rattle.heap_palloc.specs.Calls.{KeepsHeapRules}

-- where the next segment comes from: the object owns it, at this place, or it is allocated
pub data Source : Type 0 where
  owned : ℕ → Source
  allocated : Choice → Source

-- the place of the segment
abbrev pub segment_from : Source → ℕ
segment_from (owned segment) = segment
segment_from (allocated choice) = (choice_block choice).first

-- an object is extended, through its session's lane, which has the object's number
pub record Extension : Type 0 where
  pub object : ℕ
  pub source : Source

abbrev pub new_segment : Extension → ℕ
new_segment e = segment_from e.source

-- the segment is allocated, unless the object owns it
abbrev pub source_parts : List ℕ → Source → List Part
source_parts words (owned segment) = []
source_parts words (allocated choice) = choice_parts words choice

-- the words of a segment are made 0
unfoldable pub zero_part : ℕ → Part
zero_part segment = stores 0 (range_with_len segment 256)

-- and then it is ready, behind so many others
abbrev pub readying_parts : ℕ → ℕ → ℕ → List Part
readying_parts object count segment = zero_part segment ∷ one_store (ready_at object) (count + 1) ∷ []

abbrev pub extension_parts : List ℕ → Extension → List Part
extension_parts words e = source_parts words e.source
    ++ readying_parts e.object (ready_count words e.object) (new_segment e)

-- a segment as a block
abbrev pub segment_block : ℕ → Block
segment_block segment = record { first = segment; words = 256 }

-- the heap's rules and the object's hold, and each ready segment is a block of the heap
pub record HasSegments (words : List ℕ) (object : ℕ) : Type 0 where
  pub rules : KeepsHeapRules words
  pub rule : Keeps words (object_rule object)
  pub live : (segment : ℕ) → segment < ready_count words object
      → Contains (live_blocks words) (segment_block (segment_of words object segment))

-- a place is that of none of the ready segments
abbrev pub IsNoSegment : List ℕ → ℕ → ℕ → Type 0
IsNoSegment words object place =
    (segment : ℕ) → segment < ready_count words object → segment_of words object segment ≢ place

-- the object owns the segment, or it may be allocated
abbrev pub MayTake : List ℕ → ℕ → Source → Type 0
MayTake words object (owned segment) =
    (slice_index words (pointer_after words object) ≡ pointer_word segment)
    × Contains (live_blocks words) (segment_block segment)
MayTake words object (allocated choice) =
    MayMake words choice × IsThrough object (pointer_after words object) choice × ((choice_block choice).words ≡ 256)

-- The extension may begin: fewer than 32 segments are ready, the lane is idle, and the new segment is none of them.
pub record MayExtend (words : List ℕ) (e : Extension) : Type 0 where
  pub number : e.object < 16
  pub segments : HasSegments words e.object
  pub count : ready_count words e.object < 32
  pub idle : slice_index words (lane_op_at e.object) ≡ 0
  pub apart : IsNoSegment words e.object (new_segment e)
  pub source : MayTake words e.object e.source
