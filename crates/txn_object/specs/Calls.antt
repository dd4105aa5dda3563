-- What planning an extension relies on, and what it gives.
use Rattle.std.specs.Prelude.{◌≡◌, ◌≢◌, ℕ, ◌<◌, List, ◌++◌, Contains, slice_index}
use Rattle.pm_model.specs.declared.action.Action.{Action}
use Rattle.image_layout.specs.Fixed.{lane_op_at}
use Rattle.image_layout.specs.Places.{place_in}
use Rattle.pm_model.specs.Plans.{plan_of, finished}
use Rattle.image_layout.specs.Blocks.{live_blocks, longest_free_run}
use Rattle.image_layout.specs.Objects.{ready_count, pointer_after}
use Rattle.heap_palloc.specs.declared.error.AllocError.{AllocError}
use Rattle.heap_palloc.specs.declared.error.AllocError.TheVariants.{Full as HeapFull, NoMemory as HeapNoMemory}
use Rattle.heap_palloc.specs.Index.{HeapIndex, IsIndexOf}
use Rattle.heap_palloc.specs.Choice.{Choice, IsChosen}
use Rattle.heap_palloc.specs.Calls.{IsFull}
use Rattle.txn_object.specs.declared.error.ExtendError.{ExtendError}
use Rattle.txn_object.specs.declared.error.ExtendError.TheVariants.{Full, NoMemory}
use Rattle.txn_object.specs.Extension.{Source, allocated, segment_from, source_parts, extension_parts, segment_block, HasSegments, IsNoSegment, MayExtend}

-- the word behind the pointers to the ready segments
abbrev pub next_pointer : List ℕ → ℕ → ℕ
next_pointer words object = slice_index words (pointer_after words object)

-- the segment behind the ready ones is a block of the heap, and none of them
pub record OwnsNext (words : List ℕ) (object : ℕ) : Type 0 where
  pub live : Contains (live_blocks words) (segment_block (place_in (next_pointer words object)))
  pub apart : IsNoSegment words object (place_in (next_pointer words object))

-- The rules of the heap and of the object hold, its segments are blocks of the heap, the index stands for the words,
-- and the lane is idle. Where the object has the pointer of a segment behind its ready ones, it owns that too.
pub record MayPlanExtension (words : List ℕ) (index : HeapIndex) (object : ℕ) : Type 0 where
  pub segments : HasSegments words object
  pub index_of : IsIndexOf words index
  pub idle : slice_index words (lane_op_at object) ≡ 0
  pub owned : ready_count words object < 32 → next_pointer words object ≢ 0 → OwnsNext words object

-- where an allocation of 256 words goes
abbrev pub IsChosenSource : List ℕ → HeapIndex → Source → Type 0
IsChosenSource words old source =
    (choice : Choice) × (source ≡ allocated choice) × IsChosen words old.free.runs 256 choice

-- An extension is planned. Where the object didn't own the segment, it is allocated as the heap allocates; where it
-- did, the index stays. Once the plan was played, the index stands for the words.
pub record IsExtensionPlanned (words : List ℕ) (old new : HeapIndex) (object : ℕ) (plan : List Action) : Type 0 where
  pub source : Source
  pub may : MayExtend words (record { object = object; source = source })
  pub plan_is : plan ≡ plan_of (extension_parts words (record { object = object; source = source }))
  pub chosen : next_pointer words object ≡ 0 → IsChosenSource words old source
  pub kept : next_pointer words object ≢ 0 → new ≡ old
  pub index_of : IsIndexOf (finished (extension_parts words (record { object = object; source = source })) words) new

-- an error of the heap as one of an extension
abbrev pub extend_error : AllocError → ExtendError
extend_error (HeapFull need largest) = Full need largest
extend_error HeapNoMemory = NoMemory

-- The heap has no room for a segment that the object doesn't own: so many neighbouring pages are needed, and its
-- longest free run has so many.
pub record HasNoRoom (words : List ℕ) (object need largest : ℕ) : Type 0 where
  pub need_is : need ≡ 1
  pub largest_is : largest ≡ longest_free_run words
  pub unowned : next_pointer words object ≡ 0
  pub heap_full : IsFull words 256

-- The segment is planned: it begins at this place, its allocation, if it needs one, follows the actions, and the index
-- stands for the words behind it.
pub record IsSegmentPlanned (words : List ℕ) (old new : HeapIndex) (object segment : ℕ) (before after : List Action) :
    Type 0 where
  pub source : Source
  pub from : segment_from source ≡ segment
  pub may : MayExtend words (record { object = object; source = source })
  pub plan_is : after ≡ before ++ plan_of (source_parts words source)
  pub chosen : next_pointer words object ≡ 0 → IsChosenSource words old source
  pub kept : next_pointer words object ≢ 0 → new ≡ old
  pub index_of : IsIndexOf (finished (source_parts words source) words) new
