-- What the words show of an allocation or a freeing, and when one may begin.
use Rattle.std.specs.Prelude.{◌≡◌, ◌≢◌, ◌⊎◌, ℕ, ◌<◌, ◌≤◌, true, List, length, slice_index}
use Rattle.pm_model.specs.declared.action.Action.{Action}
use Rattle.image_layout.specs.Fixed.{descriptor_at, lane_op_at, lane_dest_at, lane_block_at}
use Rattle.image_layout.specs.Pointer.{pointer_word}
use Rattle.image_layout.specs.Places.{page_of}
use Rattle.pm_model.specs.Plans.{EachCut, finished}
use Rattle.heap_palloc.specs.Lane.{is_big_place, mark_at, unmarked, mended_lane}
use Rattle.heap_palloc.specs.Parts.{Allocation}
pub use Rattle.heap_big.specs.Pages.{GainsOne}

-- a place outside the words of the lane
abbrev pub IsOutsideLane : ℕ → ℕ → Type 0
IsOutsideLane lane w = (w ≢ lane_op_at lane) × (w ≢ lane_dest_at lane) × (w ≢ lane_block_at lane)

-- The same words, but for the owner and the block of a lane, which mean nothing while it is idle.
pub record SameButLane (lane : ℕ) (old new : List ℕ) : Type 0 where
  pub size : length new ≡ length old
  pub each : (w : ℕ) → w ≢ lane_dest_at lane → w ≢ lane_block_at lane → slice_index new w ≡ slice_index old w

-- Where an allocation or freeing is: what the lane is at work on, the block's mark and the owner's word.
-- All words outside these and the lane are those of the base.
pub record IsAt (base : List ℕ) (a : Allocation) (op mark owner : ℕ) (words : List ℕ) : Type 0 where
  pub size : length words ≡ length base
  pub op_is : slice_index words (lane_op_at a.lane) ≡ op
  pub lane_owner : slice_index words (lane_dest_at a.lane) ≡ pointer_word a.owner
  pub lane_block : slice_index words (lane_block_at a.lane) ≡ pointer_word a.block
  pub mark_is : slice_index words (mark_at a.block) ≡ mark
  pub owner_is : slice_index words a.owner ≡ owner
  pub others : (w : ℕ) → IsOutsideLane a.lane w → w ≢ mark_at a.block → w ≢ a.owner
      → slice_index words w ≡ slice_index base w

-- The words of an allocation stand in the image, and no two of them are one word. It reads the descriptor of the
-- block's page, which isn't the owner's word nor one of a lane.
pub record IsPlaced (size : ℕ) (a : Allocation) : Type 0 where
  -- the page of a small block has its mark and its descriptor in two words
  pub two_words : (is_big_place a.block ≡ true) ⊎ (descriptor_at (page_of a.block) ≢ mark_at a.block)
  pub lane : a.lane < 16
  pub lanes : 704 ≤ size
  pub owner : a.owner < size
  pub mark : mark_at a.block < size
  pub mark_apart : a.owner ≢ mark_at a.block
  pub descriptor_apart : a.owner ≢ descriptor_at (page_of a.block)
  pub owner_outside : IsOutsideLane a.lane a.owner
  pub mark_outside : IsOutsideLane a.lane (mark_at a.block)
  pub descriptor_outside : IsOutsideLane a.lane (descriptor_at (page_of a.block))

-- With or without the block, the mark without it is this.
pub record IsClearMark (words : List ℕ) (a : Allocation) (clear : ℕ) : Type 0 where
  pub set : unmarked a.block (slice_index words (descriptor_at (page_of a.block))) a.marked ≡ clear
  pub again : unmarked a.block (slice_index words (descriptor_at (page_of a.block))) clear ≡ clear

-- An allocation may begin. It reads the lane's op, the owner's word, the block's mark and the descriptor of its page.
pub record MayAllocate (words : List ℕ) (a : Allocation) : Type 0 where
  pub placed : IsPlaced (length words) a
  pub idle : slice_index words (lane_op_at a.lane) ≡ 0
  pub unowned : slice_index words a.owner ≡ 0
  pub clears : IsClearMark words a (slice_index words (mark_at a.block))

-- A freeing may begin, after which the mark is this. It reads the same words.
pub record MayFree (words : List ℕ) (a : Allocation) (clear : ℕ) : Type 0 where
  pub placed : IsPlaced (length words) a
  pub idle : slice_index words (lane_op_at a.lane) ≡ 0
  pub owned : slice_index words a.owner ≡ pointer_word a.block
  pub allocated : slice_index words (mark_at a.block) ≡ a.marked
  pub clears : IsClearMark words a clear

-- Mended at the lane, each image of a plan shows the words before it or those after it, and its end shows those after
-- it.
pub record IsAtomic (lane : ℕ) (parts : List (List Action)) (base : List ℕ) : Type 0 where
  pub cuts : EachCut (λ image. SameButLane lane base (mended_lane lane image)
      ⊎ SameButLane lane (finished parts base) (mended_lane lane image)) parts base
  pub idle : slice_index (finished parts base) (lane_op_at lane) ≡ 0
  pub ends : mended_lane lane (finished parts base) ≡ finished parts base
