-- A lane is the log of one allocation or freeing. Opening an image mends the lanes that a power cut left at work.
use Rattle.std.specs.Prelude.{ℕ, ◌-◌, ◌%◌, Bool, ◌==◌, if◌then◌else◌, List, slice_index, slice_set}
use Rattle.image_layout.specs.Fixed.{descriptor_at, lane_op_at, lane_dest_at, lane_block_at}
use Rattle.image_layout.specs.Places.{page_of, page_at, place_in}
use Rattle.image_layout.specs.Blocks.{slot_in}
use Rattle.heap_small.specs.Bitmap.{without_bit}

-- a block that begins where a page does is a big one
abbrev pub is_big_place : ℕ → Bool
is_big_place block = block % 512 == 0

-- The mark of a block is the word that says whether it is allocated: the descriptor of its head, or the bitmap of its
-- page.
abbrev pub mark_at : ℕ → ℕ
mark_at block = (if is_big_place block then descriptor_at (page_of block) else page_at (page_of block))

-- the mark without the block, by the page's descriptor and the mark as it is
abbrev pub unmarked : ℕ → ℕ → ℕ → ℕ
unmarked block descriptor mark = (if is_big_place block then 0 else without_bit mark (slot_in (descriptor - 2) block))

-- the words with the block's mark cleared
abbrev pub released : ℕ → List ℕ → List ℕ
released block words =
    slice_set words (mark_at block)
    (unmarked block (slice_index words (descriptor_at (page_of block))) (slice_index words (mark_at block)))

-- an allocation is undone where the owner's word hasn't got the block
abbrev pub undone : ℕ → ℕ → List ℕ → List ℕ
undone owner block words = (if slice_index words owner == block then words else released (place_in block) words)

-- by what the lane is at work on, the owner's place and the block's pointer
abbrev pub mended_by : ℕ → ℕ → ℕ → ℕ → List ℕ → List ℕ
mended_by lane op owner block words =
    (if op == 1
    then slice_set (undone owner block words) (lane_op_at lane) 0
    else if op == 2 then slice_set (released (place_in block) (slice_set words owner 0)) (lane_op_at lane) 0 else words)

-- the words after the lane is mended
unfoldable pub mended_lane : ℕ → List ℕ → List ℕ
mended_lane lane words =
    mended_by lane (slice_index words (lane_op_at lane)) (place_in (slice_index words (lane_dest_at lane)))
    (slice_index words (lane_block_at lane)) words
