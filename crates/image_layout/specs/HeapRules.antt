-- The rules of the heap's words and of the lanes, which every image keeps, also one that a power cut left. A rule may
-- rely on those before it.
use Rattle.std.specs.Prelude.{ℕ, ◌+◌, ◌-◌, ◌%◌, ◌^◌, Bool, not, ◌&&◌, ◌||◌, ◌==◌, nat_lt, nat_le, map, filter, List, slice_index}
use Rattle.image_layout.specs.Fixed.{descriptor_at, lane_op_at, lane_dest_at, lane_block_at}
use Rattle.image_layout.specs.Places.{below, page_at, page_count, is_pointer}
use Rattle.image_layout.specs.Blocks.{slots_of, descriptor_of, says_big, is_inside, is_small_page, is_reserved, class_of, bitmap_of, is_block_pointer}
use Rattle.image_layout.specs.Checks.{check, Rule}

-- 5: reserved pages have the descriptor 8
unfoldable pub reserved_rule : Rule
reserved_rule words =
    map (λ page. check (descriptor_at page) (descriptor_of words page == 8))
    (filter is_reserved (below (page_count words)))

-- A descriptor of another page, not inside a big block, is that of a free page, of a small page, or of a big block that
-- ends in its segment.
abbrev pub is_descriptor : ℕ → ℕ → Bool
is_descriptor page descriptor =
    nat_le descriptor 7 || (says_big descriptor && nat_le (page % 64 + (descriptor - 16)) 64)

-- 6: other descriptors, passing over the inside of big blocks, are descriptors
unfoldable pub descriptor_rule : Rule
descriptor_rule words =
    map (λ page. check (descriptor_at page) (is_descriptor page (descriptor_of words page)))
    (filter (λ page. not (is_reserved page) && not (is_inside words page)) (below (page_count words)))

-- 7: a small page's bitmap has no bit at or above its slots
unfoldable pub bitmap_rule : Rule
bitmap_rule words =
    map (λ page. check (page_at page) (nat_lt (bitmap_of words page) (2 ^ slots_of (class_of words page))))
    (filter (is_small_page words) (below (page_count words)))

-- a lane is idle, or it allocates or frees a block whose pointer, and its owner word's, it holds
abbrev pub is_lane : List ℕ → ℕ → Bool
is_lane words lane =
    (slice_index words (lane_op_at lane) == 0)
    || (nat_le (slice_index words (lane_op_at lane)) 2 && is_pointer words (slice_index words (lane_dest_at lane))
    && is_block_pointer words (slice_index words (lane_block_at lane)))

-- 8: each lane is idle or at work on a block
unfoldable pub lane_rule : Rule
lane_rule words = map (λ lane. check (lane_op_at lane) (is_lane words lane)) (below 16)
