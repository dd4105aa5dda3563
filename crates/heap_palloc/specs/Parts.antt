-- The parts of an allocation and of a freeing.
use Rattle.std.specs.Prelude.{ℕ, ◌+◌, ◌==◌, if◌then◌else◌, List, [], ◌∷◌, ◌++◌, map, filter, slice_index}
use Rattle.pm_model.specs.declared.action.Action.{Action}
use Rattle.std.specs.List.{range_with_len}
use Rattle.image_layout.specs.Fixed.{descriptor_at, lane_op_at, lane_dest_at, lane_block_at}
use Rattle.image_layout.specs.Pointer.{pointer_word}
use Rattle.image_layout.specs.Places.{page_of, page_at}
use Rattle.pm_model.specs.Plans.{store, one_store, unless_empty}
use Rattle.heap_palloc.specs.Lane.{mark_at}

-- the places of the owner's word and of the block, the lane, and the block's mark when it is allocated
pub record Allocation : Type 0 where
  pub lane : ℕ
  pub owner : ℕ
  pub block : ℕ
  pub marked : ℕ

-- the lane gets the owner and the block
abbrev pub lane_part : Allocation → List Action
lane_part a = store (lane_dest_at a.lane) (pointer_word a.owner) ∷ store (lane_block_at a.lane) (pointer_word a.block)
    ∷ []

-- an allocation: the lane, then under its log the mark and the owner's word
abbrev pub allocation_parts : Allocation → List (List Action)
allocation_parts a =
    lane_part a
    ∷ one_store (lane_op_at a.lane) 1
    ∷ one_store (mark_at a.block) a.marked
    ∷ one_store a.owner (pointer_word a.block)
    ∷ one_store (lane_op_at a.lane) 0
    ∷ []

-- a free page becomes a small page without blocks
abbrev pub new_page_parts : ℕ → ℕ → List (List Action)
new_page_parts page class = one_store (page_at page) 0 ∷ one_store (descriptor_at page) (2 + class) ∷ []

-- the same on a page that is made first
abbrev pub new_page_allocation_parts : ℕ → ℕ → Allocation → List (List Action)
new_page_allocation_parts page class a = new_page_parts page class ++ allocation_parts a

-- 0 over each descriptor of these pages that says that the page was given back
abbrev pub forget_given_back : List ℕ → List ℕ → List Action
forget_given_back words pages =
    map (λ page. store (descriptor_at page) 0) (filter (λ page. slice_index words (descriptor_at page) == 1) pages)

-- a big block of so many pages
abbrev pub big_allocation_parts : List ℕ → ℕ → Allocation → List (List Action)
big_allocation_parts words pages a =
    unless_empty (forget_given_back words (range_with_len (page_of a.block) pages)) ++ allocation_parts a

-- a freeing: the lane, then under its log the owner's word and the mark
abbrev pub freeing_parts : Allocation → ℕ → List (List Action)
freeing_parts a clear =
    lane_part a
    ∷ one_store (lane_op_at a.lane) 2
    ∷ one_store a.owner 0
    ∷ one_store (mark_at a.block) clear
    ∷ one_store (lane_op_at a.lane) 0
    ∷ []

-- a small page is free again
abbrev pub free_page_parts : ℕ → List (List Action)
free_page_parts page = one_store (descriptor_at page) 0 ∷ []

-- the freeing of a block of a small page, which is free again where it has no block left
abbrev pub small_freeing_parts : ℕ → Allocation → ℕ → List (List Action)
small_freeing_parts page a clear = freeing_parts a clear ++ (if clear == 0 then free_page_parts page else [])
