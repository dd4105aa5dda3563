-- What the logs of lanes and of splits say of their blocks, whatever a power cut left half done.
use Rattle.std.specs.Prelude.{◌≡◌, ◌≢◌, ◌⊎◌, ℕ, ◌+◌, ◌%◌, ◌^◌, ◌<◌, true, false, List, slice_index, All, AllPairs, Contains}
use Rattle.image_layout.specs.Fixed.{lane_op_at}
use Rattle.image_layout.specs.Places.{page_of, place_in}
use Rattle.image_layout.specs.Records.{first_leaf_at, new_leaf_at, next_leaf_at, split_leaf_at}
use Rattle.image_layout.specs.Blocks.{descriptor_of, is_inside, is_small_page}
use Rattle.image_layout.specs.Tables.{all_columns}
use Rattle.image_layout.specs.Trees.{is_full_leaf, is_about_to_link}
use Rattle.image_layout.specs.Owners.{busy_lanes, lane_owner, lane_block, unfinished_slots}

-- ── lanes ──

-- A page that is free, or the first one of a big block, behind which the block's other descriptors are 0.
pub record BeginsPages (words : List ℕ) (page : ℕ) : Type 0 where
  pub outside : is_inside words page ≡ false
  pub no_small : is_small_page words page ≡ false
  pub clean : (k : ℕ) → 0 < k → 16 + k < descriptor_of words page → descriptor_of words (page + k) ≡ 0

-- A lane at work: the word by which the block is owned is null or has the block's pointer, a block that begins a page
-- has its pages for itself, and only what is unfinished is freed.
pub record LaneFits (words : List ℕ) (lane : ℕ) : Type 0 where
  pub owner : (slice_index words (lane_owner words lane) ≡ 0)
      ⊎ (slice_index words (lane_owner words lane) ≡ lane_block words lane)
  pub pages : place_in (lane_block words lane) % 512 ≡ 0
      → BeginsPages words (page_of (place_in (lane_block words lane)))
  pub frees : slice_index words (lane_op_at lane) ≡ 2 → Contains (unfinished_slots words) (lane_owner words lane)

-- ── splits ──

-- what a column's split log says: the words of the leaf that is split and of the new one, and the places that they name
abbrev pub split_word : List ℕ → ℕ → ℕ
split_word words column = slice_index words (split_leaf_at column)

abbrev pub new_word : List ℕ → ℕ → ℕ
new_word words column = slice_index words (new_leaf_at column)

abbrev pub split_leaf : List ℕ → ℕ → ℕ
split_leaf words column = place_in (split_word words column)

abbrev pub new_leaf : List ℕ → ℕ → ℕ
new_leaf words column = place_in (new_word words column)

-- A column's split log. A leaf that is still full isn't linked to the new one. A new leaf that is about to be linked
-- goes on where the leaf that was split does. A new leaf without one that is split is the first leaf, or there is none
-- yet; and with one it isn't the first leaf.
pub record SplitFits (words : List ℕ) (column : ℕ) : Type 0 where
  pub unlinked : split_word words column ≢ 0 → new_word words column ≢ 0
      → is_full_leaf words (split_leaf words column) ≡ true
      → slice_index words (next_leaf_at (split_leaf words column)) ≢ new_word words column
  pub goes_on : is_about_to_link words column ≡ true
      → slice_index words (next_leaf_at (new_leaf words column))
      ≡ slice_index words (next_leaf_at (split_leaf words column))
  pub bitmap : is_about_to_link words column ≡ true → slice_index words (new_leaf words column) < 2 ^ 48
  pub first : split_word words column ≡ 0 → new_word words column ≢ 0 → slice_index words (first_leaf_at column) ≢ 0
      → slice_index words (first_leaf_at column) ≡ new_word words column
  pub later : split_word words column ≢ 0 → new_word words column ≢ 0
      → slice_index words (first_leaf_at column) ≢ new_word words column

-- ── all of them ──

-- the pages of a big block that is unfinished, and that opening will free
abbrev pub SlotFits : List ℕ → ℕ → Type 0
SlotFits words at =
    slice_index words at ≢ 0 → place_in (slice_index words at) % 512 ≡ 0
    → BeginsPages words (page_of (place_in (slice_index words at)))

-- The logs of an image: of each lane at work, no two of which have one block, of what is unfinished, and of each
-- column's splits.
pub record LogsFit (words : List ℕ) : Type 0 where
  pub lanes : All (LaneFits words) (busy_lanes words)
  pub blocks : AllPairs (λ lane other. lane_block words lane ≢ lane_block words other) (busy_lanes words)
  pub slots : All (SlotFits words) (unfinished_slots words)
  pub splits : All (SplitFits words) (all_columns words)
