-- What the words of an image show of an array that grows, once the lane is mended.
use Rattle.std.specs.Prelude.{◌≡◌, ◌≢◌, ◌⊎◌, ℕ, ◌+◌, ◌<◌, ◌≤◌, List, length, slice_index}
use Rattle.image_layout.specs.declared.chunks.TheConstants.{MAX_CHUNKS}
use Rattle.image_layout.specs.Pointer.{pointer_word}
use Rattle.image_layout.specs.Places.{page_at}
use Rattle.pm_model.specs.Plans.{finished}
use Rattle.image_layout.specs.Blocks.{live_blocks}
use Rattle.heap_palloc.specs.Law.{IsElsewhere}
use Rattle.image_layout.specs.Arrays.{chunk_pages, capacity_of, chunk_count, capacity, place_of, array_word}
use Rattle.seg_array.specs.Growth.{Growth, next_pointer_at, growth_parts}

-- a word outside so many pages from one on
abbrev pub IsOutsidePages : ℕ → ℕ → ℕ → Type 0
IsOutsidePages first pages w = (w < page_at first) ⊎ (page_at (first + pages) ≤ w)

-- The count and the pointers in the header of an array are the same, the one behind the published chunks among them.
pub record HasSameHeader (old new : List ℕ) (header : ℕ) : Type 0 where
  pub size : length new ≡ length old
  pub each : (k : ℕ) → k ≤ MAX_CHUNKS → slice_index new (header + k) ≡ slice_index old (header + k)

-- how many pages the new chunk has
abbrev pub grown_pages : List ℕ → Growth → ℕ
grown_pages base g = chunk_pages (chunk_count base g.header)

-- no word of the array moves, and each word that the growth doesn't write stays
pub record KeepsArray (base : List ℕ) (g : Growth) (words : List ℕ) : Type 0 where
  pub size : length words ≡ length base
  pub places : (index : ℕ) → index < capacity base g.header
      → place_of words g.header index ≡ place_of base g.header index
  pub others : (w : ℕ) → IsElsewhere g.lane (next_pointer_at base g.header) g.first (grown_pages base g) w
      → w ≢ g.header → IsOutsidePages g.first (grown_pages base g) w → slice_index words w ≡ slice_index base w

-- the live blocks are those after the growth, and the chunk's pointer stands behind the published ones
pub record HasChunk (base : List ℕ) (g : Growth) (words : List ℕ) : Type 0 where
  pub blocks_are : live_blocks words ≡ live_blocks (finished (growth_parts base g) base)
  pub named : slice_index words (next_pointer_at base g.header) ≡ pointer_word (page_at g.first)

-- the live blocks and that pointer are those before the growth
pub record HasNoChunk (base : List ℕ) (g : Growth) (words : List ℕ) : Type 0 where
  pub blocks_are : live_blocks words ≡ live_blocks base
  pub named : slice_index words (next_pointer_at base g.header) ≡ slice_index base (next_pointer_at base g.header)

-- the capacity before, and a chunk that the array owns or doesn't
pub record IsUngrown (base : List ℕ) (g : Growth) (words : List ℕ) : Type 0 where
  pub keeps : KeepsArray base g words
  pub capacity_is : capacity words g.header ≡ capacity base g.header
  pub chunk : HasNoChunk base g words ⊎ HasChunk base g words

-- the capacity after, and each new word is 0
pub record IsGrown (base : List ℕ) (g : Growth) (words : List ℕ) : Type 0 where
  pub keeps : KeepsArray base g words
  pub capacity_is : capacity words g.header ≡ capacity_of (chunk_count base g.header + 1)
  pub new_words : (index : ℕ) → capacity base g.header ≤ index → index < capacity words g.header
      → array_word words g.header index ≡ 0
  pub chunk : HasChunk base g words
