-- The growth of an array: the chunk behind the published ones is allocated, unless the array owns it already; its pages
-- are made 0; and it is published.
use Rattle.std.specs.Prelude.{◌≡◌, ◌⊎◌, ℕ, ◌+◌, ◌*◌, ◌%◌, ◌<◌, ◌≤◌, ◌==◌, if◌then◌else◌, List, [], ◌∷◌, ◌++◌, Contains, map, length, slice_index}
use Rattle.std.specs.List.{range_with_len}
use Rattle.pm_model.specs.declared.action.Action.TheVariants.{Punch}
use Rattle.image_layout.specs.Fixed.{lane_op_at}
use Rattle.image_layout.specs.Pointer.{pointer_word}
use Rattle.image_layout.specs.Places.{page_of, page_at, page_count, place_in}
use Rattle.pm_model.specs.Plans.{Part, finished, one_store}
use Rattle.image_layout.specs.Blocks.{Block, descriptor_of, is_inside, is_small_page, live_blocks}
use Rattle.heap_palloc.specs.Parts.{big_allocation_parts}
use Rattle.heap_palloc.specs.Law.{IsOwnerPlace, IsHeapPage, Pages, pages_allocation, MayTakeRun}
use Rattle.image_layout.specs.Arrays.{chunk_pages, chunk_count, chunk_pointer_at}

-- through this lane the array with this header grows by the chunk that begins at a page
pub record Growth : Type 0 where
  pub lane : ℕ
  pub header : ℕ
  pub first : ℕ

abbrev pub growth_by : ℕ → ℕ → ℕ → Growth
growth_by lane header first = record { lane = lane; header = header; first = first }

-- the place of the pointer behind the published ones
abbrev pub next_pointer_at : List ℕ → ℕ → ℕ
next_pointer_at words header = chunk_pointer_at header (chunk_count words header)

-- that pointer is null: the array doesn't own its next chunk
abbrev pub HasNoNext : List ℕ → ℕ → Type 0
HasNoNext words header = slice_index words (next_pointer_at words header) ≡ 0

-- where the chunk begins that it names
abbrev pub next_place : List ℕ → ℕ → ℕ
next_place words header = place_in (slice_index words (next_pointer_at words header))

-- how many pages the next chunk has
abbrev pub next_pages : List ℕ → ℕ → ℕ
next_pages words header = chunk_pages (chunk_count words header)

-- the pages of the chunk, the word for its pointer, and the chunk as a block
abbrev pub next_chunk : List ℕ → Growth → Pages
next_chunk words g = record {
  lane = g.lane;
  owner = next_pointer_at words g.header;
  first = g.first;
  pages = next_pages words g.header;
}

abbrev pub chunk_block : Pages → Block
chunk_block chunk = record { first = page_at chunk.first; words = 512 * chunk.pages }

-- so many pages from one on are made 0
abbrev pub punches : ℕ → ℕ → Part
punches first pages = map (λ page. Punch (record { 0 = page })) (range_with_len first pages)

-- the chunk is allocated, unless its pointer is there
abbrev pub allocating_parts : List ℕ → Pages → List Part
allocating_parts words chunk =
    (if slice_index words chunk.owner == 0 then big_allocation_parts words chunk.pages (pages_allocation chunk) else [])

-- its pages are made 0, and then it is published
abbrev pub publishing_parts : ℕ → ℕ → ℕ → ℕ → List Part
publishing_parts header count first pages = punches first pages ∷ one_store header (count + 1) ∷ []

abbrev pub growth_parts : List ℕ → Growth → List Part
growth_parts words g =
    allocating_parts words (next_chunk words g)
    ++ publishing_parts g.header (chunk_count words g.header) g.first (next_pages words g.header)

-- the words after a growth
abbrev pub grown_words : List ℕ → Growth → List ℕ
grown_words words g = finished (growth_parts words g) words

-- the words once the array owns its next chunk
abbrev pub owning_words : List ℕ → Growth → List ℕ
owning_words words g = finished (allocating_parts words (next_chunk words g)) words

-- the array owns the chunk
pub record OwnsChunk (words : List ℕ) (chunk : Pages) : Type 0 where
  pub named : slice_index words chunk.owner ≡ pointer_word (page_at chunk.first)
  pub live : Contains (live_blocks words) (chunk_block chunk)
  pub page_is : IsHeapPage words chunk.first
  pub in_image : chunk.first + chunk.pages ≤ page_count words
  pub in_segment : chunk.first % 64 + chunk.pages ≤ 64

-- The growth may begin: the header's words can be an owner's, the chunk isn't among them, the lane is idle, and the
-- chunk's pages are free or the array's own.
pub record MayGrow (words : List ℕ) (g : Growth) : Type 0 where
  pub count : chunk_count words g.header < 12
  pub header_is : (k : ℕ) → k < 16 → IsOwnerPlace words (g.header + k)
  pub apart : (g.header + 16 ≤ page_at g.first)
      ⊎ (page_at (g.first + chunk_pages (chunk_count words g.header)) ≤ g.header)
  pub lane_is : g.lane < 16
  pub idle : slice_index words (lane_op_at g.lane) ≡ 0
  pub chunk : MayTakeRun words (next_chunk words g) ⊎ OwnsChunk words (next_chunk words g)

-- What a growth reads is the same: the count, the pointer behind the published ones, the lane's op, the descriptors of
-- the chunk's pages, whether the first of them stands inside a big block, and of the header's pages whether they are
-- small.
pub record SameGrowthRead (old new : List ℕ) (g : Growth) : Type 0 where
  pub size : length new ≡ length old
  pub count : chunk_count new g.header ≡ chunk_count old g.header
  pub pointer : slice_index new (next_pointer_at old g.header) ≡ slice_index old (next_pointer_at old g.header)
  pub op : slice_index new (lane_op_at g.lane) ≡ slice_index old (lane_op_at g.lane)
  pub descriptors : (k : ℕ) → k < chunk_pages (chunk_count old g.header)
      → descriptor_of new (g.first + k) ≡ descriptor_of old (g.first + k)
  pub inside : is_inside new g.first ≡ is_inside old g.first
  pub header_small : (k : ℕ) → k < 16
      → is_small_page new (page_of (g.header + k)) ≡ is_small_page old (page_of (g.header + k))
