-- What the descriptors and bitmaps of a heap say fits together.
use Rattle.std.specs.Prelude.{◌≡◌, ◌⊎◌, ◌↔◌, ℕ, ◌+◌, ◌<◌, ◌≤◌, false, IsTrue, List, Contains}
use Rattle.image_layout.specs.Places.{page_at, page_count}
use Rattle.image_layout.specs.Blocks.{Block, is_reserved, is_free_page, is_small_page, live_blocks}
use Rattle.image_layout.specs.Checks.{Keeps}
use Rattle.image_layout.specs.HeapRules.{reserved_rule, descriptor_rule}

-- two blocks share no word
abbrev pub AreApart : Block → Block → Type 0
AreApart block other = (block.first + block.words ≤ other.first) ⊎ (other.first + other.words ≤ block.first)

-- two live blocks are one, or they share no word
abbrev pub LiveBlocksAreApart : Type 0
LiveBlocksAreApart = (words : List ℕ) → Keeps words reserved_rule → Keeps words descriptor_rule
    → (block other : Block) → Contains (live_blocks words) block → Contains (live_blocks words) other
    → (block ≡ other) ⊎ AreApart block other

-- a word of the page is a word of the block
abbrev pub HasWordOf : Block → ℕ → Type 0
HasWordOf block page = (block.first < page_at (page + 1)) × (page_at page < block.first + block.words)

-- a page is free exactly where it isn't reserved, isn't a small page, and no live block has a word of it
abbrev pub FreePagesAreUnused : Type 0
FreePagesAreUnused =
    (words : List ℕ) → Keeps words reserved_rule → Keeps words descriptor_rule → (page : ℕ) → page < page_count words
    → IsTrue (is_free_page words page)
    ↔ ((is_reserved page ≡ false) × (is_small_page words page ≡ false)
    × ((block : Block) → Contains (live_blocks words) block → HasWordOf block page → ⊥))
