-- Which pages are free by their descriptors, 64 for each segment. 0 and 1 stand for a free page, and 16 + n for the
-- head of a big block of n pages, whose other pages aren't read. A segment begins outside of any block.
use Rattle.std.specs.Prelude.{◌≡◌, ℕ, ◌-◌, ◌%◌, ◌<◌, ◌≤◌, ◌⊎◌, ◌↔◌, ◌==◌, zero, suc, if◌then◌else◌, List, length, slice_index, slice_set}
use Rattle.heap_big.specs.declared.run.Run.{Run}
use Rattle.heap_big.specs.Runs.{end_of, HasPage, IsInSegment}

-- how many pages of a big block follow a page, of which so many were left at it
abbrev pub inside_after : ℕ → ℕ → ℕ
inside_after zero descriptor = descriptor - 17
inside_after (suc inside) descriptor = inside

-- how many are left at the page behind a page with this number
abbrev pub inside_next : ℕ → ℕ → ℕ → ℕ
inside_next page inside descriptor = if suc page % 64 == 0 then 0 else inside_after inside descriptor

-- how many pages are left, from this page on, of a big block that began before it
abbrev pub inside_at : List ℕ → ℕ → ℕ
inside_at descriptors zero = 0
inside_at descriptors (suc page) = inside_next page (inside_at descriptors page) (slice_index descriptors page)

-- the page has the descriptor of a free page, and isn't inside a big block
pub record IsFreePage (descriptors : List ℕ) (page : ℕ) : Type 0 where
  pub within : page < length descriptors
  pub outside : inside_at descriptors page ≡ 0
  pub unused : slice_index descriptors page ≤ 1

-- the run has no page, or ends before this page of its segment
abbrev pub EndsAt : Run → ℕ → Type 0
EndsAt run page = (run.pages ≡ 0) ⊎ ((end_of run ≡ page) × (run.pages ≤ page % 64))

-- the descriptor stands for so many pages that aren't free: a small or a reserved page, or the head of a big block
pub record IsHeadOf (count descriptor : ℕ) : Type 0 where
  pub used : 2 ≤ descriptor
  pub inside : descriptor - 17 ≡ count - 1

-- free pages that get a head are no longer free, and no other page changes
abbrev pub TakingLaw : Type 0
TakingLaw = (descriptors : List ℕ) (run : Run) (head : ℕ) → IsInSegment run → IsHeadOf run.pages head
    → ((page : ℕ) → HasPage run page → IsFreePage descriptors page)
    → (page : ℕ) → IsFreePage (slice_set descriptors run.first head) page
    ↔ (IsFreePage descriptors page × (HasPage run page → ⊥))

-- pages whose head becomes a free page are free, where the descriptors behind it are those of free pages
abbrev pub GivingBackLaw : Type 0
GivingBackLaw = (descriptors : List ℕ) (run : Run) (free : ℕ) → IsInSegment run → end_of run ≤ length descriptors
    → free ≤ 1
    → inside_at descriptors run.first ≡ 0 → IsHeadOf run.pages (slice_index descriptors run.first)
    → ((page : ℕ) → run.first < page → page < end_of run → slice_index descriptors page ≤ 1)
    → (page : ℕ) → IsFreePage (slice_set descriptors run.first free) page
    ↔ (IsFreePage descriptors page ⊎ HasPage run page)
