-- Free pages as a list of runs.
use Rattle.std.specs.Prelude.{◌≡◌, ℕ, ◌+◌, ◌%◌, ◌<◌, ◌≤◌, ◌⊎◌, ◌↔◌, min, max, List, [], ◌∷◌}
use Rattle.heap_big.specs.declared.run.Run.{Run}

-- the page after the last one
abbrev pub end_of : Run → ℕ
end_of run = run.first + run.pages

-- the run has this page
abbrev pub HasPage : Run → ℕ → Type 0
HasPage run page = (run.first ≤ page) × (page < end_of run)

-- one of the runs has this page
abbrev pub IsFree : List Run → ℕ → Type 0
IsFree [] page = ⊥
IsFree (run ∷ runs) page = HasPage run page ⊎ IsFree runs page

-- at least one page, and all in one segment of 64 pages
pub record IsInSegment (run : Run) : Type 0 where
  pub some : 0 < run.pages
  pub within : run.first % 64 + run.pages ≤ 64

-- where the next run may begin: at once where a segment begins, and else behind a page that isn't free
abbrev pub next_place : Run → ℕ
next_place run = end_of run + min (end_of run % 64) 1

-- the runs stand from `low` on in ascending place and end before `high`, each in one segment,
-- and no two of a segment touch: so each is as long as it can be
abbrev pub AreRuns : ℕ → List Run → ℕ → Type 0
AreRuns low [] high = low ≤ high
AreRuns low (run ∷ runs) high = (low ≤ run.first) × IsInSegment run × AreRuns (next_place run) runs high

-- the pages of the longest run, 0 where there is none
abbrev pub longest : List Run → ℕ
longest [] = 0
longest (run ∷ runs) = max run.pages (longest runs)

-- so many neighbouring pages are free, in one segment
pub record AreFree (runs : List Run) (first count : ℕ) : Type 0 where
  pub in_segment : first % 64 + count ≤ 64
  pub free : (page : ℕ) → first ≤ page → page < first + count → IsFree runs page

-- the greatest number of neighbouring free pages of one segment
pub record IsGreatest (runs : List Run) (count : ℕ) : Type 0 where
  pub first : ℕ
  pub reached : AreFree runs first count
  pub bound : (place other : ℕ) → AreFree runs place other → other ≤ count

-- the free pages of a heap: how many pages it has, and the runs of those that are free
pub record FreeRuns : Type 0 where
  pub page_count : ℕ
  pub runs : List Run

-- the heap has whole segments, and its runs are in order: each as long as it can be
pub record IsWellFormed (free : FreeRuns) : Type 0 where
  pub whole : free.page_count % 64 ≡ 0
  pub runs : AreRuns 0 free.runs free.page_count

-- the free pages are those of before and those of the run
abbrev pub Adds : List Run → Run → List Run → Type 0
Adds old run new = (page : ℕ) → IsFree new page ↔ (IsFree old page ⊎ HasPage run page)

-- the free pages are those of before without those of the run
abbrev pub Removes : List Run → Run → List Run → Type 0
Removes old run new = (page : ℕ) → IsFree new page ↔ (IsFree old page × (HasPage run page → ⊥))

-- two lists in order with the same free pages are one list
abbrev pub PagesSettleRuns : Type 0
PagesSettleRuns = (high : ℕ) (runs others : List Run) → AreRuns 0 runs high → AreRuns 0 others high
    → ((page : ℕ) → IsFree runs page ↔ IsFree others page) → runs ≡ others
