-- Where the free runs of each length begin.
use Rattle.std.specs.Prelude.{◌≡◌, ◌↔◌, ℕ, ◌-◌, ◌<◌, ◌≤◌, List, [], vec_len, slice_index_or, Contains}
use Rattle.std.specs.Int.{bit_at}
use Rattle.heap_big.specs.declared.run.Run.{Run}
use Rattle.heap_big.specs.declared.starts.Starts.TheInside.{Inside}

-- the first pages of the runs of so many pages, in ascending place
abbrev pub starts_of : List (List ℕ) → ℕ → List ℕ
starts_of starts pages = slice_index_or starts (pages - 1) []

-- the run has at least one page, and is one of those
pub record HasRun (starts : List (List ℕ)) (run : Run) : Type 0 where
  pub some : 0 < run.pages
  pub begins : Contains (starts_of starts run.pages) run.first

abbrev pub starts_in : Inside → List (List ℕ)
starts_in starts = starts.sets.items

-- the bit of a length is 0 exactly where no run has it
pub record IsStarts (starts : Inside) : Type 0 where
  pub size : vec_len starts.sets ≡ 64
  pub used : (at : ℕ) → at < 64 → (bit_at starts.used at ≡ 0) ↔ (slice_index_or starts.sets.items at [] ≡ [])

-- the shortest run of at least so many pages, and of several the lowest
pub record IsShortest (starts : List (List ℕ)) (pages : ℕ) (run : Run) : Type 0 where
  pub is_one : HasRun starts run
  pub fits : pages ≤ run.pages
  pub shortest : (other : Run) → HasRun starts other → pages ≤ other.pages → run.pages ≤ other.pages
  pub lowest : (other : Run) → HasRun starts other → other.pages ≡ run.pages → run.first ≤ other.first

-- the runs of each length are those that begin at its first pages
abbrev pub Indexes : List (List ℕ) → List Run → Type 0
Indexes starts runs = (run : Run) → HasRun starts run ↔ Contains runs run
