-- The stamps of a row. One has the number of the commit that created the row, and the other that of the commit that
-- ended it; each is 0 where there is none. Commits are numbered from 1.
use Rattle.std.specs.Prelude.{◌≡◌, ◌⊎◌, ◌↔◌, ℕ, ◌+◌, ◌<◌, ◌≤◌, List, Some, Contains, slice_get}
use Rattle.std.specs.List.{flat_map}

-- what a reader of the first commits, so many of them, sees: one of them created the row, and none of them ended it
pub record IsVisible (created ended snapshot : ℕ) : Type 0 where
  pub some : 1 ≤ created
  pub by_then : created ≤ snapshot
  pub still : (ended ≡ 0) ⊎ (snapshot < ended)

-- a commit: the rows that it creates, and those that it ends
pub record Commit : Type 0 where
  pub created : List ℕ
  pub ended : List ℕ

-- the row is left by these commits: one of them creates it, and none of them ends it
pub record IsLeft (commits : List Commit) (row : ℕ) : Type 0 where
  pub created : Contains (flat_map (λ commit. commit.created) commits) row
  pub not_ended : Contains (flat_map (λ commit. commit.ended) commits) row → ⊥

-- the stamps say which commit creates the row and which ends it, if any does
pub record AreStampsOf (commits : List Commit) (row created ended : ℕ) : Type 0 where
  pub created_by : (k : ℕ) (commit : Commit) → slice_get commits k ≡ Some commit → Contains commit.created row
      ↔ (created ≡ k + 1)
  pub ended_by : (k : ℕ) (commit : Commit) → slice_get commits k ≡ Some commit → Contains commit.ended row
      ↔ (ended ≡ k + 1)
