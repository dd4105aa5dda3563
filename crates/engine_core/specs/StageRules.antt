-- What holds of the words of a stage image while session 1 has a transaction open, or none.
use Rattle.std.specs.Prelude.{◌≡◌, ◌⊎◌, ℕ, ◌+◌, ◌-◌, ◌^◌, ◌<◌, ◌≤◌, List, length, Option, Some, None, slice_index}
use Rattle.mv_model.specs.declared.limits.TheConstants.{MAX_COMMITS}
use Rattle.image_layout.specs.Fixed.{last_at, state_at, commit_word_at, entry_at}
use Rattle.txn_object.specs.Entries.{entry_word}
use Rattle.engine_core.specs.Stage.{high_at, born_at, ended_at}
use Rattle.engine_core.specs.StagePlans.{created_entry}
use Rattle.engine_core.specs.LogicalState.{rows_of, snapshot_of}
use Rattle.engine_core.specs.declared.transactions.Running.{Running}

-- the word of an object that says whether it is open
abbrev pub state_word : Option Running → ℕ
state_word None = 0
state_word (Some own) = 1

-- Each stamp is of a commit or of a dead row, rows that are not used up have none, and the object of session 1 has the
-- entries of its transaction: the rows behind those that are used up.
pub record IsStage (words : List ℕ) (running : Option Running) : Type 0 where
  -- there is a whole segment, and the last commit number isn't above the greatest
  pub size : 32768 ≤ length words
  pub last : slice_index words last_at ≤ MAX_COMMITS
  -- the transaction reads no more commits than there are
  pub reads : snapshot_of running ≤ slice_index words last_at
  -- the transaction's rows have room in its object, and in the table behind the rows that are used up
  pub few : rows_of running ≤ 60
  pub room : slice_index words high_at + rows_of running ≤ 4096
  -- a row was created by a commit, or is dead, or has no stamp; from `high` on it has none
  pub born : (row : ℕ) → row < 4096
      → (slice_index words (born_at row) ≤ slice_index words last_at) ⊎ (slice_index words (born_at row) ≡ 2 ^ 64 - 1)
  pub unborn : (row : ℕ) → slice_index words high_at ≤ row → row < 4096 → slice_index words (born_at row) ≡ 0
  -- and was ended by a commit, or wasn't
  pub ended : (row : ℕ) → row < 4096 → slice_index words (ended_at row) ≤ slice_index words last_at
  -- the object of session 1 is open exactly where the transaction runs, and has no commit word
  pub state : slice_index words (state_at 0) ≡ state_word running
  pub commit_word : slice_index words (commit_word_at 0) ≡ 0
  -- its entries are the transaction's rows, and the other entry words are 0
  pub entries : (nth : ℕ) → nth < rows_of running
      → slice_index words (entry_at 0 nth) ≡ entry_word (created_entry (slice_index words high_at + nth))
  pub free : (nth : ℕ) → rows_of running ≤ nth → nth < 60 → slice_index words (entry_at 0 nth) ≡ 0
  -- every other object is idle
  pub others : (object : ℕ) → 1 ≤ object → object < 16 → slice_index words (state_at object) ≡ 0
