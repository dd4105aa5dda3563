-- The table state that the words of a stage image stand for.
use Rattle.std.specs.Prelude.{ℕ, ℤ, ◌+◌, ◌%◌, ◌^◌, ◌==◌, ◌&&◌, ◌||◌, not, nat_le, nat_lt, Bool, codes, List, [], ◌∷◌, map, filter, Option, option_map, slice_set, slice_index}
use Rattle.std.specs.List.{range_with_len}
use Rattle.std.specs.Option.{option_map_or}
use Rattle.std.specs.Int.{cast_signed, cast_unsigned}
use mir.Syntax.{w64}
use Rattle.mv_model.specs.declared.value.Value.TheVariants.{Int}
use Rattle.mv_model.specs.declared.shape.Column.{Column}
use Rattle.mv_model.specs.declared.shape.Kind.TheVariants as kind
use Rattle.mv_model.specs.State.{CreatedRow, RowKey, Table, WriteSet, Transaction, State, all_idle}
use Rattle.image_layout.specs.Fixed.{last_at}
unfoldable pub use Rattle.stage_view.specs.StageWords.{greatest}
pub use Rattle.stage_view.specs.StageWords.{of_open, commit_count, past_entry, next_row}
use Rattle.txn_object.specs.Object.{own_object}
use Rattle.stage_view.specs.StageView.{view_of}
use Rattle.engine_core.specs.Stage.{high_at, born_at, ended_at, value_at}
use Rattle.engine_core.specs.declared.transactions.Transactions.{Transactions}
use Rattle.engine_core.specs.declared.transactions.Running.{Running}

-- ── the one table ──

-- its columns
abbrev pub columns : List Column
columns = record { name = codes "a"; kind = kind.Int } ∷ []

-- the table that has given out so many row numbers
abbrev pub table_of : ℕ → Table
table_of next_row = record { name = codes "t"; columns = columns; next_row = next_row }

-- the key of a row
abbrev pub key_of : ℕ → RowKey
key_of row = record { table = 0; row = row }

-- the integer that a key word spells: its 64 bits with the sign bit flipped
abbrev pub integer_of : ℕ → ℤ
integer_of word = cast_signed w64 ((word + 2 ^ 63) % 2 ^ 64)

-- the word that spells an integer: its 64 bits with the sign bit flipped
abbrev pub key_word_of : ℤ → ℕ
key_word_of number = (cast_unsigned w64 number + 2 ^ 63) % 2 ^ 64

-- a row, with the value that stands in the words
abbrev pub created_row : List ℕ → ℕ → CreatedRow
created_row words row = record { key = key_of row; values = Int (integer_of (slice_index words (value_at row))) ∷ [] }

-- the rows of the table that pass a test, in ascending order
unfoldable pub rows_where : (ℕ → Bool) → List ℕ
rows_where test = filter test (range_with_len 0 4096)

-- ── commits ──

-- commit k created the rows that say so, and ended those that say so
abbrev pub commit_of : List ℕ → ℕ → WriteSet
commit_of words number = record {
  created = map (created_row words) (rows_where (λ row. slice_index words (born_at row) == number));
  ended = map key_of (rows_where (λ row. slice_index words (ended_at row) == number));
}

-- the commits from 1 to this number
abbrev pub commits_in : List ℕ → ℕ → List WriteSet
commits_in words count = map (commit_of words) (range_with_len 1 count)

-- The table state that the words of an image stand for: its commits, and no open transaction.
abbrev pub logical_state : List ℕ → State
logical_state words = record {
  tables = table_of (next_row words) ∷ [];
  commits = commits_in words (commit_count words);
  begun = 0;
  running = all_idle;
}

-- a store of the one table, in which no commit has created a row
abbrev pub one_empty_table : State
one_empty_table = record { tables = table_of 0 ∷ []; commits = []; begun = 0; running = all_idle }

-- ── the open transaction ──

-- the number is among so many from the first on
abbrev pub within : ℕ → ℕ → ℕ → Bool
within first count number = nat_le first number && nat_lt number (first + count)

-- What a transaction with this object wrote: the rows that the entries of the object name, as created and as ended.
abbrev pub writes_in : List ℕ → ℕ → WriteSet
writes_in words object = record {
  created = map (created_row words) (rows_where ((view_of words).creates object 0));
  ended = map key_of (rows_where ((view_of words).ends object 0));
}

-- A transaction with this object and this snapshot sees the row: one of the commits that it reads or the transaction
-- itself created it, and none of these ended it.
abbrev pub is_seen : List ℕ → ℕ → ℕ → ℕ → Bool
is_seen words object snapshot row =
    let view = view_of words in
    within 0 4096 row
    && (not (within 1 snapshot (slice_index words (ended_at row)) || view.ends object 0 row)
    && (within 1 snapshot (slice_index words (born_at row)) || view.creates object 0 row))

-- a state of the one table, in which only session 1 may have a transaction open
abbrev pub state_by : ℕ → List WriteSet → ℕ → Option Transaction → State
state_by next commits begun own = record {
  tables = table_of next ∷ [];
  commits = commits;
  begun = begun;
  running = slice_set all_idle 1 own;
}

-- how many rows the open transaction created
abbrev pub rows_of : Option Running → ℕ
rows_of running = option_map_or (λ own. own.rows) running 0

-- how many commits the open transaction reads
abbrev pub snapshot_of : Option Running → ℕ
snapshot_of running = option_map_or (λ own. own.snapshot) running 0

-- the open transaction of session 1: it reads the commits up to its snapshot, and wrote what its object says
abbrev pub transaction_in : List ℕ → Running → Transaction
transaction_in words own = record {
  number = own.number;
  snapshot = own.snapshot;
  writes = writes_in words (own_object 1);
}

-- The table state that the words stand for where session 1 has this transaction open, or none.
abbrev pub state_of : List ℕ → Transactions → State
state_of words now = state_by
    (slice_index words high_at + rows_of now.running)
    (commits_in words (slice_index words last_at))
    now.begun
    (option_map (transaction_in words) now.running)
