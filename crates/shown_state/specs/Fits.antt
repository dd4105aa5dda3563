-- What every image keeps that a power cut can leave, said word by word, with no opening in it.
use Rattle.std.specs.Prelude.{◌≡◌, ◌⊎◌, ℕ, ◌+◌, ◌-◌, ◌<◌, ◌≤◌, max, Bool, true, ◌&&◌, ◌==◌, IsTrue, List, ◌++◌, map, filter, fold, slice_index, All, Contains}
use Rattle.std.specs.List.{flat_map, range_with_len}
use Rattle.image_layout.specs.Pointer.{pointer_word}
use Rattle.image_layout.specs.Places.{below}
use Rattle.image_layout.specs.Records.{codes_header, created_header, dictionary_header, ended_header, first_extension_at, high_at}
use Rattle.image_layout.specs.Blocks.{live_blocks}
use Rattle.image_layout.specs.Arrays.{capacity, place_of, array_word}
use Rattle.image_layout.specs.Tables.{table_count, table_block, columns_of, columns_with, is_first_version, since_of}
use Rattle.image_layout.specs.Objects.{is_open, commit_word, entries, entry_word, last_commit}
use Rattle.image_layout.specs.Trees.{dictionary_length}
use Rattle.image_layout.specs.Owners.{owner_places, busy_lanes, lane_block, OwnersAreApart}
use Rattle.image_layout.specs.Checks.{Rule, Keeps}
use Rattle.image_layout.specs.EntryRules.{text_columns, KeepsEntryRules}
use Rattle.image_layout.specs.SoundRules.{zero_check, no_commit, owner_rule, order_rule, fingerprint_rule, code_rule, text_rule, given_back_rule, distinct_name_rule}
use Rattle.shown_state.specs.LogicalState.{created_rows, row_bound, next_row_of}
use Rattle.shown_state.specs.Logs.{LogsFit}

-- ── blocks ──

-- what owner words name, also those of work that is half done, and the blocks of the lanes at work
abbrev pub spoken_for : List ℕ → List ℕ
spoken_for words = map (slice_index words) (owner_places words) ++ map (lane_block words) (busy_lanes words)

-- the published slots of a dictionary of texts behind that at its length
abbrev pub later_slots : List ℕ → ℕ → List ℕ
later_slots words column =
    let next = dictionary_length words column + 1 in
    map (place_of words (dictionary_header column))
    (range_with_len next (capacity words (dictionary_header column) - next))

-- they are 0
unfoldable pub later_slot_rule : Rule
later_slot_rule words = map (zero_check words) (flat_map (later_slots words) (text_columns words))

-- ── transactions ──

-- a transaction is open and has no commit word
abbrev pub is_undecided : List ℕ → ℕ → Bool
is_undecided words object = is_open words object && (commit_word words object == 0)

-- such a transaction says so of a row
pub record IsUndecided (words : List ℕ) (kind table row : ℕ) : Type 0 where
  pub object : ℕ
  pub object_is : object < 16
  pub undecided : IsTrue (is_undecided words object)
  pub entry : Contains (entries words object) (entry_word kind table row)

-- the least number above the rows of a table that such transactions created
abbrev pub undecided_bound : List ℕ → ℕ → ℕ
undecided_bound words table =
    fold max 0 (map (λ object. row_bound (created_rows words object table)) (filter (is_undecided words) (below 16)))

-- so many rows of a table are used up once such transactions are taken back
abbrev pub used_up : List ℕ → ℕ → ℕ
used_up words table = max (slice_index words (high_at (table_block words table))) (undecided_bound words table)

-- the arrays of a table with a word for the commit that created each row, and for the one that ended it
abbrev pub creators_of : List ℕ → ℕ → ℕ
creators_of words table = created_header (table_block words table)

abbrev pub enders_of : List ℕ → ℕ → ℕ
enders_of words table = ended_header (table_block words table)

-- these words of a row
abbrev pub creator : List ℕ → ℕ → ℕ → ℕ
creator words table row = array_word words (creators_of words table) row

abbrev pub ender : List ℕ → ℕ → ℕ → ℕ
ender words table row = array_word words (enders_of words table) row

-- a row was created by no commit, or it is dead, or it was by one; or opening takes that back
abbrev pub CreatorFits : List ℕ → ℕ → ℕ → Type 0
CreatorFits words table row =
    (creator words table row ≡ 0)
    ⊎ ((row < used_up words table)
    × ((creator words table row ≡ no_commit) ⊎ (creator words table row ≤ last_commit words)))
    ⊎ ((last_commit words < creator words table row) × IsUndecided words 1 table row)

-- a commit ended the row, and it isn't before the one that created it
pub record IsEnded (words : List ℕ) (table row : ℕ) : Type 0 where
  pub given : row < used_up words table
  pub first : 1 ≤ creator words table row
  pub later : creator words table row ≤ ender words table row
  pub last : ender words table row ≤ last_commit words

-- no commit ended the row, or one did; or opening takes that back
abbrev pub EnderFits : List ℕ → ℕ → ℕ → Type 0
EnderFits words table row =
    (ender words table row ≡ 0) ⊎ IsEnded words table row
    ⊎ ((last_commit words < ender words table row) × IsUndecided words 2 table row)

-- a row that a commit created has a value in the column
pub record HasValue (words : List ℕ) (row column : ℕ) : Type 0 where
  pub published : row < capacity words (codes_header column)
  pub known : array_word words (codes_header column) row < dictionary_length words column

-- each row that a commit created has its values, in the columns that have words for it
abbrev pub HasValues : List ℕ → ℕ → Type 0
HasValues words table =
    (row : ℕ) → row < capacity words (creators_of words table)
    → 1 ≤ creator words table row → creator words table row ≤ last_commit words
    → All (HasValue words row) (columns_with words (table_block words table) row)

-- The rows of a table: each row that was given out is used up, or will be; there are words for the stamps of those; no
-- column begins above the bound; and each stamp is that of a commit, or opening takes it back.
pub record RowsFit (words : List ℕ) (table : ℕ) : Type 0 where
  pub rows : next_row_of words table ≤ used_up words table
  pub created_room : used_up words table ≤ capacity words (creators_of words table)
  pub ended_room : used_up words table ≤ capacity words (enders_of words table)
  pub begun : All (λ column. since_of words column ≤ slice_index words (high_at (table_block words table)))
      (columns_of words (table_block words table))
  pub created : (row : ℕ) → row < capacity words (creators_of words table) → CreatorFits words table row
  pub ended : (row : ℕ) → row < capacity words (enders_of words table) → EnderFits words table row
  pub values : HasValues words table

-- ── all of it ──

-- What version 2 reads and version 1 doesn't is 0 there: the pointer to a table's first extension, and the row at
-- which a column begins.
pub record BeginsFirst (words : List ℕ) (table : ℕ) : Type 0 where
  pub no_extension : slice_index words (first_extension_at (table_block words table)) ≡ 0
  pub all_rows : All (λ column. since_of words column ≡ 0) (columns_of words (table_block words table))

-- in an image of version 1 this holds of each table
abbrev pub BeginFirst : List ℕ → Type 0
BeginFirst words =
    is_first_version words ≡ true → (table : ℕ) → table < table_count words → BeginsFirst words table

-- An image fits together: the rules that every image keeps, owner words apart, and the logs; each live block is spoken
-- for; the rules of an image at rest that no power cut breaks; the rows of each table; and in version 1 what version 2
-- reads beside it.
pub record Fits (words : List ℕ) : Type 0 where
  pub entry : KeepsEntryRules words
  pub apart : OwnersAreApart words
  pub logs : LogsFit words
  pub held : All (λ block. Contains (spoken_for words) (pointer_word block.first)) (live_blocks words)
  pub owners : Keeps words owner_rule
  pub order : Keeps words order_rule
  pub fingerprints : Keeps words fingerprint_rule
  pub codes : Keeps words code_rule
  pub texts : Keeps words text_rule
  pub later_slots : Keeps words later_slot_rule
  pub given_back : Keeps words given_back_rule
  pub names : Keeps words distinct_name_rule
  pub rows : (table : ℕ) → table < table_count words → RowsFit words table
  pub first : BeginFirst words
