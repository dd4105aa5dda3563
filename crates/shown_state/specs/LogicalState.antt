-- The state of the sequential table that the words of an image stand for.
use Rattle.std.specs.Prelude.{ℕ, ℤ, pos, negsuc, ◌+◌, ◌-◌, ◌^◌, max, Bool, true, false, not, ◌&&◌, ◌==◌, nat_lt, if◌then◌else◌, List, [], map, filter, fold, slice_index, take_while}
use Rattle.std.specs.List.{flat_map}
use Rattle.mv_model.specs.declared.shape.Kind.{Kind}
use Rattle.mv_model.specs.declared.shape.Kind.TheVariants as kind
use Rattle.mv_model.specs.declared.shape.Column.{Column}
use Rattle.mv_model.specs.declared.value.Value.{Value}
use Rattle.mv_model.specs.declared.value.Value.TheVariants as value
use Rattle.mv_model.specs.State.{Table, CreatedRow, WriteSet, State, all_idle}
use Rattle.image_layout.specs.Places.{below, place_in, packed_byte}
use Rattle.image_layout.specs.Records.{table_name_at, high_at, created_header, ended_header, column_name_at, codes_header}
use Rattle.image_layout.specs.Arrays.{capacity, array_word}
use Rattle.image_layout.specs.Tables.{table_count, table_block, columns_of, is_text, since_of}
use Rattle.image_layout.specs.Objects.{is_open, entries, entry_kind, entry_table, entry_row, last_commit}
use Rattle.image_layout.specs.Trees.{text_at, dictionary_word, dictionary_words}

-- the bytes of a name up to its padding
unfoldable pub name_at : List ℕ → ℕ → List ℕ
name_at words place = take_while (λ byte. not (byte == 0)) (map (packed_byte words place) (below 24))

abbrev pub kind_of : Bool → Kind
kind_of true = kind.Text
kind_of false = kind.Int

abbrev pub column_of : List ℕ → ℕ → Column
column_of words column = record { name = name_at words (column_name_at column); kind = kind_of (is_text words column) }

-- the integer of a key word: its 64 bits with the sign bit flipped
abbrev pub integer_of : ℕ → ℤ
integer_of key = (if nat_lt key (2 ^ 63) then negsuc (2 ^ 63 - 1 - key) else pos (key - 2 ^ 63))

-- the value of a key word, in a column of texts or of integers
abbrev pub key_value : List ℕ → Bool → ℕ → Value
key_value words true key = value.Text (text_at words (place_in key))
key_value words false key = value.Int (integer_of key)

-- the values of a column's dictionary, by their codes
abbrev pub dictionary : List ℕ → ℕ → List Value
dictionary words column = map (key_value words (is_text words column)) (dictionary_words words column)

-- the zero value of a kind: 0, or the empty text
abbrev pub zero_value : Bool → Value
zero_value true = value.Text []
zero_value false = value.Int (pos 0)

-- A row's value in a column: that whose key word stands in the dictionary at the row's code, and the zero value where
-- the column has words for later rows only.
abbrev pub row_value : List ℕ → ℕ → ℕ → Value
row_value words row column =
    (if nat_lt row (since_of words column) then zero_value (is_text words column)
    else key_value words (is_text words column)
    (dictionary_word words column (array_word words (codes_header column) row)))

abbrev pub row_values : List ℕ → ℕ → ℕ → List Value
row_values words block row = map (row_value words row) (columns_of words block)

-- the rows of a table that an object's transaction created
abbrev pub created_rows : List ℕ → ℕ → ℕ → List ℕ
created_rows words object table =
    map entry_row (filter (λ word. (entry_kind word == 1) && (entry_table word == table)) (entries words object))

-- the least number above these rows
abbrev pub row_bound : List ℕ → ℕ
row_bound rows = fold max 0 (map (λ row. row + 1) rows)

-- the least number above the rows of a table that open transactions created
abbrev pub open_bound : List ℕ → ℕ → ℕ
open_bound words table =
    fold max 0 (map (λ object. row_bound (created_rows words object table)) (filter (is_open words) (below 16)))

abbrev pub next_row_of : List ℕ → ℕ → ℕ
next_row_of words table = max (slice_index words (high_at (table_block words table))) (open_bound words table)

abbrev pub table_of : List ℕ → ℕ → Table
table_of words table =
    let block = table_block words table in
    record {
      name = name_at words (table_name_at block);
      columns = map (column_of words) (columns_of words block);
      next_row = next_row_of words table;
    }

-- the rows whose word in an array is this commit's number
abbrev pub rows_stamped : List ℕ → ℕ → ℕ → List ℕ
rows_stamped words header number = filter (λ row. array_word words header row == number) (below (capacity words header))

abbrev pub created_row : List ℕ → ℕ → ℕ → CreatedRow
created_row words table row =
    record { key = record { table = table; row = row }; values = row_values words (table_block words table) row }

-- what a commit created and ended, in ascending order of table and row
abbrev pub commit_of : List ℕ → ℕ → WriteSet
commit_of words number =
    record {
      created =
          flat_map (λ table. map (created_row words table)
          (rows_stamped words (created_header (table_block words table)) number)) (below (table_count words));
      ended =
          flat_map (λ table. map (λ row. record { table = table; row = row })
          (rows_stamped words (ended_header (table_block words table)) number)) (below (table_count words));
    }

-- the published tables and the commits, with no transaction open
unfoldable pub logical_state : List ℕ → State
logical_state words =
    record {
      tables = map (table_of words) (below (table_count words));
      commits = map (λ number. commit_of words (number + 1)) (below (last_commit words));
      begun = 0;
      running = all_idle;
    }
