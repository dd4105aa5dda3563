-- Where the words of a record stand. A record is named by the place where it begins, and a field by the place of its
-- word.
use Rattle.std.specs.Prelude.{ℕ, ◌+◌, ◌*◌, ◌/◌}

-- Words of a table block: the number of all columns, a bound on its stamped rows, its name of three words, the pointer
-- of the first extension, the number of the columns that stand in the block, the headers of the arrays of the commits
-- that created each row and that ended it, and the records of those columns. The pointer and the second number are of
-- version 2.
abbrev pub columns_at : ℕ → ℕ
columns_at block = block

abbrev pub high_at : ℕ → ℕ
high_at block = block + 1

abbrev pub table_name_at : ℕ → ℕ
table_name_at block = block + 2

abbrev pub first_extension_at : ℕ → ℕ
first_extension_at block = block + 5

abbrev pub inner_columns_at : ℕ → ℕ
inner_columns_at block = block + 6

abbrev pub created_header : ℕ → ℕ
created_header block = block + 8

abbrev pub ended_header : ℕ → ℕ
ended_header block = block + 24

abbrev pub column_at : ℕ → ℕ → ℕ
column_at block column = block + 40 + 40 * column

-- the words of a table block with so many columns in it
abbrev pub table_words : ℕ → ℕ
table_words columns = 40 + 40 * columns

-- An extension is a block with one more column of a table: the pointer of the next extension, and behind its first
-- line the column's record.
abbrev pub extension_words : ℕ
extension_words = 48

abbrev pub extension_column_at : ℕ → ℕ
extension_column_at extension = extension + 8

-- Words of a column record: its kind, its name of three words, the pointer to its first leaf, the leaf that is being
-- split, the leaf that is being added, the first row that the column has a word for, and the headers of the arrays of
-- the rows' codes and of the dictionary.
abbrev pub kind_at : ℕ → ℕ
kind_at column = column

abbrev pub column_name_at : ℕ → ℕ
column_name_at column = column + 1

abbrev pub first_leaf_at : ℕ → ℕ
first_leaf_at column = column + 4

abbrev pub split_leaf_at : ℕ → ℕ
split_leaf_at column = column + 5

abbrev pub new_leaf_at : ℕ → ℕ
new_leaf_at column = column + 6

abbrev pub since_at : ℕ → ℕ
since_at column = column + 7

abbrev pub codes_header : ℕ → ℕ
codes_header column = column + 8

abbrev pub dictionary_header : ℕ → ℕ
dictionary_header column = column + 24

-- words of a leaf: its bitmap, which is its first word, the pointer of the next leaf, the word with the fingerprint of
-- a slot, and the slot's key word and code
abbrev pub next_leaf_at : ℕ → ℕ
next_leaf_at leaf = leaf + 1

abbrev pub fingerprint_at : ℕ → ℕ → ℕ
fingerprint_at leaf slot = leaf + 2 + slot / 8

abbrev pub key_at : ℕ → ℕ → ℕ
key_at leaf slot = leaf + 8 + 2 * slot

abbrev pub code_at : ℕ → ℕ → ℕ
code_at leaf slot = leaf + 9 + 2 * slot

-- an entry of a segment, whose first word is the pointer of the next segment
abbrev pub segment_entry_at : ℕ → ℕ → ℕ
segment_entry_at segment entry = segment + 1 + entry
