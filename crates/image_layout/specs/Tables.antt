-- The published tables of an image, and their columns. A table is named by the place of its block, and a column by the
-- place of its record.
use Rattle.std.specs.Prelude.{ℕ, zero, suc, ◌+◌, ◌-◌, ◌<◌, ◌≤◌, Bool, ◌==◌, nat_lt, nat_le, if◌then◌else◌, IsTrue, List, [], ◌∷◌, map, filter, length, slice_index}
use Rattle.std.specs.List.{flat_map}
use Rattle.image_layout.specs.Fixed.{table_count_at, table_slot_at, version_at}
use Rattle.image_layout.specs.Places.{below, is_pointer, place_in}
use Rattle.image_layout.specs.Records.{codes_header, column_at, columns_at, created_header, dictionary_header, ended_header, extension_column_at, extension_words, first_extension_at, inner_columns_at, kind_at, since_at, table_words}

abbrev pub table_count : List ℕ → ℕ
table_count words = slice_index words table_count_at

-- the block of a table by its number
abbrev pub table_block : List ℕ → ℕ → ℕ
table_block words table = place_in (slice_index words (table_slot_at table))

-- the blocks of the published tables
abbrev pub table_blocks : List ℕ → List ℕ
table_blocks words = map (table_block words) (below (table_count words))

-- An image of version 1, which opening brings to version 2. All columns of a table stand in its block there.
abbrev pub is_first_version : List ℕ → Bool
is_first_version words = slice_index words version_at == 1

-- how many columns a table has, and how many of them stand in its block
abbrev pub column_count : List ℕ → ℕ → ℕ
column_count words block = slice_index words (columns_at block)

unfoldable pub inner_columns : List ℕ → ℕ → ℕ
inner_columns words block =
    (if is_first_version words then column_count words block else slice_index words (inner_columns_at block))

-- how many columns stand in extensions, one in each
abbrev pub extension_count : List ℕ → ℕ → ℕ
extension_count words block = column_count words block - inner_columns words block

-- the place of the pointer to an extension by its number: the block has the pointer to extension 0, and each
-- extension's first word is the pointer to the next one
abbrev pub extension_pointer_at : List ℕ → ℕ → ℕ → ℕ
extension_pointer_at words block zero = first_extension_at block
extension_pointer_at words block (suc extension) =
    place_in (slice_index words (extension_pointer_at words block extension))

-- the first word of an extension
abbrev pub extension_of : List ℕ → ℕ → ℕ → ℕ
extension_of words block extension = place_in (slice_index words (extension_pointer_at words block extension))

-- the pointer after the published columns
abbrev pub last_extension_pointer : List ℕ → ℕ → ℕ
last_extension_pointer words block = extension_pointer_at words block (extension_count words block)

-- the record of a column by its number: first stand those of the block, then those of the extensions
unfoldable pub column_record : List ℕ → ℕ → ℕ → ℕ
column_record words block column =
    (if nat_lt column (inner_columns words block) then column_at block column
    else extension_column_at (extension_of words block (column - inner_columns words block)))

abbrev pub columns_of : List ℕ → ℕ → List ℕ
columns_of words block = map (column_record words block) (below (column_count words block))

-- a pointer to an extension names words of the image
pub record NamesExtension (words : List ℕ) (block extension : ℕ) : Type 0 where
  pub pointer : IsTrue (is_pointer words (slice_index words (extension_pointer_at words block extension)))
  pub within : extension_of words block extension + extension_words ≤ length words

-- A table has at most 16 columns. The first of them stand in its block, and the others in extensions.
pub record HasRecords (words : List ℕ) (block : ℕ) : Type 0 where
  -- no table has more columns
  pub most : column_count words block ≤ 16
  -- those of the block are the first of them
  pub inner : inner_columns words block ≤ column_count words block
  -- the words of the block are words of the image
  pub within : block + table_words (inner_columns words block) ≤ length words
  -- and so are those of each extension
  pub extensions : (extension : ℕ) → extension < extension_count words block → NamesExtension words block extension

-- the columns of all published tables
abbrev pub all_columns : List ℕ → List ℕ
all_columns words = flat_map (columns_of words) (table_blocks words)

-- a column's kind is 1 for integers and 2 for texts
abbrev pub is_text : List ℕ → ℕ → Bool
is_text words column = slice_index words (kind_at column) == 2

-- a column has a word for each row from this one on, and the rows below have the zero value of its kind
abbrev pub since_of : List ℕ → ℕ → ℕ
since_of words column = slice_index words (since_at column)

-- the columns that have a word for a row
abbrev pub columns_with : List ℕ → ℕ → ℕ → List ℕ
columns_with words block row = filter (λ column. nat_le (since_of words column) row) (columns_of words block)

-- the arrays of a column, and those of a table
abbrev pub column_headers : ℕ → List ℕ
column_headers column = codes_header column ∷ dictionary_header column ∷ []

abbrev pub array_headers : List ℕ → ℕ → List ℕ
array_headers words block = created_header block ∷ ended_header block ∷ flat_map column_headers (columns_of words block)
