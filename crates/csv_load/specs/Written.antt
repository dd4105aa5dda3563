-- Rows as a text of CSV.
use Rattle.std.specs.Prelude.{ℕ, ◌≡◌, All, FitsSigned, IsTrue, IsUtf8, List, [], ◌∷◌, map, Ok}
use Rattle.std.specs.Fmt.{signed_decimal}
use Rattle.std.specs.Int.{w64}
use Rattle.std.specs.List.{flat_map}
use Rattle.csv.specs.Reading.{strip_bom}
use Rattle.csv.specs.Writing.{default_writer, row_text}
use Rattle.mv_model.specs.declared.shape.Column.{Column}
use Rattle.mv_model.specs.declared.value.Value.{Value}
use Rattle.mv_model.specs.declared.value.Value.TheVariants.{Int, Text}
use Rattle.mv_model.specs.Shape.{is_shape}
use Rattle.mv_model.specs.Value.{has_kind, is_short}
use Rattle.csv_load.specs.Rows.{rows}

-- the field that a value is written as: an integer in decimal, a text as it stands
abbrev pub value_field : Value → List ℕ
value_field (Int number) = signed_decimal number
value_field (Text bytes) = bytes

-- the record of a row, as the csv crate writes it with its defaults
abbrev pub record_text : List Value → List ℕ
record_text row = row_text default_writer (map value_field row)

-- the records of the rows, one after the other
abbrev pub text_of_rows : List (List Value) → List ℕ
text_of_rows = flat_map record_text

-- the value is one of the program's: its integer has 64 bits, its text is UTF-8
abbrev pub IsKept : Value → Type 0
IsKept (Int number) = FitsSigned w64 number
IsKept (Text bytes) = IsUtf8 bytes

-- a value that a column of this kind can hold
abbrev pub Suits : Column → Value → Type 0
Suits column value = IsTrue (has_kind column.kind value) × IsTrue (is_short value) × IsKept value

-- the values are a row of a table with these columns
abbrev pub IsRow : List Column → List Value → Type 0
IsRow [] [] = Unit {0}
IsRow [] (value ∷ values) = ⊥
IsRow (column ∷ columns) [] = ⊥
IsRow (column ∷ columns) (value ∷ values) = Suits column value × IsRow columns values

-- the text of rows of a table is read as these rows, if it does not begin with a byte order mark
abbrev pub ReadsBack : Type 0
ReadsBack = (columns : List Column) (table : List (List Value)) → IsTrue (is_shape columns) → All (IsRow columns) table
    → strip_bom (text_of_rows table) ≡ text_of_rows table
    → rows (text_of_rows table) columns ≡ Ok table
