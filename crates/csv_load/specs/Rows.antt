-- The rows that a text of CSV is for a table.
use Rattle.std.specs.Prelude.{ℕ, ◌==◌, ◌&&◌, ◌+◌, nat_le, List, [], ◌∷◌, length, Option, None, Some, option_map, Result, Ok, Err, if◌then◌else◌}
use Rattle.std.specs.Str.{is_utf8}
use Rattle.csv.specs.Reading.{default_config, records, strip_bom}
use Rattle.mv_model.specs.declared.limits.TheConstants.{MAX_TEXT_BYTES}
use Rattle.mv_model.specs.declared.shape.Column.{Column}
use Rattle.mv_model.specs.declared.shape.Kind.{Kind}
use Rattle.mv_model.specs.declared.shape.Kind.TheVariants as kind
use Rattle.mv_model.specs.declared.value.Value.{Value}
use Rattle.mv_model.specs.declared.value.Value.TheVariants.{Int, Text}
use Rattle.sf_value.specs.Number.{integer_of}
use Rattle.csv_load.specs.declared.error.LoadError.{LoadError}
use Rattle.csv_load.specs.declared.error.LoadError.TheVariants.{BadField, WrongCount}

-- the records of a text, as the csv crate has them with its defaults; a byte order mark at the start is no part of them
abbrev pub text_records : List ℕ → List (List (List ℕ))
text_records bytes = records default_config (strip_bom bytes)

-- The value that a field is in a column of this kind: the integer that it spells, or the text that it is, which is
-- UTF-8 within the limit.
abbrev pub field_value : Kind → List ℕ → Option Value
field_value kind.Int field = option_map Int (integer_of field)
field_value kind.Text field = if is_utf8 field && nat_le (length field) MAX_TEXT_BYTES then Some (Text field) else None

-- a value before those of the other fields, or the column of the first field that is no value
abbrev pub before : Option Value → ℕ → Result (List Value) ℕ → Result (List Value) ℕ
before None column others = Err column
before (Some value) column (Ok values) = Ok (value ∷ values)
before (Some value) column (Err later) = Err later

-- the values of the fields in the columns, the first of which has this number
abbrev pub values_from : ℕ → List Column → List (List ℕ) → Result (List Value) ℕ
values_from number (column ∷ columns) (field ∷ fields) =
    before (field_value column.kind field) number (values_from (number + 1) columns fields)
values_from number columns fields = Ok []

-- the record of this number is refused for its first bad field, if there is one
abbrev pub of_record : ℕ → Result (List Value) ℕ → Result (List Value) LoadError
of_record nth (Ok values) = Ok values
of_record nth (Err column) = Err (BadField nth column)

-- the row that the record of this number is in the columns: the count of its fields is looked at first
abbrev pub row_of : ℕ → List Column → List (List ℕ) → Result (List Value) LoadError
row_of nth columns fields =
    if length fields == length columns then of_record nth (values_from 1 columns fields) else Err (WrongCount nth)

-- a row before those of the other records, or the first refusal
abbrev pub row_before : Result (List Value) LoadError → Result (List (List Value)) LoadError
    → Result (List (List Value)) LoadError
row_before (Err refusal) others = Err refusal
row_before (Ok row) (Ok rows) = Ok (row ∷ rows)
row_before (Ok row) (Err refusal) = Err refusal

-- the rows that the records are, the first of which has this number
abbrev pub rows_from : ℕ → List Column → List (List (List ℕ)) → Result (List (List Value)) LoadError
rows_from nth columns [] = Ok []
rows_from nth columns (fields ∷ rest) = row_before (row_of nth columns fields) (rows_from (nth + 1) columns rest)

-- the rows that a text is in these columns, or the first refusal
abbrev pub rows : List ℕ → List Column → Result (List (List Value)) LoadError
rows bytes columns = rows_from 1 columns (text_records bytes)
