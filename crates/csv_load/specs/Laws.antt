-- What a reading of rows says, by the records and their places and not by the walk over them.
use Rattle.std.specs.Prelude.{ℕ, ◌≡◌, ◌≢◌, ◌+◌, ◌<◌, IsSome, List, [], length, slice_get, slice_index_or, Option, None, option_and_then, Ok, Err}
use Rattle.mv_model.specs.declared.shape.Column.{Column}
use Rattle.mv_model.specs.declared.value.Value.{Value}
use Rattle.csv_load.specs.declared.error.LoadError.{LoadError}
use Rattle.csv_load.specs.declared.error.LoadError.TheVariants.{BadField, NoMemory, WrongCount}
use Rattle.csv_load.specs.Rows.{field_value, rows, text_records}

-- the value of the field at a place, counted from 0, in the column at that place
abbrev pub value_at : List Column → List (List ℕ) → ℕ → Option Value
value_at columns fields place =
    option_and_then (λ column. option_and_then (λ field. field_value column.kind field) (slice_get fields place))
    (slice_get columns place)

-- the record is these values: it has a field for each column, and each field is the value at its place
pub record IsTyped (columns : List Column) (fields : List (List ℕ)) (values : List Value) : Type 0 where
  pub count : length fields ≡ length columns
  pub whole : length values ≡ length columns
  pub each : (place : ℕ) → place < length columns → value_at columns fields place ≡ slice_get values place

-- the field of this number, counted from 1, is no value of its column, and each one before it is one
abbrev pub IsFirstBadField : List Column → List (List ℕ) → ℕ → Type 0
IsFirstBadField columns fields number =
    (place : ℕ) × (number ≡ place + 1) × (place < length columns) × (value_at columns fields place ≡ None)
    × ((earlier : ℕ) → earlier < place → IsSome (value_at columns fields earlier))

-- the record of this number is refused so: for the count of its fields, or else for its first bad field
abbrev pub IsRefused : List Column → ℕ → List (List ℕ) → LoadError → Type 0
IsRefused columns number fields (WrongCount nth) = (nth ≡ number) × (length fields ≢ length columns)
IsRefused columns number fields (BadField nth column) =
    (nth ≡ number) × (length fields ≡ length columns) × IsFirstBadField columns fields column
IsRefused columns number fields NoMemory = ⊥

-- the fields of the record at a place, counted from 0
abbrev pub record_at : List (List (List ℕ)) → ℕ → List (List ℕ)
record_at records place = slice_index_or records place []

-- the record at this place is a row
abbrev pub IsRowAt : List Column → List (List (List ℕ)) → ℕ → Type 0
IsRowAt columns records place = (values : List Value) × IsTyped columns (record_at records place) values

-- the refusal is that of the first record that is no row; records are numbered from 1
abbrev pub IsFirstRefusal : List Column → List (List (List ℕ)) → LoadError → Type 0
IsFirstRefusal columns records refusal =
    (place : ℕ) × (place < length records) × IsRefused columns (place + 1) (record_at records place) refusal
    × ((earlier : ℕ) → earlier < place → IsRowAt columns records earlier)

-- the rows are the records, each at its place
pub record AreTyped (columns : List Column) (records : List (List (List ℕ))) (table : List (List Value)) : Type 0 where
  pub whole : length table ≡ length records
  pub each : (place : ℕ) → place < length records
      → IsTyped columns (record_at records place) (slice_index_or table place [])

-- a text that is refused is refused for its first record that is no row
abbrev pub NamesFirstBad : Type 0
NamesFirstBad = (bytes : List ℕ) (columns : List Column) (refusal : LoadError) → rows bytes columns ≡ Err refusal
    → IsFirstRefusal columns (text_records bytes) refusal

-- the rows of a text are its records
abbrev pub TypesEach : Type 0
TypesEach = (bytes : List ℕ) (columns : List Column) (table : List (List Value)) → rows bytes columns ≡ Ok table
    → AreTyped columns (text_records bytes) table
