-- Rows and refusals by the places of records and fields.
use Rattle.std.proofs.Common.{◌≡◌, ℕ, zero, suc, ◌+◌, ◌<◌, List, [], ◌∷◌, length, refl, ap, inl, inr, arith}
use Rattle.std.specs.Prelude.{◌==◌, ◌≢◌, IsSome, Option, None, Some, Result, Ok, Err, slice_get, slice_index_or}
use Rattle.std.proofs.lemmas.Bool.{cases_Bool}
use Rattle.std.proofs.lemmas.Bool.Decides.{nat_tests}
use Rattle.mv_model.specs.declared.shape.Column.{Column}
use Rattle.mv_model.specs.declared.value.Value.{Value}
use Rattle.csv_load.specs.declared.error.LoadError.{LoadError}
use Rattle.csv_load.specs.Laws.{AreTyped, IsRefused, IsRowAt, IsTyped, NamesFirstBad, TypesEach, record_at, value_at}
use Rattle.csv_load.specs.Rows.{before, field_value, of_record, row_before, row_of, rows_from, text_records, values_from}

-- the values of the fields from a place on
more-values : (column : Column) (columns : List Column) (field : List ℕ) (fields : List (List ℕ)) (value : Value) (values : List Value)
    → field_value column.kind field ≡ Some value → IsTyped columns fields values
    → IsTyped (column ∷ columns) (field ∷ fields) (value ∷ values)
more-values column columns field fields value values is others = record {
  count = ap suc others.count;
  whole = ap suc others.whole;
  each = λ place below. at place below;
}
  where
    at : (place : ℕ) → place < length (column ∷ columns)
        → value_at (column ∷ columns) (field ∷ fields) place ≡ slice_get (value ∷ values) place
    at zero below = is
    at (suc place) below = others.each place (omega arith)

-- what the reading of a record's fields says
abbrev Says : ℕ → List Column → List (List ℕ) → Result (List Value) ℕ → Type 0
Says number columns fields (Ok values) = IsTyped columns fields values
Says number columns fields (Err bad) =
    (place : ℕ) × (bad ≡ place + number) × (place < length columns) × (value_at columns fields place ≡ None)
    × ((earlier : ℕ) → earlier < place → IsSome (value_at columns fields earlier))

by-field : (number : ℕ) (column : Column) (columns : List Column) (field : List ℕ) (fields : List (List ℕ))
    (held : Option Value) (rest : Result (List Value) ℕ) → field_value column.kind field ≡ held → Says (number + 1) columns fields rest
    → Says number (column ∷ columns) (field ∷ fields) (before held number rest)
by-field number column columns field fields None rest is others =
    (zero, omega arith, omega arith, is, λ earlier below. absurd (omega arith))
by-field number column columns field fields (Some value) (Ok values) is others =
    more-values column columns field fields value values is others
by-field number column columns field fields (Some value) (Err bad) is others =
    (suc others.0, omega arith, omega arith, others.3, λ earlier below. at earlier below)
  where
    at : (earlier : ℕ) → earlier < suc others.0 → IsSome (value_at (column ∷ columns) (field ∷ fields) earlier)
    at zero below = rw is refl
    at (suc earlier) below = others.4 earlier (omega arith)

fields-say : (number : ℕ) (columns : List Column) (fields : List (List ℕ)) → length fields ≡ length columns
    → Says number columns fields (values_from number columns fields)
fields-say number [] [] same = record { count = refl; whole = refl; each = λ place below. absurd (omega arith) }
fields-say number [] (field ∷ fields) same = absurd (omega arith)
fields-say number (column ∷ columns) [] same = absurd (omega arith)
fields-say number (column ∷ columns) (field ∷ fields) same =
    by-field number column columns field fields (field_value column.kind field) (values_from (number + 1) columns fields) refl
    (fields-say (number + 1) columns fields (omega arith))

-- what the reading of a record says
abbrev RowSays : ℕ → List Column → List (List ℕ) → Result (List Value) LoadError → Type 0
RowSays number columns fields (Ok values) = IsTyped columns fields values
RowSays number columns fields (Err refusal) = IsRefused columns number fields refusal

record-says : (number : ℕ) (columns : List Column) (fields : List (List ℕ)) (read : Result (List Value) ℕ) → length fields ≡ length columns
    → Says 1 columns fields read → RowSays number columns fields (of_record number read)
record-says number columns fields (Ok values) same says = says
record-says number columns fields (Err column) same says = (refl, same, says)

row-says : (number : ℕ) (columns : List Column) (fields : List (List ℕ)) → RowSays number columns fields (row_of number columns fields)
row-says number columns fields =
    elim (cases_Bool (length fields == length columns)) [
      | inl same ↦
          let is : length fields ≡ length columns = grind (arith, nat_tests, same) in
          rw same (record-says number columns fields (values_from 1 columns fields) is (fields-say 1 columns fields is))
      | inr other ↦
          let differs : length fields ≢ length columns = λ is. absurd (grind (arith, nat_tests, other, is)) in
          rw other (refl, differs)
    ]

-- what the reading of records says, of which the first has this number
abbrev AllSay : ℕ → List Column → List (List (List ℕ)) → Result (List (List Value)) LoadError → Type 0
AllSay number columns records (Ok table) = AreTyped columns records table
AllSay number columns records (Err refusal) =
    (place : ℕ) × (place < length records) × IsRefused columns (place + number) (record_at records place) refusal
    × ((earlier : ℕ) → earlier < place → IsRowAt columns records earlier)

at-number : (columns : List Column) (fields : List (List ℕ)) (refusal : LoadError) (number other : ℕ) → number ≡ other
    → IsRefused columns number fields refusal → IsRefused columns other fields refusal
at-number columns fields refusal number other same is = rw same at is

by-record : (number : ℕ) (columns : List Column) (fields : List (List ℕ)) (records : List (List (List ℕ)))
    (row : Result (List Value) LoadError) (rest : Result (List (List Value)) LoadError)
    → RowSays number columns fields row → AllSay (number + 1) columns records rest
    → AllSay number columns (fields ∷ records) (row_before row rest)
by-record number columns fields records (Err refusal) rest first others =
    (zero, omega arith, at-number columns fields refusal number (zero + number) (omega arith) first, λ earlier below. absurd (omega arith))
by-record number columns fields records (Ok values) (Ok table) first others = record {
  whole = ap suc others.whole;
  each = λ place below. at place below;
}
  where
    at : (place : ℕ) → place < length (fields ∷ records)
        → IsTyped columns (record_at (fields ∷ records) place) (slice_index_or (values ∷ table) place [])
    at zero below = first
    at (suc place) below = others.each place (omega arith)
by-record number columns fields records (Ok values) (Err refusal) first others = (
  suc others.0,
  omega arith,
  at-number columns (record_at records others.0) refusal (others.0 + (number + 1)) (suc others.0 + number) (omega arith) others.2,
  λ earlier below. at earlier below,
)
  where
    at : (earlier : ℕ) → earlier < suc others.0 → IsRowAt columns (fields ∷ records) earlier
    at zero below = (values, first)
    at (suc earlier) below = others.3 earlier (omega arith)

records-say : (number : ℕ) (columns : List Column) (records : List (List (List ℕ))) → AllSay number columns records (rows_from number columns records)
records-say number columns [] = record { whole = refl; each = λ place below. absurd (omega arith) }
records-say number columns (fields ∷ records) =
    by-record number columns fields records (row_of number columns fields) (rows_from (number + 1) columns records)
    (row-says number columns fields) (records-say (number + 1) columns records)

pub first-bad : NamesFirstBad
first-bad bytes columns refusal is = rw is at (records-say 1 columns (text_records bytes))

pub types-each : TypesEach
types-each bytes columns table is = rw is at (records-say 1 columns (text_records bytes))
