-- The text of rows of a table is read as these rows.
use Rattle.std.proofs.Common.{◌≡◌, ℕ, zero, suc, ◌+◌, ◌<◌, ◌≤◌, List, [], ◌∷◌, length, length-append, map, refl, ap, ◌∙◌, inl, inr, arith}
use Rattle.std.specs.Prelude.{ℤ, Option, None, Some, option_map, Ok, All, FitsSigned, IsTrue}
use Rattle.std.specs.Int.{w64}
use Rattle.std.specs.Fmt.{signed_decimal}
use Rattle.std.proofs.lemmas.Bool.{cases_Bool}
use Rattle.std.proofs.lemmas.Str.{is_utf8-from_IsUtf8}
use Rattle.csv.specs.Reading.{default_config, records, records_from}
use Rattle.csv.specs.Machine.{next_record}
use Rattle.csv.specs.Writing.{read_back}
use Rattle.csv.specs.declared.parser.State.TheVariants as st
use Rattle.csv.proofs.RoundTrip.{read-write}
use Rattle.mv_model.specs.Shape.{is_shape}
use Rattle.mv_model.specs.Value.{has_kind, is_short}
use Rattle.mv_model.specs.declared.shape.Column.{Column}
use Rattle.mv_model.specs.declared.shape.Kind.{Kind}
use Rattle.mv_model.specs.declared.shape.Kind.TheVariants as kind
use Rattle.mv_model.specs.declared.value.Value.{Value}
use Rattle.mv_model.specs.declared.value.Value.TheVariants.{Int, Text}
use Rattle.sf_value.proofs.ReadsBack.{reads_back}
use Rattle.sf_value.specs.Literal.{has_quote}
use Rattle.sf_value.specs.Number.{integer_of}
use Rattle.csv_load.specs.Rows.{field_value, row_of, rows_from, values_from}
use Rattle.csv_load.specs.Written.{IsKept, IsRow, ReadsBack, record_text, text_of_rows, value_field}
use Rattle.csv_load.proofs.Fields.{row-given}

no_text : (read : Option (List ℕ)) (number : ℤ) → option_map Text read ≡ Some (Int number) → ⊥
no_text None number e = cc e
no_text (Some text) number e = cc e

integer-reads : (number : ℤ) → FitsSigned w64 number → option_map Int (integer_of (signed_decimal number)) ≡ Some (Int number)
integer-reads number fits =
    let read = reads_back (Int number) fits in
    elim (cases_Bool (has_quote (signed_decimal number))) [
      | inl quote ↦ absurd (no_text _ number (rw quote at read))
      | inr none ↦ rw none at read
    ]

-- the field of a value has that value in a column of its kind
field-reads : (held : Kind) (value : Value) → IsTrue (has_kind held value) → IsTrue (is_short value) → IsKept value
    → field_value held (value_field value) ≡ Some value
field-reads kind.Int (Int number) suits short kept = integer-reads number kept
field-reads kind.Int (Text bytes) suits short kept = cc suits
field-reads kind.Text (Int number) suits short kept = cc suits
field-reads kind.Text (Text bytes) suits short kept = rw (is_utf8-from_IsUtf8 bytes kept, short) refl

values-read : (number : ℕ) (columns : List Column) (row : List Value) → IsRow columns row → values_from number columns (map value_field row) ≡ Ok row
values-read number [] [] is = refl
values-read number [] (value ∷ row) is = absurd is
values-read number (column ∷ columns) [] is = absurd is
values-read number (column ∷ columns) (value ∷ row) is =
    rw (field-reads column.kind value is.0.0 is.0.1 is.0.2, values-read (number + 1) columns row is.1) refl

count : (columns : List Column) (row : List Value) → IsRow columns row → length (map value_field row) ≡ length columns
count [] [] is = refl
count [] (value ∷ row) is = absurd is
count (column ∷ columns) [] is = absurd is
count (column ∷ columns) (value ∷ row) is = ap suc (count columns row is.1)

row-reads : (nth : ℕ) (columns : List Column) (row : List Value) → IsTrue (is_shape columns) → IsRow columns row
    → row_of nth columns (read_back (map value_field row)) ≡ Ok row
row-reads nth [] row shape is = cc shape
row-reads nth (column ∷ columns) [] shape is = absurd is
row-reads nth (column ∷ columns) (value ∷ row) shape is =
    row-given nth (column ∷ columns) (map value_field (value ∷ row)) (value ∷ row) (count (column ∷ columns) (value ∷ row) is)
    (values-read 1 (column ∷ columns) (value ∷ row) is)

nothing : (n : ℕ) → records_from default_config (suc n) st.StartRecord [] ≡ []
unfolding records_from next_record
nothing n = refl

-- the records of the text
table-reads : (n : ℕ) (table : List (List Value)) → length table ≤ n
    → records_from default_config n st.StartRecord (text_of_rows table) ≡ map (λ row. read_back (map value_field row)) table
unfolding records_from
table-reads zero [] within = refl
table-reads (suc n) [] within = nothing n
table-reads zero (row ∷ table) within = absurd (omega arith)
table-reads (suc n) (row ∷ table) within =
    rw (read-write (map value_field row) (text_of_rows table))
    (ap (λ (rest : List (List (List ℕ))). read_back (map value_field row) ∷ rest) (table-reads n table (omega arith)))

-- each row takes a byte
bytes : (table : List (List Value)) → length table ≤ length (text_of_rows table)
bytes [] = omega arith
bytes (row ∷ table) =
    let less = bytes table in
    let whole = length-append (record_text row) (text_of_rows table) in
    omega (arith, filled row)
  where
    filled : (r : List Value) → 1 ≤ length (record_text r)
    filled r = omega (arith, length-append {A = ℕ})

rows-read : (nth : ℕ) (columns : List Column) (table : List (List Value)) → IsTrue (is_shape columns) → All (IsRow columns) table
    → rows_from nth columns (map (λ row. read_back (map value_field row)) table) ≡ Ok table
rows-read nth columns [] shape all = refl
rows-read nth columns (row ∷ table) shape all =
    let first = all 0 row (omega arith) in
    let others = λ (k : ℕ) (d : List Value) (within : k < length table). all (suc k) d (omega arith) in
    rw (row-reads nth columns row shape first, rows-read (nth + 1) columns table shape others) refl

pub reads_back_rows : ReadsBack
reads_back_rows columns table shape all plain =
    let within : length table ≤ length (text_of_rows table) + 1 = omega (arith, bytes table) in
    ap (λ (text : List ℕ). rows_from 1 columns (records default_config text)) plain
    ∙ ap (rows_from 1 columns) (table-reads (length (text_of_rows table) + 1) table within)
    ∙ rows-read 1 columns table shape all
