-- The text of rows, row by row.
use Rattle.std.proofs.Common.{Bor, ◌≡◌, ℕ, ◌+◌, ◌<◌, List, [], ◌∷◌, ◌++◌, length, take, map, get_or, true, refl, inl, inr, add-one}
use Rattle.std.specs.Prelude.{◌==◌}
use Rattle.std.proofs.Math.Seq.{take-suc}
use Rattle.std.proofs.lemmas.Bool.{cases_Bool}
use Rattle.std.proofs.lemmas.Grind.{flat_map-append}
use Rattle.std.proofs.lemmas.List.{append-nil, map-append}
use Rattle.csv.specs.Writing.{default_writer, escaped, fields_text, is_blank, quote_mark, row_text, with_flexible}
use Rattle.csv.specs.declared.writer.WriterBuilder.{WriterBuilder}
use Rattle.mv_model.specs.declared.value.Value.{Value}
use Rattle.csv_load.specs.Written.{record_text, text_of_rows, value_field}

-- a writer that takes records of any length
abbrev flexible : WriterBuilder
flexible = with_flexible default_writer true

escaped-same : (field : List ℕ) → escaped flexible field ≡ escaped default_writer field
unfolding escaped
escaped-same [] = refl
escaped-same (byte ∷ bytes) = elim (cases_Bool (byte == quote_mark)) [
  | inl quote ↦ rw (quote, escaped-same bytes) refl
  | inr other ↦ rw (other, escaped-same bytes) refl
]

fields-same : (fields : List (List ℕ)) → fields_text flexible fields ≡ fields_text default_writer fields
unfolding fields_text
fields-same [] = refl
fields-same (field ∷ fields) = rw (escaped-same field, fields-same fields) refl

blank-same : (fields : List (List ℕ)) → is_blank flexible fields ≡ is_blank default_writer fields
unfolding is_blank
blank-same [] = refl
blank-same (field ∷ []) = rw (escaped-same field) refl
blank-same (field ∷ next ∷ fields) = refl

-- it writes each record as the default one does
row-same : (fields : List (List ℕ)) → row_text flexible fields ≡ row_text default_writer fields
row-same [] = rw (blank-same []) refl
row-same (field ∷ fields) = rw (blank-same (field ∷ fields), escaped-same field, fields-same fields) refl

-- the text of one row more
pub text-more : (rows : List (Bor (List Value))) (i : ℕ) (row : Bor (List Value)) (setup : WriterBuilder) (fields : List (List ℕ)) (front now : List ℕ)
    → i < length rows → row ≡ get_or rows i row → front ≡ text_of_rows (map (λ r. r.now) (take i rows))
    → setup ≡ with_flexible default_writer true → fields ≡ map value_field row.now → now ≡ front ++ row_text setup fields
    → now ≡ text_of_rows (map (λ r. r.now) (take (i + 1) rows))
text-more rows i row setup fields front now within is_row is_front is_setup is_fields is_now =
    let t = take-suc rows i row within in
    rw (
      is_now,
      is_setup,
      is_fields,
      is_front,
      row-same (map value_field row.now),
      add-one,
      t,
      ← is_row,
      map-append (λ (r : Bor (List Value)). r.now) (take i rows) (row ∷ []),
      flat_map-append record_text (map (λ (r : Bor (List Value)). r.now) (take i rows)) (row.now ∷ []),
      append-nil (record_text row.now),
    ) refl
