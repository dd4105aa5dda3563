-- The values of a record, field by field.
use Rattle.std.proofs.Common.{◌≡◌, ℕ, ◌+◌, ◌<◌, ◌≤◌, List, [], ◌∷◌, ◌++◌, length, drop, get_or, true, false, refl, sym, ap, ◌∙◌, inl, inr, arith, append_assoc, add-one}
use Rattle.std.specs.Prelude.{◌==◌, nat_le, Option, None, Some, option_map, Result, Ok, Err, IsSome, IsUtf8}
use Rattle.std.proofs.Math.Seq.{drop-cons}
use Rattle.std.proofs.lemmas.Bool.{cases_Bool}
use Rattle.std.proofs.lemmas.Bool.Decides.{nat_tests}
use Rattle.csv.specs.Records.{field_at}
use Rattle.csv.proofs.RecordFacts.{field-get, field-there}
use Rattle.std.proofs.lemmas.List.{append-nil}
use Rattle.std.proofs.lemmas.Str.{IsUtf8-from_is_utf8, is_utf8-from_IsUtf8}
use Rattle.std.specs.Str.{is_utf8}
use Rattle.mv_model.specs.declared.shape.Column.{Column}
use Rattle.mv_model.specs.declared.shape.Kind.TheVariants as kind
use Rattle.mv_model.specs.declared.value.Value.{Value}
use Rattle.mv_model.specs.declared.value.Value.TheVariants.{Text}
use Rattle.csv_load.specs.Rows.{before, field_value, of_record, row_of, values_from}
use Rattle.csv_load.specs.declared.error.LoadError.TheVariants.{BadField}

pub text-short : (field : List ℕ) → length field ≤ 2000 → IsUtf8 field → field_value kind.Text field ≡ Some (Text field)
text-short field within text =
    let short : nat_le (length field) 2000 ≡ true = grind (arith, nat_tests) in
    rw (is_utf8-from_IsUtf8 field text, short) refl

pub text-long : (field : List ℕ) → 2000 < length field → field_value kind.Text field ≡ None
text-long field above =
    let long : nat_le (length field) 2000 ≡ false = grind (arith, nat_tests) in
    elim (cases_Bool (is_utf8 field)) [
      | inl is_text ↦ rw (is_text, long) refl
      | inr is_none ↦ rw is_none refl
    ]

pub text-bytes : (field : List ℕ) → (IsUtf8 field → ⊥) → field_value kind.Text field ≡ None
text-bytes field never =
    elim (cases_Bool (is_utf8 field)) [
      | inl is_text ↦ absurd (never (IsUtf8-from_is_utf8 field is_text))
      | inr is_none ↦ rw is_none refl
    ]

-- values before those of the fields that are left
abbrev pub values_before : List Value → Result (List Value) ℕ → Result (List Value) ℕ
values_before front (Ok others) = Ok (front ++ others)
values_before front (Err column) = Err column

pub values-start : (read : Result (List Value) ℕ) → read ≡ values_before [] read
values-start (Ok others) = refl
values-start (Err column) = refl

-- the first field that is left
pub values-next : (i : ℕ) (columns : List Column) (fields : List (List ℕ)) (column : Column) (field : List ℕ)
    → i < length columns → length fields ≡ length columns → column ≡ get_or columns i column → get_or fields i [] ≡ field
    → values_from (i + 1) (drop i columns) (drop i fields)
    ≡ before (field_value column.kind field) (i + 1) (values_from (i + 1 + 1) (drop (i + 1) columns) (drop (i + 1) fields))
values-next i columns fields column field within same is_column is_field =
    let there : i < length fields = omega arith in
    let c = drop-cons columns i column within in
    let f = drop-cons fields i [] there in
    rw (c, f, ← is_column, is_field, add-one) refl

one-more : (front : List Value) (value : Value) (rest : Result (List Value) ℕ) (column : ℕ)
    → values_before front (before (Some value) column rest) ≡ values_before (front ++ value ∷ []) rest
one-more front value (Ok others) column = ap Ok (sym (append_assoc front (value ∷ []) others))
one-more front value (Err later) column = refl

-- it has a value
pub values-more : (i : ℕ) (columns : List Column) (fields : List (List ℕ)) (column : Column) (field : List ℕ) (value : Value)
    (front now : List Value) (read : Result (List Value) ℕ)
    → i < length columns → length fields ≡ length columns → column ≡ get_or columns i column → get_or fields i [] ≡ field
    → read ≡ values_before front (values_from (i + 1) (drop i columns) (drop i fields))
    → Some value ≡ field_value column.kind field → now ≡ front ++ value ∷ []
    → read ≡ values_before now (values_from (i + 1 + 1) (drop (i + 1) columns) (drop (i + 1) fields))
values-more i columns fields column field value front now read within same is_column is_field so_far is_value is_now =
    let next = values-next i columns fields column field within same is_column is_field in
    rw (is_now, so_far, next, ← is_value) (one-more front value _ (i + 1))

-- it has none
pub values-refused : (i : ℕ) (columns : List Column) (fields : List (List ℕ)) (column : Column) (field : List ℕ)
    (front : List Value) (read : Result (List Value) ℕ)
    → i < length columns → length fields ≡ length columns → column ≡ get_or columns i column → get_or fields i [] ≡ field
    → read ≡ values_before front (values_from (i + 1) (drop i columns) (drop i fields))
    → None ≡ field_value column.kind field → read ≡ Err (i + 1)
values-refused i columns fields column field front read within same is_column is_field so_far is_none =
    let next = values-next i columns fields column field within same is_column is_field in
    rw (so_far, next, ← is_none) refl

-- no field is left
pub values-end : (i : ℕ) (columns : List Column) (fields : List (List ℕ)) (front : List Value) (read : Result (List Value) ℕ)
    → drop i columns ≡ [] → read ≡ values_before front (values_from (i + 1) (drop i columns) (drop i fields)) → read ≡ Ok front
values-end i columns fields front read none so_far = rw none at so_far ∙ ap Ok (append-nil front)

-- a record with as many fields as there are columns
row-read : (nth : ℕ) (columns : List Column) (fields : List (List ℕ)) → length fields ≡ length columns
    → row_of nth columns fields ≡ of_record nth (values_from 1 columns fields)
row-read nth columns fields same =
    let test : (length fields == length columns) ≡ true = grind (arith, nat_tests) in
    rw test refl

pub row-given : (nth : ℕ) (columns : List Column) (fields : List (List ℕ)) (values : List Value) → length fields ≡ length columns
    → values_from 1 columns fields ≡ Ok values → row_of nth columns fields ≡ Ok values
row-given nth columns fields values same read = row-read nth columns fields same ∙ ap (of_record nth) read

pub row-refused : (nth column : ℕ) (columns : List Column) (fields : List (List ℕ)) → length fields ≡ length columns
    → values_from 1 columns fields ≡ Err column → row_of nth columns fields ≡ Err (BadField nth column)
row-refused nth column columns fields same read = row-read nth columns fields same ∙ ap (of_record nth) read

-- each place below the count has a field
pub field-found : {A : Type 0} (view : A → List ℕ) (found : Option A) (fields : List (List ℕ)) (i : ℕ) → i < length fields
    → option_map view found ≡ field_at fields i → IsSome found
field-found view None fields i within is = absurd (field-there fields i within (sym is))
field-found view (Some field) fields i within is = refl

pub field-is : {A : Type 0} (view : A → List ℕ) (found : Option A) (field : A) (fields : List (List ℕ)) (i : ℕ)
    → option_map view found ≡ field_at fields i → found ≡ Some field → get_or fields i [] ≡ view field
field-is view found field fields i is some = field-get fields i (view field) (sym (rw some at is))
