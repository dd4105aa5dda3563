-- The rows of a text, record by record.
use Rattle.std.proofs.Common.{◌≡◌, ℕ, ◌+◌, ◌≤◌, List, [], ◌∷◌, ◌++◌, length, length-append, refl, sym, ap, ◌∙◌, inl, inr, arith, append_assoc}
use Rattle.std.specs.Prelude.{None, Result, Ok, Err}
use Rattle.std.proofs.lemmas.List.{append-nil}
use Rattle.csv.specs.Machine.{next_record}
use Rattle.std.proofs.lemmas.Bool.{cases_Bool}
use Rattle.csv.specs.Reading.{Reached, default_config, is_bom, records, strip_bom}
use Rattle.csv.specs.declared.parser.State.{State}
use Rattle.csv.specs.declared.parser.State.TheVariants as st
use Rattle.mv_model.specs.declared.shape.Column.{Column}
use Rattle.mv_model.specs.declared.value.Value.{Value}
use Rattle.csv_load.specs.Rows.{row_before, row_of, rows_from}
use Rattle.csv_load.specs.Outcome.{Refuses}
use Rattle.csv_load.specs.declared.error.LoadError.{LoadError}
use Rattle.csv_load.specs.declared.error.LoadError.TheVariants.{BadField, NoMemory, WrongCount}
use Rattle.csv_load.proofs.Records.{bounded, records-end, records-front}

-- rows before those of the records that are left
abbrev pub rows_before : List (List Value) → Result (List (List Value)) LoadError → Result (List (List Value)) LoadError
rows_before front (Ok others) = Ok (front ++ others)
rows_before front (Err refusal) = Err refusal

-- how far the reading of a text has come: the records behind it, and their rows
pub record SoFar (text : List ℕ) (columns : List Column) (state : State) (rest : List ℕ) (table : List (List Value)) : Type 0 where
  pub behind : List (List (List ℕ))
  pub reached : Reached default_config st.StartRecord text behind state rest
  pub count : length behind ≡ length table
  pub typed : (more : List (List (List ℕ))) → rows_from 1 columns (behind ++ more) ≡ rows_before table (rows_from (length table + 1) columns more)

none-yet : (read : Result (List (List Value)) LoadError) → read ≡ rows_before [] read
none-yet (Ok others) = refl
none-yet (Err refusal) = refl

pub start : (text : List ℕ) (columns : List Column) (state : State) → st.StartRecord ≡ state → SoFar text columns state text []
unfolding Reached
start text columns state is_start = record {
  behind = [];
  reached = (is_start, refl);
  count = refl;
  typed = λ more. none-yet (rows_from 1 columns more);
}

one-more : (front : List (List Value)) (row : List Value) (rest : Result (List (List Value)) LoadError)
    → rows_before front (row_before (Ok row) rest) ≡ rows_before (front ++ row ∷ []) rest
one-more front row (Ok others) = ap Ok (sym (append_assoc front (row ∷ []) others))
one-more front row (Err refusal) = refl

next-row : (columns : List Column) (behind more : List (List (List ℕ))) (fields : List (List ℕ)) (table : List (List Value)) (read : Result (List Value) LoadError)
    → ((others : List (List (List ℕ))) → rows_from 1 columns (behind ++ others) ≡ rows_before table (rows_from (length table + 1) columns others))
    → row_of (length table + 1) columns fields ≡ read
    → rows_from 1 columns ((behind ++ fields ∷ []) ++ more) ≡ rows_before table (row_before read (rows_from (length table + 1 + 1) columns more))
next-row columns behind more fields table read typed is =
    rw (append_assoc behind (fields ∷ []) more) (typed (fields ∷ more)
    ∙ ap (λ (r : Result (List Value) LoadError). rows_before table (row_before r (rows_from (length table + 1 + 1) columns more))) is)

pub length-more : {A : Type 0} (xs : List A) (x : A) → length (xs ++ x ∷ []) ≡ length xs + 1
length-more xs x = omega (arith, length-append xs (x ∷ []))

-- the next record is a row
pub step : (text : List ℕ) (columns : List Column) (state next : State) (rest left : List ℕ) (table now : List (List Value)) (fields : List (List ℕ)) (row : List Value) (nth : ℕ)
    → (so : SoFar text columns state rest table) → Reached default_config st.StartRecord text (so.behind ++ fields ∷ []) next left
    → nth ≡ length table + 1 → row_of nth columns fields ≡ Ok row → now ≡ table ++ row ∷ [] → SoFar text columns next left now
step text columns state next rest left table now fields row nth so reached is_nth given is_now =
    let is : row_of (length table + 1) columns fields ≡ Ok row = rw is_nth at given in
    rw is_now (record {
      behind = so.behind ++ fields ∷ [];
      reached = reached;
      count = length-more so.behind fields ∙ rw (so.count) (sym (length-more table row));
      typed = λ more.
          rw (length-more table row)
          (next-row columns so.behind more fields table (Ok row) so.typed is
          ∙ one-more table row (rows_from (length table + 1 + 1) columns more));
    })

-- the next record is none
pub refused : (text : List ℕ) (columns : List Column) (state next : State) (rest left : List ℕ) (table : List (List Value)) (fields : List (List ℕ)) (refusal : LoadError) (nth : ℕ)
    → (so : SoFar text columns state rest table) → Reached default_config st.StartRecord text (so.behind ++ fields ∷ []) next left
    → nth ≡ length table + 1 → row_of nth columns fields ≡ Err refusal → rows_from 1 columns (records default_config text) ≡ Err refusal
refused text columns state next rest left table fields refusal nth so reached is_nth given =
    let is : row_of (length table + 1) columns fields ≡ Err refusal = rw is_nth at given in
    let front = records-front text left (so.behind ++ fields ∷ []) next reached in
    ap (rows_from 1 columns) front.1 ∙ next-row columns so.behind front.0 fields table (Err refusal) so.typed is

-- there is no next record
pub finished : (text : List ℕ) (columns : List Column) (state : State) (rest : List ℕ) (table : List (List Value))
    → SoFar text columns state rest table → next_record default_config state [] [] rest ≡ None → rows_from 1 columns (records default_config text) ≡ Ok table
finished text columns state rest table so none =
    let all = records-end text rest so.behind state so.reached none in
    ap (rows_from 1 columns) (all ∙ sym (append-nil so.behind)) ∙ so.typed [] ∙ ap Ok (append-nil table)

-- a text has no more rows than bytes, but for one
pub fits : (text : List ℕ) (columns : List Column) (state : State) (rest : List ℕ) (table : List (List Value))
    → SoFar text columns state rest table → length table ≤ length text + 1
fits text columns state rest table so =
    let most = bounded default_config st.StartRecord state text rest so.behind so.reached in
    let same = so.count in
    omega arith

-- a text without its mark is no longer
pub strip-length : (text : List ℕ) → length (strip_bom text) ≤ length text
unfolding strip_bom
strip-length [] = omega arith
strip-length (a ∷ []) = omega arith
strip-length (a ∷ b ∷ []) = omega arith
strip-length (a ∷ b ∷ c ∷ rest) = elim (cases_Bool (is_bom a b c)) [
  | inl mark ↦ rw mark (omega arith)
  | inr other ↦ rw other (omega arith)
]

-- a refusal of a record is one of the text
pub refuses-all : (refusal : LoadError) (read : Result (List Value) LoadError) (all : Result (List (List Value)) LoadError)
    → ((said : LoadError) → read ≡ Err said → all ≡ Err said) → Refuses refusal read → Refuses refusal all
refuses-all (WrongCount nth) read all goes_on is = goes_on (WrongCount nth) is
refuses-all (BadField nth column) read all goes_on is = goes_on (BadField nth column) is
refuses-all NoMemory read all goes_on is = tt
