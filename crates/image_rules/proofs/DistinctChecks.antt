-- The checks that names differ.
use Rattle.std.proofs.Common.{◌≡◌, ⊎_elim, ℕ, zero, suc, ◌+◌, ◌-◌, ◌<◌, Bool, true, false, not, List, [], ◌∷◌, ◌++◌, map, refl, sym, ◌∙◌, ap, add-one, arith}
use Rattle.std.specs.Prelude.{Option, Some}
use Rattle.std.specs.Option.{is_some}
use Rattle.std.specs.List.{range_with_len, list_any}
use Rattle.std.proofs.lemmas.Bool.{cases_eq, or_left, or_right, or_from, not_from_true, not_from_false}
use Rattle.image_layout.specs.Records.{column_name_at, table_name_at}
use Rattle.image_layout.specs.Tables.{table_count, table_block, columns_of, column_record}
use Rattle.image_layout.specs.Checks.{Check, check, first_failing}
use Rattle.image_layout.specs.SoundRules.{same_name, name_place_checks, table_name_checks, distinct_name_rule}
use Rattle.image_layout.proofs.Faults.{passes, fails}
use Rattle.image_rules.specs.Parts.{before_of}
use Rattle.image_rules.proofs.Firsts.{first_of, then_rest}

-- ── among the first ones ──

pub any_later : (test : ℕ → Bool) (f : ℕ → ℕ) (k n : ℕ) → k < n → test (f k) ≡ true → list_any test (before_of f n) ≡ true
any_later test f k zero lt hit = absurd (omega arith)
any_later test f k (suc n) lt hit = ⊎_elim
    (λ (e : k ≡ n). or_left (test (f n)) (list_any test (before_of f n)) (ap (λ (x : ℕ). test (f x)) (sym e) ∙ hit))
    (λ apart. or_right (test (f n)) (list_any test (before_of f n)) (any_later test f k n (omega (arith, apart)) hit))
    (cases_eq k n)

pub none_more : (test : ℕ → Bool) (f : ℕ → ℕ) (k : ℕ) → list_any test (before_of f k) ≡ false → test (f k) ≡ false → list_any test (before_of f (k + 1)) ≡ false
none_more test f k none miss = ap (λ (n : ℕ). list_any test (before_of f n)) (add-one k) ∙ or_from (test (f k)) (list_any test (before_of f k)) miss none

module _ (words : List ℕ) where
  abbrev is_new : ℕ → List ℕ → Bool
  is_new name before = not (list_any (same_name words name) before)

  -- ── the columns of a table ──

  module _ (block : ℕ) where
    abbrev pub column_name_of : ℕ → ℕ
    column_name_of number = column_name_at (column_record words block number)

    -- the checks from a column on
    abbrev pub columns_from : ℕ → ℕ → List Check
    columns_from number left = name_place_checks words (before_of (λ k. column_name_at (column_record words block k)) number) (map column_name_at (map (column_record words block) (range_with_len number left)))

    columns_step : (number left rest : ℕ) → left ≡ rest + 1
        → columns_from number left ≡ check (column_name_of number) (is_new (column_name_of number) (before_of column_name_of number)) ∷ columns_from (number + 1) rest
    columns_step number left rest size =
        ap (λ (n : ℕ). columns_from number n) (size ∙ add-one rest)
        ∙ ap (λ (before : List ℕ). check (column_name_of number) (is_new (column_name_of number) (before_of column_name_of number)) ∷ name_place_checks words before (map column_name_at (map (column_record words block) (range_with_len (number + 1) rest))))
        (ap (before_of column_name_of) (sym (add-one number)))

    pub column_repeats : (number left name : ℕ) (hit : Bool) → 0 < left → name ≡ column_name_at (column_record words block number)
        → hit ≡ list_any (same_name words name) (before_of (λ k. column_name_at (column_record words block k)) number) → hit ≡ true → Some name ≡ first_failing (columns_from number left)
    column_repeats number left name hit some at is found =
        ap (λ (p : ℕ). Some p) at
        ∙ sym (ap first_failing (columns_step number left (left - 1) (omega (arith, some)))
        ∙ fails (check (column_name_of number) (is_new (column_name_of number) (before_of column_name_of number))) (columns_from (number + 1) (left - 1))
        (not_from_true _ (ap (λ (n : ℕ). list_any (same_name words n) (before_of column_name_of number)) (sym at) ∙ sym is ∙ found)))

    pub column_differs : (number next left rest name : ℕ) (hit : Bool) → next ≡ number + 1 → left ≡ rest + 1 → name ≡ column_name_at (column_record words block number)
        → hit ≡ list_any (same_name words name) (before_of (λ k. column_name_at (column_record words block k)) number) → hit ≡ false → first_failing (columns_from number left) ≡ first_failing (columns_from next rest)
    column_differs number next left rest name hit step size at is none =
        ap first_failing (columns_step number left rest size)
        ∙ passes (check (column_name_of number) (is_new (column_name_of number) (before_of column_name_of number))) (columns_from (number + 1) rest)
        (not_from_false _ (ap (λ (n : ℕ). list_any (same_name words n) (before_of column_name_of number)) (sym at) ∙ sym is ∙ none))
        ∙ ap (λ (n : ℕ). first_failing (columns_from n rest)) (sym step)

  -- ── the tables ──

  abbrev table_name_of : ℕ → ℕ
  table_name_of table = table_name_at (table_block words table)

  abbrev of_columns : ℕ → List Check
  of_columns block = name_place_checks words [] (map column_name_at (columns_of words block))

  -- the checks from a table on
  abbrev pub tables_from : ℕ → ℕ → List Check
  tables_from table left = table_name_checks words (before_of (λ k. table_name_at (table_block words k)) table) (map (table_block words) (range_with_len table left))

  abbrev name_check : ℕ → Check
  name_check table = check (table_name_of table) (is_new (table_name_of table) (before_of table_name_of table))

  tables_step : (table left rest : ℕ) → left ≡ rest + 1 → tables_from table left ≡ name_check table ∷ (of_columns (table_block words table) ++ tables_from (table + 1) rest)
  tables_step table left rest size =
      ap (λ (n : ℕ). tables_from table n) (size ∙ add-one rest)
      ∙ ap (λ (before : List ℕ). name_check table ∷ (of_columns (table_block words table) ++ table_name_checks words before (map (table_block words) (range_with_len (table + 1) rest))))
      (ap (before_of table_name_of) (sym (add-one table)))

  pub table_repeats : (table left block name : ℕ) (hit : Bool) → 0 < left → block ≡ table_block words table → name ≡ table_name_at block
      → hit ≡ list_any (same_name words name) (before_of (λ k. table_name_at (table_block words k)) table) → hit ≡ true → Some name ≡ first_failing (tables_from table left)
  table_repeats table left block name hit some place at is found =
      let named : name ≡ table_name_at (table_block words table) = at ∙ ap table_name_at place in
      ap (λ (p : ℕ). Some p) named
      ∙ sym (ap first_failing (tables_step table left (left - 1) (omega (arith, some)))
      ∙ fails (name_check table) (of_columns (table_block words table) ++ tables_from (table + 1) (left - 1))
      (not_from_true _ (ap (λ (n : ℕ). list_any (same_name words n) (before_of table_name_of table)) (sym named) ∙ sym is ∙ found)))

  table_new : (table left rest block name : ℕ) (hit : Bool) → left ≡ rest + 1 → block ≡ table_block words table → name ≡ table_name_at block
      → hit ≡ list_any (same_name words name) (before_of (λ k. table_name_at (table_block words k)) table) → hit ≡ false
      → first_failing (tables_from table left) ≡ first_failing (of_columns block ++ tables_from (table + 1) rest)
  table_new table left rest block name hit size place at is none =
      let named : name ≡ table_name_at (table_block words table) = at ∙ ap table_name_at place in
      ap first_failing (tables_step table left rest size)
      ∙ passes (name_check table) (of_columns (table_block words table) ++ tables_from (table + 1) rest)
      (not_from_false _ (ap (λ (n : ℕ). list_any (same_name words n) (before_of table_name_of table)) (sym named) ∙ sym is ∙ none))
      ∙ ap (λ (b : ℕ). first_failing (of_columns b ++ tables_from (table + 1) rest)) (sym place)

  pub columns_repeat : (table left block name : ℕ) (hit : Bool) (found : Option ℕ) → 0 < left → block ≡ table_block words table → name ≡ table_name_at block
      → hit ≡ list_any (same_name words name) (before_of (λ k. table_name_at (table_block words k)) table) → hit ≡ false
      → found ≡ first_failing (name_place_checks words [] (map column_name_at (columns_of words block))) → is_some found ≡ true → found ≡ first_failing (tables_from table left)
  columns_repeat table left block name hit found some place at is none here there =
      first_of (of_columns block) (tables_from (table + 1) (left - 1)) found here there ∙ sym (table_new table left (left - 1) block name hit (omega (arith, some)) place at is none)

  pub table_differs : (table next left rest block name : ℕ) (hit : Bool) (found : Option ℕ) → next ≡ table + 1 → left ≡ rest + 1 → block ≡ table_block words table → name ≡ table_name_at block
      → hit ≡ list_any (same_name words name) (before_of (λ k. table_name_at (table_block words k)) table) → hit ≡ false
      → found ≡ first_failing (name_place_checks words [] (map column_name_at (columns_of words block))) → is_some found ≡ false → first_failing (tables_from table left) ≡ first_failing (tables_from next rest)
  table_differs table next left rest block name hit found step size place at is none here nowhere =
      table_new table left rest block name hit size place at is none
      ∙ sym (then_rest (of_columns block) (tables_from (table + 1) rest) found (first_failing (tables_from (table + 1) rest)) here nowhere refl)
      ∙ ap (λ (n : ℕ). first_failing (tables_from n rest)) (sym step)

  pub all_tables : first_failing (distinct_name_rule words) ≡ first_failing (tables_from 0 (table_count words))
  unfolding distinct_name_rule
  all_tables = refl
