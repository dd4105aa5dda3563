-- The checks of each column of each table, table by table.
use Rattle.std.proofs.Common.{◌≡◌, ℕ, ◌<◌, true, false, List, sym, ◌∙◌, ap}
use Rattle.std.specs.Prelude.{Option, None}
use Rattle.std.specs.Option.{is_some}
use Rattle.std.specs.List.{flat_map}
use Rattle.std.proofs.lemmas.List.Folds.{flat_map-map}
use Rattle.image_layout.specs.Places.{below}
use Rattle.image_layout.specs.Tables.{all_columns, column_count, column_record, columns_of, table_block, table_blocks, table_count}
use Rattle.image_layout.specs.Checks.{Check, first_failing}
use Rattle.image_rules.proofs.Firsts.{flat_none, flat_found, found_none, flat_map-flat_map}

module _ (words : List ℕ) (checks : ℕ → List Check) where
  -- ── the columns of a table ──

  module _ (block : ℕ) where
    abbrev numbered_column : ℕ → List Check
    numbered_column number = checks (column_record words block number)

    abbrev pub ColumnsBelow : ℕ → Type 0
    ColumnsBelow k = (x : ℕ) → x < k → first_failing (checks (column_record words block x)) ≡ None

    columns-is : flat_map checks (columns_of words block) ≡ flat_map numbered_column (below (column_count words block))
    columns-is = flat_map-map checks (column_record words block) (below (column_count words block))

    pub column_none : (k column : ℕ) (found : Option ℕ) → column ≡ column_record words block k → found ≡ first_failing (checks column) → is_some found ≡ false → first_failing (checks (column_record words block k)) ≡ None
    column_none k column found at here none = ap (λ (c : ℕ). first_failing (checks c)) (sym at) ∙ found_none found (first_failing (checks column)) here none

    pub column_found : (k column : ℕ) (found : Option ℕ) → k < column_count words block → ColumnsBelow k → column ≡ column_record words block k → found ≡ first_failing (checks column) → is_some found ≡ true
        → found ≡ first_failing (flat_map checks (columns_of words block))
    column_found k column found lt each at here some =
        flat_found numbered_column (column_count words block) k found lt each (here ∙ ap (λ (c : ℕ). first_failing (checks c)) at) some ∙ sym (ap first_failing columns-is)

    pub columns_none : ColumnsBelow (column_count words block) → None ≡ first_failing (flat_map checks (columns_of words block))
    columns_none each = sym (ap first_failing columns-is ∙ flat_none numbered_column (column_count words block) each)

  -- ── all tables ──

  abbrev pub block_checks : ℕ → List Check
  block_checks block = flat_map checks (columns_of words block)

  abbrev table_checks : ℕ → List Check
  table_checks table = block_checks (table_block words table)

  abbrev pub of_tables : List Check
  of_tables = flat_map table_checks (below (table_count words))

  pub all-is : flat_map checks (all_columns words) ≡ of_tables
  all-is = flat_map-flat_map checks (columns_of words) (table_blocks words) ∙ flat_map-map block_checks (table_block words) (below (table_count words))

  abbrev pub TablesBelow : ℕ → Type 0
  TablesBelow k = (x : ℕ) → x < k → first_failing (flat_map checks (columns_of words (table_block words x))) ≡ None

  pub table_none : (k block : ℕ) (found : Option ℕ) → block ≡ table_block words k → found ≡ first_failing (block_checks block) → is_some found ≡ false → first_failing (block_checks (table_block words k)) ≡ None
  table_none k block found at here none = ap (λ (b : ℕ). first_failing (block_checks b)) (sym at) ∙ found_none found (first_failing (block_checks block)) here none

  pub table_found : (k block : ℕ) (found : Option ℕ) → k < table_count words → TablesBelow k → block ≡ table_block words k → found ≡ first_failing (block_checks block) → is_some found ≡ true → found ≡ first_failing of_tables
  table_found k block found lt each at here some =
      flat_found table_checks (table_count words) k found lt each (here ∙ ap (λ (b : ℕ). first_failing (block_checks b)) at) some

  pub tables_none : TablesBelow (table_count words) → first_failing of_tables ≡ None
  tables_none each = flat_none table_checks (table_count words) each

  pub rule_found : (k block : ℕ) (found : Option ℕ) → k < table_count words → TablesBelow k → block ≡ table_block words k → found ≡ first_failing (block_checks block) → is_some found ≡ true
      → found ≡ first_failing (flat_map checks (all_columns words))
  rule_found k block found lt each at here some = table_found k block found lt each at here some ∙ sym (ap first_failing all-is)

  pub rule_none : TablesBelow (table_count words) → None ≡ first_failing (flat_map checks (all_columns words))
  rule_none each = sym (ap first_failing all-is ∙ tables_none each)
