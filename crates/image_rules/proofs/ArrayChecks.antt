-- The checks of arrays.
use Rattle.std.proofs.Common.{◌≡◌, ℕ, ◌<◌, ◌≤◌, true, false, leb, List, [], ◌++◌, map, get_or, sym, ◌∙◌, ap}
use Rattle.std.specs.Prelude.{Option, None, Some}
use Rattle.std.specs.Option.{is_some}
use Rattle.std.specs.List.{flat_map}
use Rattle.std.proofs.lemmas.Bool.{le-leb, lt-leb, leb-true}
use Rattle.std.proofs.lemmas.List.Folds.{flat_map-map}
use Rattle.image_layout.specs.Places.{below}
use Rattle.image_layout.specs.Records.{created_header, ended_header, codes_header, dictionary_header}
use Rattle.image_layout.specs.Arrays.{array_rule, chunk_count, chunk_pointer_at, is_chunk_pointer}
use Rattle.image_layout.specs.Tables.{table_count, table_block, array_headers, column_headers, columns_of, column_count, column_record}
use Rattle.image_layout.specs.Checks.{Check, check, Keeps, first_failing}
use Rattle.image_layout.specs.EntryRules.{arrays_rule}
use Rattle.image_layout.proofs.Faults.{first_failing-none, passes, fails}
use Rattle.image_rules.proofs.Firsts.{flat_part, none-head, none-append, map_none, map_some, flat_none, flat_found, found_none, first_of, then_rest, then_last, flat_map-flat_map}

module _ (words : List ℕ) where
  -- ── one array ──

  module _ (header : ℕ) where
    abbrev pub ChunksBelow : ℕ → Type 0
    ChunksBelow k = (x : ℕ) → x < k → is_chunk_pointer words (chunk_count words header) x (get_or words (chunk_pointer_at header x) 0) ≡ true

    abbrev count_check : Check
    count_check = check header (leb (chunk_count words header) 12)

    abbrev chunk_check : ℕ → Check
    chunk_check x = check (chunk_pointer_at header x) (is_chunk_pointer words (chunk_count words header) x (get_or words (chunk_pointer_at header x) 0))

    pub count_fails : 12 < get_or words header 0 → Some header ≡ first_failing (array_rule header words)
    unfolding array_rule
    count_fails above = sym (fails count_check (map chunk_check (below 12)) (lt-leb (get_or words header 0) 12 above))

    count_passes : get_or words header 0 ≤ 12 → first_failing (array_rule header words) ≡ first_failing (map chunk_check (below 12))
    unfolding array_rule
    count_passes few = passes count_check (map chunk_check (below 12)) (le-leb (get_or words header 0) 12 few)

    pub chunk_fails : (k pointer : ℕ) → k < 12 → get_or words header 0 ≤ 12 → ChunksBelow k → pointer ≡ chunk_pointer_at header k
        → is_chunk_pointer words (get_or words header 0) k (get_or words pointer 0) ≡ false → Some pointer ≡ first_failing (array_rule header words)
    chunk_fails k pointer lt few each at miss =
        ap (λ (p : ℕ). Some p) at
        ∙ sym (count_passes few ∙ map_some chunk_check 12 k lt each (ap (λ (p : ℕ). is_chunk_pointer words (get_or words header 0) k (get_or words p 0)) (sym at) ∙ miss))

    pub chunk_holds : (k pointer : ℕ) → pointer ≡ chunk_pointer_at header k → is_chunk_pointer words (get_or words header 0) k (get_or words pointer 0) ≡ true
        → is_chunk_pointer words (chunk_count words header) k (get_or words (chunk_pointer_at header k) 0) ≡ true
    chunk_holds k pointer at holds = ap (λ (p : ℕ). is_chunk_pointer words (get_or words header 0) k (get_or words p 0)) (sym at) ∙ holds

    pub chunks_none : get_or words header 0 ≤ 12 → ChunksBelow 12 → None ≡ first_failing (array_rule header words)
    chunks_none few each = sym (count_passes few ∙ map_none chunk_check 12 each)

  pub array_at : (found : Option ℕ) (header at : ℕ) → header ≡ at → found ≡ first_failing (array_rule header words) → found ≡ first_failing (array_rule at words)
  array_at found header at is here = here ∙ ap (λ (h : ℕ). first_failing (array_rule h words)) is

  -- ── the arrays of a table ──

  abbrev pub array_checks : ℕ → List Check
  array_checks header = array_rule header words

  abbrev pub column_checks : ℕ → List Check
  column_checks column = flat_map array_checks (column_headers column)

  pub codes_found : (column : ℕ) (codes : Option ℕ) → codes ≡ first_failing (array_rule (codes_header column) words) → is_some codes ≡ true → codes ≡ first_failing (column_checks column)
  codes_found column codes here some = first_of (array_checks (codes_header column)) (array_checks (dictionary_header column) ++ []) codes here some

  pub dictionary_found : (column : ℕ) (codes dictionary : Option ℕ) → codes ≡ first_failing (array_rule (codes_header column) words) → is_some codes ≡ false
      → dictionary ≡ first_failing (array_rule (dictionary_header column) words) → dictionary ≡ first_failing (column_checks column)
  dictionary_found column codes dictionary here none last =
      then_rest (array_checks (codes_header column)) (array_checks (dictionary_header column) ++ []) codes dictionary here none (then_last (array_checks (dictionary_header column)) dictionary last)

  module _ (block : ℕ) where
    abbrev columns : ℕ
    columns = column_count words block

    abbrev numbered_column : ℕ → List Check
    numbered_column number = column_checks (column_record words block number)

    abbrev of_columns : List Check
    of_columns = flat_map array_checks (flat_map column_headers (columns_of words block))

    of_columns-is : of_columns ≡ flat_map numbered_column (below columns)
    of_columns-is = flat_map-flat_map array_checks column_headers (columns_of words block) ∙ flat_map-map column_checks (column_record words block) (below columns)

    pub created_found : (created : Option ℕ) → created ≡ first_failing (array_rule (created_header block) words) → is_some created ≡ true
        → created ≡ first_failing (flat_map array_checks (array_headers words block))
    created_found created here some = first_of (array_checks (created_header block)) (array_checks (ended_header block) ++ of_columns) created here some

    pub ended_found : (created ended : Option ℕ) → created ≡ first_failing (array_rule (created_header block) words) → is_some created ≡ false
        → ended ≡ first_failing (array_rule (ended_header block) words) → is_some ended ≡ true → ended ≡ first_failing (flat_map array_checks (array_headers words block))
    ended_found created ended first none here some =
        then_rest (array_checks (created_header block)) (array_checks (ended_header block) ++ of_columns) created ended first none (first_of (array_checks (ended_header block)) of_columns ended here some)

    behind : (created ended found : Option ℕ) → created ≡ first_failing (array_rule (created_header block) words) → is_some created ≡ false
        → ended ≡ first_failing (array_rule (ended_header block) words) → is_some ended ≡ false
        → found ≡ first_failing (flat_map numbered_column (below columns)) → found ≡ first_failing (flat_map array_checks (array_headers words block))
    behind created ended found first none second none_either here =
        then_rest (array_checks (created_header block)) (array_checks (ended_header block) ++ of_columns) created found first none
        (then_rest (array_checks (ended_header block)) of_columns ended found second none_either (here ∙ ap first_failing (sym of_columns-is)))

    abbrev pub ColumnsBelow : ℕ → Type 0
    ColumnsBelow k = (x : ℕ) → x < k → first_failing (column_checks (column_record words block x)) ≡ None

    pub column_found : (created ended found : Option ℕ) (k : ℕ) → created ≡ first_failing (array_rule (created_header block) words) → is_some created ≡ false
        → ended ≡ first_failing (array_rule (ended_header block) words) → is_some ended ≡ false → k < get_or words block 0 → ColumnsBelow k
        → found ≡ first_failing (column_checks (column_record words block k)) → is_some found ≡ true → found ≡ first_failing (flat_map array_checks (array_headers words block))
    column_found created ended found k first none second none_either lt each here some =
        behind created ended found first none second none_either (flat_found numbered_column columns k found lt each here some)

    pub column_none : (k column : ℕ) (found : Option ℕ) → column ≡ column_record words block k → found ≡ first_failing (column_checks column) → is_some found ≡ false → first_failing (column_checks (column_record words block k)) ≡ None
    column_none k column found at here none = ap (λ (c : ℕ). first_failing (column_checks c)) (sym at) ∙ found_none found (first_failing (column_checks column)) here none

    pub column_here : (k column : ℕ) (found : Option ℕ) → column ≡ column_record words block k → found ≡ first_failing (column_checks column) → found ≡ first_failing (column_checks (column_record words block k))
    column_here k column found at here = here ∙ ap (λ (c : ℕ). first_failing (column_checks c)) at

    pub columns_none : (created ended : Option ℕ) → created ≡ first_failing (array_rule (created_header block) words) → is_some created ≡ false
        → ended ≡ first_failing (array_rule (ended_header block) words) → is_some ended ≡ false → ColumnsBelow (get_or words block 0) → None ≡ first_failing (flat_map array_checks (array_headers words block))
    columns_none created ended first none second none_either each =
        behind created ended None first none second none_either (sym (flat_none numbered_column columns each))

  -- ── all tables ──

  abbrev pub block_checks : ℕ → List Check
  block_checks block = flat_map array_checks (array_headers words block)

  abbrev table_checks : ℕ → List Check
  table_checks table = block_checks (table_block words table)

  abbrev pub TablesBelow : ℕ → Type 0
  TablesBelow k = (x : ℕ) → x < k → first_failing (block_checks (table_block words x)) ≡ None

  pub by_table : first_failing (arrays_rule words) ≡ first_failing (flat_map table_checks (below (table_count words)))
  unfolding arrays_rule
  by_table = ap first_failing (flat_map-map block_checks (table_block words) (below (table_count words)))

  pub table_found : (k block : ℕ) (found : Option ℕ) → k < table_count words → TablesBelow k → block ≡ table_block words k → found ≡ first_failing (block_checks block) → is_some found ≡ true
      → found ≡ first_failing (arrays_rule words)
  table_found k block found lt each at here some =
      flat_found table_checks (table_count words) k found lt each (here ∙ ap (λ (b : ℕ). first_failing (block_checks b)) at) some ∙ sym by_table

  pub table_none : (block : ℕ) (found : Option ℕ) (k : ℕ) → block ≡ table_block words k → found ≡ first_failing (block_checks block) → is_some found ≡ false → first_failing (block_checks (table_block words k)) ≡ None
  table_none block found k at here none = ap (λ (b : ℕ). first_failing (block_checks b)) (sym at) ∙ found_none found (first_failing (block_checks block)) here none

  pub tables_none : TablesBelow (table_count words) → None ≡ first_failing (arrays_rule words)
  tables_none each = sym (by_table ∙ flat_none table_checks (table_count words) each)

  -- ── what kept rules say ──

  pub count_kept : (header : ℕ) → first_failing (array_rule header words) ≡ None → get_or words header 0 ≤ 12
  unfolding array_rule
  count_kept header none = leb-true (get_or words header 0) 12 (none-head (count_check header) (map (chunk_check header) (below 12)) none).0

  pub table_kept : Keeps words arrays_rule → (k : ℕ) → k < table_count words → first_failing (block_checks (table_block words k)) ≡ None
  table_kept keeps k lt = flat_part table_checks (table_count words) k lt (sym by_table ∙ first_failing-none (arrays_rule words) keeps.checks)

  pub created_kept : (block : ℕ) → first_failing (block_checks block) ≡ None → get_or words (created_header block) 0 ≤ 12
  created_kept block none = count_kept (created_header block) (none-append (array_checks (created_header block)) (array_checks (ended_header block) ++ of_columns block) none).0

  pub ended_kept : (block : ℕ) → first_failing (block_checks block) ≡ None → get_or words (ended_header block) 0 ≤ 12
  ended_kept block none =
      count_kept (ended_header block)
      (none-append (array_checks (ended_header block)) (of_columns block) (none-append (array_checks (created_header block)) (array_checks (ended_header block) ++ of_columns block) none).1).0
