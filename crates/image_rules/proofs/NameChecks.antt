-- The checks of names and kinds.
use Rattle.std.proofs.Common.{◌≡◌, ◌≢◌, ⊎_elim, ℕ, ◌+◌, ◌/◌, ◌<◌, ◌⊎◌, Bool, true, false, not, ◌&&◌, eqb, ltb, List, [], ◌∷◌, get_or, sym, ◌∙◌, ap}
use Rattle.std.specs.Prelude.{Option, None, Some}
use Rattle.std.specs.Option.{is_some}
use Rattle.std.specs.Bool.{then_some}
use Rattle.std.specs.List.{flat_map}
use Rattle.std.proofs.lemmas.Bool.{cond-false, cond-true, ne_eqb, eq-eqb, or_from, or_left, or_right}
use Rattle.std.proofs.lemmas.List.Folds.{flat_map-map}
use Rattle.image_layout.specs.Places.{below}
use Rattle.image_layout.specs.Records.{column_name_at, since_at, table_name_at}
use Rattle.image_layout.specs.Tables.{column_count, column_record, inner_columns, is_first_version, table_block, table_count}
use Rattle.image_layout.specs.Checks.{Check, check, first_failing}
use Rattle.image_layout.specs.EntryRules.{name_rule, name_checks, column_name_checks, kind_check, is_padded_name_byte, since_checks}
use Rattle.image_layout.proofs.Faults.{passes, fails}
use Rattle.image_rules.specs.Parts.{kind_name_checks, table_name_checks}
use Rattle.image_rules.proofs.Firsts.{lone, map_none, map_some, flat_none, flat_found, found_none, first_of, then_rest}

module _ (words : List ℕ) where
  -- ── a name ──

  module _ (name : ℕ) where
    abbrev pub BytesBelow : ℕ → Type 0
    BytesBelow k = (x : ℕ) → x < k → is_padded_name_byte words name x ≡ true

    abbrev byte_check : ℕ → Check
    byte_check x = check (name + x / 8) (is_padded_name_byte words name x)

    pub byte_fails : (k : ℕ) → k < 24 → BytesBelow k → is_padded_name_byte words name k ≡ false → Some (name + k / 8) ≡ first_failing (name_checks words name)
    unfolding name_checks
    byte_fails k lt each miss = sym (map_some byte_check 24 k lt each miss)

    pub bytes_none : BytesBelow 24 → None ≡ first_failing (name_checks words name)
    unfolding name_checks
    bytes_none each = sym (map_none byte_check 24 each)

  pub name_at : (found : Option ℕ) (name at : ℕ) → name ≡ at → found ≡ first_failing (name_checks words name) → found ≡ first_failing (name_checks words at)
  name_at found name at is here = here ∙ ap (λ (n : ℕ). first_failing (name_checks words n)) is

  -- ── a column ──

  module _ (column : ℕ) where
    pub kind_fails : get_or words column 0 ≢ 1 → get_or words column 0 ≢ 2 → Some column ≡ first_failing (kind_name_checks words column)
    kind_fails not_1 not_2 =
        sym (fails (kind_check words column) (name_checks words (column_name_at column)) (or_from _ _ (ne_eqb (get_or words column 0) 1 not_1) (ne_eqb (get_or words column 0) 2 not_2)))

    pub kind_holds : (found : Option ℕ) → (get_or words column 0 ≡ 1) ⊎ (get_or words column 0 ≡ 2) → found ≡ first_failing (name_checks words (column_name_at column))
        → found ≡ first_failing (kind_name_checks words column)
    kind_holds found kind here =
        here
        ∙ sym (passes (kind_check words column) (name_checks words (column_name_at column))
        (⊎_elim (λ one. or_left _ _ (eq-eqb (get_or words column 0) 1 one)) (λ two. or_right _ _ (eq-eqb (get_or words column 0) 2 two)) kind))

  -- ── a column of a table ──

  module _ (block number : ℕ) where
    abbrev here_since : ℕ
    here_since = since_at (column_record words block number)

    abbrev is_inner : Bool
    is_inner = not (is_first_version words) && ltb number (inner_columns words block)

    pub since_none : (inner : Bool) → inner ≡ (not (is_first_version words) && ltb number (inner_columns words block)) → inner ≡ false → None ≡ first_failing (since_checks words block number)
    unfolding since_checks
    since_none inner is out = sym (ap first_failing (cond-false is_inner (check here_since (eqb (get_or words here_since 0) 0) ∷ []) [] (sym is ∙ out)))

    pub since_tried : (inner : Bool) (column place : ℕ) → inner ≡ (not (is_first_version words) && ltb number (inner_columns words block)) → inner ≡ true → column ≡ column_record words block number → place ≡ since_at column
        → then_some (not (eqb (get_or words place 0) 0)) place ≡ first_failing (since_checks words block number)
    unfolding since_checks
    since_tried inner column place is inside which at =
        ap (λ (p : ℕ). then_some (not (eqb (get_or words p 0) 0)) p) (at ∙ ap since_at which)
        ∙ lone here_since (eqb (get_or words here_since 0) 0)
        ∙ sym (ap first_failing (cond-true is_inner (check here_since (eqb (get_or words here_since 0) 0) ∷ []) [] (sym is ∙ inside)))

    abbrev record_checks : List Check
    record_checks = kind_name_checks words (column_record words block number)

    pub kind_found : (column : ℕ) (named : Option ℕ) → column ≡ column_record words block number → named ≡ first_failing (kind_name_checks words column) → is_some named ≡ true → named ≡ first_failing (column_name_checks words block number)
    kind_found column named which here some = first_of record_checks (since_checks words block number) named (here ∙ ap (λ (c : ℕ). first_failing (kind_name_checks words c)) which) some

    pub since_found : (column : ℕ) (named found : Option ℕ) → column ≡ column_record words block number → named ≡ first_failing (kind_name_checks words column) → is_some named ≡ false → found ≡ first_failing (since_checks words block number)
        → found ≡ first_failing (column_name_checks words block number)
    since_found column named found which here none after =
        then_rest record_checks (since_checks words block number) named found (here ∙ ap (λ (c : ℕ). first_failing (kind_name_checks words c)) which) none after

  -- ── a table ──

  module _ (block : ℕ) where
    abbrev of_columns : List Check
    of_columns = flat_map (column_name_checks words block) (below (column_count words block))

    pub named_found : (named : Option ℕ) → named ≡ first_failing (name_checks words (table_name_at block)) → is_some named ≡ true → named ≡ first_failing (table_name_checks words block)
    named_found named here some = first_of (name_checks words (table_name_at block)) of_columns named here some

    behind : (named found : Option ℕ) → named ≡ first_failing (name_checks words (table_name_at block)) → is_some named ≡ false → found ≡ first_failing of_columns
        → found ≡ first_failing (table_name_checks words block)
    behind named found first none here = then_rest (name_checks words (table_name_at block)) of_columns named found first none here

    abbrev pub ColumnNamesBelow : ℕ → Type 0
    ColumnNamesBelow k = (x : ℕ) → x < k → first_failing (column_name_checks words block x) ≡ None

    pub column_found : (named found : Option ℕ) (k : ℕ) → named ≡ first_failing (name_checks words (table_name_at block)) → is_some named ≡ false → k < column_count words block → ColumnNamesBelow k
        → found ≡ first_failing (column_name_checks words block k) → is_some found ≡ true → found ≡ first_failing (table_name_checks words block)
    column_found named found k first none lt each here some =
        behind named found first none (flat_found (column_name_checks words block) (column_count words block) k found lt each here some)

    pub columns_none : (named : Option ℕ) → named ≡ first_failing (name_checks words (table_name_at block)) → is_some named ≡ false → ColumnNamesBelow (column_count words block)
        → None ≡ first_failing (table_name_checks words block)
    columns_none named first none each = behind named None first none (sym (flat_none (column_name_checks words block) (column_count words block) each))

  -- ── all tables ──

  abbrev table_checks : ℕ → List Check
  table_checks table = table_name_checks words (table_block words table)

  abbrev pub TableNamesBelow : ℕ → Type 0
  TableNamesBelow k = (x : ℕ) → x < k → first_failing (table_name_checks words (table_block words x)) ≡ None

  by_table : first_failing (name_rule words) ≡ first_failing (flat_map table_checks (below (table_count words)))
  unfolding name_rule
  by_table = ap first_failing (flat_map-map (table_name_checks words) (table_block words) (below (table_count words)))

  pub table_found : (k block : ℕ) (found : Option ℕ) → k < table_count words → TableNamesBelow k → block ≡ table_block words k → found ≡ first_failing (table_name_checks words block) → is_some found ≡ true
      → found ≡ first_failing (name_rule words)
  table_found k block found lt each at here some =
      flat_found table_checks (table_count words) k found lt each (here ∙ ap (λ (b : ℕ). first_failing (table_name_checks words b)) at) some ∙ sym by_table

  pub table_none : (block : ℕ) (found : Option ℕ) (k : ℕ) → block ≡ table_block words k → found ≡ first_failing (table_name_checks words block) → is_some found ≡ false
      → first_failing (table_name_checks words (table_block words k)) ≡ None
  table_none block found k at here none = ap (λ (b : ℕ). first_failing (table_name_checks words b)) (sym at) ∙ found_none found (first_failing (table_name_checks words block)) here none

  pub tables_none : TableNamesBelow (table_count words) → None ≡ first_failing (name_rule words)
  tables_none each = sym (by_table ∙ flat_none table_checks (table_count words) each)
