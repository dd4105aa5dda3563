-- The checks of the logs of splits, table by table and column by column.
use Rattle.std.proofs.Common.{◌≡◌, ◌≢◌, ℕ, ◌<◌, true, not, eqb, List, [], ◌∷◌, ◌++◌, map, get_or, sym, ◌∙◌, ap}
use Rattle.std.specs.Prelude.{Option, None, Some}
use Rattle.std.specs.Option.{is_some}
use Rattle.std.specs.Bool.{then_some}
use Rattle.std.specs.List.{flat_map}
use Rattle.std.proofs.lemmas.Bool.{eq-eqb, ne_eqb}
use Rattle.std.proofs.lemmas.List.{map-append}
use Rattle.image_layout.specs.Records.{split_leaf_at, new_leaf_at}
use Rattle.image_layout.specs.Tables.{all_columns, columns_of, table_block, table_count}
use Rattle.image_layout.specs.Owners.{next_table_slots}
use Rattle.image_layout.specs.Checks.{Check, first_failing}
use Rattle.image_layout.specs.SoundRules.{zero_check, split_log_rule}
use Rattle.image_layout.proofs.Faults.{passes, fails, pass-all}
use Rattle.image_rules.specs.Parts.{log_checks, next_slot_rule}
use Rattle.image_rules.proofs.EachColumn.{TablesBelow, all-is, of_tables, table_found, tables_none}
use Rattle.image_rules.proofs.Firsts.{lone, first_of, map-flat_map, none-append}

module _ (words : List ℕ) where
  -- ── a column ──

  pub splits : (column at : ℕ) → at ≡ split_leaf_at column → get_or words at 0 ≢ 0 → Some at ≡ first_failing (log_checks words column)
  splits column at is some =
      ap (λ (p : ℕ). Some p) is
      ∙ sym (fails (zero_check words (split_leaf_at column)) (zero_check words (new_leaf_at column) ∷ []) (ap (λ (p : ℕ). eqb (get_or words p 0) 0) (sym is) ∙ ne_eqb (get_or words at 0) 0 some))

  pub adds : (column split new : ℕ) (found : Option ℕ) → split ≡ split_leaf_at column → get_or words split 0 ≡ 0 → new ≡ new_leaf_at column → found ≡ then_some (not (eqb (get_or words new 0) 0)) new
      → found ≡ first_failing (log_checks words column)
  adds column split new found is none at here =
      here ∙ lone new (eqb (get_or words new 0) 0)
      ∙ ap (λ (p : ℕ). first_failing (zero_check words p ∷ [])) at
      ∙ sym (passes (zero_check words (split_leaf_at column)) (zero_check words (new_leaf_at column) ∷ []) (ap (λ (p : ℕ). eqb (get_or words p 0) 0) (sym is) ∙ eq-eqb (get_or words split 0) 0 none))

  -- ── all tables, and the slot behind them ──

  logs : ℕ → List ℕ
  logs column = split_leaf_at column ∷ new_leaf_at column ∷ []

  rule-is : split_log_rule words ≡ of_tables words (log_checks words) ++ next_slot_rule words
  unfolding split_log_rule next_slot_rule logs
  rule-is =
      map-append (zero_check words) (flat_map logs (all_columns words)) (next_table_slots words)
      ∙ ap (λ (cs : List Check). cs ++ map (zero_check words) (next_table_slots words))
      (map-flat_map (zero_check words) logs (all_columns words) ∙ all-is words (log_checks words))

  pub table_log_found : (k block : ℕ) (found : Option ℕ) → k < table_count words → TablesBelow words (log_checks words) k → block ≡ table_block words k → found ≡ first_failing (flat_map (log_checks words) (columns_of words block)) → is_some found ≡ true
      → found ≡ first_failing (split_log_rule words)
  table_log_found k block found lt each at here some =
      first_of (of_tables words (log_checks words)) (next_slot_rule words) found (table_found words (log_checks words) k block found lt each at here some) some
      ∙ sym (ap first_failing rule-is)

  pub slot_next : (found : Option ℕ) → TablesBelow words (log_checks words) (table_count words) → found ≡ first_failing (next_slot_rule words) → found ≡ first_failing (split_log_rule words)
  slot_next found each here =
      here ∙ sym (ap first_failing rule-is ∙ pass-all (of_tables words (log_checks words)) (next_slot_rule words) (tables_none words (log_checks words) each))

  -- where the rule is kept, no log of a column is broken
  pub logs_kept : first_failing (split_log_rule words) ≡ None → first_failing (flat_map (log_checks words) (all_columns words)) ≡ None
  logs_kept none = ap first_failing (all-is words (log_checks words)) ∙ (none-append (of_tables words (log_checks words)) (next_slot_rule words) (sym (ap first_failing rule-is) ∙ none)).0
