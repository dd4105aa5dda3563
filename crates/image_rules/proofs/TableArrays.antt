-- What the rule of arrays says of each array of a table.
use Rattle.std.proofs.Common.{◌≡◌, ℕ, ◌<◌, ◌≤◌, true, leb, ltb, List, ◌++◌, map, get_or, sym, ◌∙◌, ap}
use Rattle.std.specs.Prelude.{None}
use Rattle.std.specs.List.{flat_map}
use Rattle.std.proofs.lemmas.Bool.{leb-true, lt-ltb, cond-true}
use Rattle.image_layout.specs.Places.{below, is_pointer_to}
use Rattle.image_layout.specs.Records.{created_header, ended_header}
use Rattle.image_layout.specs.Arrays.{array_rule, chunk_pointer_at, chunk_words, is_chunk_pointer}
use Rattle.image_layout.specs.Tables.{table_count, table_block, column_headers, columns_of}
use Rattle.image_layout.specs.Checks.{Check, check, Keeps, first_failing}
use Rattle.image_layout.specs.EntryRules.{arrays_rule}
use Rattle.image_layout.proofs.Faults.{all_hold, first_failing-none}
use Rattle.image_rules.specs.Parts.{table_arrays_rule}
use Rattle.image_rules.proofs.ArrayChecks.{table_kept}
use Rattle.image_rules.proofs.Firsts.{none-head, none-append, map_holds}

module _ (words : List ℕ) where
  abbrev array_checks : ℕ → List Check
  array_checks header = array_rule header words

  kept_none : (header : ℕ) → first_failing (array_rule header words) ≡ None → Keeps words (array_rule header)
  kept_none header none = record { checks = all_hold (array_rule header words) none }

  -- ── one array ──

  abbrev chunk_check : ℕ → ℕ → Check
  chunk_check header chunk = check (chunk_pointer_at header chunk) (is_chunk_pointer words (get_or words header 0) chunk (get_or words (chunk_pointer_at header chunk) 0))

  parts : (header : ℕ) → Keeps words (array_rule header) → (leb (get_or words header 0) 12 ≡ true) × (first_failing (map (chunk_check header) (below 12)) ≡ None)
  unfolding array_rule
  parts header keeps = none-head (check header (leb (get_or words header 0) 12)) (map (chunk_check header) (below 12)) (first_failing-none (array_rule header words) keeps.checks)

  pub count_few : (header : ℕ) → Keeps words (array_rule header) → get_or words header 0 ≤ 12
  count_few header keeps = leb-true (get_or words header 0) 12 (parts header keeps).0

  -- the pointer to a published chunk names its words
  pub array_kept : (header : ℕ) → Keeps words (array_rule header) → (chunk : ℕ) → chunk < 12 → chunk < get_or words header 0 → is_pointer_to words (chunk_words chunk) (get_or words (chunk_pointer_at header chunk) 0) ≡ true
  array_kept header keeps chunk lt published =
      sym (cond-true (ltb chunk (get_or words header 0)) (is_pointer_to words (chunk_words chunk) (get_or words (chunk_pointer_at header chunk) 0)) _ (lt-ltb chunk (get_or words header 0) published))
      ∙ map_holds (chunk_check header) 12 (all_hold (map (chunk_check header) (below 12)) (parts header keeps).1) chunk lt

  -- ── those of a table ──

  pub table_rule : Keeps words arrays_rule → (table block : ℕ) → table < table_count words → block ≡ table_block words table → Keeps words (table_arrays_rule block)
  table_rule keeps table block lt at = record {
    checks = all_hold (table_arrays_rule block words) (ap (λ (b : ℕ). first_failing (table_arrays_rule b words)) at ∙ table_kept words keeps table lt);
  }

  module _ (block : ℕ) (keeps : Keeps words (table_arrays_rule block)) where
    abbrev of_columns : List Check
    of_columns = flat_map array_checks (flat_map column_headers (columns_of words block))

    none : first_failing (table_arrays_rule block words) ≡ None
    none = first_failing-none (table_arrays_rule block words) keeps.checks

    behind : first_failing (array_checks (ended_header block) ++ of_columns) ≡ None
    behind = (none-append (array_checks (created_header block)) (array_checks (ended_header block) ++ of_columns) none).1

    pub created_rule : (header : ℕ) → header ≡ created_header block → Keeps words (array_rule header)
    created_rule header at = kept_none header (ap (λ (h : ℕ). first_failing (array_rule h words)) at ∙ (none-append (array_checks (created_header block)) (array_checks (ended_header block) ++ of_columns) none).0)

    pub ended_rule : (header : ℕ) → header ≡ ended_header block → Keeps words (array_rule header)
    ended_rule header at = kept_none header (ap (λ (h : ℕ). first_failing (array_rule h words)) at ∙ (none-append (array_checks (ended_header block)) of_columns behind).0)
