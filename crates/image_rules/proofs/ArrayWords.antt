-- Where the words of arrays stand, and what the rule of arrays says of the two arrays of each column.
use Rattle.std.proofs.Common.{◌≡◌, ℕ, ◌+◌, ◌-◌, ◌<◌, ◌≤◌, false, eqb, ltb, List, [], ◌++◌, length, get_or, sym, ◌∙◌, ap, subst, arith}
use Rattle.std.specs.Prelude.{Option, None, Some, option_map}
use Rattle.std.specs.List.{flat_map}
use Rattle.std.proofs.lemmas.Bool.{and_left, cond-false, le-ltb}
use Rattle.image_layout.specs.Records.{codes_header, created_header, dictionary_header, ended_header}
use Rattle.image_layout.specs.Arrays.{array_rule, capacity, capacity_of, chunk_of, chunk_words, place_of}
use Rattle.image_layout.specs.Tables.{all_columns, column_headers, columns_of, table_block, table_count}
use Rattle.image_layout.specs.Trees.{dictionary_word}
use Rattle.image_layout.specs.Checks.{Check, Keeps, first_failing}
use Rattle.image_layout.specs.EntryRules.{arrays_rule}
use Rattle.image_layout.proofs.ChunkSizes.{capacity_most, capacity_next, capacity-rises, chunk_below}
use Rattle.image_layout.proofs.Faults.{all_hold}
use Rattle.image_rules.specs.ArrayWords.{HasArrays, is_word_at, word_place}
use Rattle.image_rules.specs.Stamps.{chunk_place}
use Rattle.image_rules.proofs.ArrayChecks.{table_kept}
use Rattle.image_rules.proofs.EachColumn.{rule_none}
use Rattle.image_rules.proofs.Firsts.{flat_map-flat_map, none-append}
use Rattle.image_rules.proofs.Gathered.{column_kept}
use Rattle.image_rules.proofs.StampChecks.{in_chunk}
use Rattle.image_rules.proofs.TableArrays.{count_few}

-- ── one word ──

pub chunk_holds : (index total chunk before : ℕ) → total ≡ capacity_of 12 → index < total → chunk ≡ chunk_of index → before ≡ capacity_of chunk → (before ≤ index) × (index - before < chunk_words chunk)
chunk_holds index total chunk before total_is lt is size =
    let under : index < capacity_of 12 = omega (arith, total_is, lt) in
    let inside = chunk_below index 12 (omega arith) under in
    let low : capacity_of chunk ≤ index = subst (λ (c : ℕ). capacity_of c ≤ index) (sym is) inside.1 in
    let high : index < capacity_of (chunk + 1) = subst (λ (c : ℕ). index < capacity_of (c + 1)) (sym is) inside.2 in
    let next = capacity_next chunk in
    (omega (arith, low, size), omega (arith, low, high, next, size))

pub place_none : (words : List ℕ) (header index : ℕ) → Keeps words (array_rule header) → capacity_of 12 ≤ index → None ≡ word_place words header index
place_none words header index keeps beyond =
    let rises = capacity-rises (get_or words header 0) 12 (count_few words header keeps) in
    let over : capacity words header ≤ index = omega (arith, rises, beyond) in
    sym (cond-false (ltb index (capacity words header)) (Some (place_of words header index)) None (le-ltb index (capacity words header) over))

pub place_is : (words : List ℕ) (header index chunk before : ℕ) (first found : Option ℕ) → (before ≤ index) × (index - before < chunk_words chunk) → chunk < 12 → before ≡ capacity_of chunk
    → first ≡ chunk_place words header chunk → found ≡ option_map (λ first. first + (index - before)) first → found ≡ word_place words header index
place_is words header index chunk before first found inside lt size at is =
    let sum : capacity_of chunk + (index - before) ≡ index = let low = inside.0 in omega (arith, low, size) in
    is
    ∙ ap (option_map (λ first. first + (index - before))) at
    ∙ sym (in_chunk words header chunk (index - before) lt inside.1)
    ∙ ap (word_place words header) sum

-- ── the arrays of each column ──

module _ (words : List ℕ) where
  abbrev array_checks : ℕ → List Check
  array_checks header = array_rule header words

  abbrev pub column_arrays : ℕ → List Check
  column_arrays column = flat_map array_checks (column_headers column)

  of_table : Keeps words arrays_rule → (table : ℕ) → table < table_count words → first_failing (flat_map column_arrays (columns_of words (table_block words table))) ≡ None
  of_table keeps table lt =
      let block = table_block words table in
      let of_columns : List Check = flat_map array_checks (flat_map column_headers (columns_of words block)) in
      let behind = (none-append (array_checks (created_header block)) (array_checks (ended_header block) ++ of_columns) (table_kept words keeps table lt)).1 in
      ap first_failing (sym (flat_map-flat_map array_checks column_headers (columns_of words block))) ∙ (none-append (array_checks (ended_header block)) of_columns behind).1

  arrays-none : Keeps words arrays_rule → first_failing (flat_map column_arrays (all_columns words)) ≡ None
  arrays-none keeps = sym (rule_none words column_arrays (of_table keeps))

  pub has_arrays : (columns : List ℕ) (i : ℕ) → i < length columns → Keeps words arrays_rule → columns ≡ all_columns words → HasArrays words (get_or columns i 0)
  has_arrays columns i lt keeps are =
      let column = get_or columns i 0 in
      let none = column_kept column_arrays columns i lt (ap (λ (cs : List ℕ). first_failing (flat_map column_arrays cs)) are ∙ arrays-none keeps) in
      let codes : List Check = array_checks (codes_header column) in
      let dictionary : List Check = array_checks (dictionary_header column) in
      let parts = none-append codes (dictionary ++ []) none in
      record {
        codes = record { checks = all_hold codes parts.0 };
        dictionary = record { checks = all_hold dictionary (none-append dictionary [] parts.1).0 };
      }

-- no dictionary has a slot for so large a code
pub word_beyond : (words : List ℕ) (column code key : ℕ) → HasArrays words column → 130560 ≤ code → false ≡ is_word_at words column code key
word_beyond words column code key arrays beyond =
    let most = capacity_most (get_or words (dictionary_header column) 0) (count_few words (dictionary_header column) arrays.dictionary) in
    let over : capacity words (dictionary_header column) ≤ code = omega (arith, most, beyond) in
    sym (and_left (ltb code (capacity words (dictionary_header column))) (eqb (dictionary_word words column code) key) (le-ltb code (capacity words (dictionary_header column)) over))
