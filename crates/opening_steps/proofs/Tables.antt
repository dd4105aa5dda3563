-- Where the words that say where structures stand are the same, tables, columns,
-- arrays and dictionaries do.
use Rattle.std.proofs.Common.{◌≡◌, ◌≢◌, ⊎_elim, ℕ, zero, suc, ◌+◌, ◌-◌, ◌/◌, ◌<◌, ◌≤◌, true, eqb, List, ◌∷◌, get_or, refl, sym, ◌∙◌, ap, subst, arith}
use Rattle.std.specs.Prelude.{Contains}
use Rattle.std.specs.List.{flat_map}
use Rattle.std.proofs.lemmas.Bool.{cases_lt}
use Rattle.image_layout.specs.Fixed.{table_slot_at}
use Rattle.image_layout.specs.Places.{packed_byte, place_in}
use Rattle.image_layout.specs.Records.{codes_header, created_header, dictionary_header, ended_header, extension_column_at, since_at}
use Rattle.image_layout.specs.Arrays.{capacity, capacity_of, chunk_count, chunk_of, chunk_pointer_at, offset_of, place_of, array_word}
use Rattle.image_layout.specs.Tables.{table_count, table_block, table_blocks, columns_of, all_columns, column_count, column_headers, column_record, array_headers, extension_count, extension_of, extension_pointer_at, inner_columns, is_text, since_of}
use Rattle.image_layout.specs.Trees.{dictionary_length, dictionary_word, text_at, text_length}
use Rattle.image_layout.specs.Checks.{Keeps}
use Rattle.image_layout.specs.EntryRules.{arrays_rule}
use Rattle.image_layout.proofs.TableParts.{inner_record, outer_record}
use Rattle.shown_state.proofs.SameTables.{IsHeader, codes_is, dictionary_is, table_of_block, published_chunk, packed_same}
use Rattle.opening_steps.proofs.Structure.{of_head, of_slot, of_table, of_column, of_extension, of_header, of_codes, of_dictionary, of_text, IsPlace, SamePlaces}
use Rattle.shown_state.proofs.Alike.{map_below, flat_map_alike}

-- ── what is the same ──

module _ (old new : List ℕ) (same : SamePlaces old new) where
  pub count_same : table_count new ≡ table_count old
  count_same = same.each 515 (of_head (omega arith) (omega arith) (λ e. omega (arith, e)) (λ e. omega (arith, e)))

  pub slot_same : (table : ℕ) → table < table_count old → get_or new (table_slot_at table) 0 ≡ get_or old (table_slot_at table) 0
  slot_same table lt = same.each (table_slot_at table) (of_slot table lt refl)

  pub block_same : (table : ℕ) → table < table_count old → table_block new table ≡ table_block old table
  block_same table lt = ap place_in (slot_same table lt)

  pub blocks_same : table_blocks new ≡ table_blocks old
  blocks_same = map_below (table_block new) (table_block old) (table_count new) (table_count old) count_same block_same

  -- one of the first words of a table's block
  pub table_word : (table word : ℕ) → table < table_count old → word < 6 → word ≢ 1 → get_or new (table_block old table + word) 0 ≡ get_or old (table_block old table + word) 0
  table_word table word lt few other = same.each (table_block old table + word) (of_table table word lt few other refl)

  pub column_count_same : (table : ℕ) → table < table_count old → column_count new (table_block old table) ≡ column_count old (table_block old table)
  column_count_same table lt = same.each (table_block old table) (of_table table 0 lt (omega arith) (λ e. omega (arith, e)) (omega arith))

  pub inner_same : (table : ℕ) → table < table_count old → inner_columns new (table_block old table) ≡ inner_columns old (table_block old table)
  inner_same = same.inner

  pub extension_count_same : (table : ℕ) → table < table_count old → extension_count new (table_block old table) ≡ extension_count old (table_block old table)
  extension_count_same table lt = let count = column_count_same table lt in let inner = inner_same table lt in omega (arith, count, inner)

  -- the pointers to extensions, up to the one after them
  pub extension_pointer_same : (table extension : ℕ) → table < table_count old → extension ≤ extension_count old (table_block old table)
      → extension_pointer_at new (table_block old table) extension ≡ extension_pointer_at old (table_block old table) extension
  extension_pointer_same table zero lt le = refl
  extension_pointer_same table (suc extension) lt le =
      ap (λ (at : ℕ). place_in (get_or new at 0)) (extension_pointer_same table extension lt (omega (arith, le)))
      ∙ ap place_in (same.each (extension_pointer_at old (table_block old table) extension) (of_extension table extension lt (omega (arith, le)) refl))

  pub record_same : (table : ℕ) → table < table_count old → (column : ℕ) → column < column_count old (table_block old table)
      → column_record new (table_block old table) column ≡ column_record old (table_block old table) column
  record_same table lt column within =
      let block = table_block old table in
      let inner = inner_same table lt in
      ⊎_elim
      (λ low. inner_record new block column (omega (arith, low, inner)) ∙ sym (inner_record old block column low))
      (λ high.
      let less : column - inner_columns old block < extension_count old block = omega (arith, high, within) in
      outer_record new block column (omega (arith, high, inner))
      ∙ ap (λ (n : ℕ). extension_column_at (extension_of new block (column - n))) inner
      ∙ ap extension_column_at (extension_pointer_same table (suc (column - inner_columns old block)) lt (omega (arith, less)))
      ∙ sym (outer_record old block column high))
      (cases_lt column (inner_columns old block))

  pub columns_same : (table : ℕ) → table < table_count old → columns_of new (table_block old table) ≡ columns_of old (table_block old table)
  columns_same table lt =
      map_below (column_record new (table_block old table)) (column_record old (table_block old table)) (column_count new (table_block old table)) (column_count old (table_block old table))
      (column_count_same table lt) (record_same table lt)

  pub block_columns : (block : ℕ) → Contains (table_blocks old) block → columns_of new block ≡ columns_of old block
  block_columns block is =
      let (table, lt, here) = table_of_block old block is in
      subst (λ (b : ℕ). columns_of new b ≡ columns_of old b) here (columns_same table lt)

  pub all_columns_same : all_columns new ≡ all_columns old
  all_columns_same = flat_map_alike (columns_of new) (columns_of old) (table_blocks new) (table_blocks old) blocks_same block_columns

  pub headers_same : (block : ℕ) → Contains (table_blocks old) block → array_headers new block ≡ array_headers old block
  headers_same block is = ap (λ (columns : List ℕ). created_header block ∷ ended_header block ∷ flat_map column_headers columns) (block_columns block is)

  -- one of the first words of a column
  pub column_word : (column word : ℕ) → Contains (all_columns old) column → word < 8 → get_or new (column + word) 0 ≡ get_or old (column + word) 0
  column_word column word is few = same.each (column + word) (of_column column word is few refl)

  pub since_same : (column : ℕ) → Contains (all_columns old) column → since_of new column ≡ since_of old column
  since_same column is = same.each (since_at column) (of_column column 7 is (omega arith) refl)

  pub kind_same : (column : ℕ) → Contains (all_columns old) column → get_or new column 0 ≡ get_or old column 0
  kind_same column is = same.each column (of_column column 0 is (omega arith) (omega arith))

  pub text_same : (column : ℕ) → Contains (all_columns old) column → is_text new column ≡ is_text old column
  text_same column is = ap (λ (kind : ℕ). eqb kind 2) (kind_same column is)

  -- ── arrays ──

  pub chunks_same : (header : ℕ) → IsHeader old header → chunk_count new header ≡ chunk_count old header
  chunks_same header is = same.each header (of_header is.table header 0 is.published is.among (omega arith) (omega arith))

  pub capacity_same : (header : ℕ) → IsHeader old header → capacity new header ≡ capacity old header
  capacity_same header is = ap capacity_of (chunks_same header is)

  module _ (arrays : Keeps old arrays_rule) where
    pub place_same : (header index : ℕ) → IsHeader old header → index < capacity old header → place_of new header index ≡ place_of old header index
    place_same header index is lt =
        let chunk = published_chunk old header index arrays is lt in
        ap (λ (word : ℕ). place_in word + offset_of index)
        (same.each (chunk_pointer_at header (chunk_of index)) (of_header is.table header (1 + chunk_of index) is.published is.among (let few = chunk.1 in omega (arith, few)) (omega arith)))

    array_same : (header index : ℕ) → IsHeader old header → index < capacity old header → IsPlace old (place_of old header index) → array_word new header index ≡ array_word old header index
    array_same header index is lt value = ap (λ (place : ℕ). get_or new place 0) (place_same header index is lt) ∙ same.each (place_of old header index) value

    pub codes_same : (column row : ℕ) → Contains (all_columns old) column → row < capacity old (codes_header column) → array_word new (codes_header column) row ≡ array_word old (codes_header column) row
    codes_same column row is lt = array_same (codes_header column) row (codes_is old column is) lt (of_codes column row is lt refl)

    pub dictionary_same : (column code : ℕ) → Contains (all_columns old) column → code < dictionary_length old column → code < capacity old (dictionary_header column)
        → dictionary_word new column code ≡ dictionary_word old column code
    dictionary_same column code is known lt = array_same (dictionary_header column) code (dictionary_is old column is) lt (of_dictionary column code is known lt refl)

  -- ── texts of a dictionary ──

  module _ (column code : ℕ) (is : Contains (all_columns old) column) (text : is_text old column ≡ true) (known : code < dictionary_length old column) where
    abbrev place : ℕ
    place = place_in (dictionary_word old column code)

    pub length_same : text_length new place ≡ text_length old place
    length_same = same.each place (of_text column code is text known (omega arith) (omega arith))

    pub bytes_same : text_at new place ≡ text_at old place
    unfolding text_at
    bytes_same = map_below (packed_byte new (place + 1)) (packed_byte old (place + 1)) (text_length new place) (text_length old place) length_same
        (λ byte lt. packed_same old new (place + 1) byte (same.each (place + 1 + byte / 8) (of_text column code is text known (omega arith) (omega (arith, lt)))))
