-- Where the words that say where structures stand are the same, and what is read of stamps is,
-- the same tables and commits are shown.
use Rattle.std.proofs.Common.{◌≡◌, ⊎_elim, ℕ, ◌+◌, ◌<◌, ◌≤◌, Bool, true, false, not, cond, eqb, leb, ltb, List, map, refl, sym, ◌∙◌, ap, subst, arith}
use Rattle.std.specs.Prelude.{All, Contains, take_while}
use Rattle.std.specs.List.{flat_map}
use Rattle.std.proofs.lemmas.Bool.{cases_Bool, cond-false, cond-true, eqb-true, le-leb, ltb-false}
use Rattle.std.proofs.lemmas.List.Elements.{All-contains}
use Rattle.mv_model.specs.declared.shape.Column.{Column}
use Rattle.mv_model.specs.declared.value.Value.{Value}
use Rattle.mv_model.specs.declared.value.Value.TheVariants as value
use Rattle.mv_model.specs.State.{Table, CreatedRow, RowKey, WriteSet, State, all_idle}
use Rattle.image_layout.specs.Places.{below, packed_byte}
use Rattle.image_layout.specs.Records.{codes_header, column_name_at, created_header, ended_header, table_name_at}
use Rattle.image_layout.specs.Arrays.{capacity, array_word}
use Rattle.image_layout.specs.Tables.{table_count, table_block, table_blocks, columns_of, columns_with, all_columns, is_text, since_of}
use Rattle.image_layout.specs.Objects.{last_commit}
use Rattle.image_layout.specs.Trees.{dictionary_length, dictionary_word}
use Rattle.image_layout.specs.Checks.{Keeps}
use Rattle.image_layout.specs.EntryRules.{arrays_rule}
use Rattle.image_layout.specs.SoundRules.{code_rule}
use Rattle.image_layout.proofs.Members.{below-Contains, Contains-below, Contains-filter, filter-Contains, map-Contains}
use Rattle.shown_state.specs.LogicalState.{name_at, kind_of, column_of, key_value, zero_value, row_value, row_values, next_row_of, table_of, rows_stamped, created_row, commit_of, logical_state}
use Rattle.shown_state.specs.Fits.{HasValue, RowsFit}
use Rattle.shown_state.proofs.Alike.{map_alike, map_below, flat_map_below, filter_below}
use Rattle.shown_state.proofs.SameTables.{created_is, ended_is}
use Rattle.opening_steps.proofs.Structure.{SamePlaces}
use Rattle.opening_steps.proofs.Tables.{count_same, block_same, columns_same, since_same, text_same, capacity_same, codes_same, dictionary_same, bytes_same}
use Rattle.shown_state.proofs.SameLeaves.{few_values}
use Rattle.shown_state.proofs.SameValueRules.{SameName, name_byte, column_among}
use Rattle.opening_steps.proofs.ValueRules.{table_name_same, column_name_same}

abbrev column_with : List ℕ → Bool → Column
column_with name text = record { name = name; kind = kind_of text }

abbrev table_with : List ℕ → List Column → ℕ → Table
table_with name columns next = record { name = name; columns = columns; next_row = next }

abbrev row_with : ℕ → ℕ → List Value → CreatedRow
row_with table row values = record { key = record { table = table; row = row }; values = values }

abbrev key_with : ℕ → ℕ → RowKey
key_with table row = record { table = table; row = row }

abbrev writes_of : List CreatedRow → List RowKey → WriteSet
writes_of created ended = record { created = created; ended = ended }

abbrev state_with : List Table → List WriteSet → State
state_with tables commits = record { tables = tables; commits = commits; begun = 0; running = all_idle }

-- The last commit is the same, and the same rows have the stamp of a commit so far.
pub record CommitsAlike (old new : List ℕ) : Type 0 where
  pub last : last_commit new ≡ last_commit old
  pub created : (table row number : ℕ) → table < table_count old → row < capacity old (created_header (table_block old table)) → 1 ≤ number → number ≤ last_commit old
      → eqb (array_word new (created_header (table_block old table)) row) number ≡ eqb (array_word old (created_header (table_block old table)) row) number
  pub ended : (table row number : ℕ) → table < table_count old → row < capacity old (ended_header (table_block old table)) → 1 ≤ number → number ≤ last_commit old
      → eqb (array_word new (ended_header (table_block old table)) row) number ≡ eqb (array_word old (ended_header (table_block old table)) row) number

-- and so is the next row of each table
pub record StampsAlike (old new : List ℕ) : Type 0 where
  pub last : last_commit new ≡ last_commit old
  pub next : (table : ℕ) → table < table_count old → next_row_of new table ≡ next_row_of old table
  pub created : (table row number : ℕ) → table < table_count old → row < capacity old (created_header (table_block old table)) → 1 ≤ number → number ≤ last_commit old
      → eqb (array_word new (created_header (table_block old table)) row) number ≡ eqb (array_word old (created_header (table_block old table)) row) number
  pub ended : (table row number : ℕ) → table < table_count old → row < capacity old (ended_header (table_block old table)) → 1 ≤ number → number ≤ last_commit old
      → eqb (array_word new (ended_header (table_block old table)) row) number ≡ eqb (array_word old (ended_header (table_block old table)) row) number

module _ (old new : List ℕ) (same : SamePlaces old new) where
  name_same : (place : ℕ) → SameName old new place → name_at new place ≡ name_at old place
  unfolding name_at
  name_same place name = ap (take_while (λ byte. not (eqb byte 0))) (map_below (packed_byte new place) (packed_byte old place) 24 24 refl (λ byte lt. name_byte old new place byte name lt))

  block_among : (table : ℕ) → table < table_count old → Contains (table_blocks old) (table_block old table)
  block_among table lt = map-Contains (table_block old) (below (table_count old)) table (below-Contains (table_count old) table lt)

  column_shape_same : (column : ℕ) → Contains (all_columns old) column → column_of new column ≡ column_of old column
  column_shape_same column is =
      ap (λ (name : List ℕ). column_with name (is_text new column)) (name_same (column_name_at column) (column_name_same old new same column is))
      ∙ ap (column_with (name_at old (column_name_at column))) (text_same old new same column is)

  -- a table is as it was but for its next row
  pub shape_same : (table : ℕ) → table < table_count old → table_of new table ≡ table_with (name_at old (table_name_at (table_block old table))) (map (column_of old) (columns_of old (table_block old table))) (next_row_of new table)
  shape_same table lt =
      let block = table_block old table in
      let name = name_at old (table_name_at block) in
      ap (λ (b : ℕ). table_with (name_at new (table_name_at b)) (map (column_of new) (columns_of new b)) (next_row_of new table)) (block_same old new same table lt)
      ∙ ap (λ (n : List ℕ). table_with n (map (column_of new) (columns_of new block)) (next_row_of new table)) (name_same (table_name_at block) (table_name_same old new same block (block_among table lt)))
      ∙ ap (λ (columns : List Column). table_with name columns (next_row_of new table))
      (map_alike (column_of new) (column_of old) (columns_of new block) (columns_of old block) (columns_same old new same table lt) (λ column is. column_shape_same column (column_among old block column (block_among table lt) is)))

  table_same : StampsAlike old new → (table : ℕ) → table < table_count old → table_of new table ≡ table_of old table
  table_same alike table lt = shape_same table lt ∙ ap (table_with (name_at old (table_name_at (table_block old table))) (map (column_of old) (columns_of old (table_block old table)))) (alike.next table lt)

  -- ── values ──

  module _ (arrays : Keeps old arrays_rule) (codes : Keeps old code_rule) where
    pub word_same : (column code : ℕ) → Contains (all_columns old) column → code < dictionary_length old column → dictionary_word new column code ≡ dictionary_word old column code
    word_same column code is known = let few = few_values old codes column is in dictionary_same old new same arrays column code is known (omega (arith, known, few))

    key_value_same : (column code : ℕ) → Contains (all_columns old) column → code < dictionary_length old column
        → key_value new (is_text old column) (dictionary_word old column code) ≡ key_value old (is_text old column) (dictionary_word old column code)
    key_value_same column code is known = ⊎_elim (λ text. of_text text) (λ integers. of_integers integers) (cases_Bool (is_text old column))
      where
        of_text : is_text old column ≡ true → key_value new (is_text old column) (dictionary_word old column code) ≡ key_value old (is_text old column) (dictionary_word old column code)
        of_text text = subst (λ (b : Bool). key_value new b (dictionary_word old column code) ≡ key_value old b (dictionary_word old column code)) (sym text) (ap value.Text (bytes_same old new same column code is text known))

        of_integers : is_text old column ≡ false → key_value new (is_text old column) (dictionary_word old column code) ≡ key_value old (is_text old column) (dictionary_word old column code)
        of_integers integers = subst (λ (b : Bool). key_value new b (dictionary_word old column code) ≡ key_value old b (dictionary_word old column code)) (sym integers) refl

    known_value_same : (row column : ℕ) → Contains (all_columns old) column → HasValue old row column
        → key_value new (is_text new column) (dictionary_word new column (array_word new (codes_header column) row)) ≡ key_value old (is_text old column) (dictionary_word old column (array_word old (codes_header column) row))
    known_value_same row column is has =
        let code = array_word old (codes_header column) row in
        ap (λ (b : Bool). key_value new b (dictionary_word new column (array_word new (codes_header column) row))) (text_same old new same column is)
        ∙ ap (λ (c : ℕ). key_value new (is_text old column) (dictionary_word new column c)) (codes_same old new same arrays column row is has.published)
        ∙ ap (key_value new (is_text old column)) (word_same column code is has.known)
        ∙ key_value_same column code is has.known

    row_value_same : (row column : ℕ) → Contains (all_columns old) column → (since_of old column ≤ row → HasValue old row column) → row_value new row column ≡ row_value old row column
    row_value_same row column is has =
        let since = since_of old column in
        let known : List ℕ → Value = λ words. key_value words (is_text words column) (dictionary_word words column (array_word words (codes_header column) row)) in
        let zero_of : List ℕ → Value = λ words. zero_value (is_text words column) in
        ap (λ (s : ℕ). cond (ltb row s) (zero_of new) (known new)) (since_same old new same column is)
        ∙ ⊎_elim
        (λ (hit : ltb row since ≡ true). cond-true (ltb row since) (zero_of new) (known new) hit ∙ ap zero_value (text_same old new same column is) ∙ sym (cond-true (ltb row since) (zero_of old) (known old) hit))
        (λ (miss : ltb row since ≡ false). cond-false (ltb row since) (zero_of new) (known new) miss ∙ known_value_same row column is (has (ltb-false row since miss)) ∙ sym (cond-false (ltb row since) (zero_of old) (known old) miss))
        (cases_Bool (ltb row since))

    row_values_same : (table row : ℕ) → table < table_count old → All (HasValue old row) (columns_with old (table_block old table) row) → row_values new (table_block old table) row ≡ row_values old (table_block old table) row
    row_values_same table row lt has =
        let block = table_block old table in
        map_alike (row_value new row) (row_value old row) (columns_of new block) (columns_of old block) (columns_same old new same table lt)
        (λ column of. row_value_same row column (column_among old block column (block_among table lt) of)
        (λ le. All-contains (HasValue old row) (columns_with old block row) column has
        (filter-Contains (λ c. leb (since_of old c) row) (columns_of old block) column of (le-leb (since_of old column) row le))))

    -- ── commits ──

    module _ (alike : CommitsAlike old new) (rows : (table : ℕ) → table < table_count old → RowsFit old table) where
      created_rows_of : (number table : ℕ) → 1 ≤ number → number ≤ last_commit old → table < table_count old
          → map (created_row new table) (rows_stamped new (created_header (table_block new table)) number) ≡ map (created_row old table) (rows_stamped old (created_header (table_block old table)) number)
      created_rows_of number table first last lt =
          let block = table_block old table in
          let header = created_header block in
          let stamped : ℕ → Bool = λ row. eqb (array_word old header row) number in
          ap (λ (b : ℕ). map (λ row. row_with table row (row_values new b row)) (rows_stamped new (created_header b) number)) (block_same old new same table lt)
          ∙ map_alike (λ row. row_with table row (row_values new block row)) (λ row. row_with table row (row_values old block row)) (rows_stamped new header number) (rows_stamped old header number)
          (filter_below (λ row. eqb (array_word new header row) number) stamped (capacity new header) (capacity old header) (capacity_same old new same header (created_is old table lt))
          (λ row published. alike.created table row number lt published first last))
          (λ row is.
          let (counted, hit) = Contains-filter stamped (below (capacity old header)) row is in
          let published = Contains-below (capacity old header) row counted in
          let stamp = eqb-true (array_word old header row) number hit in
          let fits = rows table lt in
          ap (row_with table row) (row_values_same table row lt (fits.values row published (omega (arith, stamp, first)) (omega (arith, stamp, last)))))

      ended_rows_of : (number table : ℕ) → 1 ≤ number → number ≤ last_commit old → table < table_count old
          → map (λ row. key_with table row) (rows_stamped new (ended_header (table_block new table)) number) ≡ map (λ row. key_with table row) (rows_stamped old (ended_header (table_block old table)) number)
      ended_rows_of number table first last lt =
          let header = ended_header (table_block old table) in
          ap (λ (b : ℕ). map (λ row. key_with table row) (rows_stamped new (ended_header b) number)) (block_same old new same table lt)
          ∙ ap (map (λ row. key_with table row))
          (filter_below (λ row. eqb (array_word new header row) number) (λ row. eqb (array_word old header row) number) (capacity new header) (capacity old header) (capacity_same old new same header (ended_is old table lt))
          (λ row published. alike.ended table row number lt published first last))

      commit_same : (number : ℕ) → 1 ≤ number → number ≤ last_commit old → commit_of new number ≡ commit_of old number
      commit_same number first last =
          let created : List ℕ → ℕ → List CreatedRow = λ words table. map (created_row words table) (rows_stamped words (created_header (table_block words table)) number) in
          let ended : List ℕ → ℕ → List RowKey = λ words table. map (λ row. key_with table row) (rows_stamped words (ended_header (table_block words table)) number) in
          let count = table_count old in
          ap (λ (xs : List CreatedRow). writes_of xs (flat_map (ended new) (below (table_count new))))
          (flat_map_below (created new) (created old) (table_count new) count (count_same old new same) (λ table lt. created_rows_of number table first last lt))
          ∙ ap (writes_of (flat_map (created old) (below count))) (flat_map_below (ended new) (ended old) (table_count new) count (count_same old new same) (λ table lt. ended_rows_of number table first last lt))

      pub commits_same : map (λ number. commit_of new (number + 1)) (below (last_commit new)) ≡ map (λ number. commit_of old (number + 1)) (below (last_commit old))
      commits_same = map_below (λ number. commit_of new (number + 1)) (λ number. commit_of old (number + 1)) (last_commit new) (last_commit old) alike.last
          (λ number lt. commit_same (number + 1) (omega arith) (omega (arith, lt)))

    pub state_same : StampsAlike old new → ((table : ℕ) → table < table_count old → RowsFit old table) → logical_state new ≡ logical_state old
    unfolding logical_state
    state_same alike rows =
        ap (λ (tables : List Table). state_with tables (map (λ number. commit_of new (number + 1)) (below (last_commit new)))) (map_below (table_of new) (table_of old) (table_count new) (table_count old) (count_same old new same) (table_same alike))
        ∙ ap (state_with (map (table_of old) (below (table_count old)))) (commits_same (record { last = alike.last; created = alike.created; ended = alike.ended }) rows)
