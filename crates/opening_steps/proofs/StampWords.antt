-- The stamps of rows, the bounds of tables and the states of objects: none of them says where a structure stands, and each
-- stands at one place.
use Rattle.std.proofs.Common.{◌≡◌, ◌≢◌, ◌⊎◌, inl, inr, ⊎_elim, ℕ, zero, suc, ◌+◌, ◌-◌, ◌<◌, ◌≤◌, cond, eqb, List, length, get_or, refl, sym, ◌∙◌, ap, subst, arith}
use Rattle.std.specs.Prelude.{Contains}
use Rattle.image_layout.specs.Fixed.{state_at, version_at}
use Rattle.image_layout.specs.Records.{created_header, dictionary_header, ended_header, high_at, inner_columns_at}
use Rattle.std.proofs.lemmas.Bool.{cases_lt}
use Rattle.image_layout.specs.Places.{place_in}
use Rattle.image_layout.specs.Arrays.{capacity, capacity_of, chunk_count, chunk_of, chunk_pointer_at, offset_of, place_of}
use Rattle.image_layout.specs.Tables.{all_columns, column_count, extension_count, extension_pointer_at, inner_columns, table_block, table_count}
use Rattle.image_layout.specs.Trees.{leaf_list}
use Rattle.image_layout.specs.Owners.{chunk_owner, text_owner}
use Rattle.image_layout.proofs.ChunkSizes.{capacity_most, chunk_below}
use Rattle.image_layout.proofs.OwnedBlocks.{chunk_named, one_array}
use Rattle.image_layout.proofs.TableParts.{column_of}
use Rattle.image_layout.proofs.TableSlots.{few_tables}
use Rattle.shown_state.specs.Fits.{Fits}
use Rattle.shown_state.specs.Reads.{in_ends, in_object, in_stamps, in_table, IsRead}
use Rattle.shown_state.proofs.LeavesApart.{chunk_or_listed, table_or_listed}
use Rattle.shown_state.proofs.SameLeaves.{slot_under}
use Rattle.shown_state.proofs.SameTables.{IsHeader, codes_is, created_is, dictionary_is, ended_is}
use Rattle.shown_state.proofs.ValuesApart.{at_behind, at_once, chunk_behind, chunk_home, chunk_or_segment, code_published, column_spot, extension_or_chunk, extension_or_part, first_of_extension, first_word, header_spot, in_chunk, in_head as in_block_head, in_last, IsAt, IsInChunk, IsInExtension, IsInSegment, IsInText, IsPointerIn, one_home, pointer_in, table_or_chunk, table_or_segment, table_or_text, text_home, word_spot}
use Rattle.opening_steps.proofs.Beside.{ChangesOnly, MayChange}
use Rattle.opening_steps.proofs.ObjectWords.{objects_may_change, of_own}
use Rattle.opening_steps.proofs.Structure.{IsPlace, of_codes, of_column, of_dictionary, of_extension, of_head, of_header, of_leaf, of_pair, of_ready, of_segment, of_slot, of_table, of_text}
use Rattle.opening_steps.proofs.Versions.{same_version}

-- what an undoing may store to
pub data IsUndoWord (words : List ℕ) (w : ℕ) : Type 0 where
  a_creator : (table row : ℕ) → table < table_count words → row < capacity words (created_header (table_block words table))
      → w ≡ place_of words (created_header (table_block words table)) row → IsUndoWord words w
  an_ender : (table row : ℕ) → table < table_count words → row < capacity words (ended_header (table_block words table))
      → w ≡ place_of words (ended_header (table_block words table)) row → IsUndoWord words w
  a_bound : (table : ℕ) → table < table_count words → w ≡ high_at (table_block words table) → IsUndoWord words w
  a_state : (object : ℕ) → object < 16 → w ≡ state_at object → IsUndoWord words w

module _ (words : List ℕ) (fits : Fits words) where
  -- ── headers of stamps ──

  -- the first or the second array of a table, by where its header stands in the table's block
  pub record IsStamps (table base header : ℕ) : Type 0 where
    pub published : table < table_count words
    pub which : (base ≡ 8) ⊎ (base ≡ 24)
    pub at : header ≡ table_block words table + base

  pub creators : (table : ℕ) → table < table_count words → IsStamps table 8 (created_header (table_block words table))
  creators table lt = record { published = lt; which = inl refl; at = refl }

  pub enders : (table : ℕ) → table < table_count words → IsStamps table 24 (ended_header (table_block words table))
  enders table lt = record { published = lt; which = inr refl; at = refl }

  -- the pointer to one of its chunks
  pointer_spot : (table base header chunk : ℕ) → IsStamps table base header → chunk < 12 → IsAt words fits table 0 (base + (1 + chunk)) (chunk_pointer_at header chunk)
  pointer_spot table base header chunk is lt =
      let at = is.at in
      record { published = is.published; within = omega arith; few = ⊎_elim (λ a. omega (arith, a, lt)) (λ b. omega (arith, b, lt)) is.which; at = omega (arith, at) }

  record AreOne (table base chunk other other_base other_chunk : ℕ) : Type 0 where
    pub table_is : table ≡ other
    pub base_is : base ≡ other_base
    pub chunk_is : chunk ≡ other_chunk

  chunks_once : (table base header chunk other other_base other_header other_chunk w : ℕ) → IsStamps table base header → IsStamps other other_base other_header
      → IsInChunk words fits header chunk w → IsInChunk words fits other_header other_chunk w → AreOne table base chunk other other_base other_chunk
  chunks_once table base header chunk other other_base other_header other_chunk w one two here there =
      let same = one_home words fits (chunk_owner header chunk) (chunk_owner other_header other_chunk) w (chunk_home words fits header chunk w here) (chunk_home words fits other_header other_chunk w there) in
      let few = here.few in
      let less = there.few in
      let spots = at_once words fits table 0 (base + (1 + chunk)) other 0 (other_base + (1 + other_chunk)) (chunk_pointer_at header chunk)
      (pointer_spot table base header chunk one few)
      (subst (IsAt words fits other 0 (other_base + (1 + other_chunk))) (sym same) (pointer_spot other other_base other_header other_chunk two less)) in
      let offsets = spots.2 in
      let bases : base ≡ other_base =
      ⊎_elim (λ a. ⊎_elim (λ b. omega (arith, a, b)) (λ b. absurd (omega (arith, a, b, offsets, few, less))) two.which)
      (λ a. ⊎_elim (λ b. absurd (omega (arith, a, b, offsets, few, less))) (λ b. omega (arith, a, b)) two.which) one.which in
      record { table_is = spots.0; base_is = bases; chunk_is = omega (arith, offsets, bases) }

  stamps_header : (table base header : ℕ) → IsStamps table base header → IsHeader words header
  stamps_header table base header is = ⊎_elim
      (λ (a : base ≡ 8). subst (IsHeader words) (let at = is.at in omega (arith, at, a)) (created_is words table is.published))
      (λ (b : base ≡ 24). subst (IsHeader words) (let at = is.at in omega (arith, at, b)) (ended_is words table is.published))
      is.which

  few_chunks : (header : ℕ) → IsHeader words header → chunk_count words header ≤ 12
  few_chunks header is = ⊎_elim
      (λ (some : 0 < chunk_count words header).
      let low = (chunk_named words header (chunk_count words header - 1) (one_array words is.table header fits.entry.arrays is.published is.among) (omega (arith, some))).0 in
      omega (arith, low))
      (λ none. omega (arith, none)) (cases_lt 0 (chunk_count words header))

  -- no array has more words
  pub few_rows : (header : ℕ) → IsHeader words header → capacity words header ≤ 130560
  few_rows header is = capacity_most (chunk_count words header) (few_chunks header is)

  whole : (header row : ℕ) → IsHeader words header → row < capacity words header → capacity_of (chunk_of row) ≤ row
  whole header row is lt = (chunk_below row (chunk_count words header) (few_chunks header is) lt).1

  offset_same : (row other_row header other_header : ℕ) → chunk_pointer_at other_header (chunk_of other_row) ≡ chunk_pointer_at header (chunk_of row)
      → place_of words header row ≡ place_of words other_header other_row → offset_of row ≡ offset_of other_row
  offset_same row other_row header other_header pointers same =
      let named = ap (λ (at : ℕ). place_in (get_or words at 0)) pointers in omega (arith, named, same)

  -- the places of two stamps differ
  pub record IsOneStamp (table base row other other_base other_row : ℕ) : Type 0 where
    pub table_is : table ≡ other
    pub base_is : base ≡ other_base
    pub row_is : row ≡ other_row

  pub stamps_once : (table base header row other other_base other_header other_row : ℕ) → IsStamps table base header → IsStamps other other_base other_header
      → row < capacity words header → other_row < capacity words other_header → place_of words header row ≡ place_of words other_header other_row
      → IsOneStamp table base row other other_base other_row
  stamps_once table base header row other other_base other_header other_row one two lt less same =
      let w = place_of words header row in
      let here = in_chunk words fits header row (stamps_header table base header one) lt in
      let there = subst (IsInChunk words fits other_header (chunk_of other_row)) (sym same) (in_chunk words fits other_header other_row (stamps_header other other_base other_header two) less) in
      let found = chunks_once table base header (chunk_of row) other other_base other_header (chunk_of other_row) w one two here there in
      let tables = found.table_is in
      let bases = found.base_is in
      let chunks = found.chunk_is in
      let first = one.at in
      let second = two.at in
      let blocks = ap (table_block words) tables in
      let pointers : chunk_pointer_at other_header (chunk_of other_row) ≡ chunk_pointer_at header (chunk_of row) = omega (arith, first, second, blocks, bases, chunks) in
      let offsets : offset_of row ≡ offset_of other_row = offset_same row other_row header other_header pointers same in
      let low = whole header row (stamps_header table base header one) lt in
      let low_other = whole other_header other_row (stamps_header other other_base other_header two) less in
      let starts = ap capacity_of chunks in
      record { table_is = tables; base_is = bases; row_is = omega (arith, offsets, low, low_other, starts) }

  -- ── words that are none of these ──

  pub record IsOther (w : ℕ) : Type 0 where
    pub no_stamp : (table base header chunk : ℕ) → IsStamps table base header → IsInChunk words fits header chunk w → ⊥
    pub no_bound : (table : ℕ) → IsAt words fits table 0 1 w → ⊥

  low_other : (w : ℕ) → w < 2048 → IsOther w
  low_other w low = record {
    no_stamp = λ table base header chunk is within. let behind = chunk_behind words fits header chunk w within in omega (arith, behind, low);
    no_bound = λ table spot. let behind = at_behind words fits table 0 1 w spot in omega (arith, behind, low);
  }

  table_other : (table part offset w : ℕ) → IsAt words fits table part offset w → (part ≡ 0 → offset ≢ 1) → IsOther w
  table_other table part offset w spot apart = record {
    no_stamp = λ other base header chunk is within. table_or_chunk words fits table part offset header chunk w spot within;
    no_bound = λ other bound. let agree = at_once words fits table part offset other 0 1 w spot bound in apart agree.1 agree.2;
  }

  -- a chunk of a column's array
  column_chunk_other : (column base chunk w : ℕ) → Contains (all_columns words) column → (base ≡ 8) ⊎ (base ≡ 24) → IsInChunk words fits (column + base) chunk w → IsOther w
  column_chunk_other column base chunk w is which within = record {
    no_stamp = λ table other_base header other stamps there.
        let c = column_of words column is in
        let few = within.few in
        let same = one_home words fits (chunk_owner (column + base) chunk) (chunk_owner header other) w (chunk_home words fits (column + base) chunk w within) (chunk_home words fits header other w there) in
        let own = column_spot words fits column (base + (1 + chunk)) (chunk_pointer_at (column + base) chunk) c
        (⊎_elim (λ a. omega (arith, a, few)) (λ b. omega (arith, b, few)) which) (omega arith) in
        let parts = (at_once words fits c.table (suc c.number) (base + (1 + chunk)) table 0 (other_base + (1 + other)) (chunk_pointer_at (column + base) chunk) own
        (subst (IsAt words fits table 0 (other_base + (1 + other))) (sym same) (pointer_spot table other_base header other stamps there.few))).1 in
        omega (arith, parts);
    no_bound = λ table bound. table_or_chunk words fits table 0 1 (column + base) chunk w bound within;
  }

  leaf_other : (column leaf w : ℕ) → Contains (all_columns words) column → Contains (leaf_list words column) leaf → leaf ≤ w → w < leaf + 104 → IsOther w
  leaf_other column leaf w is listed low high = record {
    no_stamp = λ table base header chunk stamps within. chunk_or_listed words fits column leaf header chunk w is listed within low high;
    no_bound = λ table bound. table_or_listed words fits column leaf table 0 1 w is listed bound low high;
  }

  pointer_other : (table extension w : ℕ) → table < table_count words → extension ≤ extension_count words (table_block words table) → w ≡ extension_pointer_at words (table_block words table) extension → IsOther w
  pointer_other table extension w published le at = by (pointer_in words fits table extension w published le at)
    where
      by : IsPointerIn words fits table extension w → IsOther w
      by (in_block_head none head) = table_other table 0 5 w head (λ zero_part e. omega (arith, e))
      by (in_last before more less is) = record {
        no_stamp = λ other base header chunk stamps within.
            extension_or_chunk words fits table before header chunk w (subst (IsInExtension words fits table before) (sym is) (first_of_extension words fits table before published less)) within;
        no_bound = λ other bound. extension_or_part words fits other 0 1 table before w bound published less is;
      }

  text_other : (column code w : ℕ) → IsInText words fits column code w → IsOther w
  text_other column code w t = record {
    no_stamp = λ table base header chunk stamps within.
        let own = dictionary_header column in
        let place = place_of words own code in
        let same = one_home words fits (text_owner words place) (chunk_owner header chunk) w (text_home words fits column code w t) (chunk_home words fits header chunk w within) in
        table_or_chunk words fits table 0 (base + (1 + chunk)) own (chunk_of code) place
        (subst (IsAt words fits table 0 (base + (1 + chunk))) (sym same) (pointer_spot table base header chunk stamps within.few))
        (in_chunk words fits own code (dictionary_is words column t.is) (code_published words fits column code t.is t.known));
    no_bound = λ table bound. table_or_text words fits table 0 1 column code w bound t;
  }

  array_other : (column base row w : ℕ) → Contains (all_columns words) column → (base ≡ 8) ⊎ (base ≡ 24) → IsHeader words (column + base) → row < capacity words (column + base) → w ≡ place_of words (column + base) row → IsOther w
  array_other column base row w is which header lt at =
      column_chunk_other column base (chunk_of row) w is which (subst (IsInChunk words fits (column + base) (chunk_of row)) (sym at) (in_chunk words fits (column + base) row header lt))

  other : (w : ℕ) → IsPlace words w → IsOther w
  other w (of_head low high version apart) = low_other w (omega (arith, high))
  other w (of_slot table lt at) = let few = few_tables words fits.entry.table_count in low_other w (omega (arith, at, lt, few))
  other w (of_ready object number at) = low_other w (omega (arith, at, number))
  other w (of_segment object zero number le at) = low_other w (omega (arith, at, number))
  other w (of_segment object (suc segment) number le at) =
      let first : IsInSegment words fits object segment w = subst (IsInSegment words fits object segment) (sym at) (first_word words fits object segment number (omega (arith, le))) in
      record {
        no_stamp = λ table base header chunk stamps within. chunk_or_segment words fits header chunk object segment w within first;
        no_bound = λ table bound. table_or_segment words fits table 0 1 object segment w bound first;
      }
  other w (of_table table word published few apart at) =
      table_other table 0 word w (record { published = published; within = omega arith; few = omega (arith, few); at = omega (arith, at) }) (λ part e. apart e)
  other w (of_column column word is few at) =
      let c = column_of words column is in table_other c.table (suc c.number) word w (column_spot words fits column word w c (omega (arith, few)) at) (λ part e. omega (arith, part))
  other w (of_extension table extension published le at) = pointer_other table extension w published le at
  other w (of_header table header word published is few at) =
      let (part, base, h) = header_spot words fits header (record { table = table; published = published; among = is }) in
      table_other table part (base + word) w (word_spot words fits header table part base word w h few at) (λ first e. ⊎_elim (λ eight. omega (arith, eight, e)) (λ later. omega (arith, later, e)) h.which)
  other w (of_codes column row is lt at) = array_other column 8 row w is (inl refl) (codes_is words column is) lt at
  other w (of_dictionary column code is known lt at) = array_other column 24 code w is (inr refl) (dictionary_is words column is) lt at
  other w (of_text column code is text known low high) = text_other column code w (record { is = is; text = text; known = known; low = low; high = high })
  other w (of_leaf column leaf is listed low high) = leaf_other column leaf w is listed low (omega (arith, high))
  other w (of_pair column leaf slot is listed used which) =
      let few = slot_under words leaf slot used in
      ⊎_elim (λ key. leaf_other column leaf w is listed (omega (arith, key)) (omega (arith, key, few))) (λ code. leaf_other column leaf w is listed (omega (arith, code)) (omega (arith, code, few))) which

  bound_spot : (table w : ℕ) → table < table_count words → w ≡ high_at (table_block words table) → IsAt words fits table 0 1 w
  bound_spot table w lt at = record { published = lt; within = omega arith; few = omega arith; at = omega (arith, at) }

  in_stamp : (table base header row w : ℕ) → IsStamps table base header → row < capacity words header → w ≡ place_of words header row → IsInChunk words fits header (chunk_of row) w
  in_stamp table base header row w is lt at = subst (IsInChunk words fits header (chunk_of row)) (sym at) (in_chunk words fits header row (stamps_header table base header is) lt)

  -- a stamp and a bound stand behind the fixed pages, at different places, and bounds of two tables do
  pub stamp_behind : (table base header row : ℕ) → IsStamps table base header → row < capacity words header → 2048 ≤ place_of words header row
  stamp_behind table base header row is lt = chunk_behind words fits header (chunk_of row) (place_of words header row) (in_stamp table base header row (place_of words header row) is lt refl)

  pub bound_behind : (table : ℕ) → table < table_count words → 2048 ≤ high_at (table_block words table)
  bound_behind table lt = at_behind words fits table 0 1 (high_at (table_block words table)) (bound_spot table (high_at (table_block words table)) lt refl)

  pub stamp_or_bound : (table base header row other : ℕ) → IsStamps table base header → row < capacity words header → other < table_count words → place_of words header row ≡ high_at (table_block words other) → ⊥
  stamp_or_bound table base header row other is lt less same =
      let w = place_of words header row in
      table_or_chunk words fits other 0 1 header (chunk_of row) w (bound_spot other w less same) (in_stamp table base header row w is lt refl)

  pub bounds_once : (table other : ℕ) → table < table_count words → other < table_count words → high_at (table_block words table) ≡ high_at (table_block words other) → table ≡ other
  bounds_once table other lt less same =
      let w = high_at (table_block words table) in (at_once words fits table 0 1 other 0 1 w (bound_spot table w lt refl) (bound_spot other w less same)).0

  -- a word behind the fixed pages that is none of these isn't stored to
  other_apart : (w : ℕ) → IsOther w → ((object : ℕ) → object < 16 → w ≢ state_at object) → IsUndoWord words w → ⊥
  other_apart w is states (a_creator table row lt less at) = is.no_stamp table 8 (created_header (table_block words table)) (chunk_of row) (creators table lt) (in_stamp table 8 (created_header (table_block words table)) row w (creators table lt) less at)
  other_apart w is states (an_ender table row lt less at) = is.no_stamp table 24 (ended_header (table_block words table)) (chunk_of row) (enders table lt) (in_stamp table 24 (ended_header (table_block words table)) row w (enders table lt) less at)
  other_apart w is states (a_bound table lt at) = is.no_bound table (bound_spot table w lt at)
  other_apart w is states (a_state object lt at) = states object lt at

  -- the first words of a table's block but its bound
  block_apart : (table word : ℕ) → table < table_count words → word < 7 → word ≢ 1 → IsUndoWord words (table_block words table + word) → ⊥
  block_apart table word lt few apart =
      let w = table_block words table + word in
      let spot : IsAt words fits table 0 word w = record { published = lt; within = omega arith; few = omega (arith, few); at = omega arith } in
      let behind = at_behind words fits table 0 word w spot in
      other_apart w (table_other table 0 word w spot (λ part e. apart e)) (λ object less at. omega (arith, behind, at, less))

  state_place : (w : ℕ) → IsPlace words w → (object : ℕ) → object < 16 → w ≢ state_at object
  state_place w place object lt at =
      let may = objects_may_change words fits in
      may.no_place w place (of_own object 0 lt (omega arith) (λ e. omega (arith, e)) (λ e. omega (arith, e)) at)

  is_read : (w : ℕ) → IsUndoWord words w → IsRead words w
  is_read w (a_creator table row lt less at) = in_stamps table row lt less at
  is_read w (an_ender table row lt less at) = in_ends table row lt less at
  is_read w (a_bound table lt at) = in_table table 1 lt (omega arith) at
  is_read w (a_state object lt at) = in_object (omega (arith, at)) (omega (arith, at, lt))

  no_slot : (w : ℕ) → IsUndoWord words w → 520 ≤ w → w < 552 → ⊥
  no_slot w (a_state object lt at) low high = omega (arith, at, high)
  no_slot w (a_creator table row lt less at) low high =
      let behind = chunk_behind words fits (created_header (table_block words table)) (chunk_of row) w (in_stamp table 8 (created_header (table_block words table)) row w (creators table lt) less at) in omega (arith, behind, high)
  no_slot w (an_ender table row lt less at) low high =
      let behind = chunk_behind words fits (ended_header (table_block words table)) (chunk_of row) w (in_stamp table 24 (ended_header (table_block words table)) row w (enders table lt) less at) in omega (arith, behind, high)
  no_slot w (a_bound table lt at) low high = let behind = at_behind words fits table 0 1 w (bound_spot table w lt at) in omega (arith, behind, high)

  no_key : (column code : ℕ) → Contains (all_columns words) column → code < capacity words (dictionary_header column) → IsUndoWord words (place_of words (dictionary_header column) code) → ⊥
  no_key column code is lt =
      let w = place_of words (dictionary_header column) code in
      let behind = chunk_behind words fits (dictionary_header column) (chunk_of code) w (in_chunk words fits (dictionary_header column) code (dictionary_is words column is) lt) in
      other_apart w (array_other column 24 code w is (inr refl) (dictionary_is words column is) lt refl) (λ object less at. omega (arith, behind, at, less))

  pub undo_may_change : MayChange words (IsUndoWord words)
  undo_may_change = record {
    read = is_read;
    no_place = λ w place. other_apart w (other w place) (state_place w place);
    no_slot = no_slot;
    no_key = no_key;
  }

  pub version_apart : IsUndoWord words version_at → ⊥
  version_apart = other_apart version_at (low_other version_at (omega arith)) (λ object lt e. omega (arith, e))

  module _ (new : List ℕ) (each : (w : ℕ) → (get_or new w 0 ≡ get_or words w 0) ⊎ IsUndoWord words w) where
    kept : (w : ℕ) → (IsUndoWord words w → ⊥) → get_or new w 0 ≡ get_or words w 0
    kept w none = ⊎_elim (λ e. e) (λ hit. absurd (none hit)) (each w)

    inner_kept : (table : ℕ) → table < table_count words → inner_columns new (table_block words table) ≡ inner_columns words (table_block words table)
    unfolding inner_columns
    inner_kept table lt =
        let block = table_block words table in
        let says : ℕ → ℕ → ℕ → ℕ = λ version count inner. cond (eqb version 1) count inner in
        ap (λ (version : ℕ). says version (column_count new block) (get_or new (inner_columns_at block) 0)) (kept version_at version_apart)
        ∙ ap (λ (count : ℕ). says (get_or words version_at 0) count (get_or new (inner_columns_at block) 0))
        (subst (λ (w : ℕ). get_or new w 0 ≡ get_or words w 0) (add_zero block) (kept (block + 0) (block_apart table 0 lt (omega arith) (λ e. omega (arith, e)))))
        ∙ ap (says (get_or words version_at 0) (column_count words block)) (kept (block + 6) (block_apart table 6 lt (omega arith) (λ e. omega (arith, e))))
      where
        add_zero : (n : ℕ) → n + 0 ≡ n
        add_zero n = omega arith

    -- where only they change, as many columns stand in each block, and the version is the same
    pub undo_only : length new ≡ length words → ChangesOnly (IsUndoWord words) words new
    undo_only size = record { size = size; each = each; inner = inner_kept; version = same_version (kept version_at version_apart) }
