-- The version, and the words that say how many columns stand in a table's block: no other structure has one of them.
use Rattle.std.proofs.Common.{◌≡◌, ◌≢◌, ⊎_elim, ℕ, zero, suc, ◌+◌, ◌<◌, ◌≤◌, List, refl, sym, subst, arith}
use Rattle.std.specs.Prelude.{Contains}
use Rattle.image_layout.specs.Fixed.{version_at}
use Rattle.image_layout.specs.Records.{codes_header, dictionary_header, inner_columns_at}
use Rattle.image_layout.specs.Arrays.{capacity, chunk_of, place_of}
use Rattle.image_layout.specs.Tables.{all_columns, extension_count, extension_pointer_at, table_block, table_count}
use Rattle.image_layout.specs.Trees.{leaf_list}
use Rattle.image_layout.proofs.TableParts.{column_of}
use Rattle.image_layout.proofs.TableSlots.{few_tables}
use Rattle.shown_state.specs.Fits.{Fits}
use Rattle.shown_state.specs.Reads.{in_head, in_table, IsRead}
use Rattle.shown_state.proofs.LeavesApart.{listed_behind, table_or_listed}
use Rattle.shown_state.proofs.SameLeaves.{slot_under}
use Rattle.shown_state.proofs.SameTables.{IsHeader, codes_is, dictionary_is}
use Rattle.shown_state.proofs.ValuesApart.{at_behind, at_once, chunk_behind, column_spot, extension_or_part, extension_pointer_behind, first_word, header_spot, in_chunk, in_head as in_block_head, in_last, IsAt, IsInChunk, IsInSegment, IsInText, IsPointerIn, pointer_in, segment_behind, table_or_chunk, table_or_segment, table_or_text, text_behind, word_spot}
use Rattle.opening_steps.proofs.Beside.{KeepsStamps, MayChange}
use Rattle.opening_steps.proofs.ObjectWords.{block_apart, IsObjectWord, version_apart}
use Rattle.opening_steps.proofs.Structure.{IsPlace, of_codes, of_column, of_dictionary, of_extension, of_head, of_header, of_leaf, of_pair, of_ready, of_segment, of_slot, of_table, of_text}

pub data IsVersionWord (words : List ℕ) (w : ℕ) : Type 0 where
  the_version : w ≡ version_at → IsVersionWord words w
  of_count : (table : ℕ) → table < table_count words → w ≡ inner_columns_at (table_block words table) → IsVersionWord words w

module _ (words : List ℕ) (fits : Fits words) where
  -- none of these words
  record IsOther (w : ℕ) : Type 0 where
    pub no_version : w ≢ version_at
    pub no_count : (table : ℕ) → table < table_count words → w ≢ inner_columns_at (table_block words table)

  pub count_spot : (table w : ℕ) → table < table_count words → w ≡ inner_columns_at (table_block words table) → IsAt words fits table 0 6 w
  count_spot table w published at = record { published = published; within = omega arith; few = omega arith; at = at }

  low_other : (w : ℕ) → w < 2048 → w ≢ version_at → IsOther w
  low_other w low apart = record {
    no_version = apart;
    no_count = λ table published at. let behind = at_behind words fits table 0 6 w (count_spot table w published at) in omega (arith, behind, low);
  }

  -- a word behind the fixed pages
  behind_other : (w : ℕ) → 2048 ≤ w → ((table : ℕ) → IsAt words fits table 0 6 w → ⊥) → IsOther w
  behind_other w behind none = record { no_version = λ e. omega (arith, e, behind); no_count = λ table published at. none table (count_spot table w published at) }

  table_other : (table part offset w : ℕ) → IsAt words fits table part offset w → (part ≡ 0 → offset ≢ 6) → IsOther w
  table_other table part offset w spot apart = behind_other w (at_behind words fits table part offset w spot) (λ other count.
      let agree = at_once words fits table part offset other 0 6 w spot count in
      apart agree.1 agree.2)

  chunk_other : (header index w : ℕ) → IsHeader words header → index < capacity words header → w ≡ place_of words header index → IsOther w
  chunk_other header index w is lt at =
      let within = subst (IsInChunk words fits header (chunk_of index)) (sym at) (in_chunk words fits header index is lt) in
      behind_other w (chunk_behind words fits header (chunk_of index) w within) (λ table count. table_or_chunk words fits table 0 6 header (chunk_of index) w count within)

  leaf_other : (column leaf w : ℕ) → Contains (all_columns words) column → Contains (leaf_list words column) leaf → leaf ≤ w → w < leaf + 104 → IsOther w
  leaf_other column leaf w is listed low high =
      let behind = listed_behind words fits column leaf is listed in
      behind_other w (omega (arith, behind, low)) (λ table count. table_or_listed words fits column leaf table 0 6 w is listed count low high)

  pointer_other : (table extension w : ℕ) → table < table_count words → extension ≤ extension_count words (table_block words table) → w ≡ extension_pointer_at words (table_block words table) extension → IsOther w
  pointer_other table extension w published le at = by (pointer_in words fits table extension w published le at)
    where
      by : IsPointerIn words fits table extension w → IsOther w
      by (in_block_head none head) = table_other table 0 5 w head (λ zero_part e. omega (arith, e))
      by (in_last before more less is) =
          let behind = extension_pointer_behind words fits table extension published le in
          behind_other w (omega (arith, behind, at)) (λ other count. extension_or_part words fits other 0 6 table before w count published less is)

  other : (w : ℕ) → IsPlace words w → IsOther w
  other w (of_head low high version apart) = low_other w (omega (arith, high)) version
  other w (of_slot table lt at) = let few = few_tables words fits.entry.table_count in low_other w (omega (arith, at, lt, few)) (λ e. omega (arith, e, at))
  other w (of_ready object number at) = low_other w (omega (arith, at, number)) (λ e. omega (arith, e, at))
  other w (of_segment object zero number le at) = low_other w (omega (arith, at, number)) (λ e. omega (arith, e, at))
  other w (of_segment object (suc segment) number le at) =
      let first : IsInSegment words fits object segment w = subst (IsInSegment words fits object segment) (sym at) (first_word words fits object segment number (omega (arith, le))) in
      behind_other w (let behind = segment_behind words fits object segment number (omega (arith, le)) in omega (arith, behind, at)) (λ table count.
      table_or_segment words fits table 0 6 object segment w count first)
  other w (of_table table word published few apart at) =
      table_other table 0 word w (record { published = published; within = omega arith; few = omega (arith, few); at = omega (arith, at) }) (λ part e. omega (arith, e, few))
  other w (of_column column word is few at) =
      let c = column_of words column is in table_other c.table (suc c.number) word w (column_spot words fits column word w c (omega (arith, few)) at) (λ part e. omega (arith, part))
  other w (of_extension table extension published le at) = pointer_other table extension w published le at
  other w (of_header table header word published is few at) =
      let (part, base, h) = header_spot words fits header (record { table = table; published = published; among = is }) in
      table_other table part (base + word) w (word_spot words fits header table part base word w h few at) (λ first e. ⊎_elim (λ eight. omega (arith, eight, e)) (λ later. omega (arith, later, e)) h.which)
  other w (of_codes column row is lt at) = chunk_other (codes_header column) row w (codes_is words column is) lt at
  other w (of_dictionary column code is known lt at) = chunk_other (dictionary_header column) code w (dictionary_is words column is) lt at
  other w (of_text column code is text known low high) =
      let t : IsInText words fits column code w = record { is = is; text = text; known = known; low = low; high = high } in
      behind_other w (text_behind words fits column code w t) (λ table count. table_or_text words fits table 0 6 column code w count t)
  other w (of_leaf column leaf is listed low high) = leaf_other column leaf w is listed low (omega (arith, high))
  other w (of_pair column leaf slot is listed used which) =
      let few = slot_under words leaf slot used in
      ⊎_elim (λ key. leaf_other column leaf w is listed (omega (arith, key)) (omega (arith, key, few))) (λ code. leaf_other column leaf w is listed (omega (arith, code)) (omega (arith, code, few))) which

  other_apart : (w : ℕ) → IsOther w → IsVersionWord words w → ⊥
  other_apart w is (the_version at) = is.no_version at
  other_apart w is (of_count table lt at) = is.no_count table lt at

  is_read : (w : ℕ) → IsVersionWord words w → IsRead words w
  is_read w (the_version at) = in_head (omega (arith, at)) (omega (arith, at))
  is_read w (of_count table lt at) = in_table table 6 lt (omega arith) at

  no_slot : (w : ℕ) → IsVersionWord words w → 520 ≤ w → w < 552 → ⊥
  no_slot w (the_version at) low high = omega (arith, at, low)
  no_slot w (of_count table lt at) low high = let behind = at_behind words fits table 0 6 w (count_spot table w lt at) in omega (arith, behind, high)

  pub versions_may_change : MayChange words (IsVersionWord words)
  versions_may_change = record {
    read = is_read;
    no_place = λ w place. other_apart w (other w place);
    no_slot = no_slot;
    no_key = λ column code is lt. let at = place_of words (dictionary_header column) code in other_apart at (chunk_other (dictionary_header column) code at (dictionary_is words column is) lt refl);
  }

  pub versions_keep_stamps : KeepsStamps words (IsVersionWord words)
  versions_keep_stamps = record {
    chunk = λ header index is lt. let at = place_of words header index in other_apart at (chunk_other header index at is lt refl);
    bound = λ table lt. let at = table_block words table + 1 in
        other_apart at (table_other table 0 1 at (record { published = lt; within = omega arith; few = omega arith; at = refl }) (λ part e. omega (arith, e)));
  }

  -- nor is a word of transactions one of them
  pub object_or_version : (w : ℕ) → IsObjectWord words w → IsVersionWord words w → ⊥
  object_or_version w object (the_version at) = version_apart words fits (subst (IsObjectWord words) at object)
  object_or_version w object (of_count table lt at) = block_apart words fits table 6 lt (omega arith) (subst (IsObjectWord words) at object)
