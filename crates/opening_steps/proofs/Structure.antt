-- The words that say where the structures of an image stand and what they own: all that structures read, but for the words of
-- transactions, which are the last number, the states, commit words and entries of objects, the bounds of tables, and stamps,
-- and for those by which an image is of version 2, which are the version and how many columns stand in each table's block.
use Rattle.std.proofs.Common.{◌≡◌, ◌≢◌, ◌⊎◌, inl, inr, ℕ, ◌+◌, ◌<◌, ◌≤◌, true, List, length, get_or, refl, arith}
use Rattle.std.specs.Prelude.{Contains}
use Rattle.image_layout.specs.Fixed.{last_at, ready_at, table_slot_at, version_at}
use Rattle.image_layout.specs.Places.{place_in}
use Rattle.image_layout.specs.Records.{code_at, codes_header, dictionary_header, fingerprint_at, key_at}
use Rattle.image_layout.specs.Arrays.{capacity, place_of}
use Rattle.image_layout.specs.Tables.{table_count, table_block, all_columns, array_headers, extension_count, extension_pointer_at, inner_columns, is_text}
use Rattle.image_layout.specs.Objects.{ready_count, segment_pointer_at}
use Rattle.image_layout.specs.Trees.{leaf_list, leaf_slots, dictionary_length, text_length, text_words, dictionary_word}
use Rattle.shown_state.specs.Reads.{SamePrints, SameTree}
use Rattle.shown_state.proofs.SameLeaves.{slot_under}

pub data IsPlace (words : List ℕ) (w : ℕ) : Type 0 where
  of_head : 512 ≤ w → w < 516 → w ≢ version_at → w ≢ last_at → IsPlace words w
  of_slot : (table : ℕ) → table < table_count words → w ≡ table_slot_at table → IsPlace words w
  of_ready : (object : ℕ) → object < 16 → w ≡ ready_at object → IsPlace words w
  of_segment : (object segment : ℕ) → object < 16 → segment ≤ ready_count words object → w ≡ segment_pointer_at words object segment → IsPlace words w
  of_table : (table word : ℕ) → table < table_count words → word < 6 → word ≢ 1 → w ≡ table_block words table + word → IsPlace words w
  of_column : (column word : ℕ) → Contains (all_columns words) column → word < 8 → w ≡ column + word → IsPlace words w
  of_extension : (table extension : ℕ) → table < table_count words → extension ≤ extension_count words (table_block words table)
      → w ≡ extension_pointer_at words (table_block words table) extension → IsPlace words w
  of_header : (table header word : ℕ) → table < table_count words → Contains (array_headers words (table_block words table)) header → word < 13 → w ≡ header + word → IsPlace words w
  of_codes : (column row : ℕ) → Contains (all_columns words) column → row < capacity words (codes_header column) → w ≡ place_of words (codes_header column) row → IsPlace words w
  of_dictionary : (column code : ℕ) → Contains (all_columns words) column → code < dictionary_length words column → code < capacity words (dictionary_header column) → w ≡ place_of words (dictionary_header column) code → IsPlace words w
  of_text : (column code : ℕ) → Contains (all_columns words) column → is_text words column ≡ true → code < dictionary_length words column
      → place_in (dictionary_word words column code) ≤ w → w < place_in (dictionary_word words column code) + text_words (text_length words (place_in (dictionary_word words column code))) → IsPlace words w
  of_leaf : (column leaf : ℕ) → Contains (all_columns words) column → Contains (leaf_list words column) leaf → leaf ≤ w → w < leaf + 8 → IsPlace words w
  of_pair : (column leaf slot : ℕ) → Contains (all_columns words) column → Contains (leaf_list words column) leaf → Contains (leaf_slots words leaf) slot → (w ≡ key_at leaf slot) ⊎ (w ≡ code_at leaf slot) → IsPlace words w

-- they are the same in both images, and as many columns stand in each table's block
pub record SamePlaces (old new : List ℕ) : Type 0 where
  pub size : length new ≡ length old
  pub each : (w : ℕ) → IsPlace old w → get_or new w 0 ≡ get_or old w 0
  pub inner : (table : ℕ) → table < table_count old → inner_columns new (table_block old table) ≡ inner_columns old (table_block old table)

pub same_tree : (old new : List ℕ) → SamePlaces old new → (column : ℕ) → Contains (all_columns old) column → SameTree old new column
same_tree old new same column is = record {
  size = same.size;
  first = same.each (column + 4) (of_column column 4 is (omega arith) refl);
  split = same.each (column + 5) (of_column column 5 is (omega arith) refl);
  fresh = same.each (column + 6) (of_column column 6 is (omega arith) refl);
  bitmaps = λ leaf listed. same.each leaf (of_leaf column leaf is listed (omega arith) (omega arith));
  nexts = λ leaf listed. same.each (leaf + 1) (of_leaf column leaf is listed (omega arith) (omega arith));
  keys = λ leaf slot listed used. same.each (key_at leaf slot) (of_pair column leaf slot is listed used (inl refl));
  codes = λ leaf slot listed used. same.each (code_at leaf slot) (of_pair column leaf slot is listed used (inr refl));
}

pub same_prints : (old new : List ℕ) → SamePlaces old new → SamePrints old new
same_prints old new same column leaf slot is listed used =
    let few = slot_under old leaf slot used in
    same.each (fingerprint_at leaf slot) (of_leaf column leaf is listed (omega arith) (omega (arith, few)))
