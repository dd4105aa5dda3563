-- What the rules of the table count and of table slots say of a published table's pointer, and of its extensions.
use Rattle.std.proofs.Common.{◌≡◌, ◌≢◌, ℕ, ◌+◌, ◌%◌, ◌<◌, ◌≤◌, true, false, ◌&&◌, eqb, ltb, leb, List, [], ◌∷◌, ◌++◌, length, get_or, map, sym, ◌∙◌, subst, arith}
use Rattle.std.specs.Prelude.{Contains}
use Rattle.std.proofs.lemmas.Bool.{and_parts, eqb-true, ltb-true, leb-true, lt-ltb, cond-true, cond-false}
use Rattle.std.proofs.lemmas.List.Elements.{All-contains, Contains-append_left, Contains-append_right}
use Rattle.image_layout.specs.Fixed.{table_slot_at}
use Rattle.image_layout.specs.Pointer.{pointer_word}
use Rattle.image_layout.specs.Places.{below, place_in, is_pointer, is_pointer_to, is_null_or_pointer_to, is_in_segment}
use Rattle.image_layout.specs.Records.{extension_words, table_words}
use Rattle.image_layout.specs.Tables.{table_count, table_block, column_count, extension_count, extension_pointer_at, inner_columns, is_first_version, last_extension_pointer}
use Rattle.image_layout.specs.Checks.{Check, check, Keeps}
use Rattle.image_layout.specs.EntryRules.{extension_checks, extension_pointer_check, is_extension_pointer, is_table_slot, is_table_pointer, last_pointer_check, table_slot_checks, table_slot_rule, table_count_rule}
use Rattle.image_layout.proofs.Heap.{Holds}
use Rattle.image_layout.proofs.Members.{below-Contains, Contains-here, Contains-there, flat_map-Contains, map-Contains}

fits : (place count size : ℕ) → size % 32768 ≡ 0 → place < size → place % 32768 + count ≤ 32768 → place + count ≤ size
fits place count size whole inside within = omega arith

-- the word names a table's block, which lies in one segment; the table has 1 to 16 columns, the first of them in the block
pub record PointsToTable (words : List ℕ) (word : ℕ) : Type 0 where
  pub some : word ≢ 0
  pub pointer : is_pointer words word ≡ true
  pub least : 1 ≤ inner_columns words (place_in word)
  pub inner : inner_columns words (place_in word) ≤ column_count words (place_in word)
  pub most : column_count words (place_in word) ≤ 16
  pub in_segment : place_in word % 32768 + table_words (inner_columns words (place_in word)) ≤ 32768

-- the word names an extension, which lies in one segment
pub record PointsToExtension (words : List ℕ) (word : ℕ) : Type 0 where
  pub some : word ≢ 0
  pub pointer : is_pointer words word ≡ true
  pub in_segment : place_in word % 32768 + 48 ≤ 32768

pub pointer_some : (words : List ℕ) (word : ℕ) → is_pointer words word ≡ true → word ≢ 0
pointer_some words word is = nonnull (and_parts (eqb word (pointer_word (place_in word))) _ is).0
  where
    nonnull : eqb word (pointer_word (place_in word)) ≡ true → word ≢ 0
    nonnull same none = let at = eqb-true word (pointer_word (place_in word)) same in omega (arith, at, none)

pub few_tables : (words : List ℕ) → Keeps words table_count_rule → table_count words ≤ 32
few_tables words keeps = leb-true (table_count words) 32 (All-contains Holds (table_count_rule words) (check 515 (leb (table_count words) 32)) keeps.checks (Contains-here (check 515 (leb (table_count words) 32)) []))

module _ (words : List ℕ) where
  slot_holds : Keeps words table_slot_rule → (table : ℕ) → table < 32 → is_table_slot words table ≡ true
  unfolding table_slot_rule
  slot_holds keeps table lt = All-contains Holds (table_slot_rule words) (check (table_slot_at table) (is_table_slot words table)) keeps.checks
      (flat_map-Contains (table_slot_checks words) (below 32) table (check (table_slot_at table) (is_table_slot words table)) (below-Contains 32 table lt)
      (Contains-here (check (table_slot_at table) (is_table_slot words table)) _))

  -- a check of the extensions of a published table, in version 2
  extension_holds : Keeps words table_slot_rule → (table : ℕ) → table < 32 → table < table_count words → is_first_version words ≡ false → (c : Check)
      → Contains (map (extension_pointer_check words (table_block words table)) (below (extension_count words (table_block words table))) ++ last_pointer_check words (table_block words table) ∷ []) c
      → Holds c
  unfolding table_slot_rule extension_checks
  extension_holds keeps table lt published second c is =
      let block = table_block words table in
      let made : List Check = map (extension_pointer_check words block) (below (extension_count words block)) ++ last_pointer_check words block ∷ [] in
      let here : Contains (extension_checks words block) c = subst (λ (cs : List Check). Contains cs c) (sym (cond-false (is_first_version words) [] made second)) is in
      let behind = subst (λ (cs : List Check). Contains cs c) (sym (cond-true (ltb table (table_count words)) (extension_checks words block) [] (lt-ltb table (table_count words) published))) here in
      All-contains Holds (table_slot_rule words) c keeps.checks
      (flat_map-Contains (table_slot_checks words) (below 32) table c (below-Contains 32 table lt) (Contains-there (check (table_slot_at table) (is_table_slot words table)) c _ behind))

  extension_parts : (word : ℕ) → is_pointer_to words extension_words word ≡ true → PointsToExtension words word
  extension_parts word pointed =
      let parts = and_parts (is_pointer words word) (is_in_segment (place_in word) extension_words) pointed in
      record { some = pointer_some words word parts.0; pointer = parts.0; in_segment = leb-true _ 32768 parts.1 }

  -- the extension of a published column
  pub one_extension : Keeps words table_count_rule → Keeps words table_slot_rule → (table extension : ℕ) → table < table_count words → is_first_version words ≡ false
      → extension < extension_count words (table_block words table)
      → PointsToExtension words (get_or words (extension_pointer_at words (table_block words table) extension) 0)
  one_extension counted slots table extension published second lt =
      let few = few_tables words counted in
      let block = table_block words table in
      let made = map (extension_pointer_check words block) (below (extension_count words block)) in
      let is : is_extension_pointer words block extension ≡ true = extension_holds slots table (omega (arith, published, few)) published second (extension_pointer_check words block extension)
      (Contains-append_left made (last_pointer_check words block ∷ []) (extension_pointer_check words block extension)
      (map-Contains (extension_pointer_check words block) (below (extension_count words block)) extension (below-Contains (extension_count words block) extension lt))) in
      extension_parts (get_or words (extension_pointer_at words block extension) 0)
      (and_parts (is_pointer_to words extension_words (get_or words (extension_pointer_at words block extension) 0)) _ is).0

  -- the pointer after them is null or names one
  pub last_pointer : Keeps words table_count_rule → Keeps words table_slot_rule → (table : ℕ) → table < table_count words → is_first_version words ≡ false
      → is_null_or_pointer_to words extension_words (get_or words (last_extension_pointer words (table_block words table)) 0) ≡ true
  last_pointer counted slots table published second =
      let few = few_tables words counted in
      let block = table_block words table in
      extension_holds slots table (omega (arith, published, few)) published second (last_pointer_check words block)
      (Contains-append_right (map (extension_pointer_check words block) (below (extension_count words block))) (last_pointer_check words block ∷ []) (last_pointer_check words block)
      (Contains-here (last_pointer_check words block) []))

  pub slot_pointer : Keeps words table_slot_rule → (table : ℕ) → table < 32 → table < table_count words → is_table_pointer words (get_or words (table_slot_at table) 0) ≡ true
  slot_pointer keeps table lt published =
      sym (cond-true (ltb table (table_count words)) (is_table_pointer words (get_or words (table_slot_at table) 0)) _ (lt-ltb table (table_count words) published)) ∙ slot_holds keeps table lt

  pub pointer_parts : (word : ℕ) → is_table_pointer words word ≡ true → PointsToTable words word
  pointer_parts word pointed =
      let columns : ℕ = column_count words (place_in word) in
      let inner : ℕ = inner_columns words (place_in word) in
      let all = and_parts (is_pointer words word && leb 1 inner && leb inner columns && leb columns 16) (is_in_segment (place_in word) (table_words inner)) pointed in
      let four = and_parts (is_pointer words word && leb 1 inner && leb inner columns) (leb columns 16) all.0 in
      let three = and_parts (is_pointer words word && leb 1 inner) (leb inner columns) four.0 in
      let two = and_parts (is_pointer words word) (leb 1 inner) three.0 in
      record {
        some = pointer_some words word two.0;
        pointer = two.0;
        least = leb-true 1 inner two.1;
        inner = leb-true inner columns three.1;
        most = leb-true columns 16 four.1;
        in_segment = leb-true _ 32768 all.1;
      }

  pub one_table : (table : ℕ) → Keeps words table_count_rule → Keeps words table_slot_rule → table < table_count words → PointsToTable words (get_or words (table_slot_at table) 0)
  one_table table counted slots lt = let few = few_tables words counted in pointer_parts (get_or words (table_slot_at table) 0) (slot_pointer slots table (omega (arith, lt, few)) lt)

  -- the block's words stand in the image
  pub table_in_image : (word : ℕ) → length words % 32768 ≡ 0 → PointsToTable words word → place_in word + table_words (inner_columns words (place_in word)) ≤ length words
  table_in_image word whole points = fits (place_in word) (table_words (inner_columns words (place_in word))) (length words) whole (ltb-true (place_in word) (length words) (and_parts _ (ltb (place_in word) (length words)) points.pointer).1) points.in_segment

  -- and those of an extension
  pub extension_in_image : (word : ℕ) → length words % 32768 ≡ 0 → PointsToExtension words word → place_in word + 48 ≤ length words
  extension_in_image word whole points = fits (place_in word) 48 (length words) whole (ltb-true (place_in word) (length words) (and_parts _ (ltb (place_in word) (length words)) points.pointer).1) points.in_segment
