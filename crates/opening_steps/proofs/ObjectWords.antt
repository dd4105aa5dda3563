-- The last number, and the states, commit words and entries of transaction objects: none of them says where a structure stands.
use Rattle.std.proofs.Common.{◌≡◌, ◌≢◌, ◌⊎◌, inl, inr, ⊎_elim, ℕ, zero, suc, ◌+◌, ◌<◌, ◌≤◌, cond, eqb, List, length, get_or, refl, sym, ◌∙◌, ap, subst, arith}
use Rattle.std.specs.Prelude.{Contains}
use Rattle.image_layout.specs.Fixed.{last_at, object_at, version_at}
use Rattle.image_layout.specs.Records.{codes_header, dictionary_header, inner_columns_at}
use Rattle.image_layout.specs.Arrays.{capacity, chunk_of, place_of}
use Rattle.image_layout.specs.Tables.{all_columns, column_count, inner_columns, table_block, table_count}
use Rattle.image_layout.specs.Objects.{ready_count, segment_of, segment_pointer_at}
use Rattle.image_layout.specs.Trees.{leaf_list}
use Rattle.image_layout.specs.Owners.{segment_owner, text_owner}
use Rattle.image_layout.proofs.TableParts.{column_of}
use Rattle.image_layout.proofs.TableSlots.{few_tables}
use Rattle.shown_state.specs.Fits.{Fits}
use Rattle.shown_state.specs.Reads.{in_head, in_object, in_segment, IsRead}
use Rattle.shown_state.proofs.LeavesApart.{listed_behind, segment_or_listed}
use Rattle.shown_state.proofs.SameLeaves.{slot_under}
use Rattle.shown_state.proofs.SameTables.{IsHeader, codes_is, dictionary_is}
use Rattle.shown_state.proofs.ValuesApart.{at_behind, chunk_behind, chunk_or_segment, code_published, column_spot, extension_pointer_behind, first_word, header_spot, in_chunk, IsAt, IsInChunk, IsInSegment, IsInText, no_common, one_home, pointer_or_word, segment_behind, segment_home, table_or_segment, text_behind, text_home, word_spot}
use Rattle.opening_steps.proofs.Beside.{ChangesOnly, KeepsStamps, MayChange}
use Rattle.opening_steps.proofs.Versions.{same_version}
use Rattle.opening_steps.proofs.Structure.{IsPlace, of_codes, of_column, of_dictionary, of_extension, of_head, of_header, of_leaf, of_pair, of_ready, of_segment, of_slot, of_table, of_text}

pub data IsObjectWord (words : List ℕ) (w : ℕ) : Type 0 where
  the_last : w ≡ last_at → IsObjectWord words w
  of_own : (object word : ℕ) → object < 16 → word < 64 → word ≢ 2 → word ≢ 3 → w ≡ object_at object word → IsObjectWord words w
  of_entry : (object segment word : ℕ) → object < 16 → segment < ready_count words object → 0 < word → word < 256 → w ≡ segment_of words object segment + word → IsObjectWord words w

module _ (words : List ℕ) (fits : Fits words) where
  text_or_segment : (column code object segment w : ℕ) → IsInText words fits column code w → IsInSegment words fits object segment w → ⊥
  text_or_segment column code object segment w one two =
      let place = place_of words (dictionary_header column) code in
      apart segment two.ready (one_home words fits (text_owner words place) (segment_owner words object segment) w (text_home words fits column code w one) (segment_home words fits object segment w two))
    where
      within : IsInChunk words fits (dictionary_header column) (chunk_of code) (place_of words (dictionary_header column) code)
      within = in_chunk words fits (dictionary_header column) code (dictionary_is words column one.is) (code_published words fits column code one.is one.known)

      apart : (segment : ℕ) → segment < ready_count words object → place_of words (dictionary_header column) code ≡ segment_pointer_at words object segment → ⊥
      apart zero ready same =
          let behind = chunk_behind words fits (dictionary_header column) (chunk_of code) (place_of words (dictionary_header column) code) within in
          let number = two.number in
          omega (arith, behind, same, number)
      apart (suc before) ready same =
          chunk_or_segment words fits (dictionary_header column) (chunk_of code) object before (place_of words (dictionary_header column) code) within
          (subst (IsInSegment words fits object before) (sym same) (first_word words fits object before two.number (omega (arith, ready))))

  -- a word of a leaf is none of a segment
  leaf_word : (column leaf object segment w : ℕ) → Contains (all_columns words) column → Contains (leaf_list words column) leaf → leaf ≤ w → w < leaf + 104 → IsInSegment words fits object segment w → ⊥
  leaf_word column leaf object segment w is listed low high s = segment_or_listed words fits column leaf object segment w is listed s low high

  -- the first word of a segment is no later word of one
  first_apart : (object segment other before word w : ℕ) → IsInSegment words fits object segment w → w ≡ segment_of words object segment → IsInSegment words fits other before w → 0 < word → w ≡ segment_of words other before + word → ⊥
  first_apart object segment other before word w one at two some there =
      let first = segment_home words fits object segment w one in
      let second = segment_home words fits other before w two in
      no_common words fits (segment_of words object segment) first.size (segment_of words other before) second.size w first.live second.live (λ same. omega (arith, at, same, there, some)) first.low first.high second.low second.high

  -- where a word stands that says where a structure stands
  data IsFar (w : ℕ) : Type 0 where
    in_fixed : w < 2048 → w ≢ last_at → ((object word : ℕ) → object < 16 → word < 64 → word ≢ 2 → word ≢ 3 → w ≢ object_at object word) → IsFar w
    in_block : 2048 ≤ w → ((object segment word : ℕ) → object < 16 → segment < ready_count words object → 0 < word → word < 256 → w ≢ segment_of words object segment + word) → IsFar w

  inside : (object segment word w : ℕ) → object < 16 → segment < ready_count words object → word < 256 → w ≡ segment_of words object segment + word → IsInSegment words fits object segment w
  inside object segment word w number ready few at = record { number = number; ready = ready; low = omega (arith, at); high = omega (arith, at, few) }

  low_far : (w : ℕ) → w < 1024 → w ≢ last_at → IsFar w
  low_far w low apart = in_fixed (omega (arith, low)) apart (λ object word number few two three at. omega (arith, at, low))

  own_far : (object word w : ℕ) → object < 16 → (word ≡ 2) ⊎ (word ≡ 3) → w ≡ object_at object word → IsFar w
  own_far object word w number which at =
      let few : word < 4 = ⊎_elim (λ two. omega (arith, two)) (λ three. omega (arith, three)) which in
      in_fixed (omega (arith, at, number, few)) (λ last. omega (arith, at, last)) (λ other offset less under two three there.
      let same : offset ≡ word = omega (arith, at, there, few, under) in
      ⊎_elim (λ e. two (same ∙ e)) (λ e. three (same ∙ e)) which)

  table_far : (table part offset w : ℕ) → IsAt words fits table part offset w → IsFar w
  table_far table part offset w spot = in_block (at_behind words fits table part offset w spot) (λ object segment word number ready some few at.
      table_or_segment words fits table part offset object segment w spot (inside object segment word w number ready few at))

  chunk_far : (header index w : ℕ) → IsHeader words header → index < capacity words header → w ≡ place_of words header index → IsFar w
  chunk_far header index w is lt at =
      let within = subst (IsInChunk words fits header (chunk_of index)) (sym at) (in_chunk words fits header index is lt) in
      in_block (chunk_behind words fits header (chunk_of index) w within) (λ object segment word number ready some few there.
      chunk_or_segment words fits header (chunk_of index) object segment w within (inside object segment word w number ready few there))

  leaf_far : (column leaf w : ℕ) → Contains (all_columns words) column → Contains (leaf_list words column) leaf → leaf ≤ w → w < leaf + 104 → IsFar w
  leaf_far column leaf w is listed low high =
      let behind = listed_behind words fits column leaf is listed in
      in_block (omega (arith, behind, low)) (λ object segment word number ready some few at. leaf_word column leaf object segment w is listed low high (inside object segment word w number ready few at))

  far : (w : ℕ) → IsPlace words w → IsFar w
  far w (of_head low high version apart) = low_far w (omega (arith, high)) apart
  far w (of_slot table lt at) = let few = few_tables words fits.entry.table_count in low_far w (omega (arith, at, lt, few)) (λ e. omega (arith, e, at))
  far w (of_ready object number at) = own_far object 2 w number (inl refl) at
  far w (of_segment object zero number le at) = own_far object 3 w number (inr refl) at
  far w (of_segment object (suc segment) number le at) =
      let first : IsInSegment words fits object segment w = subst (IsInSegment words fits object segment) (sym at) (first_word words fits object segment number (omega (arith, le))) in
      in_block (let behind = segment_behind words fits object segment number (omega (arith, le)) in omega (arith, behind, at)) (λ other before word less ready some few there.
      first_apart object segment other before word w first at (inside other before word w less ready few there) some there)
  far w (of_table table word published few apart at) = table_far table 0 word w (record { published = published; within = omega arith; few = omega (arith, few); at = omega (arith, at) })
  far w (of_column column word is few at) = let c = column_of words column is in table_far c.table (suc c.number) word w (column_spot words fits column word w c (omega (arith, few)) at)
  far w (of_extension table extension published le at) =
      let behind = extension_pointer_behind words fits table extension published le in
      in_block (omega (arith, behind, at)) (λ object segment word number ready some few there. pointer_or_word words fits table extension object segment w published le at (inside object segment word w number ready few there))
  far w (of_header table header word published is few at) =
      let (part, base, h) = header_spot words fits header (record { table = table; published = published; among = is }) in
      table_far table part (base + word) w (word_spot words fits header table part base word w h few at)
  far w (of_codes column row is lt at) = chunk_far (codes_header column) row w (codes_is words column is) lt at
  far w (of_dictionary column code is known lt at) = chunk_far (dictionary_header column) code w (dictionary_is words column is) lt at
  far w (of_text column code is text known low high) =
      let t : IsInText words fits column code w = record { is = is; text = text; known = known; low = low; high = high } in
      in_block (text_behind words fits column code w t) (λ object segment word number ready some few at. text_or_segment column code object segment w t (inside object segment word w number ready few at))
  far w (of_leaf column leaf is listed low high) = leaf_far column leaf w is listed low (omega (arith, high))
  far w (of_pair column leaf slot is listed used which) =
      let few = slot_under words leaf slot used in
      ⊎_elim (λ key. leaf_far column leaf w is listed (omega (arith, key)) (omega (arith, key, few))) (λ code. leaf_far column leaf w is listed (omega (arith, code)) (omega (arith, code, few))) which

  far_apart : (w : ℕ) → IsFar w → IsObjectWord words w → ⊥
  far_apart w (in_fixed low last own) (the_last at) = last at
  far_apart w (in_fixed low last own) (of_own object word number few two three at) = own object word number few two three at
  far_apart w (in_fixed low last own) (of_entry object segment word number ready some few at) = let behind = segment_behind words fits object segment number ready in omega (arith, behind, at, low)
  far_apart w (in_block behind entry) (the_last at) = omega (arith, behind, at)
  far_apart w (in_block behind entry) (of_own object word number few two three at) = omega (arith, behind, at, number, few)
  far_apart w (in_block behind entry) (of_entry object segment word number ready some few at) = entry object segment word number ready some few at

  -- stamps are none of them, and neither is a table's bound
  pub chunk_apart : (header index : ℕ) → IsHeader words header → index < capacity words header → IsObjectWord words (place_of words header index) → ⊥
  chunk_apart header index is lt = far_apart (place_of words header index) (chunk_far header index (place_of words header index) is lt refl)

  pub block_apart : (table word : ℕ) → table < table_count words → word < 7 → IsObjectWord words (table_block words table + word) → ⊥
  block_apart table word published few =
      far_apart (table_block words table + word) (table_far table 0 word (table_block words table + word) (record { published = published; within = omega arith; few = omega (arith, few); at = omega arith }))

  is_read : (w : ℕ) → IsObjectWord words w → IsRead words w
  is_read w (the_last at) = in_head (omega (arith, at)) (omega (arith, at))
  is_read w (of_own object word number few two three at) = in_object (omega (arith, at)) (omega (arith, at, number, few))
  is_read w (of_entry object segment word number ready some few at) = in_segment object segment number ready (omega (arith, at)) (omega (arith, at, few))

  no_slot : (w : ℕ) → IsObjectWord words w → 520 ≤ w → w < 552 → ⊥
  no_slot w (the_last at) low high = omega (arith, at, low)
  no_slot w (of_own object word number few two three at) low high = omega (arith, at, high)
  no_slot w (of_entry object segment word number ready some few at) low high = let behind = segment_behind words fits object segment number ready in omega (arith, behind, at, high)

  pub objects_may_change : MayChange words (IsObjectWord words)
  objects_may_change = record {
    read = is_read;
    no_place = λ w place. far_apart w (far w place);
    no_slot = no_slot;
    no_key = λ column code is lt. chunk_apart (dictionary_header column) code (dictionary_is words column is) lt;
  }

  -- and the version is none of them
  pub version_apart : IsObjectWord words version_at → ⊥
  version_apart = far_apart version_at (low_far version_at (omega arith) (λ e. omega (arith, e)))

  version_same : (new : List ℕ) → ((w : ℕ) → (get_or new w 0 ≡ get_or words w 0) ⊎ IsObjectWord words w) → get_or new version_at 0 ≡ get_or words version_at 0
  version_same new each = ⊎_elim (λ e. e) (λ hit. absurd (version_apart hit)) (each version_at)

  inner_kept : (new : List ℕ) → ((w : ℕ) → (get_or new w 0 ≡ get_or words w 0) ⊎ IsObjectWord words w) → (table : ℕ) → table < table_count words
      → inner_columns new (table_block words table) ≡ inner_columns words (table_block words table)
  unfolding inner_columns
  inner_kept new each table lt =
      let block = table_block words table in
      let says : ℕ → ℕ → ℕ → ℕ = λ version count inner. cond (eqb version 1) count inner in
      ap (λ (version : ℕ). says version (column_count new block) (get_or new (inner_columns_at block) 0)) (version_same new each)
      ∙ ap (λ (count : ℕ). says (get_or words version_at 0) count (get_or new (inner_columns_at block) 0))
      (subst (λ (w : ℕ). get_or new w 0 ≡ get_or words w 0) (add_zero block) (kept (block + 0) (block_apart table 0 lt (omega arith))))
      ∙ ap (says (get_or words version_at 0) (column_count words block)) (kept (block + 6) (block_apart table 6 lt (omega arith)))
    where
      kept : (w : ℕ) → (IsObjectWord words w → ⊥) → get_or new w 0 ≡ get_or words w 0
      kept w none = ⊎_elim (λ e. e) (λ hit. absurd (none hit)) (each w)

      add_zero : (n : ℕ) → n + 0 ≡ n
      add_zero n = omega arith

  -- where only they change, as many columns stand in each block, and the version is the same
  pub objects_only : (new : List ℕ) → length new ≡ length words → ((w : ℕ) → (get_or new w 0 ≡ get_or words w 0) ⊎ IsObjectWord words w) → ChangesOnly (IsObjectWord words) words new
  objects_only new size each = record { size = size; each = each; inner = inner_kept new each; version = same_version (version_same new each) }

  pub objects_keep_stamps : KeepsStamps words (IsObjectWord words)
  objects_keep_stamps = record { chunk = chunk_apart; bound = λ table lt. block_apart table 1 lt (omega arith) }
