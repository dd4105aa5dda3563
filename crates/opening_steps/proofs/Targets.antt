-- The words into which a lane may be allocating are unfinished slots, or say where structures stand; so they stay such words.
use Rattle.std.proofs.Common.{◌≡◌, ◌⊎◌, inl, inr, ⊎_elim, ℕ, ◌+◌, ◌<◌, false, ltb, List, [], ◌∷◌, ◌++◌, map, sym, ◌∙◌, ap, subst, arith}
use Rattle.std.specs.Prelude.{Contains}
use Rattle.std.specs.List.{flat_map}
use Rattle.std.proofs.lemmas.Bool.{cases_Bool, cond-false, cond-true, lt-ltb, ltb-true}
use Rattle.std.proofs.lemmas.List.Elements.{Contains-append_cases, Contains-append_left, Contains-append_right}
use Rattle.image_layout.specs.Arrays.{chunk_count, chunk_pointer_at}
use Rattle.image_layout.specs.Objects.{pointer_after, ready_count, segment_pointer_at}
use Rattle.image_layout.specs.Owners.{lane_targets, next_chunk_pointers, next_extension_pointers, unfinished_slots}
use Rattle.image_layout.specs.Places.{below}
use Rattle.image_layout.specs.Records.{new_leaf_at}
use Rattle.image_layout.specs.Tables.{all_columns, array_headers, extension_count, extension_pointer_at, is_first_version, last_extension_pointer, table_block, table_blocks, table_count}
use Rattle.image_layout.proofs.Members.{below-Contains, Contains-below, Contains-cons, Contains-flat_map, Contains-here, Contains-map, Contains-nil, flat_map-Contains, map-Contains}
use Rattle.opening_steps.proofs.Objects.{pointer_same, ready_same}
use Rattle.opening_steps.proofs.Structure.{IsPlace, of_column, of_extension, of_header, of_segment, SamePlaces}
use Rattle.opening_steps.proofs.Tables.{all_columns_same, block_same, chunks_same, count_same, extension_count_same, extension_pointer_same, headers_same}
use Rattle.opening_steps.proofs.Versions.{raised, same_version, second_is, VersionGoesOn, version_is}

-- by what the word is
data IsTarget (words : List ℕ) (at : ℕ) : Type 0 where
  a_slot : Contains (unfinished_slots words) at → IsTarget words at
  a_chunk : (table header : ℕ) → table < table_count words → Contains (array_headers words (table_block words table)) header → chunk_count words header < 12 → at ≡ chunk_pointer_at header (chunk_count words header) → IsTarget words at
  a_leaf : (column : ℕ) → Contains (all_columns words) column → at ≡ new_leaf_at column → IsTarget words at
  a_segment : (object : ℕ) → object < 16 → at ≡ pointer_after words object → IsTarget words at
  an_extension : (table : ℕ) → table < table_count words → is_first_version words ≡ false → at ≡ last_extension_pointer words (table_block words table) → IsTarget words at

module _ (words : List ℕ) where
  abbrev pointers : List ℕ
  pointers = flat_map (λ table. flat_map (next_chunk_pointers words) (array_headers words (table_block words table))) (below (table_count words))

  abbrev extensions : List ℕ
  extensions = flat_map (λ table. next_extension_pointers words (table_block words table)) (below (table_count words))

  abbrev leaves : List ℕ
  leaves = map new_leaf_at (all_columns words)

  abbrev segments : List ℕ
  segments = map (pointer_after words) (below 16)

  target_is : (at : ℕ) → Contains (lane_targets words) at → IsTarget words at
  target_is at is =
      let slots = unfinished_slots words in
      ⊎_elim
      (λ most. ⊎_elim
      (λ early. ⊎_elim
      (λ first. ⊎_elim
      (λ slot. a_slot slot)
      (λ pointer.
      let (table, published, here) = Contains-flat_map (λ t. flat_map (next_chunk_pointers words) (array_headers words (table_block words t))) (below (table_count words)) at pointer in
      let (header, among, last) = Contains-flat_map (next_chunk_pointers words) (array_headers words (table_block words table)) at here in
      ⊎_elim
      (λ hit.
      let one : Contains (chunk_pointer_at header (chunk_count words header) ∷ []) at = subst (λ (xs : List ℕ). Contains xs at) (cond-true (ltb (chunk_count words header) 12) (chunk_pointer_at header (chunk_count words header) ∷ []) [] hit) last in
      ⊎_elim (λ same. a_chunk table header (Contains-below (table_count words) table published) among (ltb-true (chunk_count words header) 12 hit) (sym same)) (λ none. absurd (Contains-nil at none))
      (Contains-cons (chunk_pointer_at header (chunk_count words header)) at [] one))
      (λ miss. absurd (Contains-nil at (subst (λ (xs : List ℕ). Contains xs at) (cond-false (ltb (chunk_count words header) 12) (chunk_pointer_at header (chunk_count words header) ∷ []) [] miss) last)))
      (cases_Bool (ltb (chunk_count words header) 12)))
      (Contains-append_cases slots pointers at first))
      (λ leaf. let (column, among, here) = Contains-map new_leaf_at (all_columns words) at leaf in a_leaf column among (sym here))
      (Contains-append_cases (slots ++ pointers) leaves at early))
      (λ segment. let (object, among, here) = Contains-map (pointer_after words) (below 16) at segment in a_segment object (Contains-below 16 object among) (sym here))
      (Contains-append_cases (slots ++ pointers ++ leaves) segments at most))
      (λ extension.
      let (table, published, here) = Contains-flat_map (λ t. next_extension_pointers words (table_block words t)) (below (table_count words)) at extension in
      let last = last_extension_pointer words (table_block words table) in
      ⊎_elim
      (λ first. absurd (Contains-nil at (subst (λ (xs : List ℕ). Contains xs at) (cond-true (is_first_version words) [] (last ∷ []) first) here)))
      (λ second. ⊎_elim (λ same. an_extension table (Contains-below (table_count words) table published) second (sym same)) (λ none. absurd (Contains-nil at none))
      (Contains-cons last at [] (subst (λ (xs : List ℕ). Contains xs at) (cond-false (is_first_version words) [] (last ∷ []) second) here)))
      (cases_Bool (is_first_version words)))
      (Contains-append_cases (slots ++ pointers ++ leaves ++ segments) extensions at is)

  target_from : (at : ℕ) → IsTarget words at → Contains (lane_targets words) at
  target_from at (a_slot slot) = Contains-append_left (unfinished_slots words ++ pointers ++ leaves ++ segments) extensions at (Contains-append_left (unfinished_slots words ++ pointers ++ leaves) segments at
      (Contains-append_left (unfinished_slots words ++ pointers) leaves at (Contains-append_left (unfinished_slots words) pointers at slot)))
  target_from at (a_chunk table header lt among few same) = Contains-append_left (unfinished_slots words ++ pointers ++ leaves ++ segments) extensions at (Contains-append_left (unfinished_slots words ++ pointers ++ leaves) segments at
      (Contains-append_left (unfinished_slots words ++ pointers) leaves at (Contains-append_right (unfinished_slots words) pointers at
      (flat_map-Contains (λ t. flat_map (next_chunk_pointers words) (array_headers words (table_block words t))) (below (table_count words)) table at (below-Contains (table_count words) table lt)
      (flat_map-Contains (next_chunk_pointers words) (array_headers words (table_block words table)) header at among
      (subst (λ (xs : List ℕ). Contains xs at) (sym (cond-true (ltb (chunk_count words header) 12) (chunk_pointer_at header (chunk_count words header) ∷ []) [] (lt-ltb (chunk_count words header) 12 few)))
      (subst (λ (place : ℕ). Contains (chunk_pointer_at header (chunk_count words header) ∷ []) place) (sym same) (Contains-here (chunk_pointer_at header (chunk_count words header)) []))))))))
  target_from at (a_leaf column among same) = Contains-append_left (unfinished_slots words ++ pointers ++ leaves ++ segments) extensions at (Contains-append_left (unfinished_slots words ++ pointers ++ leaves) segments at
      (Contains-append_right (unfinished_slots words ++ pointers) leaves at (subst (Contains leaves) (sym same) (map-Contains new_leaf_at (all_columns words) column among))))
  target_from at (a_segment object lt same) = Contains-append_left (unfinished_slots words ++ pointers ++ leaves ++ segments) extensions at
      (Contains-append_right (unfinished_slots words ++ pointers ++ leaves) segments at (subst (Contains segments) (sym same) (map-Contains (pointer_after words) (below 16) object (below-Contains 16 object lt))))
  target_from at (an_extension table lt second same) = Contains-append_right (unfinished_slots words ++ pointers ++ leaves ++ segments) extensions at
      (flat_map-Contains (λ t. next_extension_pointers words (table_block words t)) (below (table_count words)) table at (below-Contains (table_count words) table lt)
      (subst (λ (xs : List ℕ). Contains xs at) (sym (cond-false (is_first_version words) [] (last_extension_pointer words (table_block words table) ∷ []) second))
      (subst (λ (place : ℕ). Contains (last_extension_pointer words (table_block words table) ∷ []) place) (sym same) (Contains-here (last_extension_pointer words (table_block words table)) []))))

-- it is an unfinished slot, or says where a structure stands
pub target_place : (words : List ℕ) (at : ℕ) → Contains (lane_targets words) at → Contains (unfinished_slots words) at ⊎ IsPlace words at
target_place words at is = place (target_is words at is)
  where
    place : IsTarget words at → Contains (unfinished_slots words) at ⊎ IsPlace words at
    place (a_slot slot) = inl slot
    place (a_chunk table header lt among few same) = inr (of_header table header (1 + chunk_count words header) lt among (omega (arith, few)) (omega (arith, same)))
    place (a_leaf column among same) = inr (of_column column 6 among (omega arith) same)
    place (a_segment object lt same) = inr (of_segment object (ready_count words object) lt (omega arith) same)
    place (an_extension table lt second same) = inr (of_extension table (extension_count words (table_block words table)) lt (omega arith) same)

module _ (old new : List ℕ) (same : SamePlaces old new) (version : VersionGoesOn old new) (slots : unfinished_slots new ≡ unfinished_slots old) where
  second_still : VersionGoesOn old new → is_first_version old ≡ false → is_first_version new ≡ false
  second_still (same_version is) second = version_is old new is ∙ second
  second_still (raised one two) second = second_is new two

  block_among : (table : ℕ) → table < table_count old → Contains (table_blocks old) (table_block old table)
  block_among table lt = map-Contains (table_block old) (below (table_count old)) table (below-Contains (table_count old) table lt)

  still_target : (at : ℕ) → IsTarget old at → IsTarget new at
  still_target at (a_slot slot) = a_slot (subst (λ (xs : List ℕ). Contains xs at) (sym slots) slot)
  still_target at (a_chunk table header lt among few is) =
      let count = count_same old new same in
      let headers : array_headers new (table_block new table) ≡ array_headers old (table_block old table) = ap (array_headers new) (block_same old new same table lt) ∙ headers_same old new same (table_block old table) (block_among table lt) in
      let chunks = chunks_same old new same header (record { table = table; published = lt; among = among }) in
      a_chunk table header (omega (arith, lt, count)) (subst (λ (xs : List ℕ). Contains xs header) (sym headers) among) (omega (arith, few, chunks)) (is ∙ ap (chunk_pointer_at header) (sym chunks))
  still_target at (a_leaf column among is) = a_leaf column (subst (λ (xs : List ℕ). Contains xs column) (sym (all_columns_same old new same)) among) is
  still_target at (a_segment object lt is) =
      a_segment object lt (is ∙ sym (ap (segment_pointer_at new object) (ready_same old new same object lt) ∙ pointer_same old new same object lt (ready_count old object) (omega arith)))
  still_target at (an_extension table lt second is) =
      let count = count_same old new same in
      let block = table_block old table in
      an_extension table (omega (arith, lt, count)) (second_still version second)
      (is ∙ sym (ap (last_extension_pointer new) (block_same old new same table lt) ∙ ap (extension_pointer_at new block) (extension_count_same old new same table lt) ∙ extension_pointer_same old new same table (extension_count old block) lt (omega arith)))

  pub targets_kept : (at : ℕ) → Contains (lane_targets old) at → Contains (lane_targets new) at
  targets_kept at is = target_from new at (still_target at (target_is old at is))
