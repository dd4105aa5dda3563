-- Where the words that say where structures stand are the same, owner words are the same.
use Rattle.std.proofs.Common.{◌≡◌, ⊎_elim, ℕ, ◌+◌, ◌<◌, ◌≤◌, min, Bool, true, not, ◌&&◌, cond, eqb, ltb, List, [], ◌∷◌, ◌++◌, length, get_or, map, refl, sym, ◌∙◌, ap, subst, arith}
use Rattle.std.specs.Prelude.{Contains, filter, take}
use Rattle.std.specs.List.{flat_map}
use Rattle.std.proofs.lemmas.Bool.{and_parts, cases_Bool, cond-false, cond-true, eq-eqb, ltb-true}
use Rattle.image_layout.specs.Fixed.{table_slot_at}
use Rattle.image_layout.specs.Places.{below, place_in}
use Rattle.image_layout.specs.Records.{codes_header, created_header, dictionary_header, ended_header, extension_words, first_extension_at, first_leaf_at, new_leaf_at, next_leaf_at, table_words}
use Rattle.image_layout.specs.Arrays.{capacity, chunk_count, chunk_pointer_at, place_of}
use Rattle.image_layout.specs.Tables.{table_count, table_block, table_blocks, columns_of, all_columns, extension_count, extension_pointer_at, inner_columns, is_first_version, is_text}
use Rattle.image_layout.specs.Objects.{ready_count}
use Rattle.image_layout.specs.Trees.{dictionary_length, text_length}
use Rattle.image_layout.specs.Owners.{Owner, names_one, owner_of, chunk_owner, array_owners, link_places, leaf_owner, text_block_words, text_owner, dictionary_slots, text_owners, column_owners, table_owner, extension_owner, extension_owners, block_owners, table_owners, segment_owner, object_owners, owner_words, new_leaf_owners, next_table_slots, next_text_slots, unfinished_slots, firm_owners, owner_places}
use Rattle.image_layout.specs.Checks.{Keeps}
use Rattle.image_layout.specs.EntryRules.{arrays_rule, tree_rule}
use Rattle.image_layout.specs.SoundRules.{code_rule}
use Rattle.image_layout.proofs.Members.{below-Contains, Contains-below, Contains-map, map-Contains}
use Rattle.image_layout.proofs.TableParts.{first_inner}
use Rattle.shown_state.specs.Fits.{BeginFirst, BeginsFirst}
use Rattle.shown_state.specs.Reads.{SameTree}
use Rattle.opening_steps.proofs.Structure.{of_extension, of_header, SamePlaces, same_tree}
use Rattle.shown_state.proofs.Alike.{map_alike, map_below, flat_map_alike, flat_map_below, filter_alike}
use Rattle.shown_state.proofs.SameTables.{IsHeader, created_is, ended_is, codes_is, dictionary_is}
use Rattle.opening_steps.proofs.Tables.{count_same, block_same, block_columns, extension_count_same, extension_pointer_same, inner_same, all_columns_same, text_same, chunks_same, capacity_same, place_same}
use Rattle.opening_steps.proofs.Objects.{ready_same, pointer_same, named_same}
use Rattle.shown_state.proofs.SameLeaves.{stored_same, values_same}
use Rattle.opening_steps.proofs.Keys.{key_length_same}
use Rattle.shown_state.proofs.SameValueRules.{column_among}
use Rattle.opening_steps.proofs.Versions.{VersionGoesOn, first_is, raised, same_version, second_is, version_is}
use Rattle.opening_steps.proofs.TreeRules.{dictionary_slots_same, slot_known}

module _ (old new : List ℕ) (same : SamePlaces old new) (version : VersionGoesOn old new) (plain : BeginFirst old) (arrays : Keeps old arrays_rule) (trees : Keeps old tree_rule) (codes : Keeps old code_rule) where
  abbrev tree : (column : ℕ) → Contains (all_columns old) column → SameTree old new column
  tree = same_tree old new same

  block_among : (table : ℕ) → table < table_count old → Contains (table_blocks old) (table_block old table)
  block_among table lt = map-Contains (table_block old) (below (table_count old)) table (below-Contains (table_count old) table lt)

  -- ── an array ──

  chunk_word : (header chunk : ℕ) → IsHeader old header → chunk < 12 → get_or new (chunk_pointer_at header chunk) 0 ≡ get_or old (chunk_pointer_at header chunk) 0
  chunk_word header chunk is lt =
      subst (λ (w : ℕ). get_or new w 0 ≡ get_or old w 0) (further header chunk) (same.each (header + (1 + chunk)) (of_header is.table header (1 + chunk) is.published is.among (omega (arith, lt)) refl))
    where
      further : (header chunk : ℕ) → header + (1 + chunk) ≡ header + 1 + chunk
      further header chunk = omega arith

  array_owners_same : (header : ℕ) → IsHeader old header → array_owners new header ≡ array_owners old header
  array_owners_same header is =
      let owners : ℕ → List Owner = λ count. map (chunk_owner header) (below (min (count + 1) 12)) in
      filter_alike (names_one new) (names_one old) (owners (chunk_count new header)) (owners (chunk_count old header)) (ap owners (chunks_same old new same header is))
      (λ owner among.
      let few = min (chunk_count old header + 1) 12 in
      let (chunk, counted, here) = Contains-map (chunk_owner header) (below few) owner among in
      let lt = Contains-below few chunk counted in
      subst (λ (o : Owner). names_one new o ≡ names_one old o) here (ap (λ (w : ℕ). not (eqb w 0)) (chunk_word header chunk is (omega (arith, lt)))))

  -- ── a column ──

  module _ (column : ℕ) (is : Contains (all_columns old) column) where
    links_same : link_places new column ≡ link_places old column
    links_same = ap (λ (leaves : List ℕ). take (length leaves) (first_leaf_at column ∷ map next_leaf_at leaves)) (stored_same old new trees column is (tree column is))

    text_owners_same : text_owners new column ≡ text_owners old column
    text_owners_same =
        let owners : List ℕ → List Owner = λ words. map (text_owner words) (dictionary_slots words column) in
        let owner : ℕ → ℕ → Owner = λ at bytes. record { at = at; block_words = text_block_words bytes } in
        ap (λ (b : Bool). cond b (owners new) []) (text_same old new same column is)
        ∙ ⊎_elim
        (λ text. ap (λ (xs : List Owner). cond (is_text old column) xs [])
        (map_alike (text_owner new) (text_owner old) (dictionary_slots new column) (dictionary_slots old column) (dictionary_slots_same old new same tree trees arrays codes column is)
        (λ at among.
        let (word, known) = slot_known old new same tree trees arrays codes column is at among in
        ap (λ (w : ℕ). owner at (text_length new (place_in w))) word ∙ ap (owner at) (key_length_same old new same column is (get_or old at 0) known text))))
        (λ integers. cond-false (is_text old column) (owners new) [] integers ∙ sym (cond-false (is_text old column) (owners old) [] integers))
        (cases_Bool (is_text old column))

    column_owners_same : column_owners new column ≡ column_owners old column
    unfolding column_owners
    column_owners_same =
        let says : List Owner → List Owner → List ℕ → List Owner → List Owner = λ first second links texts. first ++ second ++ map leaf_owner links ++ texts in
        ap (λ (xs : List Owner). says xs (array_owners new (dictionary_header column)) (link_places new column) (text_owners new column)) (array_owners_same (codes_header column) (codes_is old column is))
        ∙ ap (λ (xs : List Owner). says (array_owners old (codes_header column)) xs (link_places new column) (text_owners new column)) (array_owners_same (dictionary_header column) (dictionary_is old column is))
        ∙ ap (λ (xs : List ℕ). says (array_owners old (codes_header column)) (array_owners old (dictionary_header column)) xs (text_owners new column)) links_same
        ∙ ap (says (array_owners old (codes_header column)) (array_owners old (dictionary_header column)) (link_places old column)) text_owners_same

    next_texts_same : next_text_slots new column ≡ next_text_slots old column
    next_texts_same =
        let header = dictionary_header column in
        let count = dictionary_length old column in
        let test = is_text old column && ltb count (capacity old header) in
        ap (λ (b : Bool). cond (b && ltb (dictionary_length new column) (capacity new header)) (place_of new header (dictionary_length new column) ∷ []) []) (text_same old new same column is)
        ∙ ap (λ (n : ℕ). cond (is_text old column && ltb n (capacity new header)) (place_of new header n ∷ []) []) (values_same old new trees column is (tree column is))
        ∙ ap (λ (n : ℕ). cond (is_text old column && ltb count n) (place_of new header count ∷ []) []) (capacity_same old new same header (dictionary_is old column is))
        ∙ ⊎_elim
        (λ hit. ap (λ (place : ℕ). cond test (place ∷ []) [])
        (place_same old new same arrays header count (dictionary_is old column is) (ltb-true count (capacity old header) (and_parts (is_text old column) (ltb count (capacity old header)) hit).1)))
        (λ miss. cond-false test (place_of new header count ∷ []) [] miss ∙ sym (cond-false test (place_of old header count ∷ []) [] miss))
        (cases_Bool test)

  -- ── a table, and an object ──

  module _ (table : ℕ) (published : table < table_count old) where
    -- the word at a pointer to an extension, also at the one after them
    pointer_word_same : (extension : ℕ) → extension ≤ extension_count old (table_block old table) → get_or new (extension_pointer_at new (table_block old table) extension) 0 ≡ get_or old (extension_pointer_at old (table_block old table) extension) 0
    pointer_word_same extension le =
        ap (λ (at : ℕ). get_or new at 0) (extension_pointer_same old new same table extension published le)
        ∙ same.each (extension_pointer_at old (table_block old table) extension) (of_extension table extension published le refl)

    -- the owner words of extensions, which are those of version 2
    abbrev pointer_owners : List ℕ → List Owner
    pointer_owners words = filter (names_one words) (map (extension_owner words (table_block old table)) (below (extension_count words (table_block old table) + 1)))

    pointer_owners_same : pointer_owners new ≡ pointer_owners old
    pointer_owners_same =
        let block = table_block old table in
        let count = extension_count old block in
        filter_alike (names_one new) (names_one old) (map (extension_owner new block) (below (extension_count new block + 1))) (map (extension_owner old block) (below (count + 1)))
        (map_below (extension_owner new block) (extension_owner old block) (extension_count new block + 1) (count + 1) (ap (λ (n : ℕ). n + 1) (extension_count_same old new same table published))
        (λ extension lt. ap (λ (at : ℕ). owner_of at extension_words) (extension_pointer_same old new same table extension published (omega (arith, lt)))))
        (λ owner among.
        let (extension, counted, here) = Contains-map (extension_owner old block) (below (count + 1)) owner among in
        let lt = Contains-below (count + 1) extension counted in
        subst (λ (o : Owner). names_one new o ≡ names_one old o) here
        (ap (λ (w : ℕ). not (eqb w 0)) (ap (λ (at : ℕ). get_or new at 0) (sym (extension_pointer_same old new same table extension published (omega (arith, lt)))) ∙ pointer_word_same extension (omega (arith, lt)))))

    -- in version 1 no pointer names an extension
    none_first : is_first_version old ≡ true → BeginsFirst old table → pointer_owners old ≡ []
    none_first first begins =
        let block = table_block old table in
        let inner = first_inner old block first in
        let none : extension_count old block ≡ 0 = omega (arith, inner) in
        ap (λ (n : ℕ). filter (names_one old) (map (extension_owner old block) (below (n + 1)))) none
        ∙ ap (λ (b : Bool). cond b (extension_owner old block 0 ∷ []) []) (ap not (eq-eqb (get_or old (first_extension_at block) 0) 0 begins.no_extension))

    extension_owners_same : VersionGoesOn old new → extension_owners new (table_block old table) ≡ extension_owners old (table_block old table)
    unfolding extension_owners
    extension_owners_same (same_version version) =
        ap (λ (first : Bool). cond first [] (pointer_owners new)) (version_is old new version) ∙ ap (λ (owners : List Owner). cond (is_first_version old) [] owners) pointer_owners_same
    extension_owners_same (raised one two) =
        let first = first_is old one in
        cond-false (is_first_version new) [] (pointer_owners new) (second_is new two) ∙ pointer_owners_same ∙ none_first first (plain first table published)
        ∙ sym (cond-true (is_first_version old) [] (pointer_owners old) first)

    block_owners_same : block_owners new (table_block old table) ≡ block_owners old (table_block old table)
    block_owners_same =
        let block = table_block old table in
        let columns : List ℕ → List Owner = λ words. flat_map (column_owners words) (columns_of words block) in
        let extensions = extension_owners old block in
        ap (λ (xs : List Owner). xs ++ array_owners new (created_header block) ++ array_owners new (ended_header block) ++ columns new) (extension_owners_same version)
        ∙ ap (λ (xs : List Owner). extensions ++ xs ++ array_owners new (ended_header block) ++ columns new) (array_owners_same (created_header block) (created_is old table published))
        ∙ ap (λ (xs : List Owner). extensions ++ array_owners old (created_header block) ++ xs ++ columns new) (array_owners_same (ended_header block) (ended_is old table published))
        ∙ ap (λ (xs : List Owner). extensions ++ array_owners old (created_header block) ++ array_owners old (ended_header block) ++ xs)
        (flat_map_alike (column_owners new) (column_owners old) (columns_of new block) (columns_of old block) (block_columns old new same block (block_among table published))
        (λ column of. column_owners_same column (column_among old block column (block_among table published) of)))

    table_owners_same : table_owners new table ≡ table_owners old table
    table_owners_same =
        let block = table_block old table in
        let owner : ℕ → Owner = λ columns. owner_of (table_slot_at table) (table_words columns) in
        ap (λ (b : ℕ). owner (inner_columns new b) ∷ block_owners new b) (block_same old new same table published)
        ∙ ap (λ (columns : ℕ). owner columns ∷ block_owners new block) (inner_same old new same table published)
        ∙ ap (λ (owners : List Owner). table_owner old table ∷ owners) block_owners_same

  object_owners_same : (object : ℕ) → object < 16 → object_owners new object ≡ object_owners old object
  object_owners_same object number =
      let ready = ready_count old object in
      filter_alike (names_one new) (names_one old) (map (segment_owner new object) (below (ready_count new object + 1))) (map (segment_owner old object) (below (ready + 1)))
      (map_below (segment_owner new object) (segment_owner old object) (ready_count new object + 1) (ready + 1) (ap (λ (n : ℕ). n + 1) (ready_same old new same object number))
      (λ segment lt. ap (λ (at : ℕ). owner_of at 256) (pointer_same old new same object number segment (omega (arith, lt)))))
      (λ owner among.
      let (segment, counted, here) = Contains-map (segment_owner old object) (below (ready + 1)) owner among in
      let lt = Contains-below (ready + 1) segment counted in
      subst (λ (o : Owner). names_one new o ≡ names_one old o) here (ap (λ (w : ℕ). not (eqb w 0)) (named_same old new same object number segment (omega (arith, lt)))))

  -- ── all of them ──

  pub owner_words_same : owner_words new ≡ owner_words old
  unfolding owner_words
  owner_words_same =
      ap (λ (xs : List Owner). xs ++ flat_map (object_owners new) (below 16)) (flat_map_below (table_owners new) (table_owners old) (table_count new) (table_count old) (count_same old new same) table_owners_same)
      ∙ ap (λ (xs : List Owner). flat_map (table_owners old) (below (table_count old)) ++ xs) (flat_map_below (object_owners new) (object_owners old) 16 16 refl object_owners_same)

  pub next_slots_same : next_table_slots new ≡ next_table_slots old
  next_slots_same = ap (λ (count : ℕ). cond (ltb count 32) (table_slot_at count ∷ []) []) (count_same old new same)

  pub unfinished_same : unfinished_slots new ≡ unfinished_slots old
  unfinished_same =
      ap (λ (xs : List ℕ). xs ++ flat_map (next_text_slots new) (all_columns new)) next_slots_same
      ∙ ap (λ (xs : List ℕ). next_table_slots old ++ xs) (flat_map_alike (next_text_slots new) (next_text_slots old) (all_columns new) (all_columns old) (all_columns_same old new same) next_texts_same)

  pub new_leaves_same : new_leaf_owners new ≡ new_leaf_owners old
  new_leaves_same = ap (map (λ column. leaf_owner (new_leaf_at column))) (all_columns_same old new same)

  pub firm_owners_same : firm_owners new ≡ firm_owners old
  firm_owners_same = ap (λ (xs : List Owner). xs ++ new_leaf_owners new) owner_words_same ∙ ap (λ (xs : List Owner). owner_words old ++ xs) new_leaves_same

  pub owner_places_same : owner_places new ≡ owner_places old
  owner_places_same =
      ap (λ (xs : List Owner). map (λ owner. owner.at) xs ++ unfinished_slots new) firm_owners_same ∙ ap (λ (xs : List ℕ). map (λ owner. owner.at) (firm_owners old) ++ xs) unfinished_same
