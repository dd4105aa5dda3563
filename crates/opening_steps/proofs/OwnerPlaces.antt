-- Each owner word stands at a place that says where a structure stands.
use Rattle.std.proofs.Common.{◌≡◌, ⊎_elim, ℕ, zero, suc, ◌+◌, ◌<◌, min, true, false, List, [], ◌∷◌, ◌++◌, length, map, refl, sym, subst, arith}
use Rattle.std.specs.Prelude.{Contains, filter, take}
use Rattle.std.specs.List.{flat_map}
use Rattle.std.proofs.lemmas.Bool.{cases_Bool}
use Rattle.std.proofs.lemmas.List.Elements.{Contains-append_cases}
use Rattle.image_layout.specs.Places.{below}
use Rattle.image_layout.specs.Records.{codes_header, created_header, dictionary_header, ended_header, first_leaf_at, next_leaf_at}
use Rattle.image_layout.specs.Arrays.{capacity, chunk_count, place_of}
use Rattle.image_layout.specs.Tables.{table_count, table_block, columns_of, all_columns, extension_count, is_first_version, is_text}
use Rattle.image_layout.specs.Objects.{ready_count}
use Rattle.image_layout.specs.Trees.{dictionary_length, stored_leaves}
use Rattle.image_layout.specs.Owners.{Owner, names_one, array_owners, block_owners, chunk_owner, column_owners, dictionary_slots, extension_owner, extension_owners, leaf_owner, link_places, object_owners, owner_words, segment_owner, table_owner, table_owners, text_owner, text_owners}
use Rattle.image_layout.proofs.Members.{below-Contains, Contains-below, Contains-cons, Contains-filter, Contains-here, Contains-there, Contains-flat_map, Contains-map, Contains-nil, map-Contains}
use Rattle.shown_state.specs.Fits.{Fits}
use Rattle.shown_state.proofs.SameLeaves.{stored_listed}
use Rattle.shown_state.proofs.SameTables.{IsHeader, codes_is, created_is, dictionary_is, ended_is}
use Rattle.shown_state.proofs.SameValueRules.{column_among}
use Rattle.opening_steps.proofs.Structure.{IsPlace, of_column, of_dictionary, of_extension, of_header, of_leaf, of_segment, of_slot}

pub Contains-take : (n : ℕ) (xs : List ℕ) (x : ℕ) → Contains (take n xs) x → Contains xs x
Contains-take zero xs x is = absurd (Contains-nil x is)
Contains-take (suc n) [] x is = is
Contains-take (suc n) (y ∷ xs) x is =
    ⊎_elim (λ here. subst (λ (z : ℕ). Contains (y ∷ xs) z) here (Contains-here y xs)) (λ there. Contains-there y x xs (Contains-take n xs x there)) (Contains-cons y x (take n xs) is)

module _ (words : List ℕ) where
  array_place : (header : ℕ) (owner : Owner) → IsHeader words header → Contains (array_owners words header) owner → IsPlace words owner.at
  array_place header owner is among =
      let few = min (chunk_count words header + 1) 12 in
      let named = (Contains-filter (names_one words) (map (chunk_owner header) (below few)) owner among).0 in
      let (chunk, counted, here) = Contains-map (chunk_owner header) (below few) owner named in
      let lt = Contains-below few chunk counted in
      subst (λ (o : Owner). IsPlace words o.at) here (of_header is.table header (1 + chunk) is.published is.among (omega (arith, lt)) (omega arith))

  module _ (column : ℕ) (is : Contains (all_columns words) column) where
    link_place : (at : ℕ) → Contains (link_places words column) at → IsPlace words at
    link_place at among = ⊎_elim
        (λ (here : first_leaf_at column ≡ at). of_column column 4 is (omega arith) (sym here))
        (λ next.
        let (leaf, stored, here) = Contains-map next_leaf_at (stored_leaves words column) at next in
        of_leaf column leaf is (stored_listed words column leaf stored) (omega (arith, here)) (omega (arith, here)))
        (Contains-cons (first_leaf_at column) at (map next_leaf_at (stored_leaves words column)) (Contains-take (length (stored_leaves words column)) (first_leaf_at column ∷ map next_leaf_at (stored_leaves words column)) at among))

    text_place : (owner : Owner) → Contains (text_owners words column) owner → IsPlace words owner.at
    text_place owner among = ⊎_elim found (λ miss. absurd (Contains-nil owner (rw miss at among))) (cases_Bool (is_text words column))
      where
        found : is_text words column ≡ true → IsPlace words owner.at
        found hit =
            let header = dictionary_header column in
            let count = min (dictionary_length words column) (capacity words header) in
            let owned : Contains (map (text_owner words) (dictionary_slots words column)) owner = rw hit at among in
            let (at, slot, here) = Contains-map (text_owner words) (dictionary_slots words column) owner owned in
            let (code, counted, place) = Contains-map (place_of words header) (below count) at slot in
            let lt = Contains-below count code counted in
            subst (λ (o : Owner). IsPlace words o.at) here (of_dictionary column code is (omega (arith, lt)) (omega (arith, lt)) (sym place))

    column_place : (owner : Owner) → Contains (column_owners words column) owner → IsPlace words owner.at
    unfolding column_owners
    column_place owner among =
        let links = map leaf_owner (link_places words column) in
        ⊎_elim
        (λ early. ⊎_elim
        (λ arrays. ⊎_elim
        (λ codes. array_place (codes_header column) owner (codes_is words column is) codes)
        (λ keys. array_place (dictionary_header column) owner (dictionary_is words column is) keys)
        (Contains-append_cases (array_owners words (codes_header column)) (array_owners words (dictionary_header column)) owner arrays))
        (λ link.
        let (at, one, here) = Contains-map leaf_owner (link_places words column) owner link in
        subst (λ (o : Owner). IsPlace words o.at) here (link_place at one))
        (Contains-append_cases (array_owners words (codes_header column) ++ array_owners words (dictionary_header column)) links owner early))
        (λ texts. text_place owner texts)
        (Contains-append_cases (array_owners words (codes_header column) ++ array_owners words (dictionary_header column) ++ links) (text_owners words column) owner among)

  module _ (table : ℕ) (published : table < table_count words) where
    abbrev block : ℕ
    block = table_block words table

    extension_place : (owner : Owner) → Contains (extension_owners words block) owner → IsPlace words owner.at
    unfolding extension_owners
    extension_place owner among = ⊎_elim (λ first. absurd (Contains-nil owner (rw first at among))) found (cases_Bool (is_first_version words))
      where
        found : is_first_version words ≡ false → IsPlace words owner.at
        found second =
            let count = extension_count words block in
            let all : Contains (filter (names_one words) (map (extension_owner words block) (below (count + 1)))) owner = rw second at among in
            let named = (Contains-filter (names_one words) (map (extension_owner words block) (below (count + 1))) owner all).0 in
            let (extension, counted, here) = Contains-map (extension_owner words block) (below (count + 1)) owner named in
            let lt = Contains-below (count + 1) extension counted in
            subst (λ (o : Owner). IsPlace words o.at) here (of_extension table extension published (omega (arith, lt)) refl)

    block_place : (owner : Owner) → Contains (block_owners words block) owner → IsPlace words owner.at
    block_place owner among =
        let extensions = extension_owners words block in
        let created = array_owners words (created_header block) in
        let ended = array_owners words (ended_header block) in
        ⊎_elim
        (λ early. ⊎_elim
        (λ first. ⊎_elim (λ extension. extension_place owner extension) (λ stamps. array_place (created_header block) owner (created_is words table published) stamps)
        (Contains-append_cases extensions created owner first))
        (λ stamps. array_place (ended_header block) owner (ended_is words table published) stamps)
        (Contains-append_cases (extensions ++ created) ended owner early))
        (λ columns.
        let (column, one, here) = Contains-flat_map (column_owners words) (columns_of words block) owner columns in
        column_place column (column_among words block column (map-Contains (table_block words) (below (table_count words)) table (below-Contains (table_count words) table published)) one) owner here)
        (Contains-append_cases (extensions ++ created ++ ended) (flat_map (column_owners words) (columns_of words block)) owner among)

    table_place : (owner : Owner) → Contains (table_owners words table) owner → IsPlace words owner.at
    table_place owner among = ⊎_elim
        (λ here. subst (λ (o : Owner). IsPlace words o.at) here (of_slot table published refl))
        (λ there. block_place owner there)
        (Contains-cons (table_owner words table) owner (block_owners words block) among)

  object_place : (object : ℕ) (owner : Owner) → object < 16 → Contains (object_owners words object) owner → IsPlace words owner.at
  object_place object owner number among =
      let count = ready_count words object in
      let named = (Contains-filter (names_one words) (map (segment_owner words object) (below (count + 1))) owner among).0 in
      let (segment, counted, here) = Contains-map (segment_owner words object) (below (count + 1)) owner named in
      let lt = Contains-below (count + 1) segment counted in
      subst (λ (o : Owner). IsPlace words o.at) here (of_segment object segment number (omega (arith, lt)) refl)

  pub owner_place : Fits words → (owner : Owner) → Contains (owner_words words) owner → IsPlace words owner.at
  unfolding owner_words
  owner_place fits owner is = ⊎_elim
      (λ of_table. let (table, among, here) = Contains-flat_map (table_owners words) (below (table_count words)) owner of_table in table_place table (Contains-below (table_count words) table among) owner here)
      (λ of_object. let (object, among, here) = Contains-flat_map (object_owners words) (below 16) owner of_object in object_place object owner (Contains-below 16 object among) here)
      (Contains-append_cases (flat_map (table_owners words) (below (table_count words))) (flat_map (object_owners words) (below 16)) owner is)
