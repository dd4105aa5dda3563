-- Where trees keep their rule and no column of texts has a leaf, the owner words that are built are all.
use Rattle.std.proofs.Common.{◌≡◌, ℕ, zero, suc, Bool, true, false, cond, ⊎_elim, min, List, [], ◌∷◌, ◌++◌, map, length, get_or, refl, sym, ◌∙◌, ap, arith}
use Rattle.std.specs.Prelude.{Contains}
use Rattle.std.specs.List.{flat_map}
use Rattle.std.proofs.lemmas.Bool.{cases_Bool, cond-false}
use Rattle.std.proofs.lemmas.List.{append-nil}
use Rattle.image_layout.specs.Places.{below, place_in}
use Rattle.image_layout.specs.Records.{codes_header, created_header, dictionary_header, ended_header, first_leaf_at, new_leaf_at, split_leaf_at}
use Rattle.image_layout.specs.Blocks.{live_blocks}
use Rattle.image_layout.specs.Arrays.{capacity, place_of}
use Rattle.image_layout.specs.Tables.{table_count, table_block, table_blocks, all_columns, columns_of, is_text}
use Rattle.image_layout.specs.Trees.{leaves_from, stored_leaves, leaf_list, leaf_pairs, put_behind, is_about_to_link, used_pairs, Pair}
use Rattle.image_layout.specs.Owners.{Owner, word_of, array_owners, column_owners, extension_owners, table_owner, table_owners, leaf_owner, text_owner, text_owners, link_places, dictionary_slots, object_owners, owner_words, owns_block}
use Rattle.image_layout.specs.Checks.{check}
use Rattle.image_layout.specs.SoundRules.{owner_rule, single_owner_rule, owned_rule, distinct_checks}
use Rattle.image_layout.proofs.Members.{Contains-here, Contains-there, filter-Contains, map-Contains, flat_map-Contains}
use Rattle.image_rules.proofs.LeafLinks.{links_listed}
use Rattle.image_rules.specs.BuiltOwners.{built_column_owners, built_table_owners, built_owner_words, built_owner_rule, built_single_owner_rule, built_owned_rule, owned_check, HasNoTexts}

-- one function for another, at the members of a list
flat_map-members : {X Y : Type 0} (f g : X → List Y) (xs : List X) → ((x : X) → Contains xs x → f x ≡ g x) → flat_map f xs ≡ flat_map g xs
flat_map-members f g [] same = refl
flat_map-members {X} {Y} f g (x ∷ xs) same =
    ap (λ (ys : List Y). ys ++ flat_map f xs) (same x (Contains-here x xs)) ∙ ap (λ (ys : List Y). g x ++ ys) (flat_map-members f g xs (λ y is. same y (Contains-there x y xs is)))

module _ (words : List ℕ) (column : ℕ) (none : get_or words (first_leaf_at column) 0 ≡ 0) where
  from_null : (steps : ℕ) → leaves_from words steps 0 ≡ []
  unfolding leaves_from
  from_null zero = refl
  from_null (suc steps) = refl

  no_leaves : stored_leaves words column ≡ []
  no_leaves = ap (leaves_from words (length words)) none ∙ from_null (length words)

  no_list : leaf_list words column ≡ []
  unfolding leaf_list
  no_list =
      ap (λ (leaves : List ℕ). cond (is_about_to_link words column) (put_behind (place_in (get_or words (split_leaf_at column) 0)) (place_in (get_or words (new_leaf_at column) 0)) leaves) leaves) no_leaves
      ∙ either (is_about_to_link words column)
    where
      either : (b : Bool) → cond {A = List ℕ} b [] [] ≡ []
      either true = refl
      either false = refl

  no_pairs : used_pairs words column ≡ []
  no_pairs = ap (flat_map (leaf_pairs words)) no_list

  no_slots : dictionary_slots words column ≡ []
  no_slots = ap (λ (pairs : List Pair). map (place_of words (dictionary_header column)) (below (min (length pairs) (capacity words (dictionary_header column))))) no_pairs
      ∙ ap (λ (n : ℕ). map (place_of words (dictionary_header column)) (below n)) few
    where
      few : min 0 (capacity words (dictionary_header column)) ≡ 0
      few = omega arith

  no_texts : text_owners words column ≡ []
  no_texts = ap (λ (slots : List ℕ). cond (is_text words column) (map (text_owner words) slots) []) no_slots ∙ either (is_text words column)
    where
      either : (b : Bool) → cond {A = List Owner} b [] [] ≡ []
      either true = refl
      either false = refl

-- a column of integers, or one without a leaf, has no texts
texts_none : (words : List ℕ) → HasNoTexts words → (column : ℕ) → Contains (all_columns words) column → text_owners words column ≡ []
texts_none words has column is = ⊎_elim
    (λ texts. no_texts words column (has.none column (filter-Contains (is_text words) (all_columns words) column is texts)))
    (λ integers. cond-false (is_text words column) (map (text_owner words) (dictionary_slots words column)) [] integers)
    (cases_Bool (is_text words column))

column_same : (words : List ℕ) → HasNoTexts words → (column : ℕ) → Contains (all_columns words) column → built_column_owners words column ≡ column_owners words column
unfolding column_owners
column_same words has column is =
    let arrays : List Owner = array_owners words (codes_header column) ++ array_owners words (dictionary_header column) in
    ap (λ (links : List ℕ). arrays ++ map leaf_owner links) (links_listed words has.trees column is)
    ∙ sym (append-nil (arrays ++ map leaf_owner (link_places words column)))
    ∙ ap (λ (texts : List Owner). arrays ++ map leaf_owner (link_places words column) ++ texts) (sym (texts_none words has column is))

module _ (words : List ℕ) (has : HasNoTexts words) where
  abbrev arrays_of : ℕ → List Owner
  arrays_of block = extension_owners words block ++ array_owners words (created_header block) ++ array_owners words (ended_header block)

  table_same : (table : ℕ) → Contains (below (table_count words)) table → built_table_owners words table ≡ table_owners words table
  table_same table is =
      ap (λ (os : List Owner). table_owner words table ∷ (arrays_of (table_block words table) ++ os))
      (flat_map-members (built_column_owners words) (column_owners words) (columns_of words (table_block words table)) (λ column of.
      column_same words has column (flat_map-Contains (columns_of words) (table_blocks words) (table_block words table) column (map-Contains (table_block words) (below (table_count words)) table is) of)))

  pub owners_same : built_owner_words words ≡ owner_words words
  unfolding built_owner_words owner_words
  owners_same =
      ap (λ (os : List Owner). os ++ flat_map (object_owners words) (below 16)) (flat_map-members (built_table_owners words) (table_owners words) (below (table_count words)) table_same)

  pub owner_rule_same : built_owner_rule words ≡ owner_rule words
  unfolding built_owner_rule owner_rule
  owner_rule_same = ap (map (λ (owner : Owner). check owner.at (owns_block words owner))) owners_same

  pub single_owner_rule_same : built_single_owner_rule words ≡ single_owner_rule words
  unfolding built_single_owner_rule single_owner_rule
  single_owner_rule_same = ap (λ (owners : List Owner). distinct_checks words [] (map (λ (owner : Owner). owner.at) owners)) owners_same

  pub owned_rule_same : built_owned_rule words ≡ owned_rule words
  unfolding built_owned_rule owned_rule
  owned_rule_same = ap (λ (owners : List Owner). map (owned_check (map (word_of words) owners)) (live_blocks words)) owners_same
