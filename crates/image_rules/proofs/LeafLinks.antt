-- Where a tree keeps its rule, the walk along its leaves comes to the pointers of the leaf list.
use Rattle.std.proofs.Common.{◌≡◌, ◌≢◌, ⊎_elim, ℕ, zero, suc, true, eqb, not, List, [], ◌∷◌, ◌++◌, ◌<◌, ◌^◌, ◌&&◌, ltb, length, map, take, get_or, refl, sym, ◌∙◌, ap}
use Rattle.std.specs.Prelude.{All, Contains}
use Rattle.std.proofs.lemmas.Bool.{and_parts, eqb-true, or_cases, or_left, or_right}
use Rattle.std.proofs.lemmas.List.Elements.{All-contains, All-head, All-tail, Contains-append_left, Contains-append_right, Contains-get_or}
use Rattle.image_layout.specs.Places.{is_null_or_pointer_to, is_pointer_to, place_in}
use Rattle.image_layout.specs.Records.{first_leaf_at, new_leaf_at, next_leaf_at, split_leaf_at}
use Rattle.image_layout.specs.Tables.{all_columns}
use Rattle.image_layout.specs.Trees.{leaves_from, stored_leaves}
use Rattle.image_layout.specs.Owners.{link_places}
use Rattle.image_layout.specs.Checks.{Check, check, Keeps}
use Rattle.image_layout.specs.EntryRules.{is_among, is_next, is_split_leaf, leaf_checks, leaf_pointer_check, tree_checks, tree_rule}
use Rattle.image_layout.proofs.Faults.{Holds}
use Rattle.image_layout.proofs.OwnedBlocks.{keeps_one}
use Rattle.image_rules.specs.BuiltOwners.{leaf_links, links_from}
use Rattle.image_rules.proofs.LeafWalk.{links_end, link_more}

module _ (words : List ℕ) where
  abbrev LeadsOn : ℕ → Type 0
  LeadsOn word = is_null_or_pointer_to words 128 word ≡ true

  -- a next word that is fine leads to a leaf's block, where it isn't null
  next_leads : (reached : List ℕ) (word : ℕ) → is_next words reached word ≡ true → LeadsOn word
  next_leads reached word fine = ⊎_elim
      (λ null. or_left (eqb word 0) (is_pointer_to words 128 word) null)
      (λ on. or_right (eqb word 0) (is_pointer_to words 128 word) (and_parts (is_pointer_to words 128 word) (not (is_among reached (place_in word))) on).0)
      (or_cases (eqb word 0) (is_pointer_to words 128 word && not (is_among reached (place_in word))) fine)

  pointer : (word : ℕ) → LeadsOn word → word ≢ 0 → is_pointer_to words 128 word ≡ true
  pointer word leads some = ⊎_elim (λ null. absurd (some (eqb-true word 0 null))) (λ on. on) (or_cases (eqb word 0) (is_pointer_to words 128 word) leads)

  -- the pointers by which a list of leaves is reached from a place on
  abbrev places_of : ℕ → List ℕ → List ℕ
  places_of at leaves = take (length leaves) (at ∷ map next_leaf_at leaves)

  links_are : (steps at word : ℕ) (reached : List ℕ) → get_or words at 0 ≡ word → LeadsOn word → All Holds (leaf_checks words reached (leaves_from words steps word))
      → links_from words steps at ≡ places_of at (leaves_from words steps word)
  unfolding leaves_from links_from
  links_are zero at word reached here leads checks = refl
  links_are (suc steps) at zero reached here leads checks = links_end words (suc steps) at here
  links_are (suc steps) at (suc word) reached here leads checks =
      let leaf = place_in (suc word) in
      let next = next_leaf_at leaf in
      let after = get_or words next 0 in
      let leaves = leaves_from words steps after in
      let rest = leaf_checks words (leaf ∷ reached) leaves in
      let goes : Check = check next (is_next words (leaf ∷ reached) after) in
      let behind = All-tail Holds (check leaf (ltb (get_or words leaf 0) (2 ^ 48))) (goes ∷ rest) checks in
      let some : get_or words at 0 ≢ 0 = λ null. (let e = sym here ∙ null in cc) in
      link_more words steps at some (ap (is_pointer_to words 128) here ∙ pointer (suc word) leads (λ e. cc))
      ∙ ap (λ (w : ℕ). at ∷ links_from words steps (next_leaf_at (place_in w))) here
      ∙ ap (λ (places : List ℕ). at ∷ places) (links_are steps next after (leaf ∷ reached) refl (next_leads (leaf ∷ reached) after (All-head Holds goes rest behind)) (All-tail Holds goes rest behind))

module _ (words : List ℕ) (trees : Keeps words tree_rule) (column : ℕ) (is : Contains (all_columns words) column) where
  abbrev leaves : List ℕ
  leaves = stored_leaves words column

  abbrev pointers : List Check
  pointers = map (leaf_pointer_check words) (first_leaf_at column ∷ split_leaf_at column ∷ new_leaf_at column ∷ [])

  abbrev last : Check
  last = check (split_leaf_at column) (is_split_leaf words column)

  checks : All Holds (pointers ++ leaf_checks words [] leaves ++ last ∷ [])
  unfolding tree_rule tree_checks
  checks = keeps_one words (all_columns words) (tree_checks words) column trees.checks is

  pub links_listed : leaf_links words column ≡ link_places words column
  links_listed = links_are words (length words) (first_leaf_at column) (get_or words (first_leaf_at column) 0) [] refl
      (All-head Holds (leaf_pointer_check words (first_leaf_at column)) (map (leaf_pointer_check words) (split_leaf_at column ∷ new_leaf_at column ∷ []) ++ leaf_checks words [] leaves ++ last ∷ []) checks)
      (λ k d lt. All-of_left k d lt)
    where
      All-of_left : (k : ℕ) (d : Check) → k < length (leaf_checks words [] leaves) → Holds (get_or (leaf_checks words [] leaves) k d)
      All-of_left k d lt = All-contains Holds (pointers ++ leaf_checks words [] leaves ++ last ∷ []) (get_or (leaf_checks words [] leaves) k d) checks
          (Contains-append_right pointers (leaf_checks words [] leaves ++ last ∷ []) (get_or (leaf_checks words [] leaves) k d)
          (Contains-append_left (leaf_checks words [] leaves) (last ∷ []) (get_or (leaf_checks words [] leaves) k d) (Contains-get_or (leaf_checks words [] leaves) k d lt)))
