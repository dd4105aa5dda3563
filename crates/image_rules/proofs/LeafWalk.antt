-- The pointers along the leaves of a tree, as a walk goes on.
use Rattle.std.proofs.Common.{◌≡◌, ◌≢◌, ℕ, zero, suc, true, false, cond, eqb, List, [], ◌∷◌, ◌++◌, map, get_or, refl, sym, ◌∙◌, ap, append-nil, append_assoc}
use Rattle.std.proofs.lemmas.Bool.{eq-eqb, ne_eqb, cond-true, cond-false}
use Rattle.image_layout.specs.Places.{is_pointer_to, place_in}
use Rattle.image_layout.specs.Records.{next_leaf_at}
use Rattle.image_layout.specs.Owners.{leaf_owner}
use Rattle.image_rules.specs.declared.owner_words.OwnerWord.{OwnerWord}
use Rattle.image_rules.specs.BuiltOwners.{as_read, links_from}

module _ (words : List ℕ) where
  abbrev named : ℕ → ℕ
  named at = get_or words at 0

  abbrev goes_on : ℕ → ℕ → List ℕ
  goes_on steps at = cond (is_pointer_to words 128 (named at)) (links_from words steps (next_leaf_at (place_in (named at)))) []

  pub links_end : (steps at : ℕ) → named at ≡ 0 → links_from words steps at ≡ []
  unfolding links_from
  links_end zero at none = refl
  links_end (suc steps) at none = cond-true (eqb (named at) 0) [] (at ∷ goes_on steps at) (eq-eqb (named at) 0 none)

  some_link : (steps at : ℕ) → named at ≢ 0 → links_from words (suc steps) at ≡ at ∷ goes_on steps at
  unfolding links_from
  some_link steps at some = cond-false (eqb (named at) 0) [] (at ∷ goes_on steps at) (ne_eqb (named at) 0 some)

  pub link_last : (steps at : ℕ) → named at ≢ 0 → is_pointer_to words 128 (named at) ≡ false → links_from words (suc steps) at ≡ at ∷ []
  link_last steps at some none =
      some_link steps at some ∙ ap (λ (rest : List ℕ). at ∷ rest) (cond-false (is_pointer_to words 128 (named at)) (links_from words steps (next_leaf_at (place_in (named at)))) [] none)

  pub link_more : (steps at : ℕ) → named at ≢ 0 → is_pointer_to words 128 (named at) ≡ true → links_from words (suc steps) at ≡ at ∷ links_from words steps (next_leaf_at (place_in (named at)))
  link_more steps at some hit =
      some_link steps at some ∙ ap (λ (rest : List ℕ). at ∷ rest) (cond-true (is_pointer_to words 128 (named at)) (links_from words steps (next_leaf_at (place_in (named at)))) [] hit)

  -- ── the owner words that are left ──

  abbrev pub owners_of : List ℕ → List OwnerWord
  owners_of places = map (as_read words) (map leaf_owner places)

  -- what was found, and what is left from a pointer on, are all
  abbrev pub Left : List OwnerWord → List OwnerWord → ℕ → ℕ → Type 0
  Left all found steps at = found ++ owners_of (links_from words steps at) ≡ all

  pub left_none : (all found : List OwnerWord) (steps at : ℕ) → Left all found steps at → links_from words steps at ≡ [] → found ≡ all
  left_none all found steps at left none = sym (append-nil found) ∙ ap (λ (places : List ℕ). found ++ owners_of places) (sym none) ∙ left

  pub left_end : (all found : List OwnerWord) (steps at : ℕ) → Left all found steps at → named at ≡ 0 → found ≡ all
  left_end all found steps at left none = left_none all found steps at left (links_end steps at none)

  pub left_out : (all found : List OwnerWord) (at : ℕ) → Left all found 0 at → found ≡ all
  unfolding links_from
  left_out all found at left = left_none all found 0 at left refl

  pub left_last : (all found more : List OwnerWord) (left steps at : ℕ) → left ≡ suc steps → Left all found left at → more ≡ found ++ owners_of (at ∷ []) → named at ≢ 0 → is_pointer_to words 128 (named at) ≡ false → more ≡ all
  left_last all found more left steps at is before then some none =
      then ∙ ap (λ (places : List ℕ). found ++ owners_of places) (sym (link_last steps at some none)) ∙ ap (λ (n : ℕ). found ++ owners_of (links_from words n at)) (sym is) ∙ before

  pub left_more : (all found more : List OwnerWord) (left steps at next : ℕ) → left ≡ suc steps → Left all found left at → more ≡ found ++ owners_of (at ∷ []) → named at ≢ 0 → is_pointer_to words 128 (named at) ≡ true
      → next ≡ next_leaf_at (place_in (named at)) → Left all more steps next
  left_more all found more left steps at next is before then some hit on =
      let rest : List OwnerWord = owners_of (links_from words steps next) in
      ap (λ (owners : List OwnerWord). owners ++ rest) then
      ∙ append_assoc found (owners_of (at ∷ [])) rest
      ∙ ap (λ (n : ℕ). found ++ owners_of (at ∷ links_from words steps n)) on
      ∙ ap (λ (places : List ℕ). found ++ owners_of places) (sym (link_more steps at some hit))
      ∙ ap (λ (n : ℕ). found ++ owners_of (links_from words n at)) (sym is)
      ∙ before
