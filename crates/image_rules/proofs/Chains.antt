-- Pointers that lead from one to the next: each names so many words of one segment, and the place that it names is that of
-- the next pointer, or of the block in which it stands.
use Rattle.std.proofs.Common.{◌≡◌, ℕ, ◌+◌, ◌<◌, Bool, true, false, not, ◌&&◌, eqb, List, [], ◌∷◌, ◌++◌, map, take, set, length, get_or, sym, ◌∙◌, ap, arith}
use Rattle.std.specs.Prelude.{Some}
use Rattle.std.specs.Bool.{then_some}
use Rattle.std.specs.List.{list_any}
use Rattle.std.proofs.lemmas.Bool.{and_from, and_right, not_from_true, not_from_false, true_from_ne_false, false≢true}
use Rattle.std.proofs.lemmas.List.{take_more_set}
use Rattle.std.proofs.lemmas.List.FromFn.{map-range_with_len_more}
use Rattle.image_layout.specs.Places.{below, place_in, is_pointer_to, is_null_or_pointer_to}
use Rattle.image_layout.specs.Checks.{Check, check, first_failing}
use Rattle.image_layout.specs.EntryRules.{is_among}
use Rattle.image_layout.proofs.Faults.{pass-all, fail-first}
use Rattle.image_rules.proofs.Firsts.{lone, map_none, map_some}

-- a value was found exactly where the test doesn't fail
pub found_true : (b : Bool) → ((true ≡ false → b ≡ false) × (b ≡ false → true ≡ false)) → b ≡ true
found_true b both = true_from_ne_false b (λ e. false≢true (sym (both.1 e)))

-- the words, how many of them each pointer names, and the place of each pointer
module _ (words : List ℕ) (size : ℕ) (at : ℕ → ℕ) where
  abbrev pub named_place : ℕ → ℕ
  named_place k = place_in (get_or words (at k) 0)

  abbrev pub is_link : ℕ → Bool
  is_link k = is_pointer_to words size (get_or words (at k) 0) && not (is_among (map named_place (below k)) (named_place k))

  abbrev pub LinksBelow : ℕ → Type 0
  LinksBelow k = (x : ℕ) → x < k → is_link x ≡ true

  abbrev link_check : ℕ → Check
  link_check x = check (at x) (is_link x)

  abbrev last_check : ℕ → Check
  last_check count = check (at count) (is_null_or_pointer_to words size (get_or words (at count) 0))

  abbrev pub chain_checks : ℕ → List Check
  chain_checks count = map link_check (below count) ++ last_check count ∷ []

  -- the word at a pointer names no such words
  pub no_pointer : (k pointer : ℕ) → pointer ≡ at k → (is_pointer_to words size (get_or words pointer 0) ≡ false) → is_link k ≡ false
  no_pointer k pointer is none =
      ap (λ b. b && not (is_among (map named_place (below k)) (named_place k)))
      (ap (λ (p : ℕ). is_pointer_to words size (get_or words p 0)) (sym is) ∙ none)

  -- whether those so far have the place
  abbrev among : List ℕ → ℕ → Bool
  among reached place = list_any (λ y. eqb y place) reached

  among-is : (k pointer place : ℕ) (reached : List ℕ) → pointer ≡ at k → place ≡ place_in (get_or words pointer 0)
      → reached ≡ map named_place (below k)
      → among reached place ≡ is_among (map named_place (below k)) (named_place k)
  among-is k pointer place reached here is before =
      ap (λ (r : List ℕ). among r place) before
      ∙ ap (among (map named_place (below k))) (is ∙ ap (λ (p : ℕ). place_in (get_or words p 0)) here)

  pub reached_before : (k pointer place : ℕ) (reached : List ℕ) → pointer ≡ at k → place ≡ place_in (get_or words pointer 0)
      → reached ≡ map named_place (below k) → among reached place ≡ true → is_link k ≡ false
  reached_before k pointer place reached here is before again =
      and_right _ _ (not_from_true _ (sym (among-is k pointer place reached here is before) ∙ again))

  pub link_holds : (k pointer place : ℕ) (reached : List ℕ) → pointer ≡ at k → place ≡ place_in (get_or words pointer 0)
      → reached ≡ map named_place (below k) → is_pointer_to words size (get_or words pointer 0) ≡ true → among reached place ≡ false → is_link k ≡ true
  link_holds k pointer place reached here is before pointed new =
      and_from _ _ (ap (λ (p : ℕ). is_pointer_to words size (get_or words p 0)) (sym here) ∙ pointed)
      (not_from_false _ (sym (among-is k pointer place reached here is before) ∙ new))

  pub reached_more : (k place : ℕ) (reached : List ℕ) → k < length reached → place ≡ named_place k → take k reached ≡ map named_place (below k)
      → take (k + 1) (set reached k place) ≡ map named_place (below (k + 1))
  reached_more k place reached lt is before =
      take_more_set reached k place lt
      ∙ ap (λ (r : List ℕ). r ++ place ∷ []) before
      ∙ ap (λ (p : ℕ). map named_place (below k) ++ p ∷ []) is
      ∙ sym (map-range_with_len_more named_place 0 k k (omega arith))

  pub link_fails : (count k pointer : ℕ) → k < count → LinksBelow k → pointer ≡ at k → is_link k ≡ false
      → Some pointer ≡ first_failing (chain_checks count)
  link_fails count k pointer lt each here miss =
      ap (λ (p : ℕ). Some p) here
      ∙ sym (fail-first (map link_check (below count)) (last_check count ∷ []) (at k) (map_some link_check count k lt each miss))

  pub last_is : (count pointer : ℕ) (holds : Bool) → LinksBelow count → pointer ≡ at count → holds ≡ is_null_or_pointer_to words size (get_or words pointer 0)
      → then_some (not holds) pointer ≡ first_failing (chain_checks count)
  last_is count pointer holds each here is =
      lone pointer holds
      ∙ ap (λ (h : Bool). first_failing (check pointer h ∷ [])) is
      ∙ ap (λ (p : ℕ). first_failing (check p (is_null_or_pointer_to words size (get_or words p 0)) ∷ [])) here
      ∙ sym (pass-all (map link_check (below count)) (last_check count ∷ []) (map_none link_check count each))
