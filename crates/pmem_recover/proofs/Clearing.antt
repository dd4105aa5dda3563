-- The step that clears an object: only the words that aren't 0 need a store.
use Rattle.std.proofs.Common.{◌≡◌, ⊎_elim, ℕ, ◌<◌, Bool, true, false, not, ◌||◌, cond, eqb, List, [], ◌∷◌, ◌++◌, length, get_or, All, map, refl, sym, ◌∙◌, ap, subst}
use Rattle.std.specs.Prelude.{filter}
use Rattle.std.specs.List.{Contains}
use Rattle.std.proofs.lemmas.Bool.{cases_Bool, cases_lt, both_ways, ne_eqb, not-false, or_right, cond-true, cond-false}
use Rattle.std.proofs.lemmas.List.{get_or_past, append-nil}
use Rattle.std.proofs.lemmas.List.Elements.{All-map, All-push, Contains-get_or}
use Rattle.pm_model.specs.declared.action.Action.{Action}
use Rattle.image_layout.specs.declared.place.Place.{Place}
use Rattle.image_layout.specs.Fixed.{commit_word_at}
use Rattle.pm_model.specs.Plans.{Part, one_store, store, stores, footprint, plan_of, unless_empty}
use Rattle.pm_model.specs.Needed.{needed_stores}
use Rattle.image_layout.specs.Objects.{entry_places}
use Rattle.image_layout.proofs.Members.{Contains-filter, map-Contains}
use Rattle.shown_state.specs.Mending.{clear_mending}
use Rattle.pmem_recover.specs.declared.change.WordChange.{WordChange}
use Rattle.pmem_recover.specs.Changes.{change, change_part}
use Rattle.pmem_recover.specs.Filled.{is_filled, places_of}
use Rattle.pmem_recover.specs.Steps.{step_parts}
use Rattle.pmem_recover.proofs.Steps.{step-by}

-- ── words that are 0 already ──

module _ (words : List ℕ) (more : Part) where
  -- a filled word is stored to by the stores of the filled words, where it is by all
  footprint-filled : (places : List ℕ) (w : ℕ) → is_filled words w ≡ true → footprint (stores 0 (filter (is_filled words) places) ++ more) w ≡ footprint (stores 0 places ++ more) w
  footprint-filled [] w filled = refl
  footprint-filled (place ∷ places) w filled = ⊎_elim
      (λ (kept : is_filled words place ≡ true). ap (λ (xs : List ℕ). footprint (stores 0 xs ++ more) w) (cond-true (is_filled words place) (place ∷ filter (is_filled words) places) (filter (is_filled words) places) kept)
      ∙ ap (λ (b : Bool). eqb w place || b) (footprint-filled places w filled))
      (λ (zero_word : is_filled words place ≡ false). ap (λ (xs : List ℕ). footprint (stores 0 xs ++ more) w) (cond-false (is_filled words place) (place ∷ filter (is_filled words) places) (filter (is_filled words) places) zero_word)
      ∙ footprint-filled places w filled
      ∙ sym (ap (λ (b : Bool). b || footprint (stores 0 places ++ more) w) (ne_eqb w place (λ (e : w ≡ place). both_ways (is_filled words place) zero_word (ap (is_filled words) (sym e) ∙ filled)))))
      (cases_Bool (is_filled words place))

  pub needed-filled : (places : List ℕ) → needed_stores words (stores 0 (filter (is_filled words) places) ++ more) ≡ needed_stores words (stores 0 places ++ more)
  needed-filled [] = refl
  needed-filled (place ∷ places) = ⊎_elim
      (λ (kept : is_filled words place ≡ true). ap (λ (xs : List ℕ). needed_stores words (stores 0 xs ++ more)) (cond-true (is_filled words place) (place ∷ filter (is_filled words) places) (filter (is_filled words) places) kept)
      ∙ ap (λ (b : Bool). cond (b || eqb (get_or words place 0) 0) (needed_stores words (stores 0 (filter (is_filled words) places) ++ more)) (store place 0 ∷ needed_stores words (stores 0 (filter (is_filled words) places) ++ more)))
      (footprint-filled places place kept)
      ∙ ap (λ (xs : Part). cond (footprint (stores 0 places ++ more) place || eqb (get_or words place 0) 0) xs (store place 0 ∷ xs)) (needed-filled places))
      (λ (zero_word : is_filled words place ≡ false). ap (λ (xs : List ℕ). needed_stores words (stores 0 xs ++ more)) (cond-false (is_filled words place) (place ∷ filter (is_filled words) places) (filter (is_filled words) places) zero_word)
      ∙ needed-filled places
      ∙ sym (cond-true (footprint (stores 0 places ++ more) place || eqb (get_or words place 0) 0) (needed_stores words (stores 0 places ++ more)) (store place 0 ∷ needed_stores words (stores 0 places ++ more))
      (or_right (footprint (stores 0 places ++ more) place) (eqb (get_or words place 0) 0) (is_zero zero_word))))
      (cases_Bool (is_filled words place))
    where
      is_zero : is_filled words place ≡ false → eqb (get_or words place 0) 0 ≡ true
      is_zero none = not-false (eqb (get_or words place 0) 0) none

-- ── an object ──

clear-parts : (words : List ℕ) (object : ℕ) → step_parts clear_mending words object ≡ unless_empty (needed_stores words (stores 0 (entry_places words object) ++ one_store (commit_word_at object) 0))
clear-parts words object = step-by clear_mending words object ((stores 0 (entry_places words object) ++ one_store (commit_word_at object) 0) ∷ []) refl ∙ append-nil (unless_empty (needed_stores words (stores 0 (entry_places words object) ++ one_store (commit_word_at object) 0)))

-- the part that stores 0 at places, and at a last one
zeros-part : (places : List Place) (last : ℕ) → change_part (map (λ at. change at.0 0) places ++ change last 0 ∷ []) ≡ stores 0 (places_of places) ++ one_store last 0
zeros-part [] last = refl
zeros-part (place ∷ places) last = ap (λ (p : Part). store place.0 0 ∷ p) (zeros-part places last)

pub clear-planned : (words : List ℕ) (object last : ℕ) (filled : List Place) (part : List WordChange) (before left : List Action) → last ≡ commit_word_at object
    → places_of filled ≡ filter (is_filled words) (entry_places words object) → part ≡ map (λ at. change at.0 0) filled ++ change last 0 ∷ [] → before ≡ []
    → left ≡ before ++ plan_of (unless_empty (needed_stores words (change_part part))) → left ≡ plan_of (step_parts clear_mending words object)
clear-planned words object last filled part before left at places_are part_is empty is =
    is ∙ ap (λ (xs : List Action). xs ++ plan_of (unless_empty (needed_stores words (change_part part)))) empty
    ∙ ap (λ (p : Part). plan_of (unless_empty (needed_stores words p))) (ap change_part part_is ∙ zeros-part filled last ∙ ap (λ (xs : List ℕ). stores 0 xs ++ one_store last 0) places_are ∙ ap (λ (k : ℕ). stores 0 (filter (is_filled words) (entry_places words object)) ++ one_store k 0) at)
    ∙ ap (λ (p : Part). plan_of (unless_empty p)) (needed-filled words (one_store (commit_word_at object) 0) (entry_places words object))
    ∙ ap plan_of (sym (clear-parts words object))

-- ── the words that are stored to stand in the image ──

pub filled-inside : (words : List ℕ) (w : ℕ) → is_filled words w ≡ true → w < length words
filled-inside words w filled = ⊎_elim (λ lt. lt)
    (λ le. absurd (both_ways (is_filled words w) (ap (λ (n : ℕ). not (eqb n 0)) (get_or_past words w 0 le)) filled))
    (cases_lt w (length words))

pub filled-within : (words : List ℕ) (filled : List Place) (places : List ℕ) → places_of filled ≡ filter (is_filled words) places → All (λ place. place.0 < length words) filled
filled-within words filled places are k d lt =
    let among : Contains (places_of filled) (get_or filled k d).0 = map-Contains (λ (place : Place). place.0) filled (get_or filled k d) (Contains-get_or filled k d lt) in
    filled-inside words (get_or filled k d).0 (Contains-filter (is_filled words) places (get_or filled k d).0 (subst (λ (xs : List ℕ). Contains xs (get_or filled k d).0) are among)).1

pub clear-within : (words : List ℕ) (filled : List Place) (places : List ℕ) (last : ℕ) (part now : List WordChange) → places_of filled ≡ filter (is_filled words) places → last < length words
    → part ≡ map (λ at. change at.0 0) filled ++ change last 0 ∷ [] → now ≡ part → All (λ change. change.place.0 < length words) now
clear-within words filled places last part now are inside is same = subst (λ (cs : List WordChange). All (λ change. change.place.0 < length words) cs) (sym (same ∙ is))
    (All-push (λ change. change.place.0 < length words) (map (λ at. change at.0 0) filled) (change last 0)
    (All-map (λ change. change.place.0 < length words) (λ at. change at.0 0) filled (filled-within words filled places are)) inside)
