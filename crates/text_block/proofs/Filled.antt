-- Stores of values from a place on: how they are pushed, and what they do to the words.
use Rattle.std.proofs.Common.{◌≡◌, ◌⊎◌, inl, inr, ⊎_elim, ℕ, zero, suc, ◌+◌, ◌-◌, ◌<◌, ◌≤◌, false, eqb, List, [], ◌∷◌, ◌++◌, length, drop, map, get_or, set, append_assoc, refl, sym, ◌∙◌, ap, ap₂, arith}
use Rattle.std.specs.List.{range_with_len}
use Rattle.std.proofs.lemmas.Bool.{eqb-true, ne_eqb, or_from}
use Rattle.std.proofs.lemmas.List.{get_or-set_same, length-set, length-append}
use Rattle.std.proofs.lemmas.List.FromFn.{length-map-range_with_len, map-range_with_len_more}
use Rattle.pm_model.specs.declared.action.Action.{Action}
use Rattle.pm_model.specs.Plans.{words_after, footprint, store, part_actions, part_end, IsPart}
use Rattle.pm_model.proofs.PlanLaw.{words_after-kept}
use Rattle.pm_model.proofs.Lines.{last_part}
use Rattle.shown_state.specs.Mending.{fill_from}

-- ── on words ──

-- words elsewhere aren't written
pub filled-out : (place : ℕ) (values : List ℕ) (w : ℕ) → (w < place) ⊎ (place + length values ≤ w) → footprint (fill_from place values) w ≡ false
filled-out place [] w out = refl
filled-out place (value ∷ values) w out =
    or_from (eqb w place) (footprint (fill_from (place + 1) values) w) (ne_eqb w place (λ e. ⊎_elim (λ h. omega (arith, h, e)) (λ h. omega (arith, h, e)) out))
    (filled-out (place + 1) values w (⊎_elim (λ h. inl (omega (arith, h))) (λ h. inr (omega (arith, h))) out))

-- and these are so
pub filled-word : (place : ℕ) (values words : List ℕ) (k : ℕ) → k < length values → place + length values ≤ length words → get_or (words_after (fill_from place values) words) (place + k) 0 ≡ get_or values k 0
filled-word place [] words k lt within = absurd (omega (arith, lt))
filled-word place (value ∷ values) words zero lt within =
    let here : place + 0 ≡ place = omega arith in
    ap (λ (w : ℕ). get_or (words_after (fill_from (place + 1) values) (set words place value)) w 0) here
    ∙ words_after-kept (fill_from (place + 1) values) (set words place value) place (filled-out (place + 1) values place (inl (omega arith)))
    ∙ get_or-set_same words place value 0 (omega (arith, within))
filled-word place (value ∷ values) words (suc k) lt within =
    let there : place + suc k ≡ place + 1 + k = omega arith in
    let size = length-set words place value in
    ap (λ (w : ℕ). get_or (words_after (fill_from (place + 1) values) (set words place value)) w 0) there
    ∙ filled-word (place + 1) values (set words place value) k (omega (arith, lt)) (omega (arith, within, size))

pub filled-part : (size place : ℕ) (values : List ℕ) → place + length values ≤ size → IsPart size (fill_from place values)
filled-part size place [] within = tt
filled-part size place (value ∷ values) within = (
  tt,
  omega (arith, within),
  λ w hit. let same = eqb-true w place hit in filled-out (place + 1) values w (inl (omega (arith, same))),
  filled-part size (place + 1) values (omega (arith, within)),
)

-- ── in a plan ──

pub length-fill_from : (place : ℕ) (xs : List ℕ) → length (fill_from place xs) ≡ length xs
length-fill_from place [] = refl
length-fill_from place (x ∷ xs) = ap suc (length-fill_from (place + 1) xs)

fill_more : (place : ℕ) (xs : List ℕ) (value : ℕ) → fill_from place (xs ++ value ∷ []) ≡ fill_from place xs ++ store (place + length xs) value ∷ []
fill_more place [] value = ap (λ (p : ℕ). store p value ∷ []) (here place)
  where
    here : (p : ℕ) → p ≡ p + 0
    here p = omega arith
fill_more place (x ∷ xs) value =
    ap (λ (part : List Action). store place x ∷ part)
    (fill_more (place + 1) xs value ∙ ap (λ (p : ℕ). fill_from (place + 1) xs ++ store p value ∷ []) (there place (length xs)))
  where
    there : (p n : ℕ) → p + 1 + n ≡ p + suc n
    there p n = omega arith

-- a first value, and one more of those behind it, which are made of their numbers
pub filled_more : (old plan new : List Action) (first : ℕ) (f : ℕ → ℕ) (place at n value : ℕ) → plan ≡ old ++ fill_from place (first ∷ map f (range_with_len 0 n)) → new ≡ plan ++ store at value ∷ [] → at ≡ place + 1 + n → value ≡ f n
    → new ≡ old ++ fill_from place (first ∷ map f (range_with_len 0 (n + 1)))
filled_more old plan new first f place at n value plan_is new_is at_is value_is =
    let done = first ∷ map f (range_with_len 0 n) in
    let count : length done ≡ suc n = ap suc (length-map-range_with_len f 0 n) in
    let there : at ≡ place + length done = omega (arith, at_is, count) in
    new_is ∙ ap (λ (l : List Action). l ++ store at value ∷ []) plan_is ∙ append_assoc old (fill_from place done) (store at value ∷ [])
    ∙ ap (λ (l : List Action). old ++ l)
    (ap₂ (λ (p v : ℕ). fill_from place done ++ store p v ∷ []) there value_is
    ∙ sym (ap (λ (xs : List ℕ). fill_from place (first ∷ xs)) (map-range_with_len_more f 0 n n (omega arith)) ∙ fill_more place done (f n)))

-- the end of a part of such stores
module _ (old left : List Action) (place : ℕ) (values : List ℕ) (is : left ≡ old ++ fill_from place values) (count : ℕ) (counted : count ≡ length values) where
  pub filled_within : count ≤ length left
  filled_within = let all = ap (length {A = Action}) is in omega (arith, all, length-append old (fill_from place values), length-fill_from place values, counted)

  pub filled_last : drop (length left - count) left ≡ fill_from place values
  filled_last = last_part old (fill_from place values) left count is (counted ∙ sym (length-fill_from place values))

  pub filled_whole : (whole : List Action) → whole ≡ left ++ part_end (drop (length left - count) left) → whole ≡ old ++ part_actions (fill_from place values)
  filled_whole whole ended =
      ended ∙ ap (λ (xs : List Action). left ++ part_end xs) filled_last
      ∙ ap (λ (xs : List Action). xs ++ part_end (fill_from place values)) is
      ∙ append_assoc old (fill_from place values) (part_end (fill_from place values))
