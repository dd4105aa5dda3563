-- What the stores of values from a place on do to the words.
use Rattle.std.proofs.Common.{◌≡◌, ◌⊎◌, inl, inr, ⊎_elim, ℕ, zero, suc, ◌+◌, ◌<◌, ◌≤◌, false, eqb, List, [], ◌∷◌, length, get_or, set, refl, ◌∙◌, ap, arith}
use Rattle.std.proofs.lemmas.Bool.{eqb-true, ne_eqb, or_from}
use Rattle.std.proofs.lemmas.List.{get_or-set_same, length-set}
use Rattle.pm_model.specs.Plans.{words_after, footprint, IsPart}
use Rattle.pm_model.proofs.PlanLaw.{words_after-kept}
use Rattle.shown_state.specs.Mending.{fill_from}

-- words elsewhere aren't written
pub filled-out : (place : ℕ) (values : List ℕ) (w : ℕ) → (w < place) ⊎ (place + length values ≤ w) → footprint (fill_from place values) w ≡ false
filled-out place [] w out = refl
filled-out place (value ∷ values) w out =
    or_from (eqb w place) (footprint (fill_from (place + 1) values) w) (ne_eqb w place (λ e. ⊎_elim (λ h. omega (arith, h, e)) (λ h. omega (arith, h, e)) out))
    (filled-out (place + 1) values w (⊎_elim (λ h. inl (omega (arith, h))) (λ h. inr (omega (arith, h))) out))

-- and these are so
pub filled-word : (place : ℕ) (values words : List ℕ) (k : ℕ) → k < length values → place + length values ≤ length words → get_or (words_after (fill_from place values) words) (place + k) 0 ≡ get_or values k 0
filled-word place [] words k lt within = absurd (omega (arith, lt))
filled-word place (value ∷ values) words zero lt within =
    let here : place + 0 ≡ place = omega arith in
    ap (λ (w : ℕ). get_or (words_after (fill_from (place + 1) values) (set words place value)) w 0) here
    ∙ words_after-kept (fill_from (place + 1) values) (set words place value) place (filled-out (place + 1) values place (inl (omega arith)))
    ∙ get_or-set_same words place value 0 (omega (arith, within))
filled-word place (value ∷ values) words (suc k) lt within =
    let there : place + suc k ≡ place + 1 + k = omega arith in
    let size = length-set words place value in
    ap (λ (w : ℕ). get_or (words_after (fill_from (place + 1) values) (set words place value)) w 0) there
    ∙ filled-word (place + 1) values (set words place value) k (omega (arith, lt)) (omega (arith, within, size))

pub filled-part : (size place : ℕ) (values : List ℕ) → place + length values ≤ size → IsPart size (fill_from place values)
filled-part size place [] within = tt
filled-part size place (value ∷ values) within = (
  tt,
  omega (arith, within),
  λ w hit. let same = eqb-true w place hit in filled-out (place + 1) values w (inl (omega (arith, same))),
  filled-part size (place + 1) values (omega (arith, within)),
)
