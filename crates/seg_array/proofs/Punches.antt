-- A part that makes pages 0.
use Rattle.std.proofs.Common.{◌≡◌, ◌⊎◌, inl, inr, ⊎_elim, ℕ, zero, suc, ◌+◌, ◌*◌, ◌/◌, ◌<◌, ◌≤◌, false, eqb, List, [], length, get_or, refl, ◌∙◌, ap, arith}
use Rattle.std.proofs.lemmas.List.{get_or_past}
use Rattle.std.proofs.lemmas.Bool.{cases_lt, eqb-true, eq-eqb, ne_eqb, or_from}
use Rattle.pm_model.specs.declared.action.Action.{Action}
use Rattle.pm_model.specs.declared.action.Action.TheVariants.{Punch}
use Rattle.pm_model.specs.Device.{cached_after}
use Rattle.pm_model.specs.Plans.{words_after, footprint, lines_of, IsPart}
use Rattle.pm_model.proofs.Words.{length-cached_after, cached_after-written}
use Rattle.pm_model.proofs.PlanLaw.{words_after-kept}
use Rattle.seg_array.specs.Growth.{punches}

abbrev pub punch : ℕ → Action
punch page = Punch (record { 0 = page })

-- words of other pages aren't written
pub punches-out : (first pages w : ℕ) → (w < 512 * first) ⊎ (512 * (first + pages) ≤ w) → footprint (punches first pages) w ≡ false
punches-out first zero w out = refl
punches-out first (suc pages) w out =
    or_from (eqb (w / 512) first) (footprint (punches (first + 1) pages) w) (ne_eqb (w / 512) first (λ e. ⊎_elim (λ h. omega (arith, h, e)) (λ h. omega (arith, h, e)) out))
    (punches-out (first + 1) pages w (⊎_elim (λ h. inl (omega (arith, h))) (λ h. inr (omega (arith, h))) out))

-- and those of these are 0
pub punches-zero : (first pages : ℕ) (words : List ℕ) (w : ℕ) → 512 * first ≤ w → w < 512 * (first + pages) → get_or (words_after (punches first pages) words) w 0 ≡ 0
punches-zero first zero words w low high = absurd (omega (arith, low, high))
punches-zero first (suc pages) words w low high = ⊎_elim
    (λ here. words_after-kept (punches (first + 1) pages) (cached_after (punch first) words) w (punches-out (first + 1) pages w (inl (omega (arith, here)))) ∙ written here)
    (λ later. punches-zero (first + 1) pages (cached_after (punch first) words) w (omega (arith, later)) (omega (arith, high)))
    (cases_lt w (512 * (first + 1)))
  where
    written : w < 512 * (first + 1) → get_or (cached_after (punch first) words) w 0 ≡ 0
    written lt = ⊎_elim
        (λ inside. cached_after-written (punch first) words w inside (eq-eqb (w / 512) first (omega (arith, low, lt))))
        (λ past. get_or_past (cached_after (punch first) words) w 0 (omega (arith, past, length-cached_after (punch first) words)))
        (cases_lt w (length words))

pub punches-part : (size first pages : ℕ) → 512 * (first + pages) ≤ size → IsPart size (punches first pages)
punches-part size first zero within = tt
punches-part size first (suc pages) within = (
  tt,
  omega (arith, within),
  λ w hit. let same = eqb-true (w / 512) first hit in punches-out (first + 1) pages w (inl (omega (arith, same))),
  punches-part size (first + 1) pages (omega (arith, within)),
)

-- it touches no line that a flush is due for
pub punches-lines : (first pages : ℕ) → lines_of (punches first pages) ≡ []
punches-lines first zero = refl
punches-lines first (suc pages) = punches-lines (first + 1) pages

pub length-punches : (first pages : ℕ) → length (punches first pages) ≡ pages
length-punches first zero = refl
length-punches first (suc pages) = ap suc (length-punches (first + 1) pages)
