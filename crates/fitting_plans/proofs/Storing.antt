-- The state of an object is stored: every other word is the same.
use Rattle.std.proofs.Common.{◌≡◌, ◌≢◌, ℕ, ◌<◌, List, get_or, set, refl, ◌∙◌, arith}
use Rattle.std.specs.Prelude.{Contains}
use Rattle.std.proofs.lemmas.List.{get_or-set_other, get_or-set_same}
use Rattle.image_layout.specs.Fixed.{commit_word_at, state_at}
use Rattle.image_layout.specs.Objects.{commit_word, entry_places}
use Rattle.shown_state.specs.Fits.{Fits}
use Rattle.shown_state.specs.OpeningParts.{FitsStill}
use Rattle.opening_steps.proofs.NoneNew.{entry_apart}
use Rattle.fitting_plans.specs.Transactions.{IsObjectOf}

pub as_it_is : (words : List ℕ) → Fits words → FitsStill words words
as_it_is words fits = record { fits = fits; shows = refl }

pub then : (words middle image : List ℕ) → FitsStill words middle → FitsStill middle image → FitsStill words image
then words middle image first second = record { fits = second.fits; shows = second.shows ∙ first.shows }

-- ── one state is stored ──

module _ (words : List ℕ) (object value : ℕ) (its : IsObjectOf words object) where
  abbrev stored : List ℕ
  stored = set words (state_at object) value

  pub other : (w : ℕ) → w ≢ state_at object → get_or stored w 0 ≡ get_or words w 0
  other w apart = get_or-set_other words (state_at object) w value 0 apart

  pub here : get_or stored (state_at object) 0 ≡ value
  here =
      let whole = its.image in
      let large = whole.one_or_more in
      let number = its.number in
      get_or-set_same words (state_at object) value 0 (omega (arith, large, number))

  pub state_other : (one : ℕ) → one ≢ object → get_or stored (state_at one) 0 ≡ get_or words (state_at one) 0
  state_other one apart = other (state_at one) (λ e. apart (omega (arith, e)))

  pub commit_other : (one : ℕ) → commit_word stored one ≡ commit_word words one
  commit_other one = other (commit_word_at one) (λ e. omega (arith, e))

  pub entry_other : (one at : ℕ) → one < 16 → Contains (entry_places words one) at → get_or stored at 0 ≡ get_or words at 0
  entry_other one at lt is = other at (entry_apart words its.fits one at object 0 lt is its.number (omega arith))
