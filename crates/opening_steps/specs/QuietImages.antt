-- Images in which no split is logged; lanes and transactions may be at work, and tables and texts half made.
use Rattle.std.specs.Prelude.{◌≡◌, ℕ, List, take}
use Rattle.pm_model.specs.Device.{Device}
use Rattle.pm_model.specs.Plans.{at_rest, run}
use Rattle.shown_state.specs.Fits.{Fits}
use Rattle.shown_state.specs.LogicalState.{logical_state}
use Rattle.shown_state.specs.OpeningParts.{FitsStill, IsImage, opening_plan}
use Rattle.shown_state.specs.StepLaws.{HaveNoNew, NoneIsSplit}

-- such an image, which fits together
pub record IsQuiet (words : List ℕ) : Type 0 where
  pub image : IsImage words
  pub fits : Fits words
  pub quiet : NoneIsSplit 512 words

-- the device after so many of the actions of opening
abbrev pub opened_up_to : List ℕ → ℕ → Device
opened_up_to words k = run 0 (take k (opening_plan words)) (at_rest words)

-- such an image again, which shows what these words show
abbrev pub LeavesQuiet : List ℕ → List ℕ → Type 0
LeavesQuiet words image = IsQuiet image × (logical_state image ≡ logical_state words)

-- it fits together as these words do, shows the same, and nothing is under way in it but transactions
pub record StaysQuiet (words image : List ℕ) : Type 0 where
  pub still : FitsStill words image
  pub quiet : HaveNoNew 512 image

-- it fits together as these words do, shows the same, and no split is logged in it, if none was
pub record StaysPlain (words image : List ℕ) : Type 0 where
  pub still : FitsStill words image
  pub plain : NoneIsSplit 512 words → NoneIsSplit 512 image
