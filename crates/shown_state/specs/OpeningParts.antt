-- The parts that opening plays, all of them, and the images that a power cut can leave of each.
use Rattle.std.specs.Prelude.{◌≡◌, ℕ, ◌≤◌, ◌%◌, false, if◌then◌else◌, List, [], ◌∷◌, ◌++◌, length}
use Rattle.pm_model.specs.declared.action.Action.{Action}
use Rattle.pm_model.specs.Plans.{Part, IsPlan, EachCut, plan_of}
use Rattle.pm_model.specs.Needed.{needed_parts, Mending, after_mending}
use Rattle.shown_state.specs.Mending.{Reached, mend_unless, mendings}
use Rattle.shown_state.specs.LogicalState.{logical_state}
use Rattle.shown_state.specs.Fits.{Fits}

-- the needed parts of these mendings, one after the other, as far as opening goes
abbrev pub parts_of : List Mending → Reached → List Part
parts_of [] reached = []
parts_of (mending ∷ later) reached =
    (if reached.stopped then [] else needed_parts reached.words (mending reached.words))
    ++ parts_of later (mend_unless reached.stopped reached.words mending)

-- all parts that opening plays on these words
unfoldable pub opening_parts : List ℕ → List Part
opening_parts words = parts_of mendings (record { words = words; stopped = false })

-- the actions that opening plays on these words
abbrev pub opening_plan : List ℕ → List Action
opening_plan words = plan_of (opening_parts words)

-- an image of one segment or more
pub record IsImage (words : List ℕ) : Type 0 where
  pub segments : length words % 32768 ≡ 0
  pub one_or_more : 32768 ≤ length words

-- it fits together as these words do, and shows the same
pub record FitsStill (words image : List ℕ) : Type 0 where
  pub fits : Fits image
  pub shows : logical_state image ≡ logical_state words

-- A step of opening keeps what fits, from its start through each power cut to its end, and then what it mends is
-- mended.
pub record StepKeeps (After : List ℕ → Type 0) (mending : Mending) (words : List ℕ) : Type 0 where
  pub plan : IsPlan (length words) (needed_parts words (mending words))
  pub cuts : EachCut (FitsStill words) (needed_parts words (mending words)) words
  pub goes_on : After (after_mending mending words)
