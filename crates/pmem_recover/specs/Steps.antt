-- The steps of opening, as calls that are made from one number on: each mends what has one of so many numbers.
use Rattle.std.specs.Prelude.{◌≡◌, ◌≢◌, ℕ, ◌<◌, ◌≤◌, List, []}
use Rattle.pm_model.specs.declared.action.Action.{Action}
use Rattle.pm_model.specs.Plans.{Part, plan_of}
use Rattle.pm_model.specs.Needed.{needed_parts, Mending}

-- the parts that mend what has a number, on these words: of the mending's parts the stores that are needed
unfoldable pub step_parts : (ℕ → Mending) → List ℕ → ℕ → List Part
step_parts mending words number = needed_parts words (mending number words)

-- By the parts for each number: the first number from one on that has something to mend, and the actions that mend it.
pub record IsNext (parts : ℕ → List Part) (count from number : ℕ) (plan : List Action) : Type 0 where
  pub is_from : from ≤ number
  pub number_is : number < count
  pub some : parts number ≢ []
  pub plan_is : plan ≡ plan_of (parts number)
  pub passed : (other : ℕ) → from ≤ other → other < number → parts other ≡ []

-- no number from one on has anything to mend
abbrev pub NoneFrom : (ℕ → List Part) → ℕ → ℕ → Type 0
NoneFrom parts count from = (number : ℕ) → from ≤ number → number < count → parts number ≡ []
