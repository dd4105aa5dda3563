-- What is to be shown of a step: its parts are stores, each cut of them keeps what fits, and so it goes on behind them.
use Rattle.std.proofs.Common.{◌≡◌, ℕ, ◌<◌, List, length, refl, sym, subst}
use Rattle.pm_model.specs.Needed.{after_mending, AllStores, Mending, needed_parts}
use Rattle.pm_model.specs.Plans.{EachCut, finished, IsPlan, Part}
use Rattle.pm_model.proofs.Cuts.{each_cut-map}
use Rattle.pm_model.proofs.NeededStores.{needed-cuts, needed-finished, needed-plan}
use Rattle.shown_state.specs.Fits.{Fits}
use Rattle.shown_state.specs.OpeningParts.{FitsStill, StepKeeps}
use Rattle.shown_state.specs.StepLaws.{HaveNoNew}
use Rattle.opening_steps.specs.QuietImages.{StaysPlain, StaysQuiet}

-- a step keeps what fits, and nothing gets under way in it
pub record StepStays (After : List ℕ → Type 0) (mending : Mending) (words : List ℕ) : Type 0 where
  pub plan : IsPlan (length words) (needed_parts words (mending words))
  pub cuts : EachCut (StaysQuiet words) (needed_parts words (mending words)) words
  pub goes_on : After (after_mending mending words)

pub as_it_is : (words : List ℕ) → Fits words → HaveNoNew 512 words → StaysQuiet words words
as_it_is words fits quiet = record { still = record { fits = fits; shows = refl }; quiet = quiet }

pub step_by : (After : List ℕ → Type 0) (mending : Mending) (words : List ℕ) (parts : List Part) → mending words ≡ parts → AllStores (length words) parts → EachCut (StaysQuiet words) parts words → After (finished parts words)
    → StepStays After mending words
step_by After mending words parts are stores cuts after = record {
  plan = subst (λ (ps : List Part). IsPlan (length words) (needed_parts words ps)) (sym are) (needed-plan (length words) parts words stores);
  cuts = subst (λ (ps : List Part). EachCut (StaysQuiet words) (needed_parts words ps) words) (sym are)
      (needed-cuts (StaysQuiet words) (λ place value. place < length words) parts words stores cuts);
  goes_on = subst (λ (ps : List Part). After (finished (needed_parts words ps) words)) (sym are)
      (subst After (sym (needed-finished (λ place value. place < length words) parts words stores)) after);
}

-- a step keeps what fits, and nothing gets new in it
pub record StepIsPlain (After : List ℕ → Type 0) (mending : Mending) (words : List ℕ) : Type 0 where
  pub plan : IsPlan (length words) (needed_parts words (mending words))
  pub cuts : EachCut (StaysPlain words) (needed_parts words (mending words)) words
  pub goes_on : After (after_mending mending words)

pub plain_as_it_is : (words : List ℕ) → Fits words → StaysPlain words words
plain_as_it_is words fits = record { still = record { fits = fits; shows = refl }; plain = λ plain. plain }

pub plain_by : (After : List ℕ → Type 0) (mending : Mending) (words : List ℕ) (parts : List Part) → mending words ≡ parts → AllStores (length words) parts → EachCut (StaysPlain words) parts words → After (finished parts words)
    → StepIsPlain After mending words
plain_by After mending words parts are stores cuts after = record {
  plan = subst (λ (ps : List Part). IsPlan (length words) (needed_parts words ps)) (sym are) (needed-plan (length words) parts words stores);
  cuts = subst (λ (ps : List Part). EachCut (StaysPlain words) (needed_parts words ps) words) (sym are)
      (needed-cuts (StaysPlain words) (λ place value. place < length words) parts words stores cuts);
  goes_on = subst (λ (ps : List Part). After (finished (needed_parts words ps) words)) (sym are)
      (subst After (sym (needed-finished (λ place value. place < length words) parts words stores)) after);
}

pub plain_keeps : (After : List ℕ → Type 0) (mending : Mending) (words : List ℕ) → StepIsPlain After mending words → StepKeeps After mending words
plain_keeps After mending words is = record {
  plan = is.plan;
  cuts = each_cut-map (StaysPlain words) (FitsStill words) (needed_parts words (mending words)) words (λ image stays. stays.still) is.cuts;
  goes_on = is.goes_on;
}

pub step_keeps : (After : List ℕ → Type 0) (mending : Mending) (words : List ℕ) → StepStays After mending words → StepKeeps After mending words
step_keeps After mending words stays = record {
  plan = stays.plan;
  cuts = each_cut-map (StaysQuiet words) (FitsStill words) (needed_parts words (mending words)) words (λ image is. is.still) stays.cuts;
  goes_on = stays.goes_on;
}
