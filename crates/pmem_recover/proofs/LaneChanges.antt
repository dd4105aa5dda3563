-- The plan of the changes that are made for a lane is that of opening's step.
use Rattle.std.proofs.Common.{◌≡◌, ◌≢◌, ℕ, ◌<◌, List, [], ◌∷◌, ◌++◌, length, get_or, sym, ◌∙◌, ap, subst}
use Rattle.pm_model.specs.declared.action.Action.{Action}
use Rattle.image_layout.specs.declared.place.Place.{Place}
use Rattle.image_layout.specs.Fixed.{lane_op_at, lane_block_at}
use Rattle.pm_model.specs.Plans.{Part, plan_of, one_store, EachCut, IsPlan, finished}
use Rattle.pm_model.specs.Needed.{needed_parts}
use Rattle.pm_model.specs.Changes.{HoldsOnWords}
use Rattle.heap_palloc.specs.Lane.{mended_lane}
use Rattle.shown_state.specs.LaneRules.{MayMend}
use Rattle.shown_state.specs.Mending.{lane_mending, release_part}
use Rattle.shown_state.proofs.LaneMending.{AtWork, owner_of, block_of, mending-freeing, mending-done, mending-undone, step-idle, some-at_work, lane_plan, lane_cuts, lane_mends, lane_idle}
use Rattle.pmem_recover.specs.declared.change.WordChange.{WordChange}
use Rattle.pmem_recover.specs.Changes.{change, change_parts}
use Rattle.pmem_recover.specs.Lanes.{release}
use Rattle.pmem_recover.specs.LaneStep.{EndsLaneStep, lane_step}
use Rattle.pmem_recover.specs.Steps.{step_parts}

-- a plan that was empty and got the needed ones of these changes
pub planned : (words : List ℕ) (lane : ℕ) (changes : List WordChange) (before left : List Action) → before ≡ [] → left ≡ before ++ plan_of (needed_parts words (change_parts changes))
    → lane_mending lane words ≡ change_parts changes → left ≡ plan_of (step_parts lane_mending words lane)
unfolding step_parts
planned words lane changes before left empty is same =
    is ∙ ap (λ (xs : List Action). xs ++ plan_of (needed_parts words (change_parts changes))) empty ∙ ap (λ (parts : List Part). plan_of (needed_parts words parts)) (sym same)

module _ (words : List ℕ) (lane : ℕ) (owner mine : Place) (released : WordChange) (before left : List Action)
    (owner_is : owner.0 ≡ owner_of words lane) (mine_is : mine.0 ≡ lane_op_at lane) (released_is : released ≡ release words (block_of words lane)) (empty : before ≡ []) where
  pub planned-freeing : get_or words (lane_op_at lane) 0 ≡ 2
      → left ≡ before ++ plan_of (needed_parts words (change_parts (change owner.0 0 ∷ released ∷ change mine.0 0 ∷ []))) → left ≡ plan_of (step_parts lane_mending words lane)
  planned-freeing two is = planned words lane (change owner.0 0 ∷ released ∷ change mine.0 0 ∷ []) before left empty is
      (mending-freeing words lane two ∙ sym (ap (λ (p : ℕ). one_store p 0 ∷ one_store released.place.0 released.value ∷ one_store mine.0 0 ∷ []) owner_is
      ∙ ap (λ (r : WordChange). one_store (owner_of words lane) 0 ∷ one_store r.place.0 r.value ∷ one_store mine.0 0 ∷ []) released_is
      ∙ ap (λ (p : ℕ). one_store (owner_of words lane) 0 ∷ release_part words (block_of words lane) ∷ one_store p 0 ∷ []) mine_is))

  pub planned-done : get_or words (lane_op_at lane) 0 ≡ 1 → get_or words owner.0 0 ≡ get_or words (lane_block_at lane) 0
      → left ≡ before ++ plan_of (needed_parts words (change_parts (change mine.0 0 ∷ []))) → left ≡ plan_of (step_parts lane_mending words lane)
  planned-done one owned is = planned words lane (change mine.0 0 ∷ []) before left empty is
      (mending-done words lane one (ap (λ (p : ℕ). get_or words p 0) (sym owner_is) ∙ owned) ∙ sym (ap (λ (p : ℕ). one_store p 0 ∷ []) mine_is))

  pub planned-undone : get_or words (lane_op_at lane) 0 ≡ 1 → get_or words owner.0 0 ≢ get_or words (lane_block_at lane) 0
      → left ≡ before ++ plan_of (needed_parts words (change_parts (released ∷ change mine.0 0 ∷ []))) → left ≡ plan_of (step_parts lane_mending words lane)
  planned-undone one apart is = planned words lane (released ∷ change mine.0 0 ∷ []) before left empty is
      (mending-undone words lane one (λ e. apart (ap (λ (p : ℕ). get_or words p 0) owner_is ∙ e))
      ∙ sym (ap (λ (r : WordChange). one_store r.place.0 r.value ∷ one_store mine.0 0 ∷ []) released_is ∙ ap (λ (p : ℕ). release_part words (block_of words lane) ∷ one_store p 0 ∷ []) mine_is))

-- ── the parts of a lane's step ──

pub none-idle : (words : List ℕ) (lane : ℕ) → get_or words (lane_op_at lane) 0 ≡ 0 → step_parts lane_mending words lane ≡ []
unfolding step_parts
none-idle = step-idle

pub some-parts : (words : List ℕ) (lane : ℕ) → AtWork words lane → lane_op_at lane < length words → get_or words (lane_op_at lane) 0 ≢ 0 → step_parts lane_mending words lane ≢ []
unfolding step_parts
some-parts = some-at_work

pub step_plan : (words : List ℕ) (lane : ℕ) → MayMend words lane → IsPlan (length words) (step_parts lane_mending words lane)
unfolding step_parts
step_plan = lane_plan

pub step_cuts : (words : List ℕ) (lane : ℕ) → MayMend words lane → EachCut (λ image. mended_lane lane image ≡ mended_lane lane words) (step_parts lane_mending words lane) words
unfolding step_parts
step_cuts = lane_cuts

pub step_ends : (lane : ℕ) (base : List ℕ) → MayMend base lane → EndsLaneStep lane base (finished (step_parts lane_mending base lane) base)
unfolding step_parts
step_ends lane base may =
    let mends = lane_mends base lane may in
    record { mended = mends; idle = ap (λ (words : List ℕ). get_or words (lane_op_at lane) 0) mends ∙ lane_idle base lane may }

pub step_holds : (lane : ℕ) → HoldsOnWords (lane_step lane)
step_holds lane = record {
  plan = λ base may. step_plan base lane may;
  cuts = λ base may. step_cuts base lane may;
  end = λ base may. step_ends lane base may;
  stable = λ old new same may. (subst (λ (words : List ℕ). MayMend words lane) (sym same) may, ap (λ (words : List ℕ). step_parts lane_mending words lane) same);
}
