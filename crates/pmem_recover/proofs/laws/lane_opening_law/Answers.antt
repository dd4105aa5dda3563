use Rattle.pm_model.proofs.ChangeLaw.{survives-from-words}
use Rattle.shown_state.proofs.LaneMending.{lane_mends}
use Rattle.pmem_recover.specs.LaneStep.{lane_step}
use Rattle.pmem_recover.proofs.LaneChanges.{step_holds}
use Rattle.pmem_recover.proofs.OwnedLanes.{image_may_mend}
use Rattle.pmem_recover.proofs.laws.lane_opening_law.Goals as goal

pub returns : goal.returns
returns c = record {
  may = image_may_mend;
  survives = λ lane. survives-from-words (lane_step lane) (step_holds lane);
  mends = lane_mends;
}
