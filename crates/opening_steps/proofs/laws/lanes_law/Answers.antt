use Rattle.opening_steps.proofs.LaneStep.{lanes_keep}
use Rattle.opening_steps.proofs.laws.lanes_law.Goals as goal

pub returns : goal.returns
returns c = lanes_keep
