use Rattle.fitting_plans.proofs.TakeBack.{takes_back}
use Rattle.fitting_plans.proofs.laws.undo_law.Goals as goal

pub returns : goal.returns
returns c = takes_back
