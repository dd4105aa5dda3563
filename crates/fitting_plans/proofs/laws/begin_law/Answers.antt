use Rattle.fitting_plans.proofs.Begin.{begin_keeps}
use Rattle.fitting_plans.proofs.laws.begin_law.Goals as goal

pub returns : goal.returns
returns c = begin_keeps
