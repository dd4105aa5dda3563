use Rattle.fitting_plans.proofs.Clear.{clear_keeps}
use Rattle.fitting_plans.proofs.laws.clear_law.Goals as goal

pub returns : goal.returns
returns c = clear_keeps
