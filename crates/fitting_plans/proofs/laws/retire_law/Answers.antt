use Rattle.fitting_plans.proofs.Retire.{retire_keeps}
use Rattle.fitting_plans.proofs.laws.retire_law.Goals as goal

pub returns : goal.returns
returns c = retire_keeps
