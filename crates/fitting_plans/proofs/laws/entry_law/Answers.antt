use Rattle.fitting_plans.proofs.Enter.{enter_keeps}
use Rattle.fitting_plans.proofs.laws.entry_law.Goals as goal

pub returns : goal.returns
returns c = enter_keeps
