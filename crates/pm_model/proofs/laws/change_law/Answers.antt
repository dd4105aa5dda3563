use Rattle.pm_model.proofs.ChangeLaw.{survives-from-words}
use Rattle.pm_model.proofs.laws.change_law.Goals as goal

pub returns : goal.returns
returns g c = survives-from-words g.C.Changing.change
