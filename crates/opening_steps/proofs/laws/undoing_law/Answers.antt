use Rattle.opening_steps.proofs.Undoing.{undos_keep}
use Rattle.opening_steps.proofs.laws.undoing_law.Goals as goal

pub returns : goal.returns
returns c = undos_keep
