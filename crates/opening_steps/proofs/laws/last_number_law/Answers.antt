use Rattle.opening_steps.proofs.LastNumber.{last_keeps}
use Rattle.opening_steps.proofs.laws.last_number_law.Goals as goal

pub returns : goal.returns
returns c = last_keeps
