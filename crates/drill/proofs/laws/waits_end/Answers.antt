use Rattle.drill.proofs.Waits.{waits-end}
use Rattle.drill.proofs.laws.waits_end.Goals as goal

pub returns : goal.returns
returns c = waits-end
