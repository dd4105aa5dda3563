use Rattle.drill.proofs.Moves.{moves-fit}
use Rattle.drill.proofs.laws.moves_fit.Goals as goal

pub returns : goal.returns
returns c = moves-fit
