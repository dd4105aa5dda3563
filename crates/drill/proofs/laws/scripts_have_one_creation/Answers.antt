use Rattle.drill.proofs.Following.{one-creation}
use Rattle.drill.proofs.laws.scripts_have_one_creation.Goals as goal

pub returns : goal.returns
returns c = one-creation
