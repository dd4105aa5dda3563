use Rattle.drill.proofs.Following.{each-follows}
use Rattle.drill.proofs.laws.statements_follow.Goals as goal

pub returns : goal.returns
returns c = each-follows
