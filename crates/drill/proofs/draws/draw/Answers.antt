use Rattle.drill.specs.Draws.{draw}
use Rattle.drill.proofs.draws.draw.Goals as goal

pub returns : goal.returns
unfolding draw
returns c = c.mix.ensures
