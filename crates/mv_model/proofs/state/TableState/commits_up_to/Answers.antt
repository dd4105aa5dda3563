use Rattle.std.proofs.Common.{arith}
use Rattle.std.proofs.lemmas.Grind.{common_steps}
use Rattle.mv_model.proofs.state.TableState.commits_up_to.Goals as goal

pub returns : goal.returns
returns c = grind (arith, common_steps)
