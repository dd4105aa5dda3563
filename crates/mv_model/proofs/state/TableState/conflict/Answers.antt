use Rattle.std.proofs.Common.{rules}
use Rattle.mv_model.proofs.state.TableState.conflict.Goals as goal

pub returns-in-Some : goal.returns-in-Some
returns-in-Some c = search rules
