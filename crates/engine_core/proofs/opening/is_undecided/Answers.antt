use Rattle.std.proofs.Common.{rules}
use Rattle.engine_core.proofs.opening.is_undecided.Goals as goal

pub returns-then-load-eq1 : goal.returns-then-load-eq1
returns-then-load-eq1 c = search rules
