use Rattle.std.proofs.Common.{rules}
use Rattle.engine_core.proofs.opening.push_undo.Goals as goal

pub returns-then-stamp-eq0-clause-items : goal.returns-then-stamp-eq0-clause-items
returns-then-stamp-eq0-clause-items c = search rules
