use Rattle.std.proofs.Common.{◌∙◌}
use Rattle.engine_core.proofs.opening.needed.Goals as goal

pub returns-clause-needed : goal.returns-clause-needed
returns-clause-needed g c = c.reverse.ensures.items ∙ c.take_stores.ensures.taken.needed
