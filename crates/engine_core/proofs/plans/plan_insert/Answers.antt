use Rattle.std.proofs.Common.{rules}
use Rattle.engine_core.proofs.plans.plan_insert.Goals as goal

pub returns-clause-left : goal.returns-clause-left
returns-clause-left c = search rules
