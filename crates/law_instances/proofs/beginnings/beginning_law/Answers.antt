use Rattle.law_instances.proofs.Beginning.{may_begin, may_clear}
use Rattle.law_instances.proofs.beginnings.beginning_law.Goals as goal

pub returns : goal.returns
returns c = record { begins = may_begin; clears = may_clear }
