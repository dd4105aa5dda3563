use Rattle.std.proofs.Common.{arith}
use Rattle.image_layout.proofs.laws.limits_law.Goals as goal

pub returns-clause-commits : goal.returns-clause-commits
returns-clause-commits c = omega arith
