use Rattle.std.proofs.Common.{◌<◌}
use Rattle.pm_model.proofs.NeededStores.{needed-finished, needed-plan}
use Rattle.pm_model.proofs.laws.needed_law.Goals as goal

pub returns : goal.returns
returns c = record { plan = needed-plan; same = λ size. needed-finished (λ place value. place < size) }
