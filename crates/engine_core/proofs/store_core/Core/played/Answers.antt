use Rattle.engine_core.proofs.Played.{played-count}
use Rattle.engine_core.proofs.store_core.Core.played.Goals as goal

pub returns-clause-counted : goal.returns-clause-counted
returns-clause-counted g c = rw (← c.self.view_is) (played-count c.self.invariant.0.done)
