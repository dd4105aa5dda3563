use Rattle.engine_core.specs.Decided.{left_of}
use Rattle.engine_core.proofs.Steps.{rests-idle}
use Rattle.engine_core.proofs.store_core.Core.in_flight.Goals as goal

pub returns-clause-idle : goal.returns-clause-idle
returns-clause-idle g c =
    let inside = c.self.inside in
    rw (← c.self.view_is) (rests-idle inside.opened.items (g.M.Memory.device inside.memory) inside.history.items inside.transactions (left_of inside.plan) inside.flight inside.events_left inside.played inside.started c.self.invariant.0)
