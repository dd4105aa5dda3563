use Rattle.engine_core.specs.Decided.{left_of}
use Rattle.engine_core.proofs.OpenedCore.{recoverable-now}
use Rattle.engine_core.proofs.Played.{played-device}
use Rattle.engine_core.proofs.Recoveries.{may-recover}
use Rattle.engine_core.proofs.Steps.{rests}
use Rattle.engine_core.proofs.store_core.Core.memory.Goals as goal

pub returns-clause-recoverable : goal.returns-clause-recoverable
returns-clause-recoverable g c =
    let inside = c.self.inside in
    let whole = g.met.M.Memory.whole inside.memory in
    rw (← c.self.view_is) (recoverable-now (g.M.Memory.device inside.memory) inside.opened.items inside.history.items inside.transactions (left_of inside.plan) inside.flight inside.events_left inside.played inside.started c.self.invariant.0 whole.one_or_more whole.durable)

pub returns-clause-may_recover_to : goal.returns-clause-may_recover_to
returns-clause-may_recover_to g c =
    let inside = c.self.inside in
    rw (← c.self.view_is) (may-recover (g.M.Memory.device inside.memory) inside.opened.items inside.history.items inside.transactions (left_of inside.plan) inside.flight inside.events_left inside.played inside.started c.self.invariant.0)

pub returns-clause-rests : goal.returns-clause-rests
returns-clause-rests g c =
    let inside = c.self.inside in
    rw (← c.self.view_is) (rests inside.opened.items (g.M.Memory.device inside.memory) inside.history.items inside.transactions (left_of inside.plan) inside.flight inside.events_left inside.played inside.started c.self.invariant.0)

pub returns-clause-device : goal.returns-clause-device
returns-clause-device g c = rw (← c.self.view_is) (played-device c.self.invariant.0.done)
