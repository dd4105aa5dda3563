use Rattle.std.proofs.Common.{◌≡◌, subst, arith}
use Rattle.engine_core.specs.CoreState.{Nothing, in_flight_of}
use Rattle.engine_core.specs.Decided.{left_of}
use Rattle.engine_core.specs.Kept.{IsKept}
use Rattle.engine_core.specs.declared.flight.Flight.{Flight}
use Rattle.engine_core.proofs.CoreSteps.{is_idle}
use Rattle.engine_core.proofs.Steps.{starts}
use Rattle.engine_core.proofs.store_core.Core.start.Goals as goal

pub invariant_of-self-2 : goal.invariant_of-self-2
invariant_of-self-2 g c =
    let inside = c.self.inside in
    let d = g.M.Memory.device inside.memory in
    let free : in_flight_of inside.flight ≡ Nothing = rw (← c.self.view_is) at c.requires.free in
    let kept = subst (λ (f : Flight). IsKept d inside.opened.items inside.history.items inside.transactions (left_of inside.plan) f inside.events_left inside.played inside.started) (is_idle inside.flight free) c.self.invariant.0 in
    rw (c.in-Ok.ensures.items, c.put_flight.ensures)
    (starts inside.opened.items d inside.history.items inside.transactions (left_of inside.plan) c.args.said inside.events_left inside.played inside.started c.requires.served kept, omega (arith, c.in-Ok.ensures.ok), c.self.invariant.2)
