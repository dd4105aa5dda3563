use Rattle.std.proofs.Common.{◌≡◌, ◌-◌, List, length, subst, arith}
use Rattle.pm_model.specs.declared.action.Action.{Action}
use Rattle.engine_core.specs.Decided.{left_of}
use Rattle.engine_core.specs.Kept.{IsKept}
use Rattle.engine_core.specs.declared.flight.Flight.{Flight}
use Rattle.engine_core.specs.declared.flight.Flight.TheVariants as flight
use Rattle.engine_core.proofs.CoreSteps.{none-left}
use Rattle.engine_core.proofs.Steps.{replies}
use Rattle.engine_core.proofs.store_core.Core.reply.Goals as goal

pub invariant_of-self : goal.invariant_of-self
invariant_of-self g c =
    let inside = c.self.inside in
    let d = g.M.Memory.device inside.memory in
    let left = left_of inside.plan in
    let none : length left ≡ 0 = rw (← c.self.view_is) at c.requires.to_play in
    let given = c.take_reply-reply.result in
    let placed = subst (λ (f : Flight). IsKept d inside.opened.items inside.history.items inside.transactions left f inside.events_left inside.played inside.started) c.take_reply-reply.ensures.reply c.self.invariant.0 in
    let kept = subst (λ (l : List Action). IsKept d inside.opened.items inside.history.items inside.transactions l (flight.Placed given) inside.events_left inside.played inside.started) (none-left left none) placed in
    let event = kept.bounded in
    let now = replies inside.opened.items d inside.history.items c.mark_answered.new.history.items inside.transactions given inside.events_left (inside.events_left - 1) inside.played inside.started (omega (arith, event)) c.mark_answered.ensures.items kept in
    let before = kept.count in
    let after = now.count in
    rw (none-left left none, c.take_reply-reply.ensures.taken) (now, omega (arith, before, after, c.self.invariant.1, c.mark_answered.ensures.capacity, inside.history.ok.0, c.mark_answered.new.history.ok.0), c.self.invariant.2)
