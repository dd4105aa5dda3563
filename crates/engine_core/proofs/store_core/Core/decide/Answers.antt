use Rattle.std.proofs.Common.{◌≡◌, ◌≢◌, ◌+◌, ◌-◌, List, length, ap, sym, subst, refl, arith}
use Rattle.pm_model.specs.declared.action.Action.{Action}
use Rattle.mv_model.specs.State.{State}
use Rattle.engine_core.specs.CoreState.{Moves, Nothing, in_flight_of, pending}
use Rattle.engine_core.specs.declared.flight.Flight.TheVariants as flight
use Rattle.engine_core.specs.declared.flight.Step.TheVariants.{Decided}
use Rattle.engine_core.proofs.Movements.{core_of, decides-moves}
use Rattle.engine_core.specs.Decided.{IsFullWhere, IsNoMemoryWhere, left_of}
use Rattle.engine_core.specs.Kept.{IsKept}
use Rattle.engine_core.specs.declared.flight.Flight.{Flight}
use Rattle.engine_core.proofs.CoreSteps.{none-left, one-event}
use Rattle.engine_core.proofs.Steps.{decides, stage_now, state_now}
use Rattle.engine_core.proofs.store_core.Core.decide.Goals as goal

pub decide-decision-requires-clause-stage : goal.decide-decision-requires-clause-stage
decide-decision-requires-clause-stage g c =
    let inside = c.self.inside in
    let d = g.M.Memory.device inside.memory in
    let left = left_of inside.plan in
    let said = c.take_call-said.result in
    let none : length left ≡ 0 = rw (← c.self.view_is) at c.requires.to_play in
    let waiting = subst (λ (f : Flight). IsKept d inside.opened.items inside.history.items inside.transactions left f inside.events_left inside.played inside.started) c.take_call-said.ensures.call c.self.invariant.0 in
    let kept = subst (λ (l : List Action). IsKept d inside.opened.items inside.history.items inside.transactions l (flight.Waiting said) inside.events_left inside.played inside.started) (none-left left none) waiting in
    stage_now inside.opened.items d inside.history.items inside.transactions said inside.events_left inside.played inside.started kept

pub invariant_of-self : goal.invariant_of-self
invariant_of-self g c =
    let inside = c.self.inside in
    let d = g.M.Memory.device inside.memory in
    let left = left_of inside.plan in
    let said = c.take_call-said.result in
    let decision = c.decide-decision.result in
    let none : length left ≡ 0 = rw (← c.self.view_is) at c.requires.to_play in
    let some : in_flight_of inside.flight ≢ Nothing = rw (← c.self.view_is) at c.requires.in_flight in
    let event = one-event inside.flight left inside.events_left some c.self.invariant.0.bounded in
    let one : inside.events_left ≡ inside.events_left - 1 + 1 = omega (arith, event) in
    let waiting = subst (λ (f : Flight). IsKept d inside.opened.items inside.history.items inside.transactions left f inside.events_left inside.played inside.started) c.take_call-said.ensures.call c.self.invariant.0 in
    let kept = subst (λ (l : List Action). IsKept d inside.opened.items inside.history.items inside.transactions l (flight.Waiting said) inside.events_left inside.played inside.started) (none-left left none) waiting in
    let now = decides inside.opened.items d inside.history.items c.enter-entered.new.history.items inside.transactions decision.after said decision.reply decision.copy decision.late c.enter-entered.result (left_of decision.plan)
    inside.events_left (inside.events_left - 1) inside.played inside.started one c.decide-decision.ensures.copied c.decide-decision.ensures.late c.decide-decision.ensures.open_still c.decide-decision.ensures.timed c.enter-entered.ensures.entered c.decide-decision.ensures.decided c.decide-decision.ensures.survives kept in
    let before = kept.count in
    let after = now.count in
    let size = ap pending c.take_call-said.ensures.call in
    rw c.put_flight.ensures (now, omega (arith, before, after, size, c.self.invariant.1, c.enter-entered.ensures.capacity, inside.history.ok.0, c.enter-entered.new.history.ok.0), c.self.invariant.2)

pub returns-clause-event : goal.returns-clause-event
returns-clause-event g c =
    let inside = c.self.inside in
    let d = g.M.Memory.device inside.memory in
    let left = left_of inside.plan in
    let said = c.take_call-said.result in
    let decision = c.decide-decision.result in
    let none : length left ≡ 0 = rw (← c.self.view_is) at c.requires.to_play in
    let some : in_flight_of inside.flight ≢ Nothing = rw (← c.self.view_is) at c.requires.in_flight in
    let event = one-event inside.flight left inside.events_left some c.self.invariant.0.bounded in
    let waiting = subst (λ (f : Flight). IsKept d inside.opened.items inside.history.items inside.transactions left f inside.events_left inside.played inside.started) c.take_call-said.ensures.call c.self.invariant.0 in
    let kept = subst (λ (l : List Action). IsKept d inside.opened.items inside.history.items inside.transactions l (flight.Waiting said) inside.events_left inside.played inside.started) (none-left left none) waiting in
    let state = state_now inside.opened.items d inside.history.items inside.transactions said inside.events_left inside.played inside.started kept in
    let full = subst (λ (s : State). IsFullWhere s decision.reply) (sym state) c.decide-decision.ensures.decided.full in
    let memory = subst (λ (s : State). IsNoMemoryWhere s said decision.reply) (sym state) c.decide-decision.ensures.decided.memory in
    let moves = decides-moves _ inside.memory inside.memory inside.opened.items inside.history.items c.enter-entered.new.history.items (length left) (length (left_of decision.plan))
    inside.events_left (inside.events_left - 1) inside.played inside.played inside.started said decision.reply decision.copy decision.late c.enter-entered.result (left_of decision.plan)
    c.decide-decision.ensures.late c.enter-entered.ensures.entered kept.count full memory in
    rw (← c.self.view_is, c.put_flight.ensures) (record {
      moves = subst (λ (f : Flight). Moves Decided d d
          (core_of inside.memory inside.opened.items inside.history.items f (length left) inside.events_left inside.played inside.started)
          (core_of inside.memory inside.opened.items c.enter-entered.new.history.items c.enter-entered.result (length (left_of decision.plan)) (inside.events_left - 1) inside.played inside.started))
          (sym c.take_call-said.ensures.call) moves;
      opened = refl;
      started = refl;
      events = omega (arith, event);
      played = omega arith;
    })
