use Rattle.engine_core.proofs.CoreSteps.{answers-seen}
use Rattle.engine_core.specs.Decided.{left_of}
use Rattle.engine_core.proofs.Played.{due-at}
use Rattle.engine_core.proofs.Recoveries.{due-next}
use Rattle.engine_core.proofs.Steps.{legal-due}
use Rattle.engine_core.proofs.store_core.Core.history.Goals as goal

pub returns-clause-legal : goal.returns-clause-legal
returns-clause-legal g c = rw (← c.self.view_is) c.self.invariant.0.legal

pub returns-clause-answered : goal.returns-clause-answered
returns-clause-answered g c = rw (← c.self.view_is) (answers-seen c.self.inside.flight c.self.inside.history.items c.self.invariant.0.answers)

pub returns-clause-due : goal.returns-clause-due
returns-clause-due g c = rw (← c.self.view_is) (due-next c.self.inside.flight c.self.inside.history.items)

pub returns-clause-legal_due : goal.returns-clause-legal_due
returns-clause-legal_due g c =
    let inside = c.self.inside in
    rw (← c.self.view_is) (legal-due inside.opened.items (g.M.Memory.device inside.memory) inside.history.items inside.transactions (left_of inside.plan) inside.flight
    inside.events_left inside.played inside.started c.self.invariant.0)

pub returns-clause-certain : goal.returns-clause-certain
returns-clause-certain g c =
    let inside = c.self.inside in
    let kept = c.self.invariant.0 in
    rw (← c.self.view_is) (due-at inside.opened.items inside.history.items (left_of inside.plan) inside.flight inside.events_left kept.bounded kept.timed)
