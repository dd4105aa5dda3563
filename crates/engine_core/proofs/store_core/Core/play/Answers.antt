use Rattle.std.proofs.Common.{◌≡◌, ◌∙◌, ◌+◌, ◌-◌, ◌<◌, ℕ, length, ap, subst, refl, arith}
use Rattle.pm_model.specs.Device.{acted}
use Rattle.engine_core.specs.CoreState.{IsPlacedAt}
use Rattle.engine_core.specs.Decided.{left_of}
use Rattle.engine_core.proofs.CoreSteps.{busy, first-session, one-event}
use Rattle.engine_core.proofs.Movements.{plays-moves}
use Rattle.engine_core.proofs.Steps.{can, plays}
use Rattle.engine_core.proofs.store_core.Core.play.Goals as goal

pub act-requires-clause-can_act : goal.act-requires-clause-can_act
act-requires-clause-can_act g c =
    let inside = c.self.inside in
    can inside.opened.items (g.M.Memory.device inside.memory) inside.history.items inside.transactions (left_of inside.plan) (left_of c.next_action.new.plan) c.in-Some.action inside.flight
    inside.events_left inside.played inside.started c.in-Some.ensures.first c.self.invariant.0

pub place_commit-requires-clause-small : goal.place_commit-requires-clause-small
place_commit-requires-clause-small g c = let count = c.self.invariant.0.count in omega (arith, count, c.self.inside.history.ok.0)

pub invariant_of-self : goal.invariant_of-self
invariant_of-self g c =
    let inside = c.self.inside in
    let d = g.M.Memory.device inside.memory in
    let left = left_of inside.plan in
    let rest = left_of c.next_action.new.plan in
    let kept = c.self.invariant.0 in
    let some : 0 < length left = rw (← c.self.view_is) at c.requires.to_play in
    let event = one-event inside.flight left inside.events_left (busy inside.flight left inside.events_left some kept.bounded) kept.bounded in
    let one : inside.events_left ≡ inside.events_left - 1 + 1 = omega (arith, event) in
    let acts = c.act.ensures ∙ ap (λ (s : ℕ). acted s c.in-Some.action d) (first-session _ c.requires.session) in
    let places = subst (λ (n : ℕ). IsPlacedAt n inside.flight c.place_commit.new.flight inside.transactions c.place_commit.new.transactions inside.history.items c.place_commit.new.history.items) c.actions_left.ensures c.place_commit.ensures.placed in
    let now = plays inside.opened.items d (g.M.Memory.device c.act.new.self) inside.history.items c.place_commit.new.history.items inside.transactions c.place_commit.new.transactions left rest c.in-Some.action inside.flight c.place_commit.new.flight
    inside.events_left (inside.events_left - 1) inside.played inside.started c.in-Some.ensures.first acts one places kept in
    let before = kept.count in
    let after = now.count in
    (now, omega (arith, before, after, c.self.invariant.1, c.place_commit.ensures.capacity, inside.history.ok.0, c.place_commit.new.history.ok.0), c.self.invariant.2)

pub returns-clause-event : goal.returns-clause-event
returns-clause-event g c =
    let inside = c.self.inside in
    let left = left_of inside.plan in
    let kept = c.self.invariant.0 in
    let some : 0 < length left = rw (← c.self.view_is) at c.requires.to_play in
    let event = one-event inside.flight left inside.events_left (busy inside.flight left inside.events_left some kept.bounded) kept.bounded in
    let rest = left_of c.next_action.new.plan in
    let acts = c.act.ensures ∙ ap (λ (s : ℕ). acted s c.in-Some.action (g.M.Memory.device inside.memory)) (first-session _ c.requires.session) in
    let places = subst (λ (n : ℕ). IsPlacedAt n inside.flight c.place_commit.new.flight inside.transactions c.place_commit.new.transactions inside.history.items c.place_commit.new.history.items) c.actions_left.ensures c.place_commit.ensures.placed in
    rw (← c.self.view_is) (record {
      moves = plays-moves _ inside.memory c.act.new.self inside.opened.items inside.history.items c.place_commit.new.history.items (length left) (length rest) inside.events_left (inside.events_left - 1) inside.played (inside.played + 1) inside.started
          (g.M.Memory.device inside.memory) (g.M.Memory.device c.act.new.self) left rest c.in-Some.action inside.flight c.place_commit.new.flight inside.transactions c.place_commit.new.transactions kept.plans kept.base c.in-Some.ensures.first refl acts
          kept.playing kept.others kept.plan kept.bounded places kept.count;
      opened = refl;
      started = refl;
      events = omega (arith, event);
      played = refl;
    })

pub overflow_sub-self : goal.overflow_sub-self
overflow_sub-self g c =
    let inside = c.self.inside in
    let left = left_of inside.plan in
    let some : 0 < length left = rw (← c.self.view_is) at c.requires.to_play in
    one-event inside.flight left inside.events_left (busy inside.flight left inside.events_left some c.self.invariant.0.bounded) c.self.invariant.0.bounded

pub returns-clause-device : goal.returns-clause-device
returns-clause-device g c =
    rw (← c.self.view_is) (c.in-Some.action, c.act.ensures ∙ ap (λ (s : ℕ). acted s c.in-Some.action (g.M.Memory.device c.self.inside.memory)) (first-session _ c.requires.session))
