-- Which actions a core has played, and when a commit is certain.
use Rattle.std.proofs.Common.{◌≡◌, inl, inr, ℕ, ◌+◌, ◌≤◌, ◌∙◌, List, [], ◌∷◌, ◌++◌, length, take, None, refl, ap, sym, subst, append-nil, append_assoc, length-append, arith}
use Rattle.std.proofs.lemmas.List.{same_from_push}
use Rattle.mv_model.specs.declared.call.Call.{Call}
use Rattle.mv_model.specs.declared.reply.Reply.{Reply}
use Rattle.mv_model.specs.declared.reply.Reply.TheVariants as reply
use Rattle.mv_model.specs.declared.reply.Entry.{Entry}
use Rattle.mv_model.specs.State.{State}
use Rattle.mv_model.specs.Next.{next}
use Rattle.mv_model.specs.History.{state_after}
use Rattle.pm_model.specs.declared.action.Action.{Action}
use Rattle.pm_model.specs.Device.{Device, acted}
use Rattle.pm_model.specs.Plans.{at_rest, run}
use Rattle.engine_core.specs.Actions.{plan_due, plan_in}
use Rattle.engine_core.specs.CoreState.{EndsCertain, IsCertain, IsDueAt, answered, due}
use Rattle.engine_core.specs.Decided.{IsPlacedLate}
use Rattle.engine_core.specs.Kept.{HasPlayed, IsBounded, IsTimed}
use Rattle.engine_core.specs.LogicalState.{logical_state}
use Rattle.engine_core.specs.declared.flight.Flight.{Flight}
use Rattle.engine_core.specs.declared.flight.Flight.TheVariants as flight

-- ── plans ──

pub plan_in-more : (state : State) (entries : List Entry) (one : Entry) → plan_in state (entries ++ one ∷ []) ≡ plan_in state entries ++ plan_due (state_after state entries) one.call one.reply
plan_in-more state [] one = append-nil (plan_due state one.call one.reply)
plan_in-more state (entry ∷ entries) one =
    let after = next state entry.session entry.call entry.reply in
    ap (λ (rest : List Action). plan_due state entry.call entry.reply ++ rest) (plan_in-more after entries one)
    ∙ sym (append_assoc (plan_due state entry.call entry.reply) (plan_in after entries) (plan_due (state_after after entries) one.call one.reply))

pub plan_in-answered : (state : State) (entries : List Entry) (one : Entry) → plan_in state (entries ++ answered one ∷ []) ≡ plan_in state (entries ++ one ∷ [])
plan_in-answered state [] one = refl
plan_in-answered state (entry ∷ entries) one =
    ap (λ (rest : List Action). plan_due state entry.call entry.reply ++ rest) (plan_in-answered (next state entry.session entry.call entry.reply) entries one)

run-one : (actions : List Action) (action : Action) (d : Device) → run 1 (actions ++ action ∷ []) d ≡ acted 1 action (run 1 actions d)
run-one [] action d = refl
run-one (first ∷ actions) action d = run-one actions action (acted 1 first d)

take-front : (front rest : List Action) → take (length front) (front ++ rest) ≡ front
take-front [] rest = refl
take-front (action ∷ front) rest = ap (λ (actions : List Action). action ∷ actions) (take-front front rest)

module _ {d : Device} {opened : List ℕ} {entries : List Entry} {left : List Action} {played : ℕ} (done : HasPlayed d opened entries left played) where
  pub played-count : played + length left ≡ length (plan_in (logical_state opened) entries)
  played-count = let all = ap length done.planned in let size = length-append done.actions left in let count = done.count in omega (arith, all, size, count)

  pub played-device : d ≡ run 1 (take played (plan_in (logical_state opened) entries)) (at_rest opened)
  played-device =
      let front : take played (plan_in (logical_state opened) entries) ≡ done.actions =
      ap (λ (n : ℕ). take n (plan_in (logical_state opened) entries)) (sym done.count) ∙ ap (take (length done.actions)) done.planned ∙ take-front done.actions left in
      done.device ∙ ap (λ (actions : List Action). run 1 actions (at_rest opened)) (sym front)

  -- one action more
  pub played-more : (after : Device) (rest : List Action) (action : Action) → left ≡ action ∷ rest → after ≡ acted 1 action d → HasPlayed after opened entries rest (played + 1)
  played-more after rest action is acts = record {
    actions = done.actions ++ action ∷ [];
    planned = done.planned ∙ ap (λ (actions : List Action). done.actions ++ actions) is ∙ sym (append_assoc done.actions (action ∷ []) rest);
    count = let size = length-append done.actions (action ∷ []) in let count = done.count in omega (arith, size, count);
    device = acts ∙ ap (acted 1 action) done.device ∙ sym (run-one done.actions action (at_rest opened));
  }

-- one call more was decided
pub played-decided : (d : Device) (opened : List ℕ) (history : List Entry) (entry : Entry) (actions : List Action) (played : ℕ)
    → actions ≡ plan_due (state_after (logical_state opened) history) entry.call entry.reply → HasPlayed d opened (history ++ []) [] played
    → HasPlayed d opened (history ++ entry ∷ []) actions played
played-decided d opened history entry actions played is done = record {
  actions = done.actions;
  planned =
      let before : plan_in (logical_state opened) history ≡ done.actions =
      ap (plan_in (logical_state opened)) (sym (append-nil history)) ∙ done.planned ∙ append-nil done.actions in
      plan_in-more (logical_state opened) history entry
      ∙ ap (λ (front : List Action). front ++ plan_due (state_after (logical_state opened) history) entry.call entry.reply) before
      ∙ ap (λ (rest : List Action). done.actions ++ rest) (sym is);
  count = done.count;
  device = done.device;
}

-- a reply plays nothing
pub played-answered : (d : Device) (opened : List ℕ) (front : List Entry) (last : Entry) (played : ℕ)
    → HasPlayed d opened (front ++ last ∷ []) [] played → HasPlayed d opened (front ++ answered last ∷ []) [] played
played-answered d opened front last played done = record {
  actions = done.actions;
  planned = plan_in-answered (logical_state opened) front last ∙ done.planned;
  count = done.count;
  device = done.device;
}

-- ── commits that are certain ──

pub certain-less : (state : State) (given : Reply) (more less : ℕ) → less ≤ more → IsCertain state given more → IsCertain state given less
certain-less state (reply.Committed number) more less le is = omega (arith, le, is)
certain-less state given more less le is = is

pub certain-none : (state : State) (given : Reply) → IsCertain state given 0
certain-none state (reply.Committed number) = omega arith
certain-none state given = tt

-- a call that has its place at its decision isn't a commit with a number
pub certain-now : (said : Call) (given : Reply) (actions : List Action) (state : State) (count : ℕ) → IsPlacedLate None said given actions → IsCertain state given count
certain-now said (reply.Committed number) actions state count places = absurd places
certain-now said given actions state count places = tt

pub ends-certain : (opened : State) (history : List Entry) (entry : Entry) (count : ℕ) → IsCertain (state_after opened history) entry.reply count → EndsCertain opened (history ++ entry ∷ []) count
ends-certain opened history entry count is = λ front last same.
    let parts = same_from_push history front entry last same in
    subst (λ (one : Entry). IsCertain (state_after opened front) one.reply count) parts.1
    (subst (λ (entries : List Entry). IsCertain (state_after opened entries) entry.reply count) parts.0 is)

-- what is due, by the call in flight
pub due-at : (opened : List ℕ) (history : List Entry) (left : List Action) (in_flight : Flight) (events : ℕ) → IsBounded in_flight left events → IsTimed (logical_state opened) history in_flight (length left)
    → IsDueAt (logical_state opened) history (due (length history) in_flight) (length left)
due-at opened history left flight.Idle events bounded timed =
    inl (refl, λ front last is. subst (λ (xs : List Action). IsCertain (state_after (logical_state opened) front) last.reply (length xs)) (sym bounded) (certain-none (state_after (logical_state opened) front) last.reply))
due-at opened history left (flight.Waiting said) events bounded timed =
    inl (refl, λ front last is. subst (λ (xs : List Action). IsCertain (state_after (logical_state opened) front) last.reply (length xs)) (sym bounded.0) (certain-none (state_after (logical_state opened) front) last.reply))
due-at opened history left (flight.Committing number late) events bounded timed =
    inr (record { number = number; is = refl; before = let more = bounded.0 in omega (arith, timed, more) })
due-at opened history left (flight.Placed given) events bounded timed = inl (refl, timed)
