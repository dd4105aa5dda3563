-- What an event does to a call in flight.
use Rattle.std.proofs.Common.{◌≡◌, ◌≢◌, inl, inr, ℕ, ◌+◌, ◌<◌, ◌≤◌, ◌∙◌, Bool, true, false, List, [], ◌∷◌, ◌++◌, Option, None, Some, refl, ap, sym, subst, arith}
use Rattle.std.proofs.lemmas.List.{same_from_push}
use Rattle.mv_model.specs.declared.call.Call.{Call}
use Rattle.mv_model.specs.declared.call.Call.TheVariants as call
use Rattle.mv_model.specs.declared.reply.Reply.{Reply}
use Rattle.mv_model.specs.declared.reply.Entry.{Entry}
use Rattle.mv_model.specs.State.{State}
use Rattle.mv_model.specs.History.{state_after}
use Rattle.pm_model.specs.Device.{Device}
use Rattle.engine_core.specs.CoreState.{CoreState, InFlight, Nothing, Unplaced, Last, GetsEntry, IsEvent, Moves, actions_of, answered, unanswered}
use Rattle.engine_core.specs.declared.flight.Step.{Step}
use Rattle.engine_core.specs.declared.flight.Step.TheVariants.{Played, Decided, Blocked, Replied}
use Rattle.engine_core.specs.LogicalState.{logical_state}
use Rattle.mv_model.specs.declared.reply.Reply.TheVariants as reply
use Rattle.session_serve.specs.Moments.{IsWantingWhere}
use Rattle.session_serve.specs.Playing.{IsBefore, IsInCall}

-- ── the call in flight ──

in_call-same : (opened : State) (said : Call) (front : List Entry) (was now : InFlight) (before after : List Entry)
    → now ≡ was → after ≡ before → IsInCall opened said front was before → IsInCall opened said front now after
in_call-same opened said front was now before after same_flight same_history is =
    subst (λ (entries : List Entry). IsInCall opened said front now entries) (sym same_history)
    (subst (λ (in_flight : InFlight). IsInCall opened said front in_flight before) (sym same_flight) is)

-- a call that has no place yet gets its entry
in_call-entered : (opened : State) (said other : Call) (given : Reply) (ordinal : ℕ) (front before after : List Entry)
    → IsInCall opened said front (Unplaced other) before → after ≡ before ++ unanswered ordinal other given ∷ []
    → IsWantingWhere (state_after opened front) (unanswered ordinal other given) → IsInCall opened said front Last after
in_call-entered opened said other given ordinal front before after is gets wanting =
    record {
      entry = unanswered ordinal other given;
      is = gets ∙ ap (λ (entries : List Entry). entries ++ unanswered ordinal other given ∷ []) is.1;
      session = refl;
      call = is.0;
      given = refl;
      wanting = wanting;
    }

-- the reply of the last entry is given
in_call-replied : (opened : State) (said : Call) (front before after kept : List Entry) (last : Entry)
    → IsInCall opened said front Last before → before ≡ kept ++ last ∷ [] → after ≡ kept ++ answered last ∷ [] → IsInCall opened said front Nothing after
in_call-replied opened said front before after kept last is was now =
    let same = same_from_push kept front last is.entry (sym was ∙ is.is) in
    record {
      entry = answered last;
      is = now ∙ ap (λ (entries : List Entry). entries ++ answered last ∷ []) same.0;
      session = ap (λ (entry : Entry). entry.session) same.1 ∙ is.session;
      call = ap (λ (entry : Entry). entry.call) same.1 ∙ is.call;
      given = refl;
      wanting =
          let kept : IsWantingWhere (state_after opened front) last = subst (λ (entry : Entry). IsWantingWhere (state_after opened front) entry) (sym same.1) is.wanting in
          record { room = kept.room; memory = kept.memory };
    }

module _ {M : Type 0} where
  in_call-gets : (opened : State) (said other : Call) (given : Reply) (front : List Entry) (before after : CoreState M) → GetsEntry other given before after
      → IsInCall opened said front before.in_flight before.history → (before.history ≡ front → IsWantingWhere (state_after opened front) (unanswered before.started other given))
      → IsInCall opened said front after.in_flight after.history
  in_call-gets opened said other given front before after gets is wanting =
      let unplaced : IsInCall opened said front (Unplaced other) before.history = subst (λ (in_flight : InFlight). IsInCall opened said front in_flight before.history) gets.was is in
      subst (λ (in_flight : InFlight). IsInCall opened said front in_flight after.history) (sym gets.now)
      (in_call-entered opened said other given before.started front before.history after.history unplaced gets.history (wanting unplaced.1))

  -- an event takes the call in flight on
  pub in_call-event : (step : Step) (d e : Device) (said : Call) (front : List Entry) (opened : List ℕ) (before after : CoreState M) → IsEvent step d e before after
      → before.opened ≡ opened → IsInCall (logical_state opened) said front before.in_flight before.history
      → IsInCall (logical_state opened) said front after.in_flight after.history
  in_call-event step d e said front opened before after event same is = moved step event.moves
    where
      moved : (step : Step) → Moves step d e before after → IsInCall (logical_state opened) said front after.in_flight after.history
      moved Played (inl stays) = in_call-same (logical_state opened) said front _ _ _ _ stays.in_flight stays.history is
      moved Played (inr gets) = in_call-gets (logical_state opened) said call.Commit (reply.Committed gets.number) front before after gets.entry is (λ e. record { room = tt; memory = tt })
      moved Decided (inl gets) =
          in_call-gets (logical_state opened) said gets.said gets.given front before after gets.entry is
          (λ was. subst (λ (words : List ℕ). IsWantingWhere (state_after (logical_state words) front) (unanswered before.started gets.said gets.given)) same
          (subst (λ (entries : List Entry). IsWantingWhere (state_after (logical_state before.opened) entries) (unanswered before.started gets.said gets.given)) was
          (record { room = gets.full; memory = gets.memory })))
      moved Decided (inr due) = in_call-same (logical_state opened) said front _ _ _ _ due.in_flight due.history is
      moved (Blocked holder) none = absurd none
      moved (Replied given) gets =
          let last : IsInCall (logical_state opened) said front Last before.history = subst (λ (in_flight : InFlight). IsInCall (logical_state opened) said front in_flight before.history) gets.was is in
          subst (λ (in_flight : InFlight). IsInCall (logical_state opened) said front in_flight after.history) (sym gets.now)
          (in_call-replied (logical_state opened) said front before.history after.history gets.front gets.last last gets.history gets.answered_now)

  -- an event that plays an action leaves the call in flight
  pub played-in_flight : (step : Step) (d e : Device) (before after : CoreState M) → IsEvent step d e before after → before.in_flight ≢ Nothing
      → before.played < after.played → after.in_flight ≢ Nothing
  played-in_flight step d e before after event some more = moved step event.moves event.played
    where
      moved : (step : Step) → Moves step d e before after → after.played ≡ before.played + actions_of step → after.in_flight ≢ Nothing
      moved Played (inl stays) count = λ none. some (sym stays.in_flight ∙ none)
      moved Played (inr gets) count = λ none. not_last (sym gets.entry.now ∙ none)
        where
          not_last : Last ≡ Nothing → ⊥
          not_last e = cc
      moved Decided moves count = absurd (omega (arith, count, more))
      moved (Blocked holder) moves count = absurd (omega (arith, count, more))
      moved (Replied given) moves count = absurd (omega (arith, count, more))

  pub at_most_one : (step : Step) (d e : Device) (before after : CoreState M) → IsEvent step d e before after → after.played ≤ before.played + 1
  at_most_one Played d e before after event = omega (arith, event.played)
  at_most_one Decided d e before after event = omega (arith, event.played)
  at_most_one (Blocked holder) d e before after event = omega (arith, event.played)
  at_most_one (Replied given) d e before after event = omega (arith, event.played)

-- ── the cut ──

-- the cut is still to come where it isn't there yet, after one action more at most
pub still_before : (cut : Option ℕ) (was now : ℕ) → IsBefore cut was → now ≤ was + 1 → (cut ≡ Some now → ⊥) → IsBefore cut now
still_before None was now before most apart = tt
still_before (Some number) was now before most apart =
    let other : (number ≡ now) → ⊥ = λ e. apart (ap Some e) in
    omega (arith, before, most, other)

pub cut_now : (cut : Option ℕ) (was now : ℕ) → IsBefore cut was → cut ≡ Some now → was < now
cut_now None was now before is = cc
cut_now (Some number) was now before is = let same : number ≡ now = cc in omega (arith, before, same)

-- a call that was just started
pub in_call-begin : (opened : State) (said : Call) (history : List Entry) (in_flight : InFlight) → in_flight ≡ Unplaced said → IsInCall opened said history in_flight history
in_call-begin opened said history in_flight is = subst (λ (in_flight : InFlight). IsInCall opened said history in_flight history) (sym is) (refl, refl)

-- a test that fails isn't one that holds
pub both_ways : (b : Bool) → b ≡ true → b ≡ false → ⊥
both_ways true holds fails = cc
both_ways false holds fails = cc
