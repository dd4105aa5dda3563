-- What the steps of a core do to the call in flight and to the history.
use Rattle.std.proofs.Common.{◌≡◌, ◌⊎◌, inl, inr, ℕ, ◌+◌, ◌∙◌, List, [], ◌∷◌, ◌++◌, length, Option, None, Some, refl, ap, sym}
use Rattle.mv_model.specs.declared.call.Call.{Call}
use Rattle.mv_model.specs.declared.call.Call.TheVariants as call
use Rattle.mv_model.specs.declared.reply.Reply.{Reply}
use Rattle.mv_model.specs.declared.reply.Reply.TheVariants as reply
use Rattle.mv_model.specs.declared.reply.Entry.{Entry}
use Rattle.mv_model.specs.History.{state_after}
use Rattle.pm_model.specs.declared.action.Action.{Action}
use Rattle.pm_model.specs.Device.{Device, acted}
use Rattle.engine_core.specs.Decided.{IsFullWhere, IsNoMemoryWhere, IsPlacedLate}
use Rattle.engine_core.specs.LogicalState.{logical_state}
use Rattle.engine_core.specs.CoreState.{BecomesDue, CoreState, EndsUnanswered, GetsEntryAtDecision, GetsNumber, GetsReply, IsEntered, IsNumbered, IsPlacedAt, Stays, Unplaced, answered, due, in_flight_of, pending, unanswered}
use Rattle.side_by_side.specs.SideBySide.{Plans, ArePlaying}
use Rattle.engine_core.specs.Kept.{HasLeft, IsBounded}
use Rattle.engine_core.specs.declared.transactions.Transactions.{Transactions}
use Rattle.engine_core.proofs.Alone.{AreAlone}
use Rattle.engine_core.proofs.Placing.{placed-at}
use Rattle.engine_core.specs.declared.decision.Late.{Late}
use Rattle.engine_core.specs.declared.flight.Flight.{Flight}
use Rattle.engine_core.specs.declared.flight.Flight.TheVariants as flight

-- a core's state with these parts
abbrev pub core_of : {M : Type 0} → M → List ℕ → List Entry → Flight → ℕ → ℕ → ℕ → ℕ → CoreState M
core_of memory opened history in_flight to_play events_left played started = record {
  memory = memory;
  opened = opened;
  history = history;
  due = due (length history) in_flight;
  in_flight = in_flight_of in_flight;
  to_play = to_play;
  events_left = events_left;
  played = played;
  started = started;
}

module _ (M : Type 0) (memory after : M) (opened : List ℕ) (history new : List Entry) (to_play left events fewer played more started : ℕ) where
  pub plays-moves : (d e : Device) (actions rest : List Action) (action : Action) (before placed : Flight) (now next_now : Transactions) (plans : Plans) (base : List ℕ)
      → actions ≡ action ∷ rest → left ≡ length rest → e ≡ acted 1 action d → ArePlaying 17 plans base d → AreAlone 1 plans
      → HasLeft before now actions d (plans 1) base → IsBounded before actions events
      → IsPlacedAt left before placed now next_now history new → length history + pending before ≡ started
      → Stays (core_of memory opened history before to_play events played started) (core_of after opened new placed left fewer more started)
      ⊎ GetsNumber d e (core_of memory opened history before to_play events played started) (core_of after opened new placed left fewer more started)
  plays-moves d e actions rest action flight.Idle placed now next_now plans base is size acts all others way bounded places count =
      inl (record { in_flight = ap in_flight_of places.0; history = places.2; due = ap (due (length new)) places.0 })
  plays-moves d e actions rest action (flight.Waiting said) placed now next_now plans base is size acts all others way bounded places count =
      inl (record { in_flight = ap in_flight_of places.0; history = places.2; due = ap (due (length new)) places.0 })
  plays-moves d e actions rest action (flight.Committing number late) placed now next_now plans base is size acts all others way bounded (inl places) count = inr (record {
    number = number;
    was_due = ap (λ (n : ℕ). unanswered n call.Commit (reply.Committed number) ∷ []) count;
    entry = record {
      was = refl;
      now = ap in_flight_of places.1;
      due = ap (due (length new)) places.1;
      history = places.3 ∙ ap (λ (n : ℕ). history ++ unanswered n call.Commit (reply.Committed number) ∷ []) count;
    };
    at_fence = placed-at number late now plans base d e actions rest action all is acts bounded.0 way (places.0 ∙ size) started others;
  })
  plays-moves d e actions rest action (flight.Committing number late) placed now next_now plans base is size acts all others way bounded (inr places) count = inl (record {
    in_flight = ap in_flight_of places.1;
    history = places.3;
    due = ap (due (length new)) places.1 ∙ ap (λ (h : List Entry). due (length h) (flight.Committing number late)) places.3;
  })
  plays-moves d e actions rest action (flight.Placed given) placed now next_now plans base is size acts all others way bounded places count =
      inl (record { in_flight = ap in_flight_of places.0; history = places.2; due = ap (due (length new)) places.0 })

  not_numbered : (said : Call) (given : Reply) (actions : List Action) → IsPlacedLate None said given actions → IsNumbered given → ⊥
  not_numbered said (reply.Committed number) actions places numbered = places
  not_numbered said given actions places numbered = numbered

  pub decides-moves : (said : Call) (given copy : Reply) (late : Option Late) (entered : Flight) (actions : List Action) → IsPlacedLate late said given actions
      → IsEntered late said given copy history new entered → length history + 1 ≡ started → IsFullWhere (state_after (logical_state opened) history) given
      → IsNoMemoryWhere (state_after (logical_state opened) history) said given
      → GetsEntryAtDecision (core_of memory opened history (flight.Waiting said) to_play events played started) (core_of after opened new entered left fewer more started)
      ⊎ BecomesDue (core_of memory opened history (flight.Waiting said) to_play events played started) (core_of after opened new entered left fewer more started)
  decides-moves said given copy None entered actions places enters count full memory = inl (record {
    said = said;
    given = given;
    entry = record {
      was = refl;
      now = ap in_flight_of enters.1;
      due = ap (due (length new)) enters.1;
      history = enters.0 ∙ ap (λ (n : ℕ). history ++ unanswered n said given ∷ []) count;
    };
    none_due = refl;
    no_number = not_numbered said given actions places;
    full = full;
    memory = memory;
  })
  decides-moves said (reply.Committed number) copy (Some late) entered actions places enters count full memory =
      inr (record {
        was = ap Unplaced places.0;
        none_due = refl;
        in_flight = ap in_flight_of enters.1 ∙ ap Unplaced (sym places.0);
        history = enters.0;
        number = late.number;
        due = ap (due (length new)) enters.1 ∙ ap (λ (h : List Entry). due (length h) (flight.Committing late.number late.left)) enters.0 ∙ ap (λ (n : ℕ). unanswered n call.Commit (reply.Committed late.number) ∷ []) count;
      })
  decides-moves said given copy (Some late) entered actions places enters count full memory = absurd places

  pub replies-moves : (given : Reply) → EndsUnanswered given history → ((front : List Entry) → (last : Entry) → history ≡ front ++ last ∷ [] → new ≡ front ++ answered last ∷ [])
      → GetsReply given (core_of memory opened history (flight.Placed given) to_play events played started) (core_of after opened new flight.Idle left fewer more started)
  replies-moves given ends marked = record {
    was = refl;
    now = refl;
    front = ends.front;
    last = ends.last;
    history = ends.is;
    reply = ends.reply;
    answered_now = marked ends.front ends.last ends.is;
    none_due = refl;
    due = refl;
  }
