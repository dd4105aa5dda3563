-- What contracts see of a core.
use Rattle.std.specs.Prelude.{◌≡◌, ◌≢◌, ◌⊎◌, ℕ, Option, Some, None, ◌+◌, ◌<◌, ◌≤◌, true, false, List, [], ◌∷◌, ◌++◌, length, slice_index, All}
use Rattle.mv_model.specs.declared.call.Call.{Call}
use Rattle.mv_model.specs.declared.call.Call.TheVariants as call
use Rattle.mv_model.specs.declared.reply.Reply.{Reply}
use Rattle.mv_model.specs.declared.reply.Reply.TheVariants as reply
use Rattle.mv_model.specs.declared.reply.Entry.{Entry}
use Rattle.mv_model.specs.State.{State}
use Rattle.mv_model.specs.History.{state_after}
use Rattle.pm_model.specs.declared.action.Action.{Action}
use Rattle.pm_model.specs.declared.action.Action.TheVariants.{Fence}
use Rattle.pm_model.specs.Device.{Device, acted}
use Rattle.image_layout.specs.Fixed.{last_at}
use Rattle.engine_core.specs.Actions.{late_in}
use Rattle.engine_core.specs.Decided.{IsFullWhere, IsNoMemoryWhere, none_open}
use Rattle.engine_core.specs.LogicalState.{logical_state}
use Rattle.engine_core.specs.Recoverable.{deciding_word}
use Rattle.engine_core.specs.declared.decision.Late.{Late}
use Rattle.engine_core.specs.declared.flight.Flight.{Flight}
use Rattle.engine_core.specs.declared.flight.Flight.TheVariants as flight
use Rattle.engine_core.specs.declared.transactions.Transactions.{Transactions}
use Rattle.engine_core.specs.declared.flight.Step.{Step}
use Rattle.engine_core.specs.declared.flight.Step.TheVariants.{Played, Decided, Blocked, Replied}

-- the call of session 1 that is in flight: none, one that isn't in the history yet, or the last entry of the history
pub data InFlight : Type 0 where
  Nothing : InFlight
  Unplaced : Call → InFlight
  Last : InFlight

-- a core: its memory, the words at its opening, the history since then, the entry that a commit is to get that was
-- decided and has no place yet, the call in flight, how many actions of its plan are left, how many more events it may
-- take, how many actions were played and how many calls were started
pub record CoreState (M : Type 0) : Type 0 where
  pub memory : M
  pub opened : List ℕ
  pub history : List Entry
  pub due : List Entry
  pub in_flight : InFlight
  pub to_play : ℕ
  pub events_left : ℕ
  pub played : ℕ
  pub started : ℕ

abbrev pub in_flight_of : Flight → InFlight
in_flight_of flight.Idle = Nothing
in_flight_of (flight.Waiting said) = Unplaced said
in_flight_of (flight.Committing number late) = Unplaced call.Commit
in_flight_of (flight.Placed given) = Last

-- the call is to be decided
abbrev pub IsWaiting : Flight → Type 0
IsWaiting flight.Idle = ⊥
IsWaiting (flight.Waiting said) = Unit {0}
IsWaiting (flight.Committing number late) = ⊥
IsWaiting (flight.Placed given) = ⊥

-- an entry of session 1 whose reply wasn't given yet
abbrev pub unanswered : ℕ → Call → Reply → Entry
unanswered ordinal said given = record { session = 1; ordinal = ordinal; call = said; reply = given; answered = false }

-- the same entry once its reply was given
abbrev pub answered : Entry → Entry
answered entry = record entry { answered = true }

-- each entry is of session 1
abbrev pub IsOfOne : List Entry → Type 0
IsOfOne [] = Unit {0}
IsOfOne (entry ∷ entries) = (entry.session ≡ 1) × IsOfOne entries

-- the entry that a commit is to get
abbrev pub due : ℕ → Flight → List Entry
due count flight.Idle = []
due count (flight.Waiting said) = []
due count (flight.Committing number late) = unanswered (count + 1) call.Commit (reply.Committed number) ∷ []
due count (flight.Placed given) = []

-- 1 while a call in flight has no entry
abbrev pub pending : Flight → ℕ
pending flight.Idle = 0
pending (flight.Waiting said) = 1
pending (flight.Committing number late) = 1
pending (flight.Placed given) = 0

-- A call that is decided has its entry, or it is a commit that waits for its place.
abbrev pub IsEntered : Option Late → Call → Reply → Reply → List Entry → List Entry → Flight → Type 0
IsEntered (Some late) said given copy before after in_flight =
    (after ≡ before) × (in_flight ≡ flight.Committing late.number late.left)
IsEntered None said given copy before after in_flight =
    (after ≡ before ++ unanswered (length before + 1) said given ∷ []) × (in_flight ≡ flight.Placed copy)

-- A commit has its entry once so many actions are left, and its transaction is closed there; nothing else changes.
abbrev pub IsPlacedAt : ℕ → Flight → Flight → Transactions → Transactions → List Entry → List Entry → Type 0
IsPlacedAt left flight.Idle now own then before after = (now ≡ flight.Idle) × (then ≡ own) × (after ≡ before)
IsPlacedAt left (flight.Waiting said) now own then before after =
    (now ≡ flight.Waiting said) × (then ≡ own) × (after ≡ before)
IsPlacedAt left (flight.Committing number late) now own then before after =
    ((late ≡ left) × (now ≡ flight.Placed (reply.Committed number)) × (then ≡ none_open own)
    × (after ≡ before ++ unanswered (length before + 1) call.Commit (reply.Committed number) ∷ []))
    ⊎ ((late ≢ left) × (now ≡ flight.Committing number late) × (then ≡ own) × (after ≡ before))
IsPlacedAt left (flight.Placed given) now own then before after =
    (now ≡ flight.Placed given) × (then ≡ own) × (after ≡ before)

-- the last entry has this reply, and it alone wasn't given yet
pub record EndsUnanswered (given : Reply) (history : List Entry) : Type 0 where
  pub front : List Entry
  pub last : Entry
  pub is : history ≡ front ++ last ∷ []
  pub given_before : All (λ entry. entry.answered ≡ true) front
  pub open_still : last.answered ≡ false
  pub reply : last.reply ≡ given

-- Exactly the entry of a call in flight isn't answered.
abbrev pub IsAnswered : Flight → List Entry → Type 0
IsAnswered flight.Idle history = All (λ entry. entry.answered ≡ true) history
IsAnswered (flight.Waiting said) history = All (λ entry. entry.answered ≡ true) history
IsAnswered (flight.Committing number late) history = All (λ entry. entry.answered ≡ true) history
IsAnswered (flight.Placed given) history = EndsUnanswered given history

-- Each entry but the last is answered, and the last is unanswered exactly where its call is in flight.
abbrev pub IsAnsweredButFor : InFlight → List Entry → Type 0
IsAnsweredButFor Nothing history = All (λ entry. entry.answered ≡ true) history
IsAnsweredButFor (Unplaced said) history = All (λ entry. entry.answered ≡ true) history
IsAnsweredButFor Last history = (given : Reply) × EndsUnanswered given history

-- nothing is due, or the entry of a commit in flight, which comes next in the history
abbrev pub IsDueNext : InFlight → List Entry → List Entry → Type 0
IsDueNext in_flight history entries =
    (entries ≡ []) ⊎ ((in_flight ≡ Unplaced call.Commit)
    × ((number : ℕ) × (entries ≡ unanswered (length history + 1) call.Commit (reply.Committed number) ∷ [])))

-- a commit is certain while so many actions are left to play
abbrev pub IsCertain : State → Reply → ℕ → Type 0
IsCertain state (reply.Committed number) to_play = to_play ≤ late_in state number
IsCertain state other to_play = Unit {0}

-- so is the last of these entries, where it is a commit
abbrev pub EndsCertain : State → List Entry → ℕ → Type 0
EndsCertain opened entries to_play =
    (front : List Entry) → (last : Entry) → entries ≡ front ++ last ∷ []
    → IsCertain (state_after opened front) last.reply to_play

-- the entry of a commit is due, which comes next in the history: the fence that makes it certain is still to be played
pub record IsCommitDue (opened : State) (history entries : List Entry) (to_play : ℕ) : Type 0 where
  pub number : ℕ
  pub is : entries ≡ unanswered (length history + 1) call.Commit (reply.Committed number) ∷ []
  pub before : late_in (state_after opened history) number < to_play

-- Of the calls that are decided, a commit is due until the fence that makes it certain was played; each other one is in
-- the history.
abbrev pub IsDueAt : State → List Entry → List Entry → ℕ → Type 0
IsDueAt opened history entries to_play =
    ((entries ≡ []) × EndsCertain opened history to_play) ⊎ IsCommitDue opened history entries to_play

-- what a step does to the device: one action of the session, or nothing
abbrev pub ActsOnce : Step → ℕ → Device → Device → Type 0
ActsOnce Played session before after = (action : Action) × (after ≡ acted session action before)
ActsOnce Decided session before after = after ≡ before
ActsOnce (Blocked holder) session before after = after ≡ before
ActsOnce (Replied given) session before after = after ≡ before

-- the reply of a commit that has a number
abbrev pub IsNumbered : Reply → Type 0
IsNumbered (reply.Committed number) = Unit {0}
IsNumbered other = ⊥

-- the call gets its entry, the last of the history, with this reply
pub record GetsEntry {M : Type 0} (said : Call) (given : Reply) (before after : CoreState M) : Type 0 where
  pub was : before.in_flight ≡ Unplaced said
  pub now : after.in_flight ≡ Last
  pub history : after.history ≡ before.history ++ unanswered before.started said given ∷ []
  pub due : after.due ≡ []

-- the call, the history and what is due stay
pub record Stays {M : Type 0} (before after : CoreState M) : Type 0 where
  pub in_flight : after.in_flight ≡ before.in_flight
  pub history : after.history ≡ before.history
  pub due : after.due ≡ before.due

-- A call gets its entry at its decision; but a commit that is to have a number waits for it. It is refused for want of
-- room where there is none, and for want of memory where it takes some.
pub record GetsEntryAtDecision {M : Type 0} (before after : CoreState M) : Type 0 where
  pub said : Call
  pub given : Reply
  pub entry : GetsEntry said given before after
  pub none_due : before.due ≡ []
  pub no_number : IsNumbered given → ⊥
  pub full : IsFullWhere (state_after (logical_state before.opened) before.history) given
  pub memory : IsNoMemoryWhere (state_after (logical_state before.opened) before.history) said given

-- The decision of a commit that is to have a number: its entry is due from now on.
pub record BecomesDue {M : Type 0} (before after : CoreState M) : Type 0 where
  pub was : before.in_flight ≡ Unplaced call.Commit
  pub none_due : before.due ≡ []
  pub in_flight : after.in_flight ≡ before.in_flight
  pub history : after.history ≡ before.history
  pub number : ℕ
  pub due : after.due ≡ unanswered before.started call.Commit (reply.Committed number) ∷ []

-- The action was the fence that makes the word which decides this entry durable, with this number, and the last commit
-- number is still the one before.
pub record IsAtFence (entry : Entry) (number : ℕ) (before after : Device) : Type 0 where
  pub fence : after ≡ acted 1 Fence before
  pub was : slice_index before.durable (deciding_word entry) ≡ 0
  pub decided : slice_index after.durable (deciding_word entry) ≡ number
  pub last : slice_index after.cached last_at + 1 ≡ number

-- Such a commit gets the entry that is due at the action that makes its commit word durable.
pub record GetsNumber {M : Type 0} (d e : Device) (before after : CoreState M) : Type 0 where
  pub number : ℕ
  pub was_due : before.due ≡ unanswered before.started call.Commit (reply.Committed number) ∷ []
  pub entry : GetsEntry call.Commit (reply.Committed number) before after
  pub at_fence : IsAtFence (unanswered before.started call.Commit (reply.Committed number)) number d e

-- The reply of the last entry is given, and no call is in flight.
pub record GetsReply {M : Type 0} (given : Reply) (before after : CoreState M) : Type 0 where
  pub was : before.in_flight ≡ Last
  pub now : after.in_flight ≡ Nothing
  pub front : List Entry
  pub last : Entry
  pub history : before.history ≡ front ++ last ∷ []
  pub reply : last.reply ≡ given
  pub answered_now : after.history ≡ front ++ answered last ∷ []
  pub none_due : before.due ≡ []
  pub due : after.due ≡ []

-- what a step that takes the device from one to another does to the call in flight, to the history and to what is due
abbrev pub Moves : {M : Type 0} → Step → Device → Device → CoreState M → CoreState M → Type 0
Moves Played d e before after = Stays before after ⊎ GetsNumber d e before after
Moves Decided d e before after = GetsEntryAtDecision before after ⊎ BecomesDue before after
Moves (Blocked holder) d e before after = ⊥
Moves (Replied given) d e before after = GetsReply given before after

-- how many actions a step plays
abbrev pub actions_of : Step → ℕ
actions_of Played = 1
actions_of Decided = 0
actions_of (Blocked holder) = 0
actions_of (Replied given) = 0

-- what a step that takes the device from one to another does beside it: it takes one of the events that are left
pub record IsEvent {M : Type 0} (step : Step) (d e : Device) (before after : CoreState M) : Type 0 where
  pub moves : Moves step d e before after
  pub opened : after.opened ≡ before.opened
  pub started : after.started ≡ before.started
  pub events : after.events_left + 1 ≡ before.events_left
  pub played : after.played ≡ before.played + actions_of step
