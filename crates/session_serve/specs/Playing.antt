-- How a core comes through a script.
use Rattle.std.specs.Prelude.{ℕ, ◌≡◌, ◌≢◌, ◌⊎◌, ◌+◌, ◌<◌, true, false, List, [], ◌∷◌, ◌++◌, All, length, Option, None, Some}
use Rattle.mv_model.specs.declared.call.Call.{Call}
use Rattle.mv_model.specs.declared.reply.Entry.{Entry}
use Rattle.mv_model.specs.State.{State}
use Rattle.mv_model.specs.History.{state_after}
use Rattle.pm_model.specs.Device.{Device}
use Rattle.engine_core.specs.Actions.{plan_in}
use Rattle.engine_core.specs.CoreState.{CoreState, InFlight, Nothing, Unplaced, Last}
use Rattle.engine_core.specs.LogicalState.{logical_state}
use Rattle.script_text.specs.declared.script.Line.{Line}
use Rattle.script_text.specs.declared.script.Line.TheVariants as line
use Rattle.mv_model.specs.declared.call.Call.TheVariants as call
use Rattle.script_text.specs.Script.{IsBuiltLine, statements_of}
use Rattle.session_serve.specs.declared.playing.Ending.{Ending}
use Rattle.session_serve.specs.declared.playing.Ending.TheVariants as ending
use Rattle.session_serve.specs.Moments.{AreWantingWhere, IsWantingWhere, Moment, calls_of}

-- the call of a line; no await is built, so what stands here for one is never asked
abbrev pub said_in : Line → Call
said_in (line.Say speaker ordinal asked) = asked
said_in (line.Await speaker on nth) = call.Begin

-- the moment at which a core with this device is
abbrev pub moment_of : {M : Type 0} → Device → CoreState M → Moment
moment_of d core =
    record { opened = core.opened; history = core.history; due = core.due; to_play = core.to_play; device = d }

-- what was played and is left to play is as long as the plans of the calls
abbrev pub IsCounted : {M : Type 0} → CoreState M → Type 0
IsCounted core = core.played + core.to_play ≡ length (plan_in (logical_state core.opened) (core.history ++ core.due))

-- the cut is still to come
abbrev pub IsBefore : Option ℕ → ℕ → Type 0
IsBefore None played = Unit {0}
IsBefore (Some number) played = played < number

-- the history has one entry more: of this call, with a reply that is answered so
pub record HasEntry (opened : State) (said : Call) (before after : List Entry) (IsGiven : Entry → Type 0) : Type 0 where
  pub entry : Entry
  pub is : after ≡ before ++ entry ∷ []
  pub session : entry.session ≡ 1
  pub call : entry.call ≡ said
  pub given : IsGiven entry
  pub wanting : IsWantingWhere (state_after opened before) entry

abbrev pub WasGiven : Entry → Type 0
WasGiven entry = entry.answered ≡ true

abbrev pub WasNotGiven : Entry → Type 0
WasNotGiven entry = entry.answered ≡ false

-- A call of session 1 is in flight or was replied, and what its history is.
abbrev pub IsInCall : State → Call → List Entry → InFlight → List Entry → Type 0
IsInCall opened said before Nothing after = HasEntry opened said before after WasGiven
IsInCall opened said before (Unplaced other) after = (other ≡ said) × (after ≡ before)
IsInCall opened said before Last after = HasEntry opened said before after WasNotGiven

-- so it is of this core, which was opened on these words
abbrev pub HasInCall : {M : Type 0} → Call → List ℕ → List Entry → CoreState M → Type 0
HasInCall said opened front core = IsInCall (logical_state opened) said front core.in_flight core.history

-- the call ended so: it was replied before the cut came, or the cut came
abbrev pub EndsCall : {M : Type 0} → Ending → Option ℕ → CoreState M → Type 0
EndsCall ending.Finished cut core =
    (core.in_flight ≡ Nothing) × (core.to_play ≡ 0) × (core.due ≡ []) × IsBefore cut core.played
EndsCall ending.Cut cut core = (core.in_flight ≢ Nothing) × (cut ≡ Some core.played)

-- between two lines: the statements of these were answered
pub record HasRun {M : Type 0} (lines : List Line) (core : CoreState M) : Type 0 where
  pub idle : core.in_flight ≡ Nothing
  pub to_play : core.to_play ≡ 0
  pub due : core.due ≡ []
  pub counted : IsCounted core
  pub started : core.started ≡ length lines
  pub said : (session : ℕ) → calls_of session core.history ≡ statements_of session lines
  pub answered : All WasGiven core.history
  pub wanting : AreWantingWhere (logical_state core.opened) core.history

-- the cut came within the call of a line
pub record StopsInLine {M : Type 0} (number : ℕ) (lines : List Line) (core : CoreState M) : Type 0 where
  pub so_far : List Line
  pub line : Line
  pub rest : List Line
  pub lines_are : lines ≡ so_far ++ line ∷ rest
  pub built : IsBuiltLine line
  pub front : List Entry
  pub said : (session : ℕ) → calls_of session front ≡ statements_of session so_far
  pub answered : All WasGiven front
  pub wanting : AreWantingWhere (logical_state core.opened) front
  pub in_call : IsInCall (logical_state core.opened) (said_in line) front core.in_flight core.history
  pub in_flight : core.in_flight ≢ Nothing
  pub counted : IsCounted core
  pub before : length (plan_in (logical_state core.opened) front) < number
  pub reached : core.played ≡ number

-- a core that was just opened
pub record IsFresh {M : Type 0} (core : CoreState M) : Type 0 where
  pub history : core.history ≡ []
  pub idle : core.in_flight ≡ Nothing
  pub due : core.due ≡ []
  pub to_play : core.to_play ≡ 0
  pub played : core.played ≡ 0
  pub started : core.started ≡ 0

-- the cut came before the first line
pub record StopsAtOnce {M : Type 0} (number : ℕ) (lines : List Line) (core : CoreState M) : Type 0 where
  pub none : number ≡ 0
  pub some : lines ≢ []
  pub counted : IsCounted core
  pub fresh : IsFresh core

-- how the lines ended
abbrev pub EndsLines : {M : Type 0} → Ending → Option ℕ → List Line → CoreState M → Type 0
EndsLines ending.Finished cut lines core = HasRun lines core × ((lines ≡ []) ⊎ IsBefore cut core.played)
EndsLines ending.Cut cut lines core =
    (number : ℕ) × (cut ≡ Some number) × (StopsAtOnce number lines core ⊎ StopsInLine number lines core)
