-- A run of a script over an image, at one moment.
use Rattle.std.specs.Prelude.{ℕ, ◌≡◌, ◌≢◌, ◌⊎◌, ◌+◌, ◌<◌, true, false, List, [], ◌∷◌, ◌++◌, All, length, map, take, Option, None, Some}
use Rattle.mv_model.specs.declared.call.Call.{Call}
use Rattle.mv_model.specs.declared.reply.Entry.{Entry}
use Rattle.mv_model.specs.State.{State}
use Rattle.mv_model.specs.History.{IsLegal, entries_of}
use Rattle.mv_model.specs.Next.{next}
use Rattle.pm_model.specs.declared.action.Action.{Action}
use Rattle.pm_model.specs.Device.{Device, IsCrashImage}
use Rattle.pm_model.specs.Plans.{at_rest, run}
use Rattle.engine_core.specs.Actions.{plan_in}
use Rattle.engine_core.specs.CoreState.{IsDueAt}
use Rattle.engine_core.specs.Decided.{IsFullWhere, IsNoMemoryWhere}
use Rattle.engine_core.specs.LogicalState.{logical_state}
use Rattle.engine_core.specs.Opening.{opening_fault, recovered}
use Rattle.engine_core.specs.Recoverable.{IsRecoverable, MayRecoverTo, undecided}
use Rattle.script_text.specs.declared.script.Line.{Line}
use Rattle.script_text.specs.Script.{statements_of}

-- the opened words, the calls that have their place, the entry of a commit that is decided and has none yet, how many
-- actions of the plan in play are left, and the device
pub record Moment : Type 0 where
  pub opened : List ℕ
  pub history : List Entry
  pub due : List Entry
  pub to_play : ℕ
  pub device : Device

-- the calls that are decided, those with a place first
abbrev pub decided : Moment → List Entry
decided m = m.history ++ m.due

-- their plans, one after the other
abbrev pub planned : Moment → List Action
planned m = plan_in (logical_state m.opened) (decided m)

-- the calls that a session said, in its order
abbrev pub calls_of : ℕ → List Entry → List Call
calls_of session entries = map (λ entry. entry.call) (entries_of session entries)

-- the first list is the front of the second
abbrev pub IsFrontOf : List Call → List Call → Type 0
IsFrontOf front all = (rest : List Call) × (all ≡ front ++ rest)

-- the entry was refused for want of room exactly where the store has none, and for want of memory only where its call
-- takes some: another refusal is not due there
pub record IsWantingWhere (state : State) (entry : Entry) : Type 0 where
  pub room : IsFullWhere state entry.reply
  pub memory : IsNoMemoryWhere state entry.call entry.reply

-- so was each of these entries, one after the other
abbrev pub AreWantingWhere : State → List Entry → Type 0
AreWantingWhere state [] = Unit {0}
AreWantingWhere state (entry ∷ entries) =
    IsWantingWhere state entry × AreWantingWhere (next state entry.session entry.call entry.reply) entries

-- The moment is one of a run of the script over the image of these words, when so many actions were played.
pub record IsRun (words : List ℕ) (script : List Line) (played : ℕ) (m : Moment) : Type 0 where
  -- the image breaks no rule, and opening makes these words of it
  pub accepted : opening_fault words ≡ None
  pub opened : m.opened ≡ recovered words
  -- the history is legal from the state that they stand for, also with what is due
  pub legal : IsLegal (logical_state m.opened) m.history
  pub legal_due : IsLegal (logical_state m.opened) (decided m)
  -- its calls are those of the script, session by session, and a refusal for want of room or of memory has its cause
  pub said : (session : ℕ) → IsFrontOf (calls_of session (decided m)) (statements_of session script)
  pub wanting : AreWantingWhere (logical_state m.opened) m.history
  -- a commit is due until the fence that makes it certain was played; each other call that is decided is in the history
  pub due_is : IsDueAt (logical_state m.opened) m.history m.due m.to_play
  -- of the actions of the plans of these calls, one plan after the other, the first `played` were played: they have
  -- made the device of the opened words
  pub counted : played + m.to_play ≡ length (planned m)
  pub device : m.device ≡ run 1 (take played (planned m)) (at_rest m.opened)
  -- whatever image a power cut leaves now, opening it gives the commits whose commit word is durable
  pub recoverable : (image : List ℕ) → IsCrashImage m.device image → IsRecoverable image
  pub may_recover_to : (image : List ℕ) → IsCrashImage m.device image
      → MayRecoverTo (logical_state m.opened) m.history (undecided m.device m.due) (logical_state image)

-- the calls that have their place are these, and then some more
pub record HasBehind (m : Moment) (front more : List Entry) : Type 0 where
  pub split : m.history ≡ front ++ more
  pub some : more ≢ []

-- the moment told otherwise: these alone have their place, and the others are due
abbrev pub told_due : Moment → List Entry → List Entry → Moment
told_due m front more = record m { history = front; due = more ++ m.due }

-- Every statement was answered, and nothing is left to do: each word that the device has cached is durable.
pub record IsFinished (script : List Line) (m : Moment) : Type 0 where
  pub said : (session : ℕ) → calls_of session m.history ≡ statements_of session script
  pub answered : All (λ entry. entry.answered ≡ true) m.history
  pub due : m.due ≡ []
  pub to_play : m.to_play ≡ 0
  pub clean : m.device.durable ≡ m.device.cached

-- The cut was not reached: there is none, or no statement, or fewer actions were played.
abbrev pub IsUncut : Option ℕ → List Line → ℕ → Type 0
IsUncut None script played = Unit {0}
IsUncut (Some number) script played = (script ≡ []) ⊎ (played < number)

-- The last of these entries is not answered, all others are, and those alone play fewer actions.
pub record EndsInCall (opened : State) (number : ℕ) (entries : List Entry) : Type 0 where
  pub front : List Entry
  pub last : Entry
  pub is : entries ≡ front ++ last ∷ []
  pub given_before : All (λ entry. entry.answered ≡ true) front
  pub open_still : last.answered ≡ false
  pub before : length (plan_in opened front) < number

-- The moment is the first one at which so many actions were played and a statement has no reply: before the first
-- statement where that is none, and else within a call.
abbrev pub IsFirstAt : ℕ → List Line → Moment → Type 0
IsFirstAt number script m =
    ((number ≡ 0) × (script ≢ []) × (decided m ≡ [])) ⊎ EndsInCall (logical_state m.opened) number (decided m)
