-- What holds of scripts and schedules, whatever the number.
use Rattle.std.specs.Prelude.{ℕ, zero, suc, ◌≡◌, ◌≢◌, ◌+◌, ◌<◌, ◌≤◌, not, Bool, true, false, All, List, [], ◌∷◌, ◌++◌, length}
use Rattle.mv_model.specs.declared.call.Call.{Call}
use Rattle.mv_model.specs.declared.call.Call.TheVariants as call
use Rattle.script_text.specs.declared.script.Line.{Line}
use Rattle.script_text.specs.declared.script.Line.TheVariants as line
use Rattle.script_text.specs.Script.{ordinal_after}
use Rattle.drill.specs.declared.schedule.Standing.{Standing}
use Rattle.drill.specs.declared.schedule.Standing.TheVariants.{Blocked, Ready, Running}
use Rattle.drill.specs.declared.schedule.Move.{Move}
use Rattle.drill.specs.declared.schedule.Move.TheVariants.{Start, Step, Stuck, Over}
use Rattle.drill.specs.Calls.{creation}
use Rattle.drill.specs.Script.{is_open, script_of}
use Rattle.drill.specs.Schedule.{is_done, move_at, picked, standing_of, upwards}

abbrev pub is_creation : Call → Bool
is_creation (call.Create table columns) = true
is_creation other = false

abbrev pub is_begin : Call → Bool
is_begin call.Begin = true
is_begin other = false

-- the line is what one of the sessions 1 to 4 says, and creates no table
abbrev pub IsStatement : Line → Type 0
IsStatement (line.Say session ordinal said) = (1 ≤ session) × (session ≤ 4) × (is_creation said ≡ false)
IsStatement (line.Await session on nth) = ⊥

-- a script is the creation of its table, and behind it exactly so many statements
abbrev pub HasOneCreation : Type 0
HasOneCreation = (number statements : ℕ) → (said : List Line)
    × (script_of number statements ≡ line.Say 1 1 creation ∷ said)
    × (length said ≡ statements) × All IsStatement said

-- behind the earlier lines the line is its session's next, and a begin exactly where that has no transaction open
abbrev pub Follows : List Line → Line → Type 0
Follows earlier (line.Say session ordinal said) =
    (ordinal ≡ ordinal_after earlier session + 1) × (is_begin said ≡ not (is_open earlier session))
Follows earlier (line.Await session on nth) = ⊥

-- each line of a script but the creation follows those before it
abbrev pub EachFollows : Type 0
EachFollows = (number statements : ℕ) (earlier later : List Line) (said : Line)
    → script_of number statements ≡ earlier ++ said ∷ later → 0 < length earlier → Follows earlier said

-- the session that stands so many places upwards of this one, after 4 again 1
abbrev pub session_above : ℕ → ℕ → ℕ
session_above zero session = session
session_above (suc places) session = session_above places (upwards session)

-- The session goes first at a turn: it is not done, and each session from the picked one up to it is.
pub record GoesFirst (sessions : List Standing) (picked session : ℕ) : Type 0 where
  pub distance : ℕ
  pub near : distance < 4
  pub place : session ≡ session_above distance picked
  pub goes : is_done (standing_of sessions session) ≡ false
  pub passed : (nearer : ℕ) → nearer < distance → is_done (standing_of sessions (session_above nearer picked)) ≡ true

-- the session has a call in flight
abbrev pub has_call : Standing → Bool
has_call Running = true
has_call (Blocked holder) = true
has_call other = false

-- The sessions do not wait in a circle: they have places in which each holder stands before whoever waits for it, and
-- each holder has a call in flight.
abbrev pub IsOrder : List Standing → (ℕ → ℕ) → Type 0
IsOrder sessions place = (session holder : ℕ) → standing_of sessions session ≡ Blocked holder
    → (has_call (standing_of sessions holder) ≡ true) × (place holder < place session)

-- the session waits for the first of the holders, each of these for the next, and the last of all is this one
abbrev pub WaitsFor : List Standing → ℕ → List ℕ → ℕ → Type 0
WaitsFor sessions session [] last = session ≡ last
WaitsFor sessions session (holder ∷ holders) last =
    (standing_of sessions session ≡ Blocked holder) × WaitsFor sessions holder holders last

-- The move is what the turn of the picked session asks for. The session that goes first starts its next statement, if
-- it has no call in flight. Else the running session at the end of its holders steps; and the answer is `Stuck` only
-- where its holders, however far they are followed, lead to no running one. The run is over only where every session is
-- done.
abbrev pub Fits : List Standing → ℕ → Move → Type 0
Fits sessions picked (Start session) =
    GoesFirst sessions picked session × (standing_of sessions session ≡ Ready)
Fits sessions picked (Step last) =
    (session : ℕ) × GoesFirst sessions picked session
    × (holders : List ℕ) × WaitsFor sessions session holders last × (standing_of sessions last ≡ Running)
Fits sessions picked Stuck =
    (session : ℕ) × GoesFirst sessions picked session × (has_call (standing_of sessions session) ≡ true)
    × ((holders : List ℕ) (last : ℕ) → WaitsFor sessions session holders last → standing_of sessions last ≢ Running)
Fits sessions picked Over = (session : ℕ) → is_done (standing_of sessions session) ≡ true

-- each move fits
abbrev pub MovesFit : Type 0
MovesFit = (number turn : ℕ) (sessions : List Standing) → length sessions ≡ 4
    → Fits sessions (picked number turn) (move_at number turn sessions)

-- the move is a step of the running session at the end of this session's holders
abbrev pub StepsFor : List Standing → ℕ → Move → Type 0
StepsFor sessions session (Step last) =
    (holders : List ℕ) × WaitsFor sessions session holders last × (standing_of sessions last ≡ Running)
StepsFor sessions session other = ⊥

-- Where no sessions wait in a circle, and the session that goes first has a call in flight, the move is a step: that of
-- the running session at the end of its holders.
abbrev pub WaitsEnd : Type 0
WaitsEnd = (number turn session : ℕ) (sessions : List Standing) (place : ℕ → ℕ)
    → length sessions ≡ 4 → IsOrder sessions place → GoesFirst sessions (picked number turn) session
    → has_call (standing_of sessions session) ≡ true → StepsFor sessions session (move_at number turn sessions)
