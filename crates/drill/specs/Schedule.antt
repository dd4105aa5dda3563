-- The schedule of a number: which session goes on at a turn.
use Rattle.std.specs.Prelude.{ℕ, zero, suc, ◌+◌, ◌-◌, ◌%◌, ◌^◌, Bool, true, false, if◌then◌else◌, List, slice_index_or, Option, None, Some}
use Rattle.drill.specs.declared.schedule.Standing.{Standing}
use Rattle.drill.specs.declared.schedule.Standing.TheVariants as standing
use Rattle.drill.specs.declared.schedule.Move.{Move}
use Rattle.drill.specs.declared.schedule.Move.TheVariants.{Start, Step, Stuck, Over}
use Rattle.drill.specs.Draws.{session_drawn}

-- the session that is picked at a turn: the schedule has draws of its own
abbrev pub picked : ℕ → ℕ → ℕ
picked number turn = session_drawn (2 ^ 64 - 1 - number) turn

-- how the session stands; any but the sessions 1 to 4 is done
abbrev pub standing_of : List Standing → ℕ → Standing
standing_of sessions zero = standing.Done
standing_of sessions (suc place) = slice_index_or sessions place standing.Done

abbrev pub is_done : Standing → Bool
is_done standing.Done = true
is_done other = false

-- the next session upwards, after 4 again 1
abbrev pub upwards : ℕ → ℕ
upwards session = session % 4 + 1

-- of so many sessions upwards from this one the first that is not done
abbrev pub first_going : List Standing → ℕ → ℕ → Option ℕ
first_going sessions zero session = None
first_going sessions (suc more) session =
    if is_done (standing_of sessions session) then first_going sessions more (upwards session) else Some session

-- the session steps, or the holder that it waits for goes on in its place
abbrev pub step_or : Standing → ℕ → (ℕ → Move) → Move
step_or standing.Running session in_place = Step session
step_or (standing.Blocked holder) session in_place = in_place holder
step_or other session in_place = Stuck

-- the step at the end of the holders, of which the first is the session and there are at most so many
abbrev pub step_behind : List Standing → ℕ → ℕ → Move
step_behind sessions zero session = Stuck
step_behind sessions (suc more) session = step_or (standing_of sessions session) session (step_behind sessions more)

-- the session starts its next statement, or it goes on with its call
abbrev pub start_or : Standing → ℕ → Move → Move
start_or standing.Ready session going_on = Start session
start_or other session going_on = going_on

abbrev pub move_of : List Standing → Option ℕ → Move
move_of sessions None = Over
move_of sessions (Some session) = start_or (standing_of sessions session) session (step_behind sessions 4 session)

-- what is done at the turn
abbrev pub move_at : ℕ → ℕ → List Standing → Move
move_at number turn sessions = move_of sessions (first_going sessions 4 (picked number turn))
