-- Each move of a schedule fits how the sessions stand.
use Rattle.std.proofs.Common.{◌≡◌, ℕ, zero, suc, ◌+◌, ◌≤◌, Bool, true, false, List, [], ◌∷◌, length, refl, inl, inr, arith}
use Rattle.std.specs.Prelude.{◌%◌, if◌then◌else◌, Option, None, Some}
use Rattle.std.proofs.lemmas.Bool.{cases_Bool}
use Rattle.drill.specs.declared.schedule.Standing.{Standing}
use Rattle.drill.specs.declared.schedule.Standing.TheVariants.{Blocked, Done, Ready, Running}
use Rattle.drill.specs.declared.schedule.Move.{Move}
use Rattle.drill.specs.declared.schedule.Move.TheVariants.{Over, Start, Step, Stuck}
use Rattle.drill.specs.Draws.{draw}
use Rattle.drill.specs.Laws.{Fits, GoesFirst, WaitsFor, has_call}
use Rattle.drill.proofs.Circles.{never-stuck}
use Rattle.drill.proofs.First.{first-found}
use Rattle.drill.specs.Schedule.{first_going, is_done, move_at, move_of, picked, standing_of, start_or, step_behind, step_or}

-- what a move behind a session is: a step at the end of its holders, or none
abbrev Behind : List Standing → ℕ → Move → Type 0
Behind sessions session (Step last) =
    (holders : List ℕ) × WaitsFor sessions session holders last × (standing_of sessions last ≡ Running)
Behind sessions session Stuck = Unit {0}
Behind sessions session other = ⊥

waits-behind : (sessions : List Standing) (session holder : ℕ) (done : Move) → standing_of sessions session ≡ Blocked holder
    → Behind sessions holder done → Behind sessions session done
waits-behind sessions session holder (Step last) is steps = (holder ∷ steps.0, (is, steps.1), steps.2)
waits-behind sessions session holder (Start other) is steps = absurd steps
waits-behind sessions session holder Stuck is steps = tt
waits-behind sessions session holder Over is steps = absurd steps

step-behind : (sessions : List Standing) (session : ℕ) (held : Standing) (in_place : ℕ → Move) → standing_of sessions session ≡ held
    → ((holder : ℕ) → Behind sessions holder (in_place holder)) → Behind sessions session (step_or held session in_place)
step-behind sessions session Running in_place is goes_on = ([], refl, is)
step-behind sessions session (Blocked holder) in_place is goes_on = waits-behind sessions session holder (in_place holder) is (goes_on holder)
step-behind sessions session Ready in_place is goes_on = tt
step-behind sessions session Done in_place is goes_on = tt

steps-behind : (sessions : List Standing) (count session : ℕ) → Behind sessions session (step_behind sessions count session)
steps-behind sessions zero session = tt
steps-behind sessions (suc count) session =
    step-behind sessions session (standing_of sessions session) (step_behind sessions count) refl (steps-behind sessions count)

-- what is done behind a session with a call in flight
call-fits : (sessions : List Standing) (from session : ℕ) (done : Move) → length sessions ≡ 4
    → GoesFirst sessions from session → has_call (standing_of sessions session) ≡ true
    → step_behind sessions 4 session ≡ done → Behind sessions session done → Fits sessions from done
call-fits sessions from session (Step last) four found called is steps = (session, found, steps.0, steps.1, steps.2)
call-fits sessions from session (Start other) four found called is steps = absurd steps
call-fits sessions from session Stuck four found called is steps =
    (session, found, called, λ holders last waits runs. absurd (never-stuck sessions session last holders four waits runs is))
call-fits sessions from session Over four found called is steps = absurd steps

going-fits : (sessions : List Standing) (from session : ℕ) (held : Standing) → length sessions ≡ 4
    → GoesFirst sessions from session → standing_of sessions session ≡ held → is_done held ≡ false
    → Fits sessions from (start_or held session (step_behind sessions 4 session))
going-fits sessions from session Done four found is going = absurd (let e : true ≡ false = going in cc)
going-fits sessions from session Ready four found is going = (found, is)
going-fits sessions from session Running four found is going =
    call-fits sessions from session (step_behind sessions 4 session) four found (rw is refl) refl (steps-behind sessions 4 session)
going-fits sessions from session (Blocked holder) four found is going =
    call-fits sessions from session (step_behind sessions 4 session) four found (rw is refl) refl (steps-behind sessions 4 session)

-- none of four is found
none-goes : (a b c d : Bool) (w x y z : ℕ)
    → (if a then (if b then (if c then (if d then None else Some z) else Some y) else Some x) else Some w) ≡ None
    → (a ≡ true) × (b ≡ true) × (c ≡ true) × (d ≡ true)
none-goes true true true true w x y z e = (refl, refl, refl, refl)
none-goes true true true false w x y z e = absurd (let f : Some z ≡ None = e in cc)
none-goes true true false d w x y z e = absurd (let f : Some y ≡ None = e in cc)
none-goes true false c d w x y z e = absurd (let f : Some x ≡ None = e in cc)
none-goes false b c d w x y z e = absurd (let f : Some w ≡ None = e in cc)

at-places : (a b c d : Standing) → is_done a ≡ true → is_done b ≡ true → is_done c ≡ true → is_done d ≡ true
    → (session : ℕ) → is_done (standing_of (a ∷ b ∷ c ∷ d ∷ []) session) ≡ true
at-places a b c d p q r s zero = refl
at-places a b c d p q r s (suc zero) = p
at-places a b c d p q r s (suc (suc zero)) = q
at-places a b c d p q r s (suc (suc (suc zero))) = r
at-places a b c d p q r s (suc (suc (suc (suc zero)))) = s
at-places a b c d p q r s (suc (suc (suc (suc (suc more))))) = refl

four-done : (a b c d : Standing) (from : ℕ) → 1 ≤ from → from ≤ 4 → first_going (a ∷ b ∷ c ∷ d ∷ []) 4 from ≡ None
    → (session : ℕ) → is_done (standing_of (a ∷ b ∷ c ∷ d ∷ []) session) ≡ true
four-done a b c d zero low high none = absurd (omega arith)
four-done a b c d (suc zero) low high none =
    let done = none-goes (is_done a) (is_done b) (is_done c) (is_done d) 1 2 3 4 none in
    at-places a b c d done.0 done.1 done.2 done.3
four-done a b c d (suc (suc zero)) low high none =
    let done = none-goes (is_done b) (is_done c) (is_done d) (is_done a) 2 3 4 1 none in
    at-places a b c d done.3 done.0 done.1 done.2
four-done a b c d (suc (suc (suc zero))) low high none =
    let done = none-goes (is_done c) (is_done d) (is_done a) (is_done b) 3 4 1 2 none in
    at-places a b c d done.2 done.3 done.0 done.1
four-done a b c d (suc (suc (suc (suc zero)))) low high none =
    let done = none-goes (is_done d) (is_done a) (is_done b) (is_done c) 4 1 2 3 none in
    at-places a b c d done.1 done.2 done.3 done.0
four-done a b c d (suc (suc (suc (suc (suc more))))) low high none = absurd (omega arith)

all-done : (sessions : List Standing) (from : ℕ) → length sessions ≡ 4 → 1 ≤ from → from ≤ 4 → first_going sessions 4 from ≡ None
    → (session : ℕ) → is_done (standing_of sessions session) ≡ true
all-done (a ∷ b ∷ c ∷ d ∷ []) from four low high none = four-done a b c d from low high none
all-done (a ∷ b ∷ c ∷ d ∷ e ∷ rest) from four low high none = absurd (omega arith)
all-done (a ∷ b ∷ c ∷ []) from four low high none = absurd (omega arith)
all-done (a ∷ b ∷ []) from four low high none = absurd (omega arith)
all-done (a ∷ []) from four low high none = absurd (omega arith)
all-done [] from four low high none = absurd (omega arith)

move-fits : (sessions : List Standing) (from : ℕ) (found : Option ℕ) → length sessions ≡ 4 → 1 ≤ from → from ≤ 4 → first_going sessions 4 from ≡ found
    → Fits sessions from (move_of sessions found)
move-fits sessions from None four low high is = all-done sessions from four low high is
move-fits sessions from (Some session) four low high is =
    let first = first-found sessions from session is in
    going-fits sessions from session (standing_of sessions session) four first refl first.goes

pub moves-fit : (number turn : ℕ) (sessions : List Standing) → length sessions ≡ 4
    → Fits sessions (picked number turn) (move_at number turn sessions)
moves-fit number turn sessions four =
    move-fits sessions (picked number turn) (first_going sessions 4 (picked number turn)) four (omega arith) (omega arith) refl
