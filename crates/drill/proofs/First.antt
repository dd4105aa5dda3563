-- The session that goes first, and the walk upwards that finds it.
use Rattle.std.proofs.Common.{◌≡◌, ℕ, zero, suc, ◌<◌, true, false, List, refl, inl, inr, arith}
use Rattle.std.specs.Prelude.{None, Some}
use Rattle.std.proofs.lemmas.Bool.{cases_Bool}
use Rattle.drill.specs.declared.schedule.Standing.{Standing}
use Rattle.drill.specs.Laws.{GoesFirst, session_above}
use Rattle.drill.specs.Schedule.{first_going, is_done, standing_of, upwards}

-- the session goes first among so many upwards
record Goes (sessions : List Standing) (count from session : ℕ) : Type 0 where
  distance : ℕ
  near : distance < count
  place : session ≡ session_above distance from
  goes : is_done (standing_of sessions session) ≡ false
  passed : (nearer : ℕ) → nearer < distance → is_done (standing_of sessions (session_above nearer from)) ≡ true

goes-further : (sessions : List Standing) (count from session : ℕ) → is_done (standing_of sessions from) ≡ true
    → Goes sessions count (upwards from) session → Goes sessions (suc count) from session
goes-further sessions count from session done first = record {
  distance = suc first.distance;
  near = omega arith;
  place = first.place;
  goes = first.goes;
  passed = λ nearer below. at nearer below;
}
  where
    at : (nearer : ℕ) → nearer < suc first.distance → is_done (standing_of sessions (session_above nearer from)) ≡ true
    at zero below = done
    at (suc nearer) below = first.passed nearer (omega arith)

found-goes : (sessions : List Standing) (count from session : ℕ) → first_going sessions count from ≡ Some session
    → Goes sessions count from session
found-goes sessions zero from session found = absurd (let e : None ≡ Some session = found in cc)
found-goes sessions (suc count) from session found =
    elim (cases_Bool (is_done (standing_of sessions from))) [
      | inl done ↦ goes-further sessions count from session done (found-goes sessions count (upwards from) session (rw done at found))
      | inr going ↦
          let e : Some from ≡ Some session = rw going at found in
          let same : from ≡ session = cc in
          record {
            distance = zero;
            near = omega arith;
            place = cc;
            goes = rw (← same) going;
            passed = λ nearer below. absurd (omega arith);
          }
    ]

pub first-found : (sessions : List Standing) (from session : ℕ) → first_going sessions 4 from ≡ Some session → GoesFirst sessions from session
first-found sessions from session found =
    let first = found-goes sessions 4 from session found in
    record { distance = first.distance; near = first.near; place = first.place; goes = first.goes; passed = first.passed }

-- the walk comes to a session that is so far away, if it passes those before it
comes-to : (sessions : List Standing) (count distance from session : ℕ) → distance < count → session ≡ session_above distance from
    → is_done (standing_of sessions session) ≡ false
    → ((nearer : ℕ) → nearer < distance → is_done (standing_of sessions (session_above nearer from)) ≡ true)
    → first_going sessions count from ≡ Some session
comes-to sessions zero distance from session near place goes passed = absurd (omega arith)
comes-to sessions (suc count) zero from session near place goes passed = rw (← place, goes) refl
comes-to sessions (suc count) (suc distance) from session near place goes passed =
    let here = passed zero (omega arith) in
    rw here (comes-to sessions count distance (upwards from) session (omega arith) place goes (λ nearer below. passed (suc nearer) (omega arith)))

pub first-is : (sessions : List Standing) (from session : ℕ) → GoesFirst sessions from session → first_going sessions 4 from ≡ Some session
first-is sessions from session first =
    comes-to sessions 4 first.distance from session first.near first.place first.goes first.passed
