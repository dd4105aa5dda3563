-- What the functions of a core rest on.
use Rattle.std.proofs.Common.{◌≡◌, ◌≢◌, IsTrue, false, inl, inr, true, ℕ, suc, ◌-◌, ◌<◌, ◌≤◌, ◌∙◌, List, [], ◌∷◌, ◌++◌, length, get_or, set, refl, ap, sym, subst, arith}
use Rattle.std.proofs.lemmas.Bool.Decides.{eqb_tells}
use Rattle.std.proofs.lemmas.List.{length-append}
use Rattle.built_calls.specs.Built.{is_built_session}
use Rattle.mv_model.specs.declared.reply.Entry.{Entry}
use Rattle.pm_model.specs.declared.action.Action.{Action}
use Rattle.engine_core.specs.CoreState.{Nothing, Last, IsAnswered, IsAnsweredButFor, IsWaiting, in_flight_of}
use Rattle.engine_core.specs.Kept.{IsBounded}
use Rattle.engine_core.specs.declared.flight.Flight.{Flight}
use Rattle.engine_core.specs.declared.flight.Flight.TheVariants as flight

pub is_idle : (in_flight : Flight) → in_flight_of in_flight ≡ Nothing → in_flight ≡ flight.Idle
is_idle flight.Idle is = refl
is_idle (flight.Waiting said) is = cc
is_idle (flight.Committing number late) is = cc
is_idle (flight.Placed given) is = cc

-- the session that is built is the first
pub first-session : (session : ℕ) → IsTrue (is_built_session session) → session ≡ 1
first-session session built =
    elim (eqb_tells session 1) [
      | inl w ↦ w.1
      | inr w ↦ absurd (let e : false ≡ true = rw w.0 at built in cc)
    ]

-- exactly the entry of a call in flight isn't answered
pub answers-seen : (in_flight : Flight) (history : List Entry) → IsAnswered in_flight history → IsAnsweredButFor (in_flight_of in_flight) history
answers-seen flight.Idle history answers = answers
answers-seen (flight.Waiting said) history answers = answers
answers-seen (flight.Committing number late) history answers = answers
answers-seen (flight.Placed given) history answers = (given, answers)

pub none-left : (left : List Action) → length left ≡ 0 → left ≡ []
none-left [] none = refl
none-left (action ∷ left) none = absurd (omega arith)

-- a call without actions left that has no place waits for its decision
pub waits : (in_flight : Flight) (left : List Action) (events : ℕ) → in_flight_of in_flight ≢ Nothing → in_flight_of in_flight ≢ Last → length left ≡ 0 → IsBounded in_flight left events → IsWaiting in_flight
waits flight.Idle left events some unplaced none bounded = absurd (some refl)
waits (flight.Waiting said) left events some unplaced none bounded = tt
waits (flight.Committing number late) left events some unplaced none bounded = absurd (omega (arith, none, bounded.0))
waits (flight.Placed given) left events some unplaced none bounded = absurd (unplaced refl)

-- a call in flight may take one more event
pub one-event : (in_flight : Flight) (left : List Action) (events : ℕ) → in_flight_of in_flight ≢ Nothing → IsBounded in_flight left events → 1 ≤ events
one-event flight.Idle left events some bounded = absurd (some refl)
one-event (flight.Waiting said) left events some bounded = omega (arith, bounded.1)
one-event (flight.Committing number late) left events some bounded = omega (arith, bounded.1)
one-event (flight.Placed given) left events some bounded = omega (arith, bounded)

-- where an action is left, a call is in flight
pub busy : (in_flight : Flight) (left : List Action) (events : ℕ) → 0 < length left → IsBounded in_flight left events → in_flight_of in_flight ≢ Nothing
busy flight.Idle left events some bounded is = let none = ap length bounded in omega (arith, some, none)
busy (flight.Waiting said) left events some bounded is = cc
busy (flight.Committing number late) left events some bounded is = cc
busy (flight.Placed given) left events some bounded is = cc

pub set-last : (items front : List Entry) (last one : Entry) → items ≡ front ++ last ∷ [] → set items (length items - 1) one ≡ front ++ one ∷ []
set-last items front last one is = subst (λ (xs : List Entry). set xs (length xs - 1) one ≡ front ++ one ∷ []) (sym is) (go front)
  where
    go : (front : List Entry) → set (front ++ last ∷ []) (length (front ++ last ∷ []) - 1) one ≡ front ++ one ∷ []
    go [] = refl
    go (first ∷ front) =
        let size = length-append front (last ∷ []) in
        let place : suc (length (front ++ last ∷ [])) - 1 ≡ suc (length (front ++ last ∷ []) - 1) = omega (arith, size) in
        ap (λ (k : ℕ). set (first ∷ (front ++ last ∷ [])) k one) place ∙ ap (λ (xs : List Entry). first ∷ xs) (go front)

pub get-last : (items front : List Entry) (last other : Entry) → items ≡ front ++ last ∷ [] → get_or items (length items - 1) other ≡ last
get-last items front last other is = subst (λ (xs : List Entry). get_or xs (length xs - 1) other ≡ last) (sym is) (go front)
  where
    go : (front : List Entry) → get_or (front ++ last ∷ []) (length (front ++ last ∷ []) - 1) other ≡ last
    go [] = refl
    go (first ∷ front) =
        let size = length-append front (last ∷ []) in
        let place : suc (length (front ++ last ∷ [])) - 1 ≡ suc (length (front ++ last ∷ []) - 1) = omega (arith, size) in
        ap (λ (k : ℕ). get_or (first ∷ (front ++ last ∷ [])) k other) place ∙ go front
