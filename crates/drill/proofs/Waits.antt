-- Where no sessions wait in a circle, their holders end in a running session.
use Rattle.std.proofs.Common.{◌≡◌, ℕ, zero, suc, ◌+◌, ◌<◌, ◌≤◌, Bool, true, false, List, [], ◌∷◌, length, refl, inl, inr, arith}
use Rattle.std.specs.Prelude.{if◌then◌else◌, nat_le, Option, None, Some}
use Rattle.std.proofs.lemmas.Bool.{cases_Bool}
use Rattle.std.proofs.lemmas.Bool.Decides.{nat_tests}
use Rattle.drill.specs.declared.schedule.Standing.{Standing}
use Rattle.drill.specs.declared.schedule.Standing.TheVariants.{Blocked, Done, Ready, Running}
use Rattle.drill.specs.declared.schedule.Move.{Move}
use Rattle.drill.specs.declared.schedule.Move.TheVariants.{Over, Start, Step, Stuck}
use Rattle.drill.specs.Laws.{GoesFirst, IsOrder, StepsFor, has_call}
use Rattle.drill.specs.Schedule.{first_going, move_at, move_of, picked, standing_of, start_or, step_behind, step_or}
use Rattle.drill.proofs.First.{first-is}

-- 1 where the first is below the second
abbrev pub counted : ℕ → ℕ → ℕ
counted a r = if nat_le r a then 0 else 1

counted-low : (a r : ℕ) → r ≤ a → counted a r ≡ 0
counted-low a r low = let e : nat_le r a ≡ true = grind (arith, nat_tests) in rw e refl

counted-high : (a r : ℕ) → a < r → counted a r ≡ 1
counted-high a r high = let e : nat_le r a ≡ false = grind (arith, nat_tests) in rw e refl

-- it grows, and is 1 at most
counted-grows : (a q r : ℕ) → q ≤ r → (counted a q ≤ counted a r) × (counted a r ≤ 1)
counted-grows a q r le =
    elim (cases_Bool (nat_le r a)) [
      | inl low ↦
          let within : r ≤ a = grind (arith, nat_tests, low) in
          let zero-r = counted-low a r within in
          let zero-q = counted-low a q (omega arith) in
          (omega arith, omega arith)
      | inr high ↦
          let one-r : counted a r ≡ 1 = rw high refl in
          elim (cases_Bool (nat_le q a)) [
            | inl low ↦ let zero-q : counted a q ≡ 0 = rw low refl in (omega arith, omega arith)
            | inr above ↦ let one-q : counted a q ≡ 1 = rw above refl in (omega arith, omega arith)
          ]
    ]

-- how many of four places are below this one
abbrev pub count_below : ℕ → ℕ → ℕ → ℕ → ℕ → ℕ
count_below a b c d r = counted a r + counted b r + counted c r + counted d r

-- fewer are below a place than below a later one, and fewer than four below one of themselves
abbrev pub Counts : ℕ → ℕ → ℕ → ℕ → ℕ → Type 0
Counts a b c d x = (count_below a b c d x < 4) × ((r : ℕ) → x < r → count_below a b c d x < count_below a b c d r)

counts-first : (a b c d : ℕ) → Counts a b c d a
counts-first a b c d =
    let own : counted a a ≡ 0 = counted-low a a (omega arith) in
    let most-b : counted b a ≤ 1 = (counted-grows b a a (omega arith)).1 in
    let most-c : counted c a ≤ 1 = (counted-grows c a a (omega arith)).1 in
    let most-d : counted d a ≤ 1 = (counted-grows d a a (omega arith)).1 in (
      omega arith,
      λ r less.
          let later : counted a r ≡ 1 = counted-high a r less in
          let grows-b : counted b a ≤ counted b r = (counted-grows b a r (omega arith)).0 in
          let grows-c : counted c a ≤ counted c r = (counted-grows c a r (omega arith)).0 in
          let grows-d : counted d a ≤ counted d r = (counted-grows d a r (omega arith)).0 in
          omega arith,
    )

counts-second : (a b c d : ℕ) → Counts a b c d b
counts-second a b c d =
    let first : Counts b a c d b = counts-first b a c d in
    let few : count_below b a c d b < 4 = first.0 in
    (omega arith, λ r less. let more : count_below b a c d b < count_below b a c d r = first.1 r less in omega arith)

counts-third : (a b c d : ℕ) → Counts a b c d c
counts-third a b c d =
    let first : Counts c a b d c = counts-first c a b d in
    let few : count_below c a b d c < 4 = first.0 in
    (omega arith, λ r less. let more : count_below c a b d c < count_below c a b d r = first.1 r less in omega arith)

counts-fourth : (a b c d : ℕ) → Counts a b c d d
counts-fourth a b c d =
    let first : Counts d a b c d = counts-first d a b c in
    let few : count_below d a b c d < 4 = first.0 in
    (omega arith, λ r less. let more : count_below d a b c d < count_below d a b c r = first.1 r less in omega arith)

-- what holds of the sessions 1 to 4 holds of each with a call in flight
by-session : (P : ℕ → Type 0) → P 1 → P 2 → P 3 → P 4 → (sessions : List Standing) (session : ℕ) → length sessions ≡ 4
    → has_call (standing_of sessions session) ≡ true → P session
by-session P p q r s sessions zero four called = absurd (let e : false ≡ true = called in cc)
by-session P p q r s sessions (suc zero) four called = p
by-session P p q r s sessions (suc (suc zero)) four called = q
by-session P p q r s sessions (suc (suc (suc zero))) four called = r
by-session P p q r s sessions (suc (suc (suc (suc zero)))) four called = s
by-session P p q r s (a ∷ b ∷ c ∷ d ∷ []) (suc (suc (suc (suc (suc more))))) four called = absurd (let e : false ≡ true = called in cc)
by-session P p q r s (a ∷ b ∷ c ∷ d ∷ e ∷ rest) (suc (suc (suc (suc (suc more))))) four called = absurd (omega arith)
by-session P p q r s (a ∷ b ∷ c ∷ []) (suc (suc (suc (suc (suc more))))) four called = absurd (omega arith)
by-session P p q r s (a ∷ b ∷ []) (suc (suc (suc (suc (suc more))))) four called = absurd (omega arith)
by-session P p q r s (a ∷ []) (suc (suc (suc (suc (suc more))))) four called = absurd (omega arith)
by-session P p q r s [] (suc (suc (suc (suc (suc more))))) four called = absurd (omega arith)

-- how many sessions have a place below this one
abbrev pub below : (ℕ → ℕ) → ℕ → ℕ
below place r = count_below (place 1) (place 2) (place 3) (place 4) r

pub counts-of : (place : ℕ → ℕ) (sessions : List Standing) (session : ℕ) → length sessions ≡ 4
    → has_call (standing_of sessions session) ≡ true → Counts (place 1) (place 2) (place 3) (place 4) (place session)
counts-of place sessions session four called =
    by-session (λ session. Counts (place 1) (place 2) (place 3) (place 4) (place session))
    (counts-first (place 1) (place 2) (place 3) (place 4)) (counts-second (place 1) (place 2) (place 3) (place 4))
    (counts-third (place 1) (place 2) (place 3) (place 4)) (counts-fourth (place 1) (place 2) (place 3) (place 4))
    sessions session four called

-- whoever waits for a session has its step
steps-behind : (sessions : List Standing) (session holder : ℕ) (done : Move) → standing_of sessions session ≡ Blocked holder
    → StepsFor sessions holder done → StepsFor sessions session done
steps-behind sessions session holder (Step last) is steps = (holder ∷ steps.0, (is, steps.1), steps.2)
steps-behind sessions session holder (Start other) is steps = steps
steps-behind sessions session holder Stuck is steps = steps
steps-behind sessions session holder Over is steps = steps

-- the step of a session with a call in flight, if those of its holders that are behind it have theirs
step-of : (sessions : List Standing) (session : ℕ) (held : Standing) (in_place : ℕ → Move) → standing_of sessions session ≡ held
    → has_call held ≡ true → ((holder : ℕ) → standing_of sessions session ≡ Blocked holder → StepsFor sessions holder (in_place holder))
    → StepsFor sessions session (step_or held session in_place)
step-of sessions session Running in_place is called steps = ([], refl, is)
step-of sessions session (Blocked holder) in_place is called steps =
    steps-behind sessions session holder (in_place holder) is (steps holder is)
step-of sessions session Ready in_place is called steps = absurd (let e : false ≡ true = called in cc)
step-of sessions session Done in_place is called steps = absurd (let e : false ≡ true = called in cc)

holders-end : (sessions : List Standing) (place : ℕ → ℕ) → length sessions ≡ 4 → IsOrder sessions place
    → (count session : ℕ) → has_call (standing_of sessions session) ≡ true → below place (place session) < count
    → StepsFor sessions session (step_behind sessions count session)
holders-end sessions place four ordered zero session called few = absurd (omega arith)
holders-end sessions place four ordered (suc count) session called few =
    step-of sessions session (standing_of sessions session) (step_behind sessions count) refl called (λ holder is.
    let order = ordered session holder is in
    let falls = (counts-of place sessions holder four order.0).1 (place session) order.1 in
    holders-end sessions place four ordered count holder order.0 (omega arith))

-- a session with a call in flight goes on
goes-on : (sessions : List Standing) (session : ℕ) (held : Standing) (going_on : Move) → has_call held ≡ true
    → StepsFor sessions session going_on → StepsFor sessions session (start_or held session going_on)
goes-on sessions session Running going_on called steps = steps
goes-on sessions session (Blocked holder) going_on called steps = steps
goes-on sessions session Ready going_on called steps = absurd (let e : false ≡ true = called in cc)
goes-on sessions session Done going_on called steps = absurd (let e : false ≡ true = called in cc)

-- so does the session that is found
move-goes : (sessions : List Standing) (session : ℕ) (found : Option ℕ) → found ≡ Some session
    → has_call (standing_of sessions session) ≡ true → StepsFor sessions session (step_behind sessions 4 session)
    → StepsFor sessions session (move_of sessions found)
move-goes sessions session found is called steps =
    rw is (goes-on sessions session (standing_of sessions session) (step_behind sessions 4 session) called steps)

pub waits-end : (number turn session : ℕ) (sessions : List Standing) (place : ℕ → ℕ)
    → length sessions ≡ 4 → IsOrder sessions place → GoesFirst sessions (picked number turn) session
    → has_call (standing_of sessions session) ≡ true → StepsFor sessions session (move_at number turn sessions)
waits-end number turn session sessions place four ordered first called =
    move-goes sessions session (first_going sessions 4 (picked number turn)) (first-is sessions (picked number turn) session first) called
    (holders-end sessions place four ordered 4 session called (counts-of place sessions session four called).0)
