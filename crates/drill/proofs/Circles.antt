-- Holders that lead to a running session are at most three.
use Rattle.std.proofs.Common.{◌≡◌, ℕ, zero, suc, ◌+◌, ◌<◌, ◌≤◌, true, false, List, [], ◌∷◌, length, refl, sym, ◌∙◌, arith}
use Rattle.drill.specs.declared.schedule.Standing.{Standing}
use Rattle.drill.specs.declared.schedule.Standing.TheVariants.{Blocked, Done, Ready, Running}
use Rattle.drill.specs.declared.schedule.Move.{Move}
use Rattle.drill.specs.declared.schedule.Move.TheVariants.{Step, Stuck}
use Rattle.drill.specs.Laws.{WaitsFor, has_call}
use Rattle.drill.specs.Schedule.{standing_of, step_behind, step_or}
use Rattle.drill.proofs.Waits.{below, counts-of}

-- how many holders stand between a session and one that is not blocked, of so many that are followed
abbrev holders_or : Standing → (ℕ → ℕ) → ℕ
holders_or (Blocked holder) behind = suc (behind holder)
holders_or Running behind = 0
holders_or Ready behind = 0
holders_or Done behind = 0

abbrev distance : List Standing → ℕ → ℕ → ℕ
distance sessions zero session = 0
distance sessions (suc most) session = holders_or (standing_of sessions session) (distance sessions most)

distance-is : (sessions : List Standing) (most session last : ℕ) (holders : List ℕ) → WaitsFor sessions session holders last
    → standing_of sessions last ≡ Running → length holders ≤ most → distance sessions most session ≡ length holders
distance-is sessions zero session last [] waits runs within = refl
distance-is sessions (suc most) session last [] waits runs within = rw (waits, runs) refl
distance-is sessions zero session last (holder ∷ holders) waits runs within = absurd (omega arith)
distance-is sessions (suc most) session last (holder ∷ holders) waits runs within =
    rw waits.0 (omega (arith, distance-is sessions most holder last holders waits.1 runs (omega arith)))

waits-called : (sessions : List Standing) (session last : ℕ) (holders : List ℕ) → WaitsFor sessions session holders last
    → standing_of sessions last ≡ Running → has_call (standing_of sessions session) ≡ true
waits-called sessions session last [] waits runs = rw (waits, runs) refl
waits-called sessions session last (holder ∷ holders) waits runs = rw waits.0 refl

-- as many sessions are nearer as there are holders
nearer : (sessions : List Standing) (most session last : ℕ) (holders : List ℕ) → length sessions ≡ 4
    → WaitsFor sessions session holders last → standing_of sessions last ≡ Running → length holders ≤ most
    → length holders ≤ below (distance sessions most) (distance sessions most session)
nearer sessions most session last [] four waits runs within = omega arith
nearer sessions most session last (holder ∷ holders) four waits runs within =
    let behind = nearer sessions most holder last holders four waits.1 runs (omega arith) in
    let own = distance-is sessions most session last (holder ∷ holders) waits runs within in
    let next = distance-is sessions most holder last holders waits.1 runs (omega arith) in
    let called = waits-called sessions holder last holders waits.1 runs in
    let more = (counts-of (distance sessions most) sessions holder four called).1 (distance sessions most session) (omega arith) in
    omega arith

few : (sessions : List Standing) (session last : ℕ) (holders : List ℕ) → length sessions ≡ 4
    → WaitsFor sessions session holders last → standing_of sessions last ≡ Running → length holders < 4
few sessions session last holders four waits runs =
    let called = waits-called sessions session last holders waits runs in
    let least = nearer sessions (length holders) session last holders four waits runs (omega arith) in
    let most = (counts-of (distance sessions (length holders)) sessions session four called).0 in
    omega arith

-- the step is found where more are followed than there are holders
step-found : (sessions : List Standing) (count session last : ℕ) (holders : List ℕ) → WaitsFor sessions session holders last
    → standing_of sessions last ≡ Running → length holders < count → step_behind sessions count session ≡ Step last
step-found sessions zero session last holders waits runs within = absurd (omega arith)
step-found sessions (suc count) session last [] waits runs within = rw (waits, runs) refl
step-found sessions (suc count) session last (holder ∷ holders) waits runs within =
    rw waits.0 (step-found sessions count holder last holders waits.1 runs (omega arith))

pub never-stuck : (sessions : List Standing) (session last : ℕ) (holders : List ℕ) → length sessions ≡ 4
    → WaitsFor sessions session holders last → standing_of sessions last ≡ Running → step_behind sessions 4 session ≡ Stuck → ⊥
never-stuck sessions session last holders four waits runs stuck =
    let found = step-found sessions 4 session last holders waits runs (few sessions session last holders four waits runs) in
    let e : Step last ≡ Stuck = sym found ∙ stuck in
    cc
