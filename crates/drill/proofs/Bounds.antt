-- How long the script of a number is, and how many draws it uses.
use Rattle.std.proofs.Common.{◌≡◌, ℕ, zero, suc, ◌+◌, ◌*◌, ◌≤◌, Bool, true, false, List, [], ◌∷◌, ◌++◌, length, length-append, refl, ◌∙◌, arith}
use Rattle.std.specs.Prelude.{◌%◌}
use Rattle.drill.specs.Draws.{draw, session_drawn}
use Rattle.drill.specs.Calls.{Drawn, statement_drawn}
use Rattle.drill.specs.Script.{drafted, is_open}
use Rattle.drill.proofs.Choices.{by-choice}

statement-le : (number : ℕ) (open_now : Bool) (i : ℕ) → (statement_drawn number open_now i).next ≤ i + 4
statement-le number false i = omega arith
statement-le number true i =
    by-choice (λ (drawn : Drawn). drawn.next ≤ i + 4) number (draw number i % 16) (i + 1)
    (omega arith) (omega arith) (omega arith) (omega arith) (omega arith) (omega arith) (omega arith) (omega arith) (omega arith)

-- a statement uses at most five draws
pub next-le : (number statements : ℕ) → (drafted number statements).next ≤ 5 * statements
next-le number zero = omega arith
next-le number (suc statements) =
    let draft = drafted number statements in
    let before = next-le number statements in
    let more = statement-le draft.number (is_open draft.lines (session_drawn draft.number draft.next)) (draft.next + 1) in
    omega arith

-- the creation and the statements
pub length-is : (number statements : ℕ) → length (drafted number statements).lines ≡ statements + 1
length-is number zero = refl
length-is number (suc statements) =
    let before = length-is number statements in
    length-append (drafted number statements).lines _ ∙ omega arith
