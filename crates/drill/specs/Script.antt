-- The script of a number.
use Rattle.std.specs.Prelude.{ℕ, zero, suc, ◌+◌, Bool, true, false, fold, List, [], ◌∷◌, ◌++◌}
use Rattle.mv_model.specs.declared.call.Call.{Call}
use Rattle.mv_model.specs.declared.call.Call.TheVariants as call
use Rattle.script_text.specs.declared.script.Line.{Line}
use Rattle.script_text.specs.declared.script.Line.TheVariants as line
use Rattle.script_text.specs.Script.{ordinal_after, statements_of}
use Rattle.drill.specs.Draws.{session_drawn}
use Rattle.drill.specs.Calls.{Drawn, creation, statement_drawn}

-- a transaction is open behind the call, where one was open before it or was not
abbrev pub open_after : Bool → Call → Bool
open_after open_before call.Begin = true
open_after open_before call.Commit = false
open_after open_before call.Abort = false
open_after open_before other = open_before

-- the lines leave the session with a transaction open
abbrev pub is_open : List Line → ℕ → Bool
is_open lines session = fold open_after false (statements_of session lines)

-- a script of a number, and the first draw behind those that it used
pub record Drafted : Type 0 where
  pub number : ℕ
  pub lines : List Line
  pub next : ℕ

-- the lines, and behind them the session's statement of this call
abbrev pub with_line : List Line → ℕ → Call → List Line
with_line lines session said = lines ++ line.Say session (ordinal_after lines session + 1) said ∷ []

-- the script with the session's statement behind it
abbrev pub with_drawn : Drafted → ℕ → Drawn → Drafted
with_drawn draft session drawn =
    record { number = draft.number; lines = with_line draft.lines session drawn.call; next = drawn.next }

-- the script with one more statement: the next draw tells the session, and those behind it what the session says
abbrev pub with_statement : Drafted → Drafted
with_statement draft =
    let session = session_drawn draft.number draft.next in
    with_drawn draft session (statement_drawn draft.number (is_open draft.lines session) (draft.next + 1))

-- the creation of the table and so many statements
abbrev pub drafted : ℕ → ℕ → Drafted
drafted number zero = record { number = number; lines = with_line [] 1 creation; next = 0 }
drafted number (suc statements) = with_statement (drafted number statements)

-- the script of a number with so many statements; the creation of the table is not counted
abbrev pub script_of : ℕ → ℕ → List Line
script_of number statements = (drafted number statements).lines
