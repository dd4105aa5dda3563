-- The summary of a run.
use Rattle.std.specs.Prelude.{ℕ, zero, suc, ◌+◌, ◌%◌, ◌==◌, ◌&&◌, nat_lt, Bool, true, false, codes, count_by, decimal, if◌then◌else◌, List, [], ◌∷◌, ◌++◌, length}
use Rattle.mv_model.specs.declared.reply.Reply.{Reply}
use Rattle.mv_model.specs.declared.reply.Reply.TheVariants as reply
use Rattle.mv_model.specs.declared.reply.Entry.{Entry}
use Rattle.mv_model.specs.State.{State, Transaction, empty, no_writes}
use Rattle.mv_model.specs.View.{view}
use Rattle.mv_model.specs.History.{state_after}
use Rattle.drill.specs.declared.summary.Counted.{Counted}
use Rattle.drill.specs.declared.summary.Counted.TheVariants as counted
use Rattle.drill.specs.declared.summary.Summary.{Summary}

-- the reply is one of those that are counted
abbrev pub is_counted : Counted → Reply → Bool
is_counted counted.Began (reply.Began txn snapshot) = true
is_counted counted.Committed (reply.Committed number) = true
is_counted counted.ReadOnly reply.ReadOnly = true
is_counted counted.Aborted reply.Aborted = true
is_counted counted.Conflict (reply.Conflict holding) = true
is_counted kind other = false

-- how many entries of a history have such a reply
abbrev pub count_of : Counted → List Entry → ℕ
count_of kind history = count_by (λ entry. is_counted kind entry.reply) history

-- a cut is tried after the turn of this number, counted from 0
abbrev pub is_cut_turn : ℕ → Bool
is_cut_turn turn = nat_lt 0 turn && turn % 1024 == 0

-- how many cuts are tried in so many turns
abbrev pub cuts_in : ℕ → ℕ
cuts_in zero = 0
cuts_in (suc turns) = if is_cut_turn turns then cuts_in turns + 1 else cuts_in turns

-- a transaction that begins in this state
abbrev pub newcomer : State → Transaction
newcomer state = record { number = state.begun + 1; snapshot = length state.commits; writes = no_writes }

-- how many rows of the first table a new transaction sees at the end of a history
abbrev pub rows_left : List Entry → ℕ
rows_left history = let state = state_after empty history in length (view state (newcomer state) 0)

-- what a run came to: that of a number with so many statements, by its history and how many turns it had
abbrev pub summary_of : ℕ → ℕ → List Entry → ℕ → Summary
summary_of number statements history turns = record {
  number = number;
  statements = statements;
  began = count_of counted.Began history;
  committed = count_of counted.Committed history;
  read_only = count_of counted.ReadOnly history;
  aborted = count_of counted.Aborted history;
  conflicts = count_of counted.Conflict history;
  rows = rows_left history;
  turns = turns;
  cuts = cuts_in turns;
}

-- `drill N S`
abbrev pub heading_line : ℕ → ℕ → List ℕ
heading_line number statements = codes "drill " ++ decimal number ++ codes " " ++ decimal statements

-- `began A committed B readonly C aborted D`
abbrev pub transactions_line : ℕ → ℕ → ℕ → ℕ → List ℕ
transactions_line began committed read_only aborted =
    codes "began " ++ decimal began ++ codes " committed " ++ decimal committed
    ++ codes " readonly " ++ decimal read_only ++ codes " aborted " ++ decimal aborted

-- `conflicts E rows F`
abbrev pub rows_line : ℕ → ℕ → List ℕ
rows_line conflicts rows = codes "conflicts " ++ decimal conflicts ++ codes " rows " ++ decimal rows

-- `turns G cuts H`
abbrev pub turns_line : ℕ → ℕ → List ℕ
turns_line turns cuts = codes "turns " ++ decimal turns ++ codes " cuts " ++ decimal cuts

-- the line with a line feed behind it
abbrev pub ended : List ℕ → List ℕ
ended line = line ++ 10 ∷ []

-- the four lines
abbrev pub summary_text : Summary → List ℕ
summary_text summary =
    ended (heading_line summary.number summary.statements)
    ++ ended (transactions_line summary.began summary.committed summary.read_only summary.aborted)
    ++ ended (rows_line summary.conflicts summary.rows)
    ++ ended (turns_line summary.turns summary.cuts)
