-- Worked runs of the multiversion table, for the tests: each call beside the reply that is due to it.
use Rattle.std.specs.Prelude.{pos, negsuc, List, [], ◌∷◌, None, Some}
use Rattle.mv_model.specs.declared.call.Call.TheVariants as call
use Rattle.mv_model.specs.declared.call.Pred.{Pred}
use Rattle.mv_model.specs.declared.call.Test.{Test}
use Rattle.mv_model.specs.declared.call.Test.TheVariants.{Below, Above, Between}
use Rattle.mv_model.specs.declared.reply.Holding.TheVariants.{Holder, Number}
use Rattle.mv_model.specs.declared.reply.Reply.TheVariants as reply
use Rattle.mv_model.specs.declared.value.Value.TheVariants.{Int}
use Rattle.table_tests.specs.Turns.{Turn, turn, t, a, create_t, insert_t, update_t}

-- the rows whose column `a` passes the test
abbrev pub with_a : Test → Pred
with_a passed = record { column = a; test = passed }

-- a transaction reads its own insert
abbrev pub own_insert : List Turn
own_insert =
    turn 1 call.Begin (reply.Began 1 0)
    ∷ turn 1 (insert_t 7) (reply.Row 0)
    ∷ turn 1 (call.Get t 0) (reply.Values (Int (pos 7) ∷ []))
    ∷ turn 1 call.Commit (reply.Committed 1)
    ∷ []

-- outside a transaction there is none, and inside one a second is refused
abbrev pub one_transaction : List Turn
one_transaction =
    turn 1 (insert_t 7) reply.NoTxn
    ∷ turn 1 call.Begin (reply.Began 1 0)
    ∷ turn 1 call.Begin reply.AlreadyOpen
    ∷ turn 1 (call.Get t 0) reply.NoRow
    ∷ turn 1 call.Commit reply.ReadOnly
    ∷ []

-- a commit that wrote nothing is no commit
abbrev pub empty_commit : List Turn
empty_commit =
    turn 1 call.Begin (reply.Began 1 0)
    ∷ turn 1 call.Commit reply.ReadOnly
    ∷ turn 1 call.Begin (reply.Began 2 0)
    ∷ []

-- what is committed after a transaction began stays unseen in it
abbrev pub snapshot : List Turn
snapshot =
    turn 2 call.Begin (reply.Began 1 1)
    ∷ turn 1 call.Begin (reply.Began 2 1)
    ∷ turn 1 (insert_t 8) (reply.Row 1)
    ∷ turn 1 call.Commit (reply.Committed 2)
    ∷ turn 2 (call.Get t 0) (reply.Values (Int (pos 7) ∷ []))
    ∷ turn 2 (call.Get t 1) reply.NoRow
    ∷ []

-- the first to end a row holds it until it aborts
abbrev pub freed_row : List Turn
freed_row =
    turn 1 call.Begin (reply.Began 1 1)
    ∷ turn 2 call.Begin (reply.Began 2 1)
    ∷ turn 1 (call.Delete t 0) reply.Deleted
    ∷ turn 2 (call.Delete t 0) (reply.Conflict (Holder 1))
    ∷ turn 1 call.Abort reply.Aborted
    ∷ turn 2 (call.Delete t 0) reply.Deleted
    ∷ []

-- where the first commits, its commit is named
abbrev pub ended_row : List Turn
ended_row =
    turn 1 call.Begin (reply.Began 1 1)
    ∷ turn 2 call.Begin (reply.Began 2 1)
    ∷ turn 1 (call.Delete t 0) reply.Deleted
    ∷ turn 2 (call.Delete t 0) (reply.Conflict (Holder 1))
    ∷ turn 1 call.Commit (reply.Committed 2)
    ∷ turn 2 (call.Delete t 0) (reply.Conflict (Number 2))
    ∷ []

-- a row that its own transaction ended is seen by nobody, and its number is not given out again
abbrev pub short_lived_row : List Turn
short_lived_row =
    turn 1 create_t reply.Created
    ∷ turn 1 call.Begin (reply.Began 1 0)
    ∷ turn 1 (insert_t 7) (reply.Row 0)
    ∷ turn 1 (call.Delete t 0) reply.Deleted
    ∷ turn 1 call.Commit (reply.Committed 1)
    ∷ turn 1 call.Begin (reply.Began 2 1)
    ∷ turn 1 (call.Get t 0) reply.NoRow
    ∷ turn 1 (insert_t 8) (reply.Row 1)
    ∷ []

-- two transactions may each end a row that the other has read
abbrev pub write_skew : List Turn
write_skew =
    turn 1 call.Begin (reply.Began 1 2)
    ∷ turn 2 call.Begin (reply.Began 2 2)
    ∷ turn 1 (call.Get t 1) (reply.Values (Int (pos 7) ∷ []))
    ∷ turn 2 (call.Get t 0) (reply.Values (Int (pos 7) ∷ []))
    ∷ turn 1 (update_t 0 0) (reply.Row 2)
    ∷ turn 2 (update_t 1 0) (reply.Row 3)
    ∷ turn 1 call.Commit (reply.Committed 3)
    ∷ turn 2 call.Commit (reply.Committed 4)
    ∷ []

-- predicates and sums of signed numbers
abbrev pub selections : List Turn
selections =
    turn 1 call.Begin (reply.Began 1 1)
    ∷ turn 1 (call.Count t (Some (with_a (Below (Int (pos 0)))))) (reply.Count 2)
    ∷ turn 1 (call.Sum t a None) (reply.Sum (pos 9223372036854775805))
    ∷ turn 1 (call.Sum t a (Some (with_a (Above (Int (pos 0)))))) (reply.Sum (pos 18446744073709551614))
    ∷ turn 1 (call.Scan t (Some (with_a (Between (Int (negsuc 0)) (Int (pos 9223372036854775807))))))
    (reply.Rows (record { row = 1; values = Int (negsuc 0) ∷ [] }
    ∷ record { row = 2; values = Int (pos 9223372036854775807) ∷ [] }
    ∷ record { row = 3; values = Int (pos 9223372036854775807) ∷ [] }
    ∷ []))
    ∷ []

-- each refusal of one session
abbrev pub refusals : List Turn
refusals =
    turn 1 create_t reply.TableExists
    ∷ turn 1 (insert_t 7) reply.NoTxn
    ∷ turn 1 call.Begin (reply.Began 1 1)
    ∷ turn 1 call.Begin reply.AlreadyOpen
    ∷ turn 1 (call.Get a 0) reply.NoTable
    ∷ turn 1 (call.Get t 130560) reply.NoRow
    ∷ turn 1 (call.Sum t t None) (reply.WrongShape 0)
    ∷ turn 1 (call.Insert t []) (reply.WrongShape 1)
    ∷ turn 1 (call.Insert t (Int (pos 1) ∷ Int (pos 2) ∷ [])) (reply.WrongShape 2)
    ∷ turn 2 call.Abort reply.NoTxn
    ∷ []
