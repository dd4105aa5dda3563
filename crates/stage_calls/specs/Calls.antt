-- The calls of statements.
use Rattle.mv_model.specs.declared.call.Call.{Call}
use Rattle.mv_model.specs.declared.call.Call.TheVariants as call
use Rattle.engine_core.specs.Served.{get_of, insert_of}
use Rattle.stage_calls.specs.declared.stepping.Statement.{Statement}
use Rattle.stage_calls.specs.declared.stepping.Statement.TheVariants as statement

-- the call of a statement on the table
abbrev pub call_of : Statement → Call
call_of statement.Begin = call.Begin
call_of (statement.Insert number) = insert_of number
call_of (statement.Get row) = get_of row
call_of statement.Commit = call.Commit
