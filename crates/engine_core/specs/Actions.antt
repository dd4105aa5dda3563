-- The actions of the device that a history stands for.
use Rattle.std.specs.Prelude.{ℕ, ◌-◌, List, [], ◌∷◌, ◌++◌, length}
use Rattle.std.specs.Option.{option_map_or}
use Rattle.mv_model.specs.declared.value.Value.TheVariants.{Int}
use Rattle.mv_model.specs.declared.call.Call.{Call}
use Rattle.mv_model.specs.declared.call.Call.TheVariants as call
use Rattle.mv_model.specs.declared.reply.Reply.{Reply}
use Rattle.mv_model.specs.declared.reply.Reply.TheVariants as reply
use Rattle.mv_model.specs.declared.reply.Entry.{Entry}
use Rattle.mv_model.specs.State.{State, transaction_of}
use Rattle.mv_model.specs.View.{next_row_of}
use Rattle.mv_model.specs.Next.{next}
use Rattle.pm_model.specs.declared.action.Action.{Action}
use Rattle.pm_model.specs.Plans.{plan_of}
use Rattle.txn_object.specs.Object.{begin_parts}
use Rattle.engine_core.specs.LogicalState.{key_word_of}
use Rattle.engine_core.specs.StagePlans.{close_parts, commit_late, commit_parts, insert_parts}

-- how many rows the open transaction of session 1 has created
abbrev pub rows_created : State → ℕ
rows_created state = option_map_or (λ own. length own.writes.created) (transaction_of state 1) 0

-- the key word of the integer that a call inserts
abbrev pub word_inserted : Call → ℕ
word_inserted (call.Insert name (Int value ∷ values)) = key_word_of value
word_inserted other = 0

-- the plan of a call that is given this reply in this state: a begin, an insert, the end of a transaction that wrote
-- nothing, and a commit of the transaction's rows, which are the last of the table; every other call plays nothing
abbrev pub plan_due : State → Call → Reply → List Action
plan_due state said (reply.Began number snapshot) = plan_of (begin_parts 0)
plan_due state said (reply.Row row) = plan_of (insert_parts (rows_created state) row (word_inserted said))
plan_due state said reply.ReadOnly = plan_of close_parts
plan_due state said (reply.Committed number) =
    plan_of (commit_parts (next_row_of state 0 - rows_created state) (rows_created state) number)
plan_due state said other = []

-- the plans of the entries, one after the other
abbrev pub plan_in : State → List Entry → List Action
plan_in state [] = []
plan_in state (entry ∷ entries) =
    plan_due state entry.call entry.reply ++ plan_in (next state entry.session entry.call entry.reply) entries

-- how many actions of the plan of a commit with this number come after the fence that makes it certain
abbrev pub late_in : State → ℕ → ℕ
late_in state number = length (plan_of (commit_late (rows_created state) number))
