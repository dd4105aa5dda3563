-- What a decision has to meet.
use Rattle.std.specs.Prelude.{◌≡◌, ◌⊎◌, ℕ, false, ◌+◌, ◌<◌, ◌≤◌, List, [], length, Option, Some, None}
use Rattle.mv_model.specs.declared.call.Call.{Call}
use Rattle.mv_model.specs.declared.reply.Reply.{Reply}
use Rattle.mv_model.specs.declared.call.Call.TheVariants as call
use Rattle.mv_model.specs.declared.reply.Reply.TheVariants as reply
use Rattle.mv_model.specs.State.{State}
use Rattle.mv_model.specs.View.{next_row_of}
use Rattle.mv_model.specs.History.{IsAllowed}
use Rattle.mv_model.specs.Answer.{answer}
use Rattle.mv_model.specs.Laws.{is_refusal}
use Rattle.mv_model.specs.Next.{next}
use Rattle.pm_model.specs.declared.action.Action.{Action}
use Rattle.pm_model.specs.PlanState.{PlanState}
use Rattle.pm_model.specs.Plans.{Part, plan_of, words_after, IsPlan}
use Rattle.engine_core.specs.Actions.{late_in, plan_due, rows_created}
use Rattle.engine_core.specs.Recoverable.{Fits}
use Rattle.engine_core.specs.StageRules.{IsStage}
use Rattle.engine_core.specs.Survival.{IsSurvived}
use Rattle.engine_core.specs.LogicalState.{state_of}
use Rattle.engine_core.specs.StagePlans.{close_parts}
use Rattle.engine_core.specs.declared.decision.Decision.{Decision}
use Rattle.engine_core.specs.declared.decision.Late.{Late}
use Rattle.engine_core.specs.declared.transactions.Transactions.{Transactions}

-- the actions that are left to play
abbrev pub left_of : Option PlanState → List Action
left_of None = []
left_of (Some plan) = plan.left

-- An insert is refused for want of room exactly where all rows of the table, or all entries of the object, are used.
abbrev pub IsFullWhere : State → Reply → Type 0
IsFullWhere state (reply.Full need largest) =
    (need ≡ 1) × (largest ≡ 0) × ((next_row_of state 0 ≡ 4096) ⊎ (rows_created state ≡ 60))
IsFullWhere state (reply.Row row) = (row < 4096) × (rows_created state < 60)
IsFullWhere state (reply.DictFull column) = ⊥
IsFullWhere state other = Unit {0}

-- The call takes memory where this reply is due: the reply is no refusal, and a row has room.
abbrev pub TakesMemory : State → Reply → Type 0
TakesMemory state (reply.Row row) = (row < 4096) × (rows_created state < 60)
TakesMemory state due = is_refusal due ≡ false

-- the call takes memory on these words, with these transactions
abbrev pub MayWantMemory : List ℕ → Transactions → Call → Type 0
MayWantMemory words now said = TakesMemory (state_of words now) (answer (state_of words now) 1 said)

-- Memory is refused only to a call that takes some.
abbrev pub IsNoMemoryWhere : State → Call → Reply → Type 0
IsNoMemoryWhere state said reply.NoMemory = TakesMemory state (answer state 1 said)
IsNoMemoryWhere state said other = Unit {0}

-- From these words and transactions the call is given this reply: the sequential table allows it; and once these
-- actions were played, the words and the transactions stand for the state that it leaves.
pub record IsDecided (words : List ℕ) (before : Transactions) (said : Call) (given : Reply) (actions : List Action)
    (after : Transactions) : Type 0 where
  pub allowed : IsAllowed (state_of words before) 1 said given
  pub parts : List Part
  pub plan : IsPlan (length words) parts
  pub plan_is : actions ≡ plan_of parts
  pub state : next (state_of words before) 1 said given ≡ state_of (words_after actions words) after
  pub stage : IsStage (words_after actions words) after.running
  pub full : IsFullWhere (state_of words before) given
  pub memory : IsNoMemoryWhere (state_of words before) said given
  pub planned : actions ≡ plan_due (state_of words before) said given
  pub short : length actions ≤ 400
  pub begun : after.begun ≤ before.begun + 1

-- A commit gets its place in the history, and its number, at the fence that makes its commit word durable; every other
-- call at its decision.
abbrev pub IsPlacedLate : Option Late → Call → Reply → List Action → Type 0
IsPlacedLate (Some late) said (reply.Committed number) left =
    (said ≡ call.Commit) × (late.number ≡ number) × (late.left < length left)
IsPlacedLate (Some late) said other left = ⊥
IsPlacedLate None said (reply.Committed number) left = ⊥
IsPlacedLate None said other left = Unit {0}

-- the transactions with none open
abbrev pub none_open : Transactions → Transactions
none_open now = record { begun = now.begun; running = None }

-- the transactions once the call has its place: a commit that waits for it leaves none open
abbrev pub at_place : Option Late → Transactions → Transactions
at_place (Some late) now = none_open now
at_place None now = now

-- while a commit waits for its place, its transaction stays open
abbrev pub IsOpenStill : Option Late → Transactions → Transactions → Type 0
IsOpenStill (Some late) before after = after ≡ before
IsOpenStill None before after = Unit {0}

-- so many actions of a commit's plan come after the fence that makes it certain
abbrev pub IsLateIn : State → Option Late → Type 0
IsLateIn state (Some late) = late.left ≡ late_in state late.number
IsLateIn state None = Unit {0}

-- the state that the words stand for once the call has its place and its plan was played
abbrev pub state_then : List ℕ → Decision → State
state_then words decision = state_of (words_after (left_of decision.plan) words) (at_place decision.late decision.after)

-- What a decision has to meet. Its plan survives each cut: what is left fits together, and shows the state before the
-- call or the one after it.
pub record IsDecision (words : List ℕ) (before : Transactions) (said : Call) (decision : Decision) : Type 0 where
  pub copied : decision.copy ≡ decision.reply
  pub decided : IsDecided words before said decision.reply (left_of decision.plan)
      (at_place decision.late decision.after)
  pub late : IsPlacedLate decision.late said decision.reply (left_of decision.plan)
  pub open_still : IsOpenStill decision.late before decision.after
  pub timed : IsLateIn (state_of words before) decision.late
  pub survives : Fits words → IsSurvived (state_of words before) (state_then words decision) decision.late
      decision.reply words (left_of decision.plan)

-- the decision that ends a transaction that wrote nothing
pub record IsClosed (begun : ℕ) (decision : Decision) : Type 0 where
  pub reply : decision.reply ≡ reply.ReadOnly
  pub copied : decision.copy ≡ decision.reply
  pub plan : left_of decision.plan ≡ plan_of close_parts
  pub actions : length (left_of decision.plan) ≡ 3
  pub after : decision.after ≡ record { begun = begun; running = None }
  pub late : decision.late ≡ None
