-- The replies that are due in a state of the one table, and the states that they leave.
use Rattle.std.proofs.Common.{◌≡◌, ℕ, ℤ, zero, suc, ◌+◌, ◌<◌, ◌≤◌, ◌==◌, true, false, List, [], ◌∷◌, ◌++◌, length, Option, None, Some, refl, ap, arith}
use Rattle.std.specs.Prelude.{nat_lt, nat_le}
use Rattle.std.proofs.lemmas.Bool.Decides.{nat_tests}
use Rattle.mv_model.specs.State.{CreatedRow, WriteSet, Transaction}
use Rattle.mv_model.specs.declared.value.Value.TheVariants.{Int}
use Rattle.mv_model.specs.declared.reply.Reply.TheVariants as reply
use Rattle.mv_model.specs.declared.call.Call.TheVariants as call
use Rattle.mv_model.specs.declared.limits.TheConstants.{MAX_COMMITS, MAX_ROWS, MAX_WRITES}
use Rattle.mv_model.specs.Answer.{answer, get_reply}
use Rattle.mv_model.specs.Next.{next, is_before, put_in_order}
use Rattle.engine_core.specs.Served.{get_of, insert_of}
use Rattle.engine_core.specs.LogicalState.{created_row, key_of, state_by}
use Rattle.engine_core.proofs.Rows.{rows_from}

-- an open transaction that has ended no row
abbrev pub creating : ℕ → ℕ → List CreatedRow → Transaction
creating number snapshot created = record { number = number; snapshot = snapshot; writes = record { created = created; ended = [] } }

module _ (given : ℕ) (commits : List WriteSet) (begun : ℕ) where
  pub begin-answer : answer (state_by given commits begun None) 1 call.Begin ≡ reply.Began (begun + 1) (length commits)
  begin-answer = refl

  pub begin-next : (number snapshot : ℕ) → next (state_by given commits begun None) 1 call.Begin (reply.Began number snapshot)
      ≡ state_by given commits (begun + 1) (Some (creating number snapshot []))
  begin-next number snapshot = refl

  pub insert-answer : (number snapshot : ℕ) (created : List CreatedRow) (value : ℤ) → length created ≤ 60 → given ≤ 4096
      → answer (state_by given commits begun (Some (creating number snapshot created))) 1 (insert_of value) ≡ reply.Row given
  insert-answer number snapshot created value few fewer =
      let fits : nat_lt MAX_WRITES (length created + 0 + 1) ≡ false = grind (arith, nat_tests) in
      let room : nat_le MAX_ROWS given ≡ false = grind (arith, nat_tests) in
      rw (fits, room) refl

  pub insert-next : (number snapshot : ℕ) (created : List CreatedRow) (value : ℤ) (row : ℕ)
      → next (state_by given commits begun (Some (creating number snapshot created))) 1 (insert_of value) (reply.Row row)
      ≡ state_by (given + 1) commits begun (Some (creating number snapshot
      (put_in_order (λ other. is_before (key_of row) other.key) (record { key = key_of row; values = Int value ∷ [] }) created)))
  insert-next number snapshot created value row = refl

  pub commit-none : (number snapshot : ℕ) → answer (state_by given commits begun (Some (creating number snapshot []))) 1 call.Commit ≡ reply.ReadOnly
  commit-none number snapshot = refl

  pub commit-spent : (number snapshot : ℕ) (created : List CreatedRow) → 0 < length created → MAX_COMMITS ≤ length commits
      → answer (state_by given commits begun (Some (creating number snapshot created))) 1 call.Commit ≡ reply.Spent
  commit-spent number snapshot created some many =
      let wrote : (length created + 0 == 0) ≡ false = grind (arith, nat_tests) in
      let spent : nat_le MAX_COMMITS (length commits) ≡ true = grind (arith, nat_tests) in
      rw (wrote, spent) refl

  pub commit-answer : (number snapshot : ℕ) (created : List CreatedRow) → 0 < length created → length commits < MAX_COMMITS
      → answer (state_by given commits begun (Some (creating number snapshot created))) 1 call.Commit ≡ reply.Committed (length commits + 1)
  commit-answer number snapshot created some few =
      let wrote : (length created + 0 == 0) ≡ false = grind (arith, nat_tests) in
      let room : nat_le MAX_COMMITS (length commits) ≡ false = grind (arith, nat_tests) in
      rw (wrote, room) refl

  pub commit-next : (number snapshot : ℕ) (created : List CreatedRow) (commit : ℕ)
      → next (state_by given commits begun (Some (creating number snapshot created))) 1 call.Commit (reply.Committed commit)
      ≡ state_by given (commits ++ record { created = created; ended = [] } ∷ []) begun None
  commit-next number snapshot created commit = refl

  pub close-next : (own : Option Transaction) → next (state_by given commits begun own) 1 call.Commit reply.ReadOnly ≡ state_by given commits begun None
  close-next own = refl

  pub no_txn-insert : (value : ℤ) → answer (state_by given commits begun None) 1 (insert_of value) ≡ reply.NoTxn
  no_txn-insert value = refl

  pub no_txn-get : (row : ℕ) → answer (state_by given commits begun None) 1 (get_of row) ≡ reply.NoTxn
  no_txn-get row = refl

  pub no_txn-commit : answer (state_by given commits begun None) 1 call.Commit ≡ reply.NoTxn
  no_txn-commit = refl

  pub already-open : (own : Transaction) → answer (state_by given commits begun (Some own)) 1 call.Begin ≡ reply.AlreadyOpen
  already-open own = refl

  pub get-answer : (own : Transaction) (row : ℕ) → answer (state_by given commits begun (Some own)) 1 (get_of row) ≡ get_reply (state_by given commits begun (Some own)) own 0 row
  get-answer own row = refl

-- a row of a later number comes last
pub put-rows_from : (words : List ℕ) (last : ℕ) (row : CreatedRow) (first count : ℕ) → row.key ≡ key_of last → first + count ≤ last
    → put_in_order (λ other. is_before (key_of last) other.key) row (rows_from words first count) ≡ rows_from words first count ++ row ∷ []
put-rows_from words last row first zero is later = refl
put-rows_from words last row first (suc count) is later =
    let before : nat_lt last first ≡ false = grind (arith, nat_tests) in
    rw before (ap (λ (rows : List CreatedRow). created_row words first ∷ rows) (put-rows_from words last row (first + 1) count is (omega arith)))
