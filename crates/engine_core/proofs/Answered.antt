-- Decisions as the functions that make them give them.
use Rattle.std.proofs.Common.{◌≡◌, ℕ, ℤ, ◌+◌, ◌<◌, ◌≤◌, ◌∙◌, false, List, [], ◌∷◌, get_or, slice_get, None, Some, refl, ap, sym, subst, arith}
use Rattle.std.specs.Prelude.{Result, Ok, Err, IfOk, IsTrue, nat_eq}
use Rattle.std.specs.Result.{OnErr}
use Rattle.std.specs.Cmp.Lexicographic.{pointwise}
use Rattle.std.proofs.lemmas.Slice.Eq.{slice_eq-Decides}
use Rattle.std.proofs.lemmas.Bool.Decides.{Decides-eqb}
use Rattle.mv_model.specs.declared.value.Value.{Value}
use Rattle.mv_model.specs.declared.value.Value.TheVariants.{Int, Text}
use Rattle.std.proofs.lemmas.Bool.{false≢true, and_left, and_right, le-ltb}
use Rattle.mv_model.specs.declared.call.Call.{Call}
use Rattle.mv_model.specs.declared.call.Call.TheVariants as call
use Rattle.mv_model.specs.declared.reply.Reply.{Reply}
use Rattle.mv_model.specs.declared.reply.Reply.TheVariants as reply
use Rattle.mv_model.specs.declared.limits.TheConstants.{MAX_COMMITS}
use Rattle.mv_model.specs.State.{State}
use Rattle.mv_model.specs.Answer.{answer}
use Rattle.mv_model.specs.History.{IsAllowed}
use Rattle.mv_model.proofs.Unchanged.{refusals_change_nothing_lem}
use Rattle.image_layout.specs.Fixed.{last_at}
use Rattle.engine_core.specs.Stage.{high_at}
use Rattle.engine_core.specs.StageRules.{IsStage}
use Rattle.engine_core.specs.Served.{insert_of, is_served, table_name}
use Rattle.engine_core.specs.Decided.{IsDecided, IsDecision, IsClosed, IsPlacedLate, TakesMemory, left_of}
use Rattle.engine_core.specs.LogicalState.{commits_in, is_seen, state_by, state_of, within}
use Rattle.engine_core.specs.declared.decision.Decision.{Decision}
use Rattle.engine_core.specs.declared.transactions.Transactions.{Transactions}
use Rattle.engine_core.specs.declared.transactions.Running.{Running}
use Rattle.engine_core.proofs.Rows.{length-commits_in, length-rows_from, rows_from}
use Rattle.engine_core.specs.Survival.{IsRowBelow}
use Rattle.engine_core.proofs.States.{commit-answer, commit-spent, creating}
use Rattle.engine_core.proofs.Written.{state-open}
use Rattle.engine_core.proofs.Decisions.{refused}
use Rattle.engine_core.proofs.Commits.{close-decided}
use Rattle.engine_core.proofs.Survivals.{close-survives, stands-survives}

-- a reply that leaves all as it is
abbrev pub standing : Reply → Transactions → Decision
standing given now = record { reply = given; copy = given; plan = None; after = now; late = None }

pub stands : (words : List ℕ) (now : Transactions) (said : Call) (given : Reply) (made : Decision) → made ≡ standing given now
    → IsDecided words now said given [] now → IsPlacedLate None said given [] → IsRowBelow 0 given → IsDecision words now said made
stands words now said given made is decided late below =
    subst (λ (d : Decision). IsDecision words now said d) (sym is) (record { copied = refl; decided = decided; late = late; open_still = tt; timed = tt; survives = stands-survives words now given below })

-- what holds anyhow holds where there is an error
pub anyhow : {T E P : Type 0} (made : Result T E) → P → OnErr made P
anyhow (Ok value) holds = tt
anyhow (Err error) holds = holds

-- a begin takes memory where no transaction is open
pub begin-takes : (words : List ℕ) (begun : ℕ) (said : Call) → said ≡ call.Begin
    → TakesMemory (state_of words (record { begun = begun; running = None })) (answer (state_of words (record { begun = begun; running = None })) 1 said)
begin-takes words begun said is =
    subst (λ (one : Call). TakesMemory (state_of words (record { begun = begun; running = None })) (answer (state_of words (record { begun = begun; running = None })) 1 one)) (sym is) refl

-- and so does a commit that wrote nothing, or for which there is a number
pub close-takes : (words : List ℕ) (begun : ℕ) (own : Running) → IsStage words (Some own) → own.rows ≡ 0
    → TakesMemory (state_of words (record { begun = begun; running = Some own })) (answer (state_of words (record { begun = begun; running = Some own })) 1 call.Commit)
close-takes words begun own stage none =
    let high = get_or words high_at 0 in
    let commits = commits_in words (get_or words last_at 0) in
    let now : state_of words (record { begun = begun; running = Some own }) ≡ state_by (high + 0) commits begun (Some (creating own.number own.snapshot [])) =
    state-open words own stage begun ∙ ap (λ (r : ℕ). state_by (high + r) commits begun (Some (creating own.number own.snapshot (rows_from words high r)))) none in
    subst (λ (s : State). TakesMemory s (answer s 1 call.Commit)) (sym now) refl

pub commit-takes : (words : List ℕ) (begun : ℕ) (own : Running) → IsStage words (Some own) → 0 < own.rows → get_or words last_at 0 < MAX_COMMITS
    → TakesMemory (state_of words (record { begun = begun; running = Some own })) (answer (state_of words (record { begun = begun; running = Some own })) 1 call.Commit)
commit-takes words begun own stage some few =
    let count = length-rows_from words (get_or words high_at 0) own.rows in
    let commits = length-commits_in words (get_or words last_at 0) in
    subst (λ (given : Reply). TakesMemory (state_of words (record { begun = begun; running = Some own })) given)
    (sym (ap (λ (s : State). answer s 1 call.Commit) (state-open words own stage begun) ∙ commit-answer (get_or words high_at 0 + own.rows) (commits_in words (get_or words last_at 0)) begun own.number own.snapshot (rows_from words (get_or words high_at 0) own.rows)
    (omega (arith, count, some)) (omega (arith, commits, few)))) refl

-- no transaction is open
pub no_txn : (words : List ℕ) (begun : ℕ) (said : Call) → IsStage words None → IsTrue (is_served said) → (said ≡ call.Begin → ⊥) → IsDecided words (record { begun = begun; running = None }) said reply.NoTxn [] (record { begun = begun; running = None })
no_txn words begun said stage served other =
    refused words (record { begun = begun; running = None }) said reply.NoTxn stage (allowed said served other)
    (refusals_change_nothing_lem (state_of words (record { begun = begun; running = None })) 1 said reply.NoTxn refl) tt refl tt
  where
    allowed : (said : Call) → IsTrue (is_served said) → (said ≡ call.Begin → ⊥) → IsAllowed (state_of words (record { begun = begun; running = None })) 1 said reply.NoTxn
    allowed call.Begin served other = absurd (other refl)
    allowed call.Commit served other = refl
    allowed (call.Get table row) served other = refl
    allowed (call.Insert table values) served other = refl
    allowed (call.Create table shape) served other = absurd (false≢true served)
    allowed (call.Defrag pages) served other = absurd (false≢true served)
    allowed (call.Update table row values) served other = refl
    allowed (call.Delete table row) served other = refl
    allowed (call.Scan table pred) served other = refl
    allowed (call.Count table pred) served other = refl
    allowed (call.Sum table column pred) served other = refl
    allowed call.Abort served other = refl

-- a transaction is open already
pub already : (words : List ℕ) (begun : ℕ) (own : Running) (said : Call) → IsStage words (Some own) → said ≡ call.Begin → IsDecided words (record { begun = begun; running = Some own }) said reply.AlreadyOpen [] (record { begun = begun; running = Some own })
already words begun own said stage is =
    subst (λ (one : Call). IsDecided words (record { begun = begun; running = Some own }) one reply.AlreadyOpen [] (record { begun = begun; running = Some own })) (sym is)
    (refused words (record { begun = begun; running = Some own }) call.Begin reply.AlreadyOpen stage refl refl tt refl tt)

-- a row past the table's is not seen
pub unseen-past : (words : List ℕ) (object snapshot row : ℕ) → 4096 ≤ row → is_seen words object snapshot row ≡ false
unseen-past words object snapshot row past =
    let is_row : within 0 4096 row ≡ false = and_right _ _ (le-ltb row 4096 past) in
    and_left _ _ is_row

-- all commit numbers are used
pub spent : (words : List ℕ) (begun : ℕ) (own : Running) → IsStage words (Some own) → 0 < own.rows → MAX_COMMITS ≤ get_or words last_at 0
    → IsDecided words (record { begun = begun; running = Some own }) call.Commit reply.Spent [] (record { begun = begun; running = Some own })
spent words begun own stage some many =
    let count = length-rows_from words (get_or words high_at 0) own.rows in
    let commits = length-commits_in words (get_or words last_at 0) in
    refused words (record { begun = begun; running = Some own }) call.Commit reply.Spent stage
    (sym (ap (λ (s : State). answer s 1 call.Commit) (state-open words own stage begun) ∙ commit-spent (get_or words high_at 0 + own.rows) (commits_in words (get_or words last_at 0)) begun own.number own.snapshot (rows_from words (get_or words high_at 0) own.rows)
    (omega (arith, count, some)) (omega (arith, commits, many)))) refl tt refl tt

-- the end of a transaction that wrote nothing
pub closes : {E : Type 0} (words : List ℕ) (begun : ℕ) (own : Running) (made : Result Decision E) → IsStage words (Some own) → own.rows ≡ 0 → IfOk made (λ decision. IsClosed begun decision)
    → IfOk made (λ decision. IsDecision words (record { begun = begun; running = Some own }) call.Commit decision)
closes words begun own (Err error) stage none closed = tt
closes words begun own (Ok decision) stage none closed =
    let decided = close-decided words begun own.number own.snapshot own.rows stage (left_of decision.plan) none closed.plan (omega (arith, closed.actions)) in
    record {
      copied = closed.copied;
      decided = rw (closed.reply, closed.after, closed.late) decided;
      late = rw (closed.reply, closed.late) tt;
      open_still = rw closed.late tt;
      timed = rw closed.late tt;
      survives = rw (closed.reply, closed.after, closed.late) (close-survives words begun own (left_of decision.plan) (record { begun = begun; running = None }) stage none closed.plan decided);
    }

-- an insert that is served is one of an integer into the table
pub served-insert : (said : Call) (table : List ℕ) (values : List Value) (number : ℤ) → IsTrue (is_served said) → said ≡ call.Insert table values → slice_get values 0 ≡ Some (Int number) → said ≡ insert_of number
served-insert said table values number served is first =
    is ∙ go values (subst (λ (one : Call). IsTrue (is_served one)) is served) first
  where
    go : (values : List Value) → IsTrue (is_served (call.Insert table values)) → slice_get values 0 ≡ Some (Int number) → call.Insert table values ≡ insert_of number
    go [] served first = absurd (false≢true served)
    go (Text text ∷ values) served first = absurd (false≢true served)
    go (Int other ∷ value ∷ values) served first = absurd (false≢true served)
    go (Int other ∷ []) served first =
        let named : table ≡ table_name = (slice_eq-Decides Decides-eqb table table_name (pointwise nat_eq table table_name) refl).0 served in
        let same : Int other ≡ Int number = cc in
        ap (λ (name : List ℕ). call.Insert name (Int other ∷ [])) named ∙ ap (λ (value : Value). call.Insert table_name (value ∷ [])) same
