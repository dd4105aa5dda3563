-- Each decision leaves words and transactions that stand for the next state of the sequential table.
use Rattle.std.proofs.Common.{◌≡◌, ◌≢◌, ◌⊎◌, inl, inr, ⊎_elim, ℕ, ℤ, ◌+◌, ◌<◌, ◌≤◌, ◌∙◌, eqb, List, [], ◌∷◌, ◌++◌, length, get_or, Option, None, Some, refl, ap, sym, subst, arith}
use Rattle.std.specs.Prelude.{IsTrue}
use Rattle.std.proofs.lemmas.Bool.{cases_eq}
use Rattle.mv_model.specs.State.{CreatedRow, State, Transaction, WriteSet}
use Rattle.mv_model.specs.declared.value.Value.TheVariants.{Int}
use Rattle.mv_model.specs.declared.call.Call.{Call}
use Rattle.mv_model.specs.declared.call.Call.TheVariants as call
use Rattle.mv_model.specs.declared.reply.Reply.{Reply}
use Rattle.mv_model.specs.declared.reply.Reply.TheVariants as reply
use Rattle.mv_model.specs.Answer.{answer}
use Rattle.mv_model.specs.History.{IsAllowed, needs_room}
use Rattle.mv_model.specs.Next.{next}
use Rattle.pm_model.specs.declared.action.Action.{Action}
use Rattle.image_layout.specs.Fixed.{last_at, state_at, commit_word_at, entry_at}
use Rattle.pm_model.specs.Plans.{one_store, words_after, plan_of, finished}
use Rattle.pm_model.proofs.Alone.{length-words_after}
use Rattle.pm_model.proofs.Cuts.{store_part}
use Rattle.txn_object.specs.Entries.{entry_word}
use Rattle.txn_object.specs.Object.{begin_parts}
use Rattle.engine_core.specs.Stage.{high_at, born_at, ended_at, value_at}
use Rattle.engine_core.specs.StagePlans.{created_entry, insert_parts}
use Rattle.engine_core.specs.StageRules.{IsStage, state_word}
use Rattle.engine_core.specs.Served.{insert_of}
use Rattle.engine_core.specs.Actions.{plan_due}
use Rattle.engine_core.specs.Decided.{IsDecided, IsFullWhere, IsNoMemoryWhere, TakesMemory}
use Rattle.engine_core.specs.LogicalState.{commits_in, created_row, integer_of, key_of, key_word_of, rows_of, snapshot_of, state_by, state_of, writes_in}
use Rattle.engine_core.specs.declared.transactions.Transactions.{Transactions}
use Rattle.engine_core.specs.declared.transactions.Running.{Running}
use Rattle.engine_core.proofs.Rows.{IsSameUpTo, commits_in-same, rows_from-same, rows_from-more, length-rows_from, length-commits_in, rows_from}
use Rattle.engine_core.proofs.States.{creating, begin-answer, begin-next, insert-answer, insert-next, put-rows_from}
use Rattle.engine_core.proofs.Stores.{words_after-plan, get-stored, get-beside}
use Rattle.engine_core.proofs.Written.{count-created, state-open, writes-stage}

-- a refusal, or a reading
pub refused : (words : List ℕ) (now : Transactions) (call : Call) (given : Reply) → IsStage words now.running → IsAllowed (state_of words now) 1 call given
    → next (state_of words now) 1 call given ≡ state_of words now → IsFullWhere (state_of words now) given
    → [] ≡ plan_due (state_of words now) call given → IsNoMemoryWhere (state_of words now) call given → IsDecided words now call given [] now
refused words now call given stage allowed same full planned memory = record {
  allowed = allowed;
  parts = [];
  plan = tt;
  plan_is = refl;
  state = same;
  stage = stage;
  full = full;
  memory = memory;
  planned = planned;
  short = omega arith;
  begun = omega arith;
}

-- what the words stand for, part by part
pub state_with : (new : List ℕ) (begun number snapshot rows high last : ℕ) (commits : List WriteSet) (created : List CreatedRow)
    → get_or new high_at 0 ≡ high → get_or new last_at 0 ≡ last → commits_in new last ≡ commits → writes_in new 0 ≡ record { created = created; ended = [] }
    → state_of new (record { begun = begun; running = Some (record { number = number; snapshot = snapshot; rows = rows }) }) ≡ state_by (high + rows) commits begun (Some (creating number snapshot created))
state_with new begun number snapshot rows high last commits created is_high is_last is_commits is_written =
    ap (λ (h : ℕ). state_by (h + rows) (commits_in new (get_or new last_at 0)) begun (Some (wrote (writes_in new 0)))) is_high
    ∙ ap (λ (l : ℕ). state_by (high + rows) (commits_in new l) begun (Some (wrote (writes_in new 0)))) is_last
    ∙ ap (λ (c : List WriteSet). state_by (high + rows) c begun (Some (wrote (writes_in new 0)))) is_commits
    ∙ ap (λ (w : WriteSet). state_by (high + rows) commits begun (Some (wrote w))) is_written
  where
    wrote : WriteSet → Transaction
    wrote writes = record { number = number; snapshot = snapshot; writes = writes }

pub state_without : (new : List ℕ) (begun high last : ℕ) (commits : List WriteSet)
    → get_or new high_at 0 ≡ high → get_or new last_at 0 ≡ last → commits_in new last ≡ commits
    → state_of new (record { begun = begun; running = None }) ≡ state_by (high + 0) commits begun None
state_without new begun high last commits is_high is_last is_commits =
    ap (λ (h : ℕ). state_by (h + 0) (commits_in new (get_or new last_at 0)) begun None) is_high
    ∙ ap (λ (l : ℕ). state_by (high + 0) (commits_in new l) begun None) is_last
    ∙ ap (λ (c : List WriteSet). state_by (high + 0) c begun None) is_commits

-- ── an object that is opened or made idle ──

module _ (words : List ℕ) (value : ℕ) where
  pub switched : (w : ℕ) → w ≢ 1024 → get_or (words_after (one_store (state_at 0) value) words) w 0 ≡ get_or words w 0
  switched w apart = get-beside words (state_at 0) value w apart

  pub switch-same : IsSameUpTo (get_or words last_at 0) words (words_after (one_store (state_at 0) value) words)
  switch-same = record {
    born = λ row number lt low high. ap (λ (x : ℕ). eqb x number) (switched (born_at row) (λ e. omega (arith, e)));
    ended = λ row number lt low high. ap (λ (x : ℕ). eqb x number) (switched (ended_at row) (λ e. omega (arith, e)));
    value = λ row lt low high. switched (value_at row) (λ e. omega (arith, e));
  }

  pub switch-stage : (old new : Option Running) → IsStage words old → rows_of old ≡ 0 → rows_of new ≡ 0 → snapshot_of new ≤ get_or words last_at 0 → state_word new ≡ value → IsStage (words_after (one_store (state_at 0) value) words) new
  switch-stage old new stage none_old none_new few_read is_value =
      let high = switched high_at (λ e. omega (arith, e)) in
      let last = switched last_at (λ e. omega (arith, e)) in
      let born = λ (row : ℕ). switched (born_at row) (λ e. omega (arith, e)) in
      record {
        size = let size = length-words_after (one_store (state_at 0) value) words in let old = stage.size in omega (arith, size, old);
        last = let old = stage.last in omega (arith, last, old);
        reads = omega (arith, last, few_read);
        few = omega (arith, none_new);
        room = let old = stage.room in omega (arith, high, old, none_new);
        born = λ row lt. ⊎_elim (λ (le : get_or words (born_at row) 0 ≤ get_or words last_at 0). inl (let b = born row in omega (arith, b, le, last))) (λ dead. inr (born row ∙ dead)) (stage.born row lt);
        unborn = λ row low lt. born row ∙ stage.unborn row (omega (arith, high, low)) lt;
        ended = λ row lt. let e = switched (ended_at row) (λ e. omega (arith, e)) in let old = stage.ended row lt in omega (arith, e, last, old);
        state = get-stored words (state_at 0) value (let s = stage.size in omega (arith, s)) ∙ sym is_value;
        commit_word = switched (commit_word_at 0) (λ e. omega (arith, e)) ∙ stage.commit_word;
        entries = λ nth lt. absurd (omega (arith, lt, none_new));
        free = λ nth low lt. switched (entry_at 0 nth) (λ e. omega (arith, e)) ∙ stage.free nth (omega (arith, none_old)) lt;
        others = λ object low lt. switched (state_at object) (λ e. omega (arith, e, low)) ∙ stage.others object low lt;
      }

-- ── begin ──

module _ (words : List ℕ) (begun : ℕ) (stage : IsStage words None) where
  begin-stage : IsStage (words_after (one_store (state_at 0) 1) words) (Some (record { number = begun + 1; snapshot = get_or words last_at 0; rows = 0 }))
  begin-stage = switch-stage words 1 None (Some (record { number = begun + 1; snapshot = get_or words last_at 0; rows = 0 })) stage refl refl (omega arith) refl

  begin-state : state_of (words_after (one_store (state_at 0) 1) words) (record { begun = begun + 1; running = Some (record { number = begun + 1; snapshot = get_or words last_at 0; rows = 0 }) })
      ≡ state_by (get_or words high_at 0 + 0) (commits_in words (get_or words last_at 0)) (begun + 1) (Some (creating (begun + 1) (get_or words last_at 0) []))
  begin-state = state_with (words_after (one_store (state_at 0) 1) words) (begun + 1) (begun + 1) (get_or words last_at 0) 0 (get_or words high_at 0) (get_or words last_at 0) (commits_in words (get_or words last_at 0)) []
      (switched words 1 high_at (λ e. omega (arith, e))) (switched words 1 last_at (λ e. omega (arith, e)))
      (commits_in-same (get_or words last_at 0) words (words_after (one_store (state_at 0) 1) words) (switch-same words 1))
      (writes-stage (words_after (one_store (state_at 0) 1) words) (record { number = begun + 1; snapshot = get_or words last_at 0; rows = 0 }) begin-stage)

  pub begin-decided : (number snapshot : ℕ) (actions : List Action) → number ≡ begun + 1 → snapshot ≡ get_or words last_at 0 → actions ≡ plan_of (begin_parts 0) → length actions ≤ 400
      → IsDecided words (record { begun = begun; running = None }) call.Begin (reply.Began number snapshot) actions (record { begun = number; running = Some (record { number = number; snapshot = snapshot; rows = 0 }) })
  begin-decided number snapshot actions is_number is_snapshot is_actions short =
      let after : words_after actions words ≡ words_after (one_store (state_at 0) 1) words = ap (λ (xs : List Action). words_after xs words) is_actions ∙ words_after-plan (begin_parts 0) words in
      let commits = commits_in words (get_or words last_at 0) in
      let count = length-commits_in words (get_or words last_at 0) in
      rw is_number (record {
        allowed = rw is_snapshot (sym (begin-answer (get_or words high_at 0 + 0) commits begun ∙ ap (reply.Began (begun + 1)) count));
        parts = begin_parts 0;
        plan = (store_part (length words) (state_at 0) 1 (let s = stage.size in omega (arith, s)), tt);
        plan_is = is_actions;
        state = rw (is_snapshot, after) (begin-next (get_or words high_at 0 + 0) commits begun (begun + 1) (get_or words last_at 0) ∙ sym begin-state);
        full = tt;
        memory = tt;
        planned = is_actions;
        stage = rw (is_snapshot, after) begin-stage;
        short = short;
        begun = omega arith;
      })

-- ── insert ──

module _ (words : List ℕ) (begun number snapshot rows : ℕ) (stage : IsStage words (Some (record { number = number; snapshot = snapshot; rows = rows }))) (row word : ℕ)
    (is_row : row ≡ get_or words high_at 0 + rows) (few : rows < 60) (fewer : row < 4096) where
  with_entry : List ℕ
  with_entry = words_after (one_store (entry_at 0 rows) (entry_word (created_entry row))) words

  insert-beside : (w : ℕ) → w ≢ entry_at 0 rows → w ≢ value_at row → get_or (finished (insert_parts rows row word) words) w 0 ≡ get_or words w 0
  insert-beside w apart other =
      get-beside (words_after (one_store (entry_at 0 rows) (entry_word (created_entry row))) words) (value_at row) word w other
      ∙ get-beside words (entry_at 0 rows) (entry_word (created_entry row)) w apart

  insert-value : get_or (finished (insert_parts rows row word) words) (value_at row) 0 ≡ word
  insert-value = get-stored (words_after (one_store (entry_at 0 rows) (entry_word (created_entry row))) words) (value_at row) word
      (let size = length-words_after (one_store (entry_at 0 rows) (entry_word (created_entry row))) words in let old = stage.size in omega (arith, size, old, fewer))

  insert-entry : get_or (finished (insert_parts rows row word) words) (entry_at 0 rows) 0 ≡ entry_word (created_entry row)
  insert-entry =
      get-beside (words_after (one_store (entry_at 0 rows) (entry_word (created_entry row))) words) (value_at row) word (entry_at 0 rows) (λ e. omega (arith, e, few))
      ∙ get-stored words (entry_at 0 rows) (entry_word (created_entry row)) (let old = stage.size in omega (arith, old, few))

  insert-same : IsSameUpTo (get_or words last_at 0) words (finished (insert_parts rows row word) words)
  insert-same = record {
    born = λ k n lt low high. ap (λ (x : ℕ). eqb x n) (insert-beside (born_at k) (λ e. omega (arith, e, few)) (λ e. omega (arith, e, lt)));
    ended = λ k n lt low high. ap (λ (x : ℕ). eqb x n) (insert-beside (ended_at k) (λ e. omega (arith, e, few)) (λ e. omega (arith, e, lt)));
    value = λ k lt low high. insert-beside (value_at k) (λ e. omega (arith, e, few))
        (λ e. let same : k ≡ row = omega (arith, e) in
        let none = stage.unborn k (omega (arith, same, is_row)) lt in omega (arith, none, low));
  }

  insert-created : rows_from (finished (insert_parts rows row word) words) (get_or words high_at 0) (rows + 1)
      ≡ rows_from words (get_or words high_at 0) rows ++ record { key = key_of row; values = Int (integer_of word) ∷ [] } ∷ []
  insert-created =
      rows_from-more (finished (insert_parts rows row word) words) (get_or words high_at 0) rows
      ∙ ap (λ (xs : List CreatedRow). xs ++ created_row (finished (insert_parts rows row word) words) (get_or words high_at 0 + rows) ∷ [])
      (rows_from-same words (finished (insert_parts rows row word) words) (get_or words high_at 0) rows
      (λ k low high. insert-beside (value_at k) (λ e. omega (arith, e, few)) (λ e. omega (arith, e, high, is_row))))
      ∙ ap (λ (k : ℕ). rows_from words (get_or words high_at 0) rows ++ created_row (finished (insert_parts rows row word) words) k ∷ []) (sym is_row)
      ∙ ap (λ (x : ℕ). rows_from words (get_or words high_at 0) rows ++ record { key = key_of row; values = Int (integer_of x) ∷ [] } ∷ []) insert-value

  insert-stage : IsStage (finished (insert_parts rows row word) words) (Some (record { number = number; snapshot = snapshot; rows = rows + 1 }))
  insert-stage =
      let new = finished (insert_parts rows row word) words in
      let high = insert-beside high_at (λ e. omega (arith, e)) (λ e. omega (arith, e)) in
      let last = insert-beside last_at (λ e. omega (arith, e)) (λ e. omega (arith, e)) in
      record {
        size = let old = stage.size in let one = length-words_after (one_store (entry_at 0 rows) (entry_word (created_entry row))) words in
            let two = length-words_after (one_store (value_at row) word) (words_after (one_store (entry_at 0 rows) (entry_word (created_entry row))) words) in omega (arith, one, two, old);
        last = let old = stage.last in omega (arith, last, old);
        reads = let old = stage.reads in omega (arith, last, old);
        few = omega arith;
        room = omega (arith, high, is_row, fewer);
        born = λ k lt. let same = insert-beside (born_at k) (λ e. omega (arith, e, few)) (λ e. omega (arith, e, lt)) in
            ⊎_elim (λ (le : get_or words (born_at k) 0 ≤ get_or words last_at 0). inl (omega (arith, same, le, last))) (λ dead. inr (same ∙ dead)) (stage.born k lt);
        unborn = λ k low lt. insert-beside (born_at k) (λ e. omega (arith, e, few)) (λ e. omega (arith, e, lt)) ∙ stage.unborn k (omega (arith, high, low)) lt;
        ended = λ k lt. let same = insert-beside (ended_at k) (λ e. omega (arith, e, few)) (λ e. omega (arith, e, lt)) in let old = stage.ended k lt in omega (arith, same, old, last);
        state = insert-beside (state_at 0) (λ e. omega (arith, e)) (λ e. omega (arith, e)) ∙ stage.state;
        commit_word = insert-beside (commit_word_at 0) (λ e. omega (arith, e)) (λ e. omega (arith, e)) ∙ stage.commit_word;
        entries = λ nth lt. ⊎_elim
            (λ (here : nth ≡ rows). ap (λ (k : ℕ). get_or new (entry_at 0 k) 0) here ∙ insert-entry ∙ ap (λ (k : ℕ). entry_word (created_entry k)) (omega (arith, here, is_row, high)))
            (λ apart. insert-beside (entry_at 0 nth) (λ e. apart (omega (arith, e))) (λ e. omega (arith, e, lt, few)) ∙ stage.entries nth (omega (arith, lt, apart))
            ∙ ap (λ (h : ℕ). entry_word (created_entry (h + nth))) (sym high))
            (cases_eq nth rows);
        free = λ nth low lt. insert-beside (entry_at 0 nth) (λ e. omega (arith, e, low)) (λ e. omega (arith, e, lt)) ∙ stage.free nth (omega (arith, low)) lt;
        others = λ object low lt. insert-beside (state_at object) (λ e. omega (arith, e, low, few)) (λ e. omega (arith, e, lt)) ∙ stage.others object low lt;
      }

  insert-writes : writes_in (finished (insert_parts rows row word) words) 0
      ≡ record { created = rows_from words (get_or words high_at 0) rows ++ record { key = key_of row; values = Int (integer_of word) ∷ [] } ∷ []; ended = [] }
  insert-writes =
      let new = finished (insert_parts rows row word) words in
      writes-stage new (record { number = number; snapshot = snapshot; rows = rows + 1 }) insert-stage
      ∙ ap (λ (h : ℕ). record { created = rows_from new h (rows + 1); ended = [] }) (insert-beside high_at (λ e. omega (arith, e)) (λ e. omega (arith, e)))
      ∙ ap (λ (xs : List CreatedRow). record { created = xs; ended = [] }) insert-created

  insert-state : state_of (finished (insert_parts rows row word) words) (record { begun = begun; running = Some (record { number = number; snapshot = snapshot; rows = rows + 1 }) })
      ≡ state_by (get_or words high_at 0 + (rows + 1)) (commits_in words (get_or words last_at 0)) begun
      (Some (creating number snapshot (rows_from words (get_or words high_at 0) rows ++ record { key = key_of row; values = Int (integer_of word) ∷ [] } ∷ [])))
  insert-state = state_with (finished (insert_parts rows row word) words) begun number snapshot (rows + 1) (get_or words high_at 0) (get_or words last_at 0) (commits_in words (get_or words last_at 0))
      (rows_from words (get_or words high_at 0) rows ++ record { key = key_of row; values = Int (integer_of word) ∷ [] } ∷ [])
      (insert-beside high_at (λ e. omega (arith, e)) (λ e. omega (arith, e))) (insert-beside last_at (λ e. omega (arith, e)) (λ e. omega (arith, e)))
      (commits_in-same (get_or words last_at 0) words (finished (insert_parts rows row word) words) insert-same) insert-writes

  pub insert-decided : (value : ℤ) (actions : List Action) → integer_of word ≡ value → word ≡ key_word_of value → actions ≡ plan_of (insert_parts rows row word) → length actions ≤ 400
      → IsDecided words (record { begun = begun; running = Some (record { number = number; snapshot = snapshot; rows = rows }) }) (insert_of value) (reply.Row row) actions
      (record { begun = begun; running = Some (record { number = number; snapshot = snapshot; rows = rows + 1 }) })
  insert-decided value actions is_value is_word is_actions short =
      let after : words_after actions words ≡ finished (insert_parts rows row word) words = ap (λ (xs : List Action). words_after xs words) is_actions ∙ words_after-plan (insert_parts rows row word) words in
      let commits = commits_in words (get_or words last_at 0) in
      let created = rows_from words (get_or words high_at 0) rows in
      let given = get_or words high_at 0 + rows in
      let count = length-rows_from words (get_or words high_at 0) rows in
      let many = count-created words (record { number = number; snapshot = snapshot; rows = rows }) stage begun in
      let before = state-open words (record { number = number; snapshot = snapshot; rows = rows }) stage begun in
      let next_one : given + 1 ≡ get_or words high_at 0 + (rows + 1) = omega arith in
      let one : CreatedRow = record { key = key_of row; values = Int value ∷ [] } in
      record {
        allowed = subst (λ (s : State). IsAllowed s 1 (insert_of value) (reply.Row row)) (sym before)
            (sym (insert-answer given commits begun number snapshot created value (omega (arith, count, few)) (omega (arith, is_row, fewer)) ∙ ap reply.Row (sym is_row)));
        parts = insert_parts rows row word;
        plan = (
          store_part (length words) (entry_at 0 rows) (entry_word (created_entry row)) (let s = stage.size in omega (arith, s, few)),
          (store_part (length words) (value_at row) word (let s = stage.size in omega (arith, s, fewer)), tt),
        );
        plan_is = is_actions;
        state =
            ap (λ (s : State). next s 1 (insert_of value) (reply.Row row)) before
            ∙ insert-next given commits begun number snapshot created value row
            ∙ ap (λ (xs : List CreatedRow). state_by (given + 1) commits begun (Some (creating number snapshot xs)))
            (put-rows_from words row one (get_or words high_at 0) rows refl (omega (arith, is_row)))
            ∙ ap (λ (n : ℕ). state_by n commits begun (Some (creating number snapshot (created ++ one ∷ [])))) next_one
            ∙ ap (λ (v : ℤ). state_by (get_or words high_at 0 + (rows + 1)) commits begun (Some (creating number snapshot (created ++ record { key = key_of row; values = Int v ∷ [] } ∷ [])))) (sym is_value)
            ∙ sym insert-state
            ∙ ap (λ (new : List ℕ). state_of new (record { begun = begun; running = Some (record { number = number; snapshot = snapshot; rows = rows + 1 }) })) (sym after);
        stage = rw after insert-stage;
        full = (fewer, subst (λ (n : ℕ). n < 60) (sym many) few);
        memory = tt;
        planned = is_actions ∙ ap (λ (w : ℕ). plan_of (insert_parts rows row w)) is_word ∙ ap (λ (n : ℕ). plan_of (insert_parts n row (key_word_of value))) (sym many);
        short = short;
        begun = omega arith;
      }

-- an insert for which the table has no row, or the object no entry
pub insert-full : (words : List ℕ) (begun number snapshot rows : ℕ) (value : ℤ) → IsStage words (Some (record { number = number; snapshot = snapshot; rows = rows }))
    → (60 ≤ rows) ⊎ (4096 ≤ get_or words high_at 0 + rows)
    → IsDecided words (record { begun = begun; running = Some (record { number = number; snapshot = snapshot; rows = rows }) }) (insert_of value) (reply.Full 1 0) []
    (record { begun = begun; running = Some (record { number = number; snapshot = snapshot; rows = rows }) })
insert-full words begun number snapshot rows value stage none =
    let few = stage.few in
    let room = stage.room in
    let high = get_or words high_at 0 in
    let last = get_or words last_at 0 in
    let created = rows_from words high rows in
    let count = length-rows_from words high rows in
    let before : Transactions = record { begun = begun; running = Some (record { number = number; snapshot = snapshot; rows = rows }) } in
    let many = count-created words (record { number = number; snapshot = snapshot; rows = rows }) stage begun in
    let due : answer (state_of words before) 1 (insert_of value) ≡ reply.Row (high + rows) =
    ap (λ (s : State). answer s 1 (insert_of value)) (state-open words (record { number = number; snapshot = snapshot; rows = rows }) stage begun)
    ∙ insert-answer (high + rows) (commits_in words last) begun number snapshot created value (omega (arith, count, few)) (omega (arith, room)) in
    refused words before (insert_of value) (reply.Full 1 0) stage (subst (λ (given : Reply). IsTrue (needs_room given)) (sym due) refl) refl
    (refl, refl, ⊎_elim (λ (all : 60 ≤ rows). inr (many ∙ omega (arith, all, few))) (λ (all : 4096 ≤ high + rows). inl (omega (arith, all, room))) none) refl tt

-- an insert takes memory where the table has a row, and the object an entry
pub insert-takes : (words : List ℕ) (begun number snapshot rows : ℕ) (value : ℤ) → IsStage words (Some (record { number = number; snapshot = snapshot; rows = rows })) → rows < 60 → get_or words high_at 0 + rows < 4096
    → TakesMemory (state_of words (record { begun = begun; running = Some (record { number = number; snapshot = snapshot; rows = rows }) }))
    (answer (state_of words (record { begun = begun; running = Some (record { number = number; snapshot = snapshot; rows = rows }) })) 1 (insert_of value))
insert-takes words begun number snapshot rows value stage few fewer =
    let high = get_or words high_at 0 in
    let last = get_or words last_at 0 in
    let created = rows_from words high rows in
    let count = length-rows_from words high rows in
    let before : Transactions = record { begun = begun; running = Some (record { number = number; snapshot = snapshot; rows = rows }) } in
    let due : answer (state_of words before) 1 (insert_of value) ≡ reply.Row (high + rows) =
    ap (λ (s : State). answer s 1 (insert_of value)) (state-open words (record { number = number; snapshot = snapshot; rows = rows }) stage begun)
    ∙ insert-answer (high + rows) (commits_in words last) begun number snapshot created value (omega (arith, count, few)) (omega (arith, fewer)) in
    let many = count-created words (record { number = number; snapshot = snapshot; rows = rows }) stage begun in
    subst (λ (given : Reply). TakesMemory (state_of words before) given) (sym due) (fewer, subst (λ (n : ℕ). n < 60) (sym many) few)
