-- The words after a commit have one commit more and no open transaction; those after the end of a transaction that wrote
-- nothing have no open transaction.
use Rattle.std.proofs.Common.{◌≡◌, ◌≢◌, ◌⊎◌, inl, inr, ⊎_elim, ℕ, ◌+◌, ◌-◌, ◌^◌, ◌<◌, ◌≤◌, ◌∙◌, true, eqb, List, [], ◌∷◌, ◌++◌, length, map, get_or, None, Some, refl, ap, sym, subst, arith}
use Rattle.std.specs.List.{range_with_len}
use Rattle.std.proofs.lemmas.Bool.{cases_lt, ne_eqb, eq-eqb}
use Rattle.mv_model.specs.State.{CreatedRow, WriteSet, State}
use Rattle.mv_model.specs.declared.call.Call.TheVariants as call
use Rattle.mv_model.specs.declared.reply.Reply.TheVariants as reply
use Rattle.mv_model.specs.declared.limits.TheConstants.{MAX_COMMITS}
use Rattle.mv_model.specs.History.{IsAllowed}
use Rattle.mv_model.specs.Next.{next}
use Rattle.pm_model.specs.declared.action.Action.{Action}
use Rattle.image_layout.specs.Fixed.{last_at, state_at, commit_word_at, entry_at}
use Rattle.pm_model.specs.Plans.{Part, one_store, words_after, plan_of, store, unless_empty, IsPart, IsPlan}
use Rattle.pm_model.proofs.Alone.{length-words_after}
use Rattle.pm_model.proofs.Cuts.{store_part}
use Rattle.stage_object.specs.Object.{clear_part, entry_clears}
use Rattle.engine_core.specs.Stage.{high_at, born_at, ended_at, value_at}
use Rattle.engine_core.specs.StagePlans.{stamp_part, commit_late, commit_parts, close_parts}
use Rattle.engine_core.specs.StageRules.{IsStage}
use Rattle.engine_core.specs.Decided.{IsDecided, IsLateIn}
use Rattle.engine_core.specs.LogicalState.{commit_of, commits_in, created_row, key_of, rows_where, state_by, state_of}
use Rattle.engine_core.proofs.Rows.{IsSameUpTo, commits_in-same, commits_in-more, rows_from-same, length-rows_from, length-commits_in, rows_where-interval, rows_where-none, rows_from}
use Rattle.engine_core.proofs.States.{creating, commit-answer, commit-next, commit-none, close-next}
use Rattle.engine_core.proofs.Stores.{words_after-plan, get-stored, get-beside, get-run, get-run_beside, get-run_last, run, run-part, stores-at}
use Rattle.engine_core.proofs.Written.{count-created, state-open, writes-stage}
use Rattle.engine_core.proofs.Decisions.{state_with, state_without, switched, switch-same, switch-stage}

unless_empty-last : (part : Part) (action : Action) → unless_empty (part ++ action ∷ []) ≡ (part ++ action ∷ []) ∷ []
unless_empty-last [] action = refl
unless_empty-last (first ∷ part) action = refl

-- the places of stamps and of entries
pub born_is : (row : ℕ) → born_at row ≡ 2048 + row
born_is row = refl

pub entry_is : (nth : ℕ) → entry_at 0 nth ≡ 1028 + nth
entry_is nth = omega arith

-- the clearing of entries, as a run of stores
pub clear_run : (count : ℕ) → clear_part 0 count true ≡ run 0 (λ nth. entry_at 0 nth) 1028 entry_is (commit_word_at 0) 0 0 count
unfolding clear_part
clear_run count = ap (λ (part : Part). part ++ one_store (commit_word_at 0) 0) (stores-at 0 (λ nth. entry_at 0 nth) (range_with_len 0 count))

-- the parts of a commit, one by one
abbrev pub five : ℕ → ℕ → ℕ → List Part
five first count number =
    stamp_part first count number
    ∷ one_store (commit_word_at 0) number
    ∷ one_store last_at number
    ∷ one_store (state_at 0) 0
    ∷ clear_part 0 count true
    ∷ []

pub commit_parts-five : (first count number : ℕ) → commit_parts first count number ≡ five first count number
unfolding clear_part
commit_parts-five first count number =
    ap (λ (parts : List Part). stamp_part first count number ∷ one_store (commit_word_at 0) number ∷ one_store last_at number ∷ one_store (state_at 0) 0 ∷ parts)
    (unless_empty-last (entry_clears 0 count) (store (commit_word_at 0) 0))

-- a commit that created so many rows from the first on, and ended none
pub commit_of-interval : (base image : List ℕ) (first count number : ℕ) → first + count ≤ 4096
    → ((row : ℕ) → first ≤ row → row < first + count → get_or image (born_at row) 0 ≡ number)
    → ((row : ℕ) → row < 4096 → (row < first) ⊎ (first + count ≤ row) → get_or image (born_at row) 0 ≢ number)
    → ((row : ℕ) → row < 4096 → get_or image (ended_at row) 0 ≢ number)
    → ((row : ℕ) → first ≤ row → row < first + count → get_or image (value_at row) 0 ≡ get_or base (value_at row) 0)
    → commit_of image number ≡ record { created = rows_from base first count; ended = [] }
commit_of-interval base image first count number within own other ended values =
    ap (λ (xs : List ℕ). record { created = map (created_row image) xs; ended = map key_of (rows_where (λ row. eqb (get_or image (ended_at row) 0) number)) }) rows
    ∙ ap (λ (xs : List ℕ). record { created = rows_from image first count; ended = map key_of xs }) ends
    ∙ ap (λ (xs : List CreatedRow). record { created = xs; ended = [] }) (rows_from-same base image first count values)
  where
    rows : rows_where (λ row. eqb (get_or image (born_at row) 0) number) ≡ range_with_len first count
    rows = rows_where-interval (λ row. eqb (get_or image (born_at row) 0) number) first count within
        (λ row lt. ne_eqb (get_or image (born_at row) 0) number (other row (omega (arith, lt, within)) (inl lt)))
        (λ row low above. eq-eqb (get_or image (born_at row) 0) number (own row low above))
        (λ row above lt. ne_eqb (get_or image (born_at row) 0) number (other row lt (inr above)))

    ends : rows_where (λ row. eqb (get_or image (ended_at row) 0) number) ≡ []
    ends = rows_where-none (λ row. eqb (get_or image (ended_at row) 0) number) (λ row lt. ne_eqb (get_or image (ended_at row) 0) number (ended row lt))

module _ (words : List ℕ) (begun number snapshot rows high last : ℕ) (stage : IsStage words (Some (record { number = number; snapshot = snapshot; rows = rows })))
    (is_high : get_or words high_at 0 ≡ high) (is_last : get_or words last_at 0 ≡ last) (some : 0 < rows) (room : last < MAX_COMMITS) where
  size : 32768 ≤ length words
  size = stage.size

  within : high + rows ≤ 4096
  within = let r = stage.room in omega (arith, r, is_high)

  few : rows ≤ 60
  few = stage.few

  abbrev pub stamped : List ℕ
  stamped = words_after (stamp_part high rows (last + 1)) words

  abbrev pub decided : List ℕ
  decided = words_after (one_store (commit_word_at 0) (last + 1)) stamped

  abbrev pub counted : List ℕ
  counted = words_after (one_store last_at (last + 1)) decided

  abbrev pub idle : List ℕ
  idle = words_after (one_store (state_at 0) 0) counted

  abbrev pub cleared : List ℕ
  cleared = words_after (clear_part 0 rows true) idle

  pub length-idle : length idle ≡ length words
  length-idle =
      let one = length-words_after (stamp_part high rows (last + 1)) words in
      let two = length-words_after (one_store (commit_word_at 0) (last + 1)) stamped in
      let three = length-words_after (one_store last_at (last + 1)) decided in
      let four = length-words_after (one_store (state_at 0) 0) counted in
      omega (arith, one, two, three, four)

  pub clear-beside : (w : ℕ) → (w < 1028) ⊎ (1028 + rows ≤ w) → w ≢ 1025 → get_or cleared w 0 ≡ get_or idle w 0
  clear-beside w out apart = ap (λ (part : Part). get_or (words_after part idle) w 0) (clear_run rows) ∙ get-run_beside 0 (λ nth. entry_at 0 nth) 1028 entry_is (commit_word_at 0) 0 0 rows idle w
      (⊎_elim (λ (low : w < 1028). inl (omega (arith, low))) (λ (above : 1028 + rows ≤ w). inr (omega (arith, above))) out) apart

  clear-entry : (nth : ℕ) → nth < rows → get_or cleared (1028 + nth) 0 ≡ 0
  clear-entry nth lt = ap (λ (part : Part). get_or (words_after part idle) (1028 + nth) 0) (clear_run rows) ∙ get-run 0 (λ nth. entry_at 0 nth) 1028 entry_is (commit_word_at 0) 0 0 rows idle nth (omega arith) (omega (arith, lt))
      (let l = length-idle in let s = size in let f = few in omega (arith, l, s, f)) (λ e. omega (arith, e))

  pub clear-word : get_or cleared 1025 0 ≡ 0
  clear-word = ap (λ (part : Part). get_or (words_after part idle) 1025 0) (clear_run rows) ∙ get-run_last 0 (λ nth. entry_at 0 nth) 1028 entry_is (commit_word_at 0) 0 0 rows idle (let l = length-idle in let s = size in omega (arith, l, s))

  -- a word that only the stamps may change
  pub late-beside : (w : ℕ) → w ≢ 514 → w ≢ 1024 → w ≢ 1025 → (w < 1028) ⊎ (1028 + rows ≤ w) → get_or cleared w 0 ≡ get_or stamped w 0
  late-beside w a b c out =
      clear-beside w out c
      ∙ get-beside counted (state_at 0) 0 w b
      ∙ get-beside decided last_at (last + 1) w a
      ∙ get-beside stamped (commit_word_at 0) (last + 1) w c

  pub new_last : get_or cleared last_at 0 ≡ last + 1
  new_last =
      clear-beside last_at (inl (omega arith)) (λ e. omega (arith, e))
      ∙ get-beside counted (state_at 0) 0 last_at (λ e. omega (arith, e))
      ∙ get-stored decided last_at (last + 1)
      (let one = length-words_after (stamp_part high rows (last + 1)) words in let two = length-words_after (one_store (commit_word_at 0) (last + 1)) stamped in let s = size in omega (arith, one, two, s))

  new_state : get_or cleared (state_at 0) 0 ≡ 0
  new_state =
      clear-beside (state_at 0) (inl (omega arith)) (λ e. omega (arith, e))
      ∙ get-stored counted (state_at 0) 0
      (let one = length-words_after (stamp_part high rows (last + 1)) words in let two = length-words_after (one_store (commit_word_at 0) (last + 1)) stamped in
      let three = length-words_after (one_store last_at (last + 1)) decided in let s = size in omega (arith, one, two, three, s))

  pub new_high : get_or cleared high_at 0 ≡ high + rows
  new_high =
      late-beside high_at (λ e. omega (arith, e)) (λ e. omega (arith, e)) (λ e. omega (arith, e)) (inl (omega arith))
      ∙ get-run_last (last + 1) born_at 2048 born_is high_at (high + rows) high rows words (let s = size in omega (arith, s))

  -- the stamps of the transaction's rows
  pub new_born : (row : ℕ) → high ≤ row → row < high + rows → get_or cleared (born_at row) 0 ≡ last + 1
  new_born row low above =
      late-beside (born_at row) (λ e. omega (arith, e)) (λ e. omega (arith, e)) (λ e. omega (arith, e)) (inr (let f = few in omega (arith, f)))
      ∙ get-run (last + 1) born_at 2048 born_is high_at (high + rows) high rows words row low above (let s = size in let r = within in omega (arith, s, r)) (λ e. omega (arith, e))

  -- every other word of the table
  kept : (w : ℕ) → 2048 ≤ w → (w < 2048 + high) ⊎ (2048 + high + rows ≤ w) → get_or cleared w 0 ≡ get_or words w 0
  kept w low out =
      late-beside w (λ e. omega (arith, e, low)) (λ e. omega (arith, e, low)) (λ e. omega (arith, e, low)) (inr (let f = few in omega (arith, f, low)))
      ∙ get-run_beside (last + 1) born_at 2048 born_is high_at (high + rows) high rows words w out (λ e. omega (arith, e, low))

  kept_born : (row : ℕ) → (row < high) ⊎ (high + rows ≤ row) → get_or cleared (born_at row) 0 ≡ get_or words (born_at row) 0
  kept_born row out = kept (born_at row) (omega arith) (⊎_elim (λ (low : row < high). inl (omega (arith, low))) (λ (above : high + rows ≤ row). inr (omega (arith, above))) out)

  kept_ended : (row : ℕ) → get_or cleared (ended_at row) 0 ≡ get_or words (ended_at row) 0
  kept_ended row = kept (ended_at row) (omega arith) (inr (let r = within in omega (arith, r)))

  kept_value : (row : ℕ) → get_or cleared (value_at row) 0 ≡ get_or words (value_at row) 0
  kept_value row = kept (value_at row) (omega arith) (inr (let r = within in omega (arith, r)))

  -- a row is one of the transaction's, or it isn't
  place : (row : ℕ) → ((row < high) ⊎ (high + rows ≤ row)) ⊎ ((high ≤ row) × (row < high + rows))
  place row = ⊎_elim (λ (low : row < high). inl (inl low)) (λ (le : high ≤ row). ⊎_elim (λ (lt : row < high + rows). inr (le, lt)) (λ (above : high + rows ≤ row). inl (inr above)) (cases_lt row (high + rows))) (cases_lt row high)

  old_born : (row : ℕ) → high ≤ row → row < high + rows → get_or words (born_at row) 0 ≡ 0
  old_born row low above = stage.unborn row (omega (arith, is_high, low)) (let r = within in omega (arith, r, above))

  commit-same : IsSameUpTo last words cleared
  commit-same = record {
    born = λ row n lt low le. ⊎_elim
        (λ (out : (row < high) ⊎ (high + rows ≤ row)). ap (λ (x : ℕ). eqb x n) (kept_born row out))
        (λ (own : (high ≤ row) × (row < high + rows)).
        let now = new_born row own.0 own.1 in let old = old_born row own.0 own.1 in
        ne_eqb (get_or cleared (born_at row) 0) n (λ e. omega (arith, e, now, le)) ∙ sym (ne_eqb (get_or words (born_at row) 0) n (λ e. omega (arith, e, old, low))))
        (place row);
    ended = λ row n lt low le. ap (λ (x : ℕ). eqb x n) (kept_ended row);
    value = λ row lt low le. kept_value row;
  }

  -- no row had the number of the commit
  fresh : (row : ℕ) → row < 4096 → get_or words (born_at row) 0 ≢ last + 1
  fresh row lt e = ⊎_elim (λ (le : get_or words (born_at row) 0 ≤ get_or words last_at 0). omega (arith, le, e, is_last)) (λ (dead : get_or words (born_at row) 0 ≡ 2 ^ 64 - 1). omega (arith, dead, e, room)) (stage.born row lt)

  commit_is : commit_of cleared (last + 1) ≡ record { created = rows_from words high rows; ended = [] }
  commit_is = commit_of-interval words cleared high rows (last + 1) within new_born
      (λ row lt out e. fresh row lt (sym (kept_born row out) ∙ e))
      (λ row lt e. let is = kept_ended row in let old = stage.ended row lt in omega (arith, is, old, e, is_last))
      (λ row low above. kept_value row)

  pub commit-commits : commits_in cleared (last + 1) ≡ commits_in words last ++ record { created = rows_from words high rows; ended = [] } ∷ []
  commit-commits =
      commits_in-more cleared last
      ∙ ap (λ (xs : List WriteSet). xs ++ commit_of cleared (last + 1) ∷ []) (commits_in-same last words cleared commit-same)
      ∙ ap (λ (x : WriteSet). commits_in words last ++ x ∷ []) commit_is

  commit-stage : IsStage cleared None
  commit-stage = record {
    size = let l = length-idle in let m = length-words_after (clear_part 0 rows true) idle in let s = size in omega (arith, l, m, s);
    last = let l = new_last in omega (arith, l, room);
    reads = omega arith;
    few = omega arith;
    room = let h = new_high in let r = within in omega (arith, h, r);
    born = λ row lt. let l = new_last in ⊎_elim
        (λ (out : (row < high) ⊎ (high + rows ≤ row)). let is = kept_born row out in
        ⊎_elim (λ (le : get_or words (born_at row) 0 ≤ get_or words last_at 0). inl (omega (arith, is, le, is_last, l))) (λ dead. inr (is ∙ dead)) (stage.born row lt))
        (λ (own : (high ≤ row) × (row < high + rows)). let is = new_born row own.0 own.1 in inl (omega (arith, is, l)))
        (place row);
    unborn = λ row low lt. let h = new_high in let is = kept_born row (inr (omega (arith, h, low))) in is ∙ stage.unborn row (omega (arith, h, low, is_high)) lt;
    ended = λ row lt. let is = kept_ended row in let old = stage.ended row lt in let l = new_last in omega (arith, is, old, l, is_last);
    state = new_state;
    commit_word = clear-word;
    entries = λ nth lt. absurd (omega (arith, lt));
    free = λ nth low lt. ⊎_elim
        (λ (own : nth < rows). ap (λ (w : ℕ). get_or cleared w 0) (omega arith) ∙ clear-entry nth own)
        (λ (above : rows ≤ nth).
        late-beside (entry_at 0 nth) (λ e. omega (arith, e)) (λ e. omega (arith, e)) (λ e. omega (arith, e)) (inr (omega (arith, above)))
        ∙ get-run_beside (last + 1) born_at 2048 born_is high_at (high + rows) high rows words (entry_at 0 nth) (inl (omega (arith, lt))) (λ e. omega (arith, e))
        ∙ stage.free nth above lt)
        (cases_lt nth rows);
    others = λ object low lt.
        late-beside (state_at object) (λ e. omega (arith, e)) (λ e. omega (arith, e, low)) (λ e. omega (arith, e, low)) (inr (let f = few in omega (arith, f, low)))
        ∙ get-run_beside (last + 1) born_at 2048 born_is high_at (high + rows) high rows words (state_at object) (inl (omega (arith, lt))) (λ e. omega (arith, e))
        ∙ stage.others object low lt;
  }

  pub commit-plan : IsPlan (length words) (five high rows (last + 1))
  commit-plan =
      let s = size in let r = within in let f = few in (
        run-part (last + 1) born_at 2048 born_is high_at (high + rows) (length words) high rows (omega (arith, s, r)) (omega (arith, s)) (λ k low above e. omega (arith, e)),
        (
          store_part (length words) (commit_word_at 0) (last + 1) (omega (arith, s)),
          (
            store_part (length words) last_at (last + 1) (omega (arith, s)),
            (
              store_part (length words) (state_at 0) 0 (omega (arith, s)),
              (
                subst (IsPart (length words)) (sym (clear_run rows))
                    (run-part 0 (λ nth. entry_at 0 nth) 1028 entry_is (commit_word_at 0) 0 (length words) 0 rows (omega (arith, s, f)) (omega (arith, s)) (λ k low above e. omega (arith, e))),
                tt,
              ),
            ),
          ),
        ),
      )

  pub commit-decided : (commit : ℕ) (actions : List Action) → commit ≡ last + 1 → actions ≡ plan_of (commit_parts high rows commit) → length actions ≤ 400
      → IsDecided words (record { begun = begun; running = Some (record { number = number; snapshot = snapshot; rows = rows }) }) call.Commit (reply.Committed commit) actions (record { begun = begun; running = None })
  commit-decided commit actions is_commit is_actions short =
      let five_is : commit_parts high rows commit ≡ five high rows (last + 1) = ap (commit_parts high rows) is_commit ∙ commit_parts-five high rows (last + 1) in
      let plan_is : actions ≡ plan_of (five high rows (last + 1)) = is_actions ∙ ap plan_of five_is in
      let after : words_after actions words ≡ cleared = ap (λ (xs : List Action). words_after xs words) plan_is ∙ words_after-plan (five high rows (last + 1)) words in
      let created = rows_from words high rows in
      let commits = commits_in words last in
      let count = length-rows_from words high rows in
      let many = length-commits_in words last in
      let written = writes-stage words (record { number = number; snapshot = snapshot; rows = rows }) stage ∙ ap (λ (h : ℕ). record { created = rows_from words h rows; ended = [] }) is_high in
      let before = state_with words begun number snapshot rows high last commits created is_high is_last refl written in
      let same : high + rows ≡ high + rows + 0 = omega arith in
      let first_is : high ≡ get_or words high_at 0 + rows - rows = omega (arith, is_high) in
      record {
        allowed = subst (λ (s : State). IsAllowed s 1 call.Commit (reply.Committed commit)) (sym before) (sym (commit-answer (high + rows) commits begun number snapshot created (omega (arith, count, some)) (omega (arith, many, room)) ∙ ap (λ (n : ℕ). reply.Committed n) (ap (λ (n : ℕ). n + 1) many ∙ sym is_commit)));
        parts = five high rows (last + 1);
        plan = commit-plan;
        plan_is = plan_is;
        state =
            ap (λ (s : State). next s 1 call.Commit (reply.Committed commit)) before
            ∙ commit-next (high + rows) commits begun number snapshot created commit
            ∙ ap (λ (n : ℕ). state_by n (commits ++ record { created = created; ended = [] } ∷ []) begun None) same
            ∙ sym (state_without cleared begun (high + rows) (last + 1) (commits ++ record { created = created; ended = [] } ∷ []) new_high new_last commit-commits)
            ∙ ap (λ (new : List ℕ). state_of new (record { begun = begun; running = None })) (sym after);
        stage = rw after commit-stage;
        full = tt;
        memory = tt;
        planned = is_actions ∙ ap (λ (n : ℕ). plan_of (commit_parts n rows commit)) first_is
            ∙ ap (λ (n : ℕ). plan_of (commit_parts (get_or words high_at 0 + rows - n) n commit)) (sym (count-created words (record { number = number; snapshot = snapshot; rows = rows }) stage begun));
        short = short;
        begun = omega arith;
      }

  -- so many of its actions come after the fence that makes it certain
  pub commit-timed : (commit late : ℕ) → late ≡ length (plan_of (commit_late rows commit))
      → IsLateIn (state_of words (record { begun = begun; running = Some (record { number = number; snapshot = snapshot; rows = rows }) })) (Some (record { number = commit; left = late }))
  commit-timed commit late is_late = is_late ∙ ap (λ (n : ℕ). length (plan_of (commit_late n commit))) (sym (count-created words (record { number = number; snapshot = snapshot; rows = rows }) stage begun))

-- ── the end of a transaction that wrote nothing ──

pub close_parts-one : close_parts ≡ one_store (state_at 0) 0 ∷ []
unfolding clear_part
close_parts-one = refl

pub close-decided : (words : List ℕ) (begun number snapshot rows : ℕ) (stage : IsStage words (Some (record { number = number; snapshot = snapshot; rows = rows }))) (actions : List Action) → rows ≡ 0 → actions ≡ plan_of close_parts → length actions ≤ 400
    → IsDecided words (record { begun = begun; running = Some (record { number = number; snapshot = snapshot; rows = rows }) }) call.Commit reply.ReadOnly actions (record { begun = begun; running = None })
close-decided words begun number snapshot rows stage actions none is_actions short =
    let high = get_or words high_at 0 in
    let last = get_or words last_at 0 in
    let commits = commits_in words last in
    let plan_is : actions ≡ plan_of (one_store (state_at 0) 0 ∷ []) = is_actions ∙ ap plan_of close_parts-one in
    let new = words_after (one_store (state_at 0) 0) words in
    let after : words_after actions words ≡ words_after (one_store (state_at 0) 0) words = ap (λ (xs : List Action). words_after xs words) plan_is ∙ words_after-plan (one_store (state_at 0) 0 ∷ []) words in
    let before : state_of words (record { begun = begun; running = Some (record { number = number; snapshot = snapshot; rows = rows }) }) ≡ state_by (high + 0) commits begun (Some (creating number snapshot [])) =
    state-open words (record { number = number; snapshot = snapshot; rows = rows }) stage begun
    ∙ ap (λ (r : ℕ). state_by (high + r) commits begun (Some (creating number snapshot (rows_from words high r)))) none in
    record {
      allowed = subst (λ (s : State). IsAllowed s 1 call.Commit reply.ReadOnly) (sym before) (sym (commit-none (high + 0) commits begun number snapshot));
      parts = one_store (state_at 0) 0 ∷ [];
      plan = (store_part (length words) (state_at 0) 0 (let s = stage.size in omega (arith, s)), tt);
      plan_is = plan_is;
      state =
          ap (λ (s : State). next s 1 call.Commit reply.ReadOnly) before
          ∙ close-next (high + 0) commits begun (Some (creating number snapshot []))
          ∙ sym (state_without (words_after (one_store (state_at 0) 0) words) begun high last commits (switched words 0 high_at (λ e. omega (arith, e))) (switched words 0 last_at (λ e. omega (arith, e)))
          (commits_in-same last words (words_after (one_store (state_at 0) 0) words) (switch-same words 0)))
          ∙ ap (λ (xs : List ℕ). state_of xs (record { begun = begun; running = None })) (sym after);
      full = tt;
      memory = tt;
      planned = is_actions;
      stage = rw after (switch-stage words 0 (Some (record { number = number; snapshot = snapshot; rows = rows })) None stage none refl (omega arith) refl);
      short = short;
      begun = omega arith;
    }
