-- The plan of each decision survives each cut, whatever is played beside it.
use Rattle.std.proofs.Common.{◌≡◌, ℕ, ℤ, ◌+◌, ◌<◌, ◌≤◌, ◌∙◌, true, false, List, [], ◌∷◌, ◌++◌, length, get_or, set, None, Some, refl, ap, sym, subst, arith}
use Rattle.std.proofs.lemmas.Bool.{eq-eqb, or_left, or_right}
use Rattle.std.proofs.lemmas.List.{get_or-set_same, get_or-set_other}
use Rattle.mv_model.specs.declared.call.Call.TheVariants as call
use Rattle.mv_model.specs.declared.reply.Reply.{Reply}
use Rattle.mv_model.specs.declared.reply.Reply.TheVariants as reply
use Rattle.mv_model.specs.declared.limits.TheConstants.{MAX_COMMITS}
use Rattle.mv_model.specs.State.{State}
use Rattle.mv_model.specs.View.{next_row_of}
use Rattle.pm_model.specs.declared.action.Action.{Action}
use Rattle.image_layout.specs.Fixed.{last_at, state_at, entry_at}
use Rattle.pm_model.specs.Plans.{Part, EachCut, IsPlan, finished, one_store, plan_of, words_after}
use Rattle.pm_model.proofs.Cuts.{cut-one_store, store_part}
use Rattle.txn_object.specs.Object.{begin_parts}
use Rattle.txn_object.specs.Entries.{entry_word}
use Rattle.stage_view.specs.Quiet.{HasNoEntry, IsQuiet}
use Rattle.stage_view.specs.StageView.{MayInsert}
use Rattle.stage_view.proofs.QuietInserts as inserts
use Rattle.stage_view.proofs.QuietPlans as quiets
use Rattle.stage_view.proofs.QuietSteps.{quiet-self}
use Rattle.stage_view.proofs.Numbers.{given-next}
use Rattle.engine_core.specs.Stage.{high_at, born_at, value_at}
use Rattle.engine_core.specs.StagePlans.{close_parts, commit_late, commit_parts, created_entry, insert_parts}
use Rattle.engine_core.specs.StageRules.{IsStage}
use Rattle.engine_core.specs.Decided.{IsDecided}
use Rattle.engine_core.specs.LogicalState.{commits_in, next_row, state_of}
use Rattle.engine_core.proofs.Rows.{rows_from}
use Rattle.engine_core.specs.Recoverable.{Fits}
use Rattle.engine_core.specs.Served.{insert_of}
use Rattle.engine_core.specs.Survival.{IsLike, IsRowBelow, IsShown, SurvivesCuts, SurvivesInHalves, insert_reads, is_own}
use Rattle.engine_core.specs.declared.transactions.Running.{Running}
use Rattle.engine_core.specs.declared.transactions.Transactions.{Transactions}
use Rattle.engine_core.proofs.CommitCuts.{commit_late-is, decided-shown, early-cuts, late-cuts, within-hit}
use Rattle.engine_core.proofs.Commits as commits
use Rattle.engine_core.proofs.Commits.{commit_parts-five, close_parts-one}
use Rattle.engine_core.proofs.Entries.{HasEntries, entries-kept, has-more, has-same, past-created}
use Rattle.engine_core.proofs.Ruled.{IsRuled, ruled-entry, ruled-self, ruled-state, ruled-value}
use Rattle.engine_core.proofs.Shown.{each_cut-both, fits-together, quiet-shown}
use Rattle.engine_core.proofs.Stores.{words_after-plan}

-- nothing is played
pub stands-survives : (words : List ℕ) (now : Transactions) (given : Reply) → IsRowBelow 0 given → Fits words → SurvivesCuts (state_of words now) (state_of words now) given words []
stands-survives base now given below fits = record {
  parts = [];
  plan = tt;
  plan_is = refl;
  reads = λ w. false;
  bound = 0;
  each = λ words like. quiet-shown 0 words words like.fits (ruled-self 0 words (omega arith) like.fits) 0 (state_of base now).commits like.shows (quiet-self 0 words (fits-together words like.fits));
  end = λ words like. omega arith;
  below = below;
  commits = refl;
  rows = omega arith;
  most = omega arith;
}

-- ── the object of session 1 ──

own-place : (w : ℕ) → 1024 ≤ w → w < 1088 → is_own w ≡ true
own-place w low below = within-hit 1024 64 w low below

module _ (base words : List ℕ) (state : State) (like : IsLike is_own state base words) (size : 32768 ≤ length base) where
  size_now : 32768 ≤ length words
  size_now = let same = like.size in omega (arith, same, size)

  own-same : (w : ℕ) → 1024 ≤ w → w < 1088 → get_or words w 0 ≡ get_or base w 0
  own-same w low below = like.same w (own-place w low below)

  -- the cuts of a store to the state of an object without entries
  module _ (x : ℕ) (has : HasNoEntry base 0 x) where
    none : HasNoEntry words 0 x
    none = record {
      object_is = omega arith;
      state_is = own-same 1024 (omega arith) (omega arith) ∙ has.state_is;
      commit_word = own-same 1025 (omega arith) (omega arith) ∙ has.commit_word;
      entries = λ nth lt. own-same (entry_at 0 nth) (omega arith) (omega (arith, lt)) ∙ has.entries nth lt;
    }

    entries : HasEntries words 0 0
    entries = record { few = omega arith; room = omega arith; entries = λ nth lt. absurd (omega (arith, lt)); free = λ nth low lt. none.entries nth lt }

    state-ruled : (y : ℕ) → y ≤ 1 → EachCut (IsRuled 0 words) (one_store (state_at 0) y ∷ []) words
    state-ruled y small =
        let start = ruled-self 0 words (omega arith) like.fits in
        let then = ruled-state 0 words words (omega arith) start y (let s = size_now in omega (arith, s)) small (λ open_now. entries-kept words 0 0 entries) in
        (cut-one_store (IsRuled 0 words) (state_at 0) y words start then, then)

no-entries : (words : List ℕ) (own : Running) → IsStage words (Some own) → own.rows ≡ 0 → HasNoEntry words 0 1
no-entries words own stage none = record {
  object_is = omega arith;
  state_is = stage.state;
  commit_word = stage.commit_word;
  entries = λ nth lt. stage.free nth (omega (arith, none)) lt;
}

-- ── decisions ──

pub begin-survives : (words : List ℕ) (begun number snapshot : ℕ) (actions : List Action) (now : Transactions) → IsStage words None → actions ≡ plan_of (begin_parts 0)
    → IsDecided words (record { begun = begun; running = None }) call.Begin (reply.Began number snapshot) actions now → Fits words
    → SurvivesCuts (state_of words (record { begun = begun; running = None })) (state_of (words_after actions words) now) (reply.Began number snapshot) words actions
begin-survives base begun number snapshot actions now stage is_actions decided fits =
    let before = state_of base (record { begun = begun; running = None }) in
    let rows : get_or base high_at 0 + 0 ≡ next_row_of (state_of (words_after actions base) now) 0 = ap (λ (s : State). next_row_of s 0) decided.state in
    let has : HasNoEntry base 0 0 = record { object_is = omega arith; state_is = stage.state; commit_word = stage.commit_word; entries = λ nth lt. stage.free nth (omega arith) lt } in
    record {
      parts = begin_parts 0;
      plan = (store_part (length base) (state_at 0) 1 (let s = stage.size in omega (arith, s)), tt);
      plan_is = is_actions;
      reads = is_own;
      bound = 0;
      each = λ words like. each_cut-both (IsQuiet 0 words) (IsRuled 0 words) (IsShown before.commits 0 words) (λ image quiet ruled. quiet-shown 0 words image like.fits ruled 0 before.commits like.shows quiet) (begin_parts 0) words
          (quiets.begin-cuts words 0 (none base words before like stage.size 0 has) (size_now base words before like stage.size) (fits-together words like.fits))
          (state-ruled base words before like stage.size 0 has 1 (omega arith));
      end = λ words like. omega arith;
      below = tt;
      commits = sym (ap (λ (s : State). s.commits) decided.state);
      rows = omega (arith, rows);
      most = omega arith;
    }

pub close-survives : (words : List ℕ) (begun : ℕ) (own : Running) (actions : List Action) (now : Transactions) → IsStage words (Some own) → own.rows ≡ 0 → actions ≡ plan_of close_parts
    → IsDecided words (record { begun = begun; running = Some own }) call.Commit reply.ReadOnly actions now → Fits words
    → SurvivesCuts (state_of words (record { begun = begun; running = Some own })) (state_of (words_after actions words) now) reply.ReadOnly words actions
close-survives base begun own actions now stage empty is_actions decided fits =
    let before = state_of base (record { begun = begun; running = Some own }) in
    let rows : get_or base high_at 0 + own.rows ≡ next_row_of (state_of (words_after actions base) now) 0 = ap (λ (s : State). next_row_of s 0) decided.state in
    let has = no-entries base own stage empty in
    record {
      parts = one_store (state_at 0) 0 ∷ [];
      plan = (store_part (length base) (state_at 0) 0 (let s = stage.size in omega (arith, s)), tt);
      plan_is = is_actions ∙ ap plan_of close_parts-one;
      reads = is_own;
      bound = 0;
      each = λ words like. each_cut-both (IsQuiet 0 words) (IsRuled 0 words) (IsShown before.commits 0 words) (λ image quiet ruled. quiet-shown 0 words image like.fits ruled 0 before.commits like.shows quiet) (one_store (state_at 0) 0 ∷ []) words
          (quiets.close-cuts words 0 (none base words before like stage.size 1 has) (size_now base words before like stage.size) (fits-together words like.fits))
          (state-ruled base words before like stage.size 1 has 0 (omega arith));
      end = λ words like. omega arith;
      below = tt;
      commits = sym (ap (λ (s : State). s.commits) decided.state);
      rows = omega (arith, rows);
      most = omega arith;
    }

-- an insert
module _ (base : List ℕ) (own : Running) (row word : ℕ) (stage : IsStage base (Some own)) (is_row : row ≡ get_or base high_at 0 + own.rows) (few : own.rows < 60) (below : row < 4096)
    (state : State) (words : List ℕ) (like : IsLike (insert_reads row) state base words) where
  insert-size : 32768 ≤ length words
  insert-size = let same = like.size in let s = stage.size in omega (arith, same, s)

  insert-same : (w : ℕ) → 1024 ≤ w → w < 1088 → get_or words w 0 ≡ get_or base w 0
  insert-same w low above = like.same w (or_left (is_own w) _ (own-place w low above))

  unstamped : get_or words (born_at row) 0 ≡ 0
  unstamped = like.same (born_at row) (or_right (is_own (born_at row)) _ (eq-eqb (born_at row) (born_at row) refl)) ∙ stage.unborn row (omega (arith, is_row)) below

  has : HasEntries words (get_or base high_at 0) own.rows
  has = has-same base words (get_or base high_at 0) own.rows (record { few = stage.few; room = stage.room; entries = stage.entries; free = stage.free })
      (λ nth lt. insert-same (entry_at 0 nth) (omega arith) (omega (arith, lt)))

  may : MayInsert words 0 own.rows row
  may = record {
    object_is = omega arith;
    nth_is = few;
    row_is = below;
    state = insert-same 1024 (omega arith) (omega arith) ∙ stage.state;
    commit_word = insert-same 1025 (omega arith) (omega arith) ∙ stage.commit_word;
    entry = has.free own.rows (omega arith) few;
  }

  abbrev spelt_entry : ℕ
  spelt_entry = entry_word (created_entry row)

  abbrev entered : List ℕ
  entered = set words (entry_at 0 own.rows) (entry_word (created_entry row))

  has-entered : HasEntries entered (get_or base high_at 0) (own.rows + 1)
  has-entered = has-more words (get_or base high_at 0) own.rows has few (omega (arith, is_row, below)) entered
      (get_or-set_same words (entry_at 0 own.rows) (entry_word (created_entry row)) 0 (let s = insert-size in omega (arith, s, few)) ∙ ap (λ (r : ℕ). entry_word (created_entry r)) is_row)
      (λ w apart. get_or-set_other words (entry_at 0 own.rows) w (entry_word (created_entry row)) 0 apart)

  insert-ruled : EachCut (IsRuled 0 words) (insert_parts own.rows row word) words
  insert-ruled =
      let start = ruled-self 0 words (omega arith) like.fits in
      let one = ruled-entry 0 words words (omega arith) start own.rows (entry_word (created_entry row)) few (entries-kept entered (get_or base high_at 0) (own.rows + 1) has-entered) in
      let two = ruled-value 0 words entered (omega arith) one row word below unstamped in (
        cut-one_store (IsRuled 0 words) (entry_at 0 own.rows) (entry_word (created_entry row)) words start one,
        (cut-one_store (IsRuled 0 words) (value_at row) word entered one two, two),
      )

  insert-each : EachCut (IsShown state.commits (row + 1) words) (insert_parts own.rows row word) words
  insert-each = each_cut-both (IsQuiet (row + 1) words) (IsRuled 0 words) (IsShown state.commits (row + 1) words) (λ image quiet ruled. quiet-shown 0 words image like.fits ruled (row + 1) state.commits like.shows quiet)
      (insert_parts own.rows row word) words
      (inserts.quiet-cuts words 0 own.rows (entry_word (created_entry row)) row word may (past-created row below) insert-size (fits-together words like.fits)) insert-ruled

  insert-end : row + 1 ≤ next_row (finished (insert_parts own.rows row word) words)
  insert-end =
      let lt = given-next (finished (insert_parts own.rows row word) words) row
      (inserts.given-then words 0 own.rows (entry_word (created_entry row)) row word may (past-created row below) insert-size (fits-together words like.fits)) in
      omega (arith, lt)

pub insert-survives : (words : List ℕ) (begun : ℕ) (own : Running) (row word : ℕ) (value : ℤ) (actions : List Action) (now : Transactions) → IsStage words (Some own)
    → row ≡ get_or words high_at 0 + own.rows → own.rows < 60 → row < 4096 → actions ≡ plan_of (insert_parts own.rows row word)
    → IsDecided words (record { begun = begun; running = Some own }) (insert_of value) (reply.Row row) actions now → Fits words
    → SurvivesCuts (state_of words (record { begun = begun; running = Some own })) (state_of (words_after actions words) now) (reply.Row row) words actions
insert-survives base begun own row word value actions now stage is_row few below is_actions decided fits =
    let before = state_of base (record { begun = begun; running = Some own }) in
    let rows : get_or base high_at 0 + own.rows + 1 ≡ next_row_of (state_of (words_after actions base) now) 0 = ap (λ (s : State). next_row_of s 0) decided.state in
    record {
      parts = insert_parts own.rows row word;
      plan = (store_part (length base) (entry_at 0 own.rows) (entry_word (created_entry row)) (let s = stage.size in omega (arith, s, few)), (store_part (length base) (value_at row) word (let s = stage.size in omega (arith, s, below)), tt));
      plan_is = is_actions;
      reads = insert_reads row;
      bound = row + 1;
      each = λ words like. insert-each base own row word stage is_row few below before words like;
      end = λ words like. insert-end base own row word stage is_row few below before words like;
      below = omega arith;
      commits = sym (ap (λ (s : State). s.commits) decided.state);
      rows = omega (arith, rows);
      most = omega (arith, rows, is_row);
    }

-- ── a commit ──

module _ (words : List ℕ) (begun number snapshot rows high last : ℕ) (stage : IsStage words (Some (record { number = number; snapshot = snapshot; rows = rows })))
    (is_high : get_or words high_at 0 ≡ high) (is_last : get_or words last_at 0 ≡ last) (some : 0 < rows) (room : last < MAX_COMMITS) where
  pub commit-survives : (commit late : ℕ) (actions : List Action) → commit ≡ last + 1 → actions ≡ plan_of (commit_parts high rows commit) → late ≡ length (plan_of (commit_late rows commit))
      → IsDecided words (record { begun = begun; running = Some (record { number = number; snapshot = snapshot; rows = rows }) }) call.Commit (reply.Committed commit) actions (record { begun = begun; running = None }) → Fits words
      → SurvivesInHalves (state_of words (record { begun = begun; running = Some (record { number = number; snapshot = snapshot; rows = rows }) })) (state_of (words_after actions words) (record { begun = begun; running = None })) commit late words actions
  commit-survives commit late actions is_commit is_actions is_late decided fits =
      let before = state_of words (record { begun = begun; running = Some (record { number = number; snapshot = snapshot; rows = rows }) }) in
      let after = state_of (words_after actions words) (record { begun = begun; running = None }) in
      let cleared = commits.cleared words begun number snapshot rows high last stage is_high is_last some room in
      let is_last_new = commits.new_last words begun number snapshot rows high last stage is_high is_last some room in
      let plan_is : actions ≡ plan_of (commit_parts high rows (last + 1)) = is_actions ∙ ap (λ (n : ℕ). plan_of (commit_parts high rows n)) is_commit in
      let all_words : words_after actions words ≡ commits.cleared words begun number snapshot rows high last stage is_high is_last some room =
      ap (λ (xs : List Action). words_after xs words) (plan_is ∙ ap plan_of (commit_parts-five high rows (last + 1))) ∙ words_after-plan (commits.five high rows (last + 1)) words in
      let kept : get_or words high_at 0 + rows ≡ next_row_of (state_of (words_after actions words) (record { begun = begun; running = None })) 0 = ap (λ (s : State). next_row_of s 0) decided.state in
      let old : before.commits ≡ commits_in words last = ap (commits_in words) is_last in
      let new : after.commits ≡ commits_in words last ++ record { created = rows_from words high rows; ended = [] } ∷ [] =
      ap (λ (ws : List ℕ). commits_in ws (get_or ws last_at 0)) all_words ∙ ap (commits_in cleared) is_last_new ∙ commits.commit-commits words begun number snapshot rows high last stage is_high is_last some room in
      let late_is = commit_late-is rows (last + 1) in
      subst (λ (n : ℕ). SurvivesInHalves (state_of words (record { begun = begun; running = Some (record { number = number; snapshot = snapshot; rows = rows }) })) (state_of (words_after actions words) (record { begun = begun; running = None })) n late words actions) (sym is_commit)
      (record {
        first = high;
        count = rows;
        plan = subst (IsPlan (length words)) (sym (commit_parts-five high rows (last + 1))) (commits.commit-plan words begun number snapshot rows high last stage is_high is_last some room);
        plan_is = plan_is;
        late_is = is_late ∙ ap (λ (n : ℕ). length (plan_of (commit_late rows n))) is_commit;
        next = ap (λ (n : ℕ). n + 1) is_last;
        unset = stage.commit_word;
        rows = omega (arith, kept, is_high);
        early = λ now like. early-cuts words begun number snapshot rows high last stage is_high is_last some room before after old new now like;
        decided = λ now like. decided-shown words begun number snapshot rows high last stage is_high is_last some room before after old new now like;
        later = λ now like. subst (λ (parts : List Part). EachCut (IsShown after.commits 0 now) parts now) (sym late_is) (late-cuts words begun number snapshot rows high last stage is_high is_last some room after now like);
      })
