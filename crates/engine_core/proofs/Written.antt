-- What the entries of the open transaction's object name: the rows behind those that are used up, as created.
use Rattle.std.proofs.Common.{◌≡◌, ◌⊎◌, inl, inr, ⊎_elim, ℕ, ◌+◌, ◌-◌, ◌<◌, ◌≤◌, ◌∙◌, Bool, true, false, not, ◌&&◌, ◌||◌, eqb, ltb, List, [], length, map, get_or, Some, ap, sym, arith}
use Rattle.std.specs.Prelude.{nat_le}
use Rattle.std.specs.List.{range_with_len}
use Rattle.std.proofs.lemmas.Bool.{cases_lt, eq-eqb, ne_eqb}
use Rattle.std.proofs.lemmas.Bool.Decides.{nat_tests}
use Rattle.mv_model.specs.State.{WriteSet}
use Rattle.mv_model.proofs.Rows.{or-false}
use Rattle.image_layout.specs.Fixed.{last_at, entry_at}
use Rattle.stage_view.specs.StageView.{past_ending, view_of}
use Rattle.stage_view.proofs.Numbers.{any-from}
use Rattle.stage_view.proofs.QuietPlans.{any-none}
use Rattle.engine_core.specs.Stage.{high_at, born_at, ended_at}
use Rattle.engine_core.specs.StageRules.{IsStage}
use Rattle.engine_core.specs.Actions.{rows_created}
use Rattle.engine_core.specs.LogicalState.{commits_in, created_row, is_seen, key_of, past_entry, rows_where, state_by, state_of, within, writes_in}
use Rattle.engine_core.specs.declared.transactions.Running.{Running}
use Rattle.engine_core.proofs.Entries.{HasEntries, ending-created, past-created}
use Rattle.engine_core.proofs.Rows.{length-rows_from, rows_from, rows_where-interval, rows_where-none}
use Rattle.engine_core.proofs.States.{creating}

-- ── the entries of an object ──

module _ (words : List ℕ) (first count : ℕ) (has : HasEntries words first count) where
  past-own : (nth : ℕ) → nth < count → past_entry (get_or words (entry_at 0 nth) 0) ≡ first + nth + 1
  past-own nth lt = let room = has.room in ap past_entry (has.entries nth lt) ∙ past-created (first + nth) (omega (arith, lt, room))

  past-free : (nth : ℕ) → count ≤ nth → nth < 60 → past_entry (get_or words (entry_at 0 nth) 0) ≡ 0
  past-free nth low lt = ap past_entry (has.free nth low lt)

  not-created : (row : ℕ) → (row < first) ⊎ (first + count ≤ row) → (view_of words).creates 0 0 row ≡ false
  not-created row out = any-none (λ nth. eqb (past_entry (get_or words (entry_at 0 nth) 0)) (row + 1)) 60
      (λ nth lt. ne_eqb (past_entry (get_or words (entry_at 0 nth) 0)) (row + 1) (λ e. ⊎_elim
      (λ (own : nth < count). let is = past-own nth own in
      ⊎_elim (λ (low : row < first). omega (arith, e, is, low)) (λ (above : first + count ≤ row). omega (arith, e, is, above, own)) out)
      (λ (low : count ≤ nth). let is = past-free nth low lt in omega (arith, e, is))
      (cases_lt nth count)))

  is-created : (row : ℕ) → first ≤ row → row < first + count → (view_of words).creates 0 0 row ≡ true
  is-created row low above =
      let few = has.few in
      let is = past-own (row - first) (omega (arith, low, above)) in
      any-from (λ nth. eqb (past_entry (get_or words (entry_at 0 nth) 0)) (row + 1)) 60 (row - first) (omega (arith, low, above, few))
      (eq-eqb (past_entry (get_or words (entry_at 0 (row - first)) 0)) (row + 1) (omega (arith, is, low)))

  -- it is among these rows exactly where an entry says that it was created, and none says that it was ended
  pub creates-within : (row : ℕ) → (view_of words).creates 0 0 row ≡ within first count row
  creates-within row = ⊎_elim
      (λ (low : row < first). not-created row (inl low) ∙ outside row (inl low))
      (λ (le : first ≤ row). ⊎_elim
      (λ (lt : row < first + count). is-created row le lt ∙ inside row le lt)
      (λ (above : first + count ≤ row). not-created row (inr above) ∙ outside row (inr above))
      (cases_lt row (first + count)))
      (cases_lt row first)
    where
      inside : (row : ℕ) → first ≤ row → row < first + count → true ≡ within first count row
      inside row low lt = grind (arith, nat_tests)

      outside : (row : ℕ) → (row < first) ⊎ (first + count ≤ row) → false ≡ within first count row
      outside row (inl low) = grind (arith, nat_tests)
      outside row (inr above) = grind (arith, nat_tests)

  pub ends-none : (row : ℕ) → (view_of words).ends 0 0 row ≡ false
  ends-none row = any-none (λ nth. eqb (past_ending (get_or words (entry_at 0 nth) 0)) (row + 1)) 60
      (λ nth lt. ne_eqb (past_ending (get_or words (entry_at 0 nth) 0)) (row + 1) (λ e. let is = past-none nth lt in omega (arith, e, is)))
    where
      past-none : (nth : ℕ) → nth < 60 → past_ending (get_or words (entry_at 0 nth) 0) ≡ 0
      past-none nth lt = ⊎_elim
          (λ (own : nth < count). let room = has.room in ap past_ending (has.entries nth own) ∙ ending-created (first + nth) (omega (arith, own, room)))
          (λ (low : count ≤ nth). ap past_ending (has.free nth low lt))
          (cases_lt nth count)

  -- they are what the transaction wrote
  writes-entries : writes_in words 0 ≡ record { created = rows_from words first count; ended = [] }
  writes-entries =
      let made = (view_of words).creates 0 0 in
      let gone = (view_of words).ends 0 0 in
      let rows : rows_where made ≡ range_with_len first count = rows_where-interval made first count has.room
      (λ row lt. not-created row (inl lt)) is-created (λ row above lt. not-created row (inr above)) in
      ap (λ (numbers : List ℕ). record { created = map (created_row words) numbers; ended = map key_of (rows_where gone) }) rows
      ∙ ap (λ (numbers : List ℕ). record { created = rows_from words first count; ended = map key_of numbers }) (rows_where-none gone (λ row lt. ends-none row))

-- ── the open transaction ──

module _ (words : List ℕ) (own : Running) (stage : IsStage words (Some own)) where
  pub has-own : HasEntries words (get_or words high_at 0) own.rows
  has-own = record { few = stage.few; room = stage.room; entries = stage.entries; free = stage.free }

  pub writes-stage : writes_in words 0 ≡ record { created = rows_from words (get_or words high_at 0) own.rows; ended = [] }
  writes-stage = writes-entries words (get_or words high_at 0) own.rows has-own

  pub count-created : (begun : ℕ) → rows_created (state_of words (record { begun = begun; running = Some own })) ≡ own.rows
  count-created begun = ap (λ (writes : WriteSet). length writes.created) writes-stage ∙ length-rows_from words (get_or words high_at 0) own.rows

  -- what the words stand for while it is open
  pub state-open : (begun : ℕ) → state_of words (record { begun = begun; running = Some own })
      ≡ state_by (get_or words high_at 0 + own.rows) (commits_in words (get_or words last_at 0)) begun
      (Some (creating own.number own.snapshot (rows_from words (get_or words high_at 0) own.rows)))
  state-open begun =
      ap (λ (writes : WriteSet). state_by (get_or words high_at 0 + own.rows) (commits_in words (get_or words last_at 0)) begun
      (Some (record { number = own.number; snapshot = own.snapshot; writes = writes })))
      writes-stage

  -- a row is among those that the entries name as created
  pub among-own : (first row rows k : ℕ) → first ≡ get_or words high_at 0 → row ≡ k → rows ≡ own.rows → first ≤ row → ltb (row - first) rows ≡ (view_of words).creates 0 0 k
  among-own first row rows k is_first is_row is_rows le =
      inside first rows row le
      ∙ ap (λ (n : ℕ). within n rows row) is_first ∙ ap (λ (n : ℕ). within (get_or words high_at 0) n row) is_rows
      ∙ ap (within (get_or words high_at 0) own.rows) is_row
      ∙ sym (creates-within words (get_or words high_at 0) own.rows has-own k)
    where
      inside : (first rows row : ℕ) → first ≤ row → ltb (row - first) rows ≡ within first rows row
      inside first rows row le = grind (arith, nat_tests)

  pub among-none : (first row k : ℕ) → first ≡ get_or words high_at 0 → row ≡ k → row < first → nat_le first row ≡ (view_of words).creates 0 0 k
  among-none first row k is_first is_row lt = outside ∙ sym (not-created words (get_or words high_at 0) own.rows has-own k (inl (omega (arith, is_first, is_row, lt))))
    where
      outside : nat_le first row ≡ false
      outside = grind (arith, nat_tests)

  -- the transaction ended no row: it sees a row that was created, and that no commit ended
  pub seen-by : (row : ℕ) (ended born made : Bool) → row < 4096 → ended ≡ within 1 own.snapshot (get_or words (ended_at row) 0)
      → born ≡ within 1 own.snapshot (get_or words (born_at row) 0) → made ≡ (view_of words).creates 0 0 row
      → (not ended && (born || made)) ≡ is_seen words 0 own.snapshot row
  seen-by row ended born made lt is_ended is_born is_made =
      ap (λ (x : Bool). not x && (born || made)) (is_ended ∙ sym none_more)
      ∙ ap (λ (x : Bool). not gone && (x || made)) is_born
      ∙ ap (λ (x : Bool). not gone && (within 1 own.snapshot (get_or words (born_at row) 0) || x)) is_made
      ∙ sym (ap (λ (x : Bool). x && (not gone && (within 1 own.snapshot (get_or words (born_at row) 0) || (view_of words).creates 0 0 row))) here)
    where
      gone : Bool
      gone = within 1 own.snapshot (get_or words (ended_at row) 0) || (view_of words).ends 0 0 row

      none_more : gone ≡ within 1 own.snapshot (get_or words (ended_at row) 0)
      none_more = ap (λ (x : Bool). within 1 own.snapshot (get_or words (ended_at row) 0) || x) (ends-none words (get_or words high_at 0) own.rows has-own row)
          ∙ or-false (within 1 own.snapshot (get_or words (ended_at row) 0))

      here : within 0 4096 row ≡ true
      here = grind (arith, nat_tests)
