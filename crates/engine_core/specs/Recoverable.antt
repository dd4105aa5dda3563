-- Which images a power cut may leave, and what is recovered from them.
use Rattle.std.specs.Prelude.{◌≡◌, ◌⊎◌, ℕ, ◌<◌, ◌≤◌, not, ◌==◌, true, List, ◌++◌, filter, length, map, slice_index, take, Option, Some, None, Contains}
use Rattle.mv_model.specs.declared.call.Call.{Call}
use Rattle.mv_model.specs.declared.call.Call.TheVariants as call
use Rattle.mv_model.specs.declared.reply.Reply.TheVariants as reply
use Rattle.mv_model.specs.declared.reply.Entry.{Entry}
use Rattle.mv_model.specs.Answer.{table_named}
use Rattle.mv_model.specs.History.{after}
use Rattle.mv_model.specs.State.{State, Table}
use Rattle.mv_model.specs.View.{next_row_of}
use Rattle.pm_model.specs.Device.{Device, IsCrashImage}
use Rattle.pm_model.specs.Plans.{at_rest, plan_of, run}
use Rattle.image_layout.specs.Fixed.{commit_word_at}
use Rattle.txn_object.specs.Object.{own_object}
use Rattle.txn_object.specs.declared.entry.EntryKind.TheVariants.{Created, Ended}
pub use Rattle.stage_view.specs.StageFits.{IsUndecided, IsBornBy, IsEndedBy}
pub use Rattle.stage_view.specs.StageWords.{used_up}
use Rattle.engine_core.specs.Stage.{high_at, ended_at}
use Rattle.engine_core.specs.LogicalState.{logical_state, commit_count, next_row}
use Rattle.engine_core.specs.ImageRules.{KeepsEntryRules, IsSound}
use Rattle.engine_core.specs.Opening.{opening_parts, recovered}

-- Opening mends the image, and changes nothing of what it shows.
pub record IsRecoverable (words : List ℕ) : Type 0 where
  pub entry : KeepsEntryRules words
  pub sound : IsSound (recovered words)
  pub same : logical_state (recovered words) ≡ logical_state words

-- A power cut leaves the image after so many actions of the opening of these words.
pub record IsCutOpening (words : List ℕ) (k : ℕ) (image : List ℕ) : Type 0 where
  pub most : k ≤ length (plan_of (opening_parts words))
  pub left_by : IsCrashImage (run 0 (take k (plan_of (opening_parts words))) (at_rest words)) image

-- the image can be opened, and shows what these words do
abbrev pub ShowsStill : List ℕ → List ℕ → Type 0
ShowsStill words image = IsRecoverable image × (logical_state image ≡ logical_state words)

-- ── the same, said word by word and with no opening in it ──

-- The image fits together: each stamp is that of a commit, or opening takes it back; and every row that was given out
-- is used up, or will be.
pub record Fits (words : List ℕ) : Type 0 where
  pub entry : KeepsEntryRules words
  pub high : slice_index words high_at ≤ 4096
  pub rows : next_row words ≤ used_up words
  pub born : (row : ℕ) → row < 4096 → IsBornBy words row ⊎ IsUndecided words Created row
  pub ended : (row : ℕ) → row < 4096 → (slice_index words (ended_at row) ≡ 0)
      ⊎ (IsEndedBy words row ⊎ (IsUndecided words Ended row × (commit_count words < slice_index words (ended_at row))))

-- ── what may be recovered ──

-- the table, by its place, of which a call draws a row
abbrev pub table_drawn : State → Call → Option ℕ
table_drawn state (call.Insert name values) = table_named state name
table_drawn state (call.Update name row values) = table_named state name
table_drawn state other = None

-- an answered call was given the row
pub record IsGiven (state : State) (entry : Entry) (table row : ℕ) : Type 0 where
  pub answered : entry.answered ≡ true
  pub reply : entry.reply ≡ reply.Row row
  pub table_is : table_drawn state entry.call ≡ Some table

-- the state with no row numbers given out
abbrev pub without_rows : State → State
without_rows state = record state { tables = map {A = Table} (λ table. record table { next_row = 0 }) state.tables }

-- A state has the tables and the commits of another one, and may have given out fewer row numbers: but no fewer than at
-- the opening, and no row that an answered call was given comes again.
pub record IsRecoveryOf (opened : State) (history : List Entry) (base state : State) : Type 0 where
  pub same : without_rows state ≡ without_rows base
  pub least : (table : ℕ) → next_row_of opened table ≤ next_row_of state table
  pub given : (entry : Entry) (table row : ℕ) → Contains history entry → IsGiven base entry table row
      → row < next_row_of state table
  pub most : (table : ℕ) → next_row_of state table ≤ next_row_of base table

-- From this history the state may be recovered: the state that the history leaves, or the one that it leaves with a
-- commit whose commit word is stored and isn't durable yet.
abbrev pub MayRecoverTo : State → List Entry → List Entry → State → Type 0
MayRecoverTo opened history undecided state =
    IsRecoveryOf opened history (after opened history) state
    ⊎ IsRecoveryOf opened history (after opened (history ++ undecided)) state

-- the image shows a state that may be recovered, where these were the words at the opening
abbrev pub MayShow : List ℕ → List Entry → List Entry → List ℕ → Type 0
MayShow opened history undecided image = MayRecoverTo (logical_state opened) history undecided (logical_state image)

-- the place of the word that decides a call: of a commit, the commit word of its session's object
abbrev pub deciding_word : Entry → ℕ
deciding_word entry = commit_word_at (own_object entry.session)

-- of these entries those whose deciding word is stored and isn't durable
abbrev pub undecided : Device → List Entry → List Entry
undecided d due =
    filter (λ entry. not (slice_index d.cached (deciding_word entry) == slice_index d.durable (deciding_word entry)))
    due
