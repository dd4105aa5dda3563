-- What each step of opening keeps of an image that fits together, and what follows for opening.
use Rattle.std.specs.Prelude.{◌≡◌, ℕ, ◌+◌, ◌<◌, ◌≤◌, false, List, length, take, slice_index, All}
use Rattle.pm_model.specs.Device.{IsCrashImage}
use Rattle.image_layout.specs.Fixed.{lane_op_at, last_at, state_at, version_at}
use Rattle.pm_model.specs.Plans.{IsPlan, EachCut, finished, run, at_rest}
use Rattle.image_layout.specs.Records.{new_leaf_at, split_leaf_at}
use Rattle.image_layout.specs.Tables.{all_columns}
use Rattle.image_layout.specs.Objects.{commit_word, entry_places, last_commit}
use Rattle.image_layout.specs.Owners.{next_table_slots, next_text_slots}
use Rattle.image_layout.specs.SoundRules.{IsIntact, IsSound}
use Rattle.shown_state.specs.Mending.{lane_mending, split_mending, slot_mending, text_mending, last_mending, undo_mending, close_mending, clear_mending, version_mending, reached_by_opening, recovered}
use Rattle.shown_state.specs.Recoverable.{IsRecoverable}
use Rattle.shown_state.specs.Fits.{is_undecided, BeginFirst, Fits}
use Rattle.shown_state.specs.OpeningParts.{opening_plan, IsImage, opening_parts, FitsStill, StepKeeps}

-- ── what is mended so far ──

-- lanes below a number are idle
abbrev pub LanesAreIdle : ℕ → List ℕ → Type 0
LanesAreIdle lanes words = (lane : ℕ) → lane < lanes → slice_index words (lane_op_at lane) ≡ 0

-- the split logs of the first columns are null
abbrev pub NoneIsSplit : ℕ → List ℕ → Type 0
NoneIsSplit columns words =
    All (λ column. (slice_index words (split_leaf_at column) ≡ 0) × (slice_index words (new_leaf_at column) ≡ 0))
    (take columns (all_columns words))

-- no table is being created
abbrev pub NoTableIsNew : List ℕ → Type 0
NoTableIsNew words = All (λ at. slice_index words at ≡ 0) (next_table_slots words)

-- no text is being added to the first columns
abbrev pub NoTextIsNew : ℕ → List ℕ → Type 0
NoTextIsNew columns words =
    All (λ column. All (λ at. slice_index words at ≡ 0) (next_text_slots words column))
    (take columns (all_columns words))

-- the objects below a number have no undecided transaction, or none that is open, or no entries and no commit word
abbrev pub NoneIsUndecided : ℕ → List ℕ → Type 0
NoneIsUndecided objects words = (object : ℕ) → object < objects → is_undecided words object ≡ false

abbrev pub NoneIsOpen : ℕ → List ℕ → Type 0
NoneIsOpen objects words = (object : ℕ) → object < objects → slice_index words (state_at object) ≡ 0

abbrev pub NoneHasEntries : ℕ → List ℕ → Type 0
NoneHasEntries objects words =
    (object : ℕ) → object < objects
    → (commit_word words object ≡ 0) × All (λ at. slice_index words at ≡ 0) (entry_places words object)

-- What the steps have mended: the lanes below a number; all of them, and the splits of so many columns; these too, and
-- the table slot, and the texts of so many columns.
abbrev pub AreIdle : ℕ → List ℕ → Type 0
AreIdle lanes words = LanesAreIdle lanes words

abbrev pub AreJoined : ℕ → List ℕ → Type 0
AreJoined columns words = AreIdle 16 words × NoneIsSplit columns words

abbrev pub HaveNoNew : ℕ → List ℕ → Type 0
HaveNoNew columns words = AreJoined 512 words × NoTableIsNew words × NoTextIsNew columns words

-- All this, and the last number is that of the last commit, and of so many objects no transaction is undecided; none
-- is undecided and of so many objects none is open; none is open, and so many objects are clear; all are, and the
-- version is 2.
abbrev pub AreUndone : ℕ → List ℕ → Type 0
AreUndone objects words =
    HaveNoNew 512 words × (slice_index words last_at ≡ last_commit words) × NoneIsUndecided objects words

abbrev pub AreClosed : ℕ → List ℕ → Type 0
AreClosed objects words = AreUndone 16 words × NoneIsOpen objects words

abbrev pub AreClear : ℕ → List ℕ → Type 0
AreClear objects words = AreClosed 16 words × NoneHasEntries objects words

abbrev pub AreMended : List ℕ → Type 0
AreMended words = AreClear 16 words × (slice_index words version_at ≡ 2)

-- ── the steps, each by itself ──

abbrev pub LanesKeep : Type 0
LanesKeep =
    (words : List ℕ) (lane : ℕ) → IsImage words → lane < 16 → Fits words → AreIdle lane words
    → StepKeeps (AreIdle (lane + 1)) (lane_mending lane) words

abbrev pub SplitsKeep : Type 0
SplitsKeep =
    (words : List ℕ) (column : ℕ) → IsImage words → column < 512 → Fits words → AreJoined column words
    → StepKeeps (AreJoined (column + 1)) (split_mending column) words

abbrev pub SlotKeeps : Type 0
SlotKeeps =
    (words : List ℕ) → IsImage words → Fits words → AreJoined 512 words → StepKeeps (HaveNoNew 0) slot_mending words

abbrev pub TextsKeep : Type 0
TextsKeep =
    (words : List ℕ) (column : ℕ) → IsImage words → column < 512 → Fits words → HaveNoNew column words
    → StepKeeps (HaveNoNew (column + 1)) (text_mending column) words

abbrev pub LastKeeps : Type 0
LastKeeps =
    (words : List ℕ) → IsImage words → Fits words → HaveNoNew 512 words → StepKeeps (AreUndone 0) last_mending words

abbrev pub UndosKeep : Type 0
UndosKeep =
    (words : List ℕ) (object : ℕ) → IsImage words → object < 16 → Fits words → AreUndone object words
    → StepKeeps (AreUndone (object + 1)) (undo_mending object) words

abbrev pub ClosesKeep : Type 0
ClosesKeep =
    (words : List ℕ) (object : ℕ) → IsImage words → object < 16 → Fits words → AreClosed object words
    → StepKeeps (AreClosed (object + 1)) (close_mending object) words

abbrev pub ClearsKeep : Type 0
ClearsKeep =
    (words : List ℕ) (object : ℕ) → IsImage words → object < 16 → Fits words → AreClear object words
    → StepKeeps (AreClear (object + 1)) (clear_mending object) words

abbrev pub VersionKeeps : Type 0
VersionKeeps =
    (words : List ℕ) → IsImage words → Fits words → AreClear 16 words → StepKeeps AreMended version_mending words

-- the nine steps
pub record StepsKeep : Type 0 where
  pub lanes : LanesKeep
  pub splits : SplitsKeep
  pub slot : SlotKeeps
  pub texts : TextsKeep
  pub last : LastKeeps
  pub undos : UndosKeep
  pub closes : ClosesKeep
  pub clears : ClearsKeep
  pub version : VersionKeeps

-- What the steps keep, opening keeps: its parts leave the recovered words, it is never stopped, each power cut leaves
-- what fits and shows the same, and at its end all is mended.
pub record OpensStill (words : List ℕ) : Type 0 where
  pub plan : IsPlan (length words) (opening_parts words)
  pub reaches : finished (opening_parts words) words ≡ recovered words
  pub goes_on : (reached_by_opening words).stopped ≡ false
  pub cuts : EachCut (FitsStill words) (opening_parts words) words
  pub end : AreMended (recovered words)

abbrev pub StepsMakeOpening : Type 0
StepsMakeOpening = StepsKeep → (words : List ℕ) → IsImage words → Fits words → OpensStill words

-- On any words, the parts that opening plays leave the recovered words.
abbrev pub PartsRecover : Type 0
PartsRecover = (words : List ℕ) → finished (opening_parts words) words ≡ recovered words

-- What fits is kept after any of its actions, on the device.
abbrev pub StepsKeepCuts : Type 0
StepsKeepCuts =
    StepsKeep → (words : List ℕ) (k : ℕ) (image : List ℕ) → IsImage words → Fits words → k ≤ length (opening_plan words)
    → IsCrashImage (run 0 (take k (opening_plan words)) (at_rest words)) image → FitsStill words image

-- what fits and has nothing left to mend is sound
abbrev pub EndIsSound : Type 0
EndIsSound = (words : List ℕ) → Fits words → AreMended words → IsSound words

-- so what fits is recoverable, where the steps keep it
abbrev pub StepsRecover : Type 0
StepsRecover = StepsKeep → (words : List ℕ) → IsImage words → Fits words → IsRecoverable words

-- an intact image fits, of version 1 where what version 2 reads beside it is 0
abbrev pub IntactFits : Type 0
IntactFits = (words : List ℕ) → IsImage words → IsIntact words → BeginFirst words → Fits words

-- so a sound image fits
abbrev pub SoundFits : Type 0
SoundFits = (words : List ℕ) → IsImage words → IsSound words → Fits words
