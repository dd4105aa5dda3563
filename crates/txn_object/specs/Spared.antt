-- The words of a transaction object, and parts that leave them alone.
use Rattle.std.specs.Prelude.{◌≡◌, ℕ, ◌<◌, ◌≤◌, false, List, length, slice_index}
use Rattle.image_layout.specs.Fixed.{state_at, commit_word_at, ready_at}
use Rattle.pm_model.specs.Plans.{Part, plan_of, footprint}
use Rattle.image_layout.specs.Objects.{ready_count, segment_pointer_at, entry_places}
use Rattle.txn_object.specs.Object.{nth_place}

-- a word of the object: its state, its commit word, the count of its ready segments, the pointer to one of them or that
-- behind them, or an entry word
pub data IsOfObject (words : List ℕ) (object : ℕ) : ℕ → Type 0 where
  its_state : IsOfObject words object (state_at object)
  its_commit_word : IsOfObject words object (commit_word_at object)
  its_count : IsOfObject words object (ready_at object)
  its_pointer : (segment : ℕ) → segment ≤ ready_count words object
      → IsOfObject words object (segment_pointer_at words object segment)
  its_entry : (nth : ℕ) → nth < length (entry_places words object)
      → IsOfObject words object (nth_place words object nth)

-- they are the same
pub record KeepsObject (old : List ℕ) (object : ℕ) (new : List ℕ) : Type 0 where
  pub size : length new ≡ length old
  pub each : (w : ℕ) → IsOfObject old object w → slice_index new w ≡ slice_index old w

-- these parts write none of them
abbrev pub SparesObject : List ℕ → ℕ → List Part → Type 0
SparesObject words object parts = (w : ℕ) → IsOfObject words object w → footprint (plan_of parts) w ≡ false
