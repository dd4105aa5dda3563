-- What opening leaves as it is.
use Rattle.std.specs.Prelude.{◌≡◌, ℕ, ◌<◌, List}
use Rattle.mv_model.specs.State.{empty}
use Rattle.image_layout.specs.SoundRules.{IsSound}
use Rattle.image_layout.specs.Fresh.{fresh_words}
use Rattle.shown_state.specs.LogicalState.{logical_state}
use Rattle.shown_state.specs.Mending.{recovered}
use Rattle.shown_state.specs.Recoverable.{IsRecoverable}

-- a formatted image shows the empty state
abbrev pub FormattedShowsNothing : Type 0
FormattedShowsNothing = (segments : ℕ) → 0 < segments → logical_state (fresh_words segments) ≡ empty

-- opening changes no word of a sound image
abbrev pub SoundIsRecovered : Type 0
SoundIsRecovered = (words : List ℕ) → IsSound words → recovered words ≡ words

-- a sound image is recoverable, and so a formatted one is
abbrev pub SoundIsRecoverable : Type 0
SoundIsRecoverable = (words : List ℕ) → IsSound words → IsRecoverable words

abbrev pub FormattedIsRecoverable : Type 0
FormattedIsRecoverable = (segments : ℕ) → 0 < segments → IsRecoverable (fresh_words segments)
