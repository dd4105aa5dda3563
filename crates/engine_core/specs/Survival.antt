-- What the images show that a power cut may leave while the plan of a call is played, whatever is played beside it.
use Rattle.std.specs.Prelude.{◌≡◌, ◌⊎◌, ℕ, ◌+◌, ◌<◌, ◌≤◌, max, Bool, ◌||◌, ◌==◌, List, length, slice_index, Option, None, Some}
use Rattle.mv_model.specs.State.{State, WriteSet}
use Rattle.mv_model.specs.View.{next_row_of}
use Rattle.mv_model.specs.declared.reply.Reply.{Reply}
use Rattle.mv_model.specs.declared.reply.Reply.TheVariants as reply
use Rattle.pm_model.specs.declared.action.Action.{Action}
use Rattle.pm_model.specs.Changes.{AreSameAt}
use Rattle.image_layout.specs.Fixed.{last_at, state_at, commit_word_at}
use Rattle.pm_model.specs.Plans.{Part, IsPlan, plan_of, finished, EachCut}
use Rattle.engine_core.specs.LogicalState.{commit_count, commits_in, next_row, within}
use Rattle.engine_core.specs.Recoverable.{Fits}
use Rattle.engine_core.specs.Stage.{high_at, born_at, value_at}
use Rattle.engine_core.specs.StagePlans.{commit_early, commit_late, commit_parts}
use Rattle.engine_core.specs.declared.decision.Late.{Late}

-- the commits that an image shows
abbrev pub shown_commits : List ℕ → List WriteSet
shown_commits image = commits_in image (commit_count image)

-- The image fits together, and shows these commits. It has given out each row that the words have, and no more but
-- those below this one.
pub record IsShown (commits : List WriteSet) (bound : ℕ) (words image : List ℕ) : Type 0 where
  pub fits : Fits image
  pub commits_are : shown_commits image ≡ commits
  pub least : next_row words ≤ next_row image
  pub most : next_row image ≤ max (next_row words) bound

-- the image shows the commits of the first state; or those of the second, and then it has the commit word
abbrev pub IsShownUntil : State → State → ℕ → List ℕ → List ℕ → Type 0
IsShownUntil before after number words image = IsShown before.commits 0 words image
    ⊎ (IsShown after.commits 0 words image × (slice_index image (commit_word_at 0) ≡ number))

-- Words on which a plan may be played that rests on these places: they fit, show the commits of the state, and are
-- those of the base at the places. They may hold any half-played plans of others.
pub record IsLike (reads : ℕ → Bool) (state : State) (base words : List ℕ) : Type 0 where
  pub size : length words ≡ length base
  pub same : AreSameAt reads words base
  pub fits : Fits words
  pub shows : shown_commits words ≡ state.commits

-- ── what the plans of session 1 rest on ──

-- the words of its object
abbrev pub is_own : ℕ → Bool
is_own = within (state_at 0) 64

-- and the stamp of the row that it creates
abbrev pub insert_reads : ℕ → ℕ → Bool
insert_reads row w = is_own w || w == born_at row

-- and for a commit of so many rows from the first on the last number, the bound, all stamps, and the rows' values
abbrev pub commit_reads : ℕ → ℕ → ℕ → Bool
commit_reads first count w =
    is_own w || (w == last_at || (w == high_at || (within (born_at 0) 8192 w || within (value_at first) count w)))

-- ── what each cut shows ──

-- a row that is given has a number below this one
abbrev pub IsRowBelow : ℕ → Reply → Type 0
IsRowBelow count (reply.Row row) = row < count
IsRowBelow count other = Unit {0}

-- These actions are a plan of which each cut shows the commits that were shown before it. Where the reply gives a row,
-- its number is given out at the end.
pub record SurvivesCuts (before after : State) (given : Reply) (base : List ℕ) (actions : List Action) : Type 0 where
  pub parts : List Part
  pub plan : IsPlan (length base) parts
  pub plan_is : actions ≡ plan_of parts
  pub reads : ℕ → Bool
  pub bound : ℕ
  pub each : (words : List ℕ) → IsLike reads before base words
      → EachCut (IsShown before.commits bound words) parts words
  pub end : (words : List ℕ) → IsLike reads before base words → bound ≤ next_row (finished parts words)
  pub below : IsRowBelow bound given
  pub commits : after.commits ≡ before.commits
  pub rows : next_row_of before 0 ≤ next_row_of after 0
  pub most : bound ≤ next_row_of after 0

-- the words that the first half of a commit leaves
abbrev pub words_decided : ℕ → ℕ → ℕ → List ℕ → List ℕ
words_decided first count number base = finished (commit_early first count number) base

-- These actions are the plan of the commit of this number, the next one in these words: a first half up to the fence
-- that makes the commit word durable, and a second half of so many actions. The commit gives out no row more.
pub record SurvivesInHalves (before after : State) (number late : ℕ)
    (base : List ℕ) (actions : List Action) : Type 0 where
  pub first : ℕ
  pub count : ℕ
  pub plan : IsPlan (length base) (commit_parts first count number)
  pub plan_is : actions ≡ plan_of (commit_parts first count number)
  pub late_is : late ≡ length (plan_of (commit_late count number))
  pub next : slice_index base last_at + 1 ≡ number
  pub unset : slice_index base (commit_word_at 0) ≡ 0
  pub rows : next_row_of after 0 ≡ next_row_of before 0
  pub early : (words : List ℕ) → IsLike (commit_reads first count) before base words
      → EachCut (IsShownUntil before after number words) (commit_early first count number) words
  pub decided : (words : List ℕ) → IsLike (commit_reads first count) before base words
      → IsShown after.commits 0 words (finished (commit_early first count number) words)
  pub later : (words : List ℕ) → IsLike (commit_reads first count) after (words_decided first count number base) words
      → EachCut (IsShown after.commits 0 words) (commit_late count number) words

-- What each cut shows while a call takes the first state to the second: the commits of both; but a commit that waits
-- for its place is played in two halves.
abbrev pub IsSurvived : State → State → Option Late → Reply → List ℕ → List Action → Type 0
IsSurvived before after None given base actions = SurvivesCuts before after given base actions
IsSurvived before after (Some late) given base actions =
    SurvivesInHalves before after late.number late.left base actions
