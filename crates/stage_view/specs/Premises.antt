-- What the laws of the stage's plans ask: the plan's session and the places on which it rests, and that what is to hold
-- of its cuts follows from what held before it.
use Rattle.std.specs.Prelude.{◌≡◌, ℕ, ◌+◌, ◌*◌, ◌<◌, ◌≤◌, max, Bool, IsTrue, List, length}
use Rattle.image_layout.specs.Fixed.{state_at}
use Rattle.pm_model.specs.Plans.{Part, IsPlan, finished}
use Rattle.side_by_side.specs.SideBySide.{SurvivesBeside, without}
use Rattle.stage_view.specs.Quiet.{Follows, FollowsGiven, SaysItFits, delete_parts, update_parts}
use Rattle.stage_view.specs.StageAbort.{MayAbort, SaysOf, abort_parts}
use Rattle.stage_view.specs.StageCommit.{FollowsCommit, MayCommit, ReadsForCommit, SaysBelow, commit_early, is_in}
use Rattle.stage_view.specs.StageEnding.{MayEnd, commit_late}
use Rattle.stage_view.specs.StageView.{MayInsert, ReadsObject}
use Rattle.stage_view.specs.StageWords.{insert_parts, past_entry}

-- what may be said of an image, told how many actions of each session's plan are left
abbrev pub Saying : Type 1
Saying = (ℕ → ℕ) → List ℕ → Type 0

-- a session beside others: its object, the places on which its plan rests, and the words on which the plan begins
pub record Beside : Type 0 where
  pub session : ℕ
  pub object : ℕ
  pub reads : ℕ → Bool
  pub base : List ℕ

-- from words that have P, each cut of the plan has Q
abbrev pub Survives : (P Q : Saying) → Beside → List Part → Type 0
Survives P Q here parts = SurvivesBeside here.session P Q here.reads here.base parts

-- ── plans that show no commit more ──

-- The plan rests on its session's object; P says that the words fit; and Q follows from P across a quiet plan that
-- gives out rows below the bound.
pub record FollowsQuietly (bound : ℕ) (P Q : Saying) (here : Beside) : Type 0 where
  pub object : ReadsObject here.object here.reads
  pub fits : SaysItFits P
  pub follows : (left : ℕ → ℕ) → Follows bound P Q (without here.session left) left

-- the same across a plan at whose end this row was given out
pub record FollowsRow (row : ℕ) (P Q : Saying) (here : Beside) : Type 0 where
  pub object : ReadsObject here.object here.reads
  pub fits : SaysItFits P
  pub follows : (left : ℕ → ℕ) → FollowsGiven here.session P Q (without here.session left) left row

-- a row that a transaction creates: which entry of the object it gets, the entry's word, its number, and its value
pub record NewRow : Type 0 where
  pub nth : ℕ
  pub entry : ℕ
  pub row : ℕ
  pub value : ℕ

abbrev pub inserting : Beside → NewRow → List Part
inserting here new = insert_parts here.object new.nth new.entry new.row new.value

-- the entry is free, and its word says that the transaction created the row
pub record MayAdd (here : Beside) (new : NewRow) : Type 0 where
  pub free : MayInsert here.base here.object new.nth new.row
  pub says : past_entry new.entry ≡ new.row + 1

-- a delete's entry is free
abbrev pub MayEnter : Beside → ℕ → ℕ → Type 0
MayEnter here nth row = MayInsert here.base here.object nth row

abbrev pub deleting : Beside → ℕ → ℕ → List Part
deleting here nth ending = delete_parts here.object nth ending

-- an update's entries: that of the row which it ends, and behind it that of the row which it creates
abbrev pub updating : Beside → NewRow → ℕ → List Part
updating here new ending = update_parts here.object new.nth ending new.entry new.row new.value

-- no row is given out that neither entry names
abbrev pub FollowsUpdate : NewRow → ℕ → (P Q : Saying) → Beside → Type 0
FollowsUpdate new ending = FollowsQuietly (max (past_entry ending) (past_entry new.entry))

-- both entries are free
pub record MayUpdate (here : Beside) (new : NewRow) : Type 0 where
  pub first : MayInsert here.base here.object new.nth new.row
  pub second : MayInsert here.base here.object (new.nth + 1) new.row

-- an abort: the rows that the transaction created, how many rows are used up then, and the places to clear
pub record Undoing : Type 0 where
  pub created : List ℕ
  pub bound : ℕ
  pub places : List ℕ

abbrev pub aborting : Beside → Undoing → List Part
aborting here undoing = abort_parts here.object undoing.created undoing.bound undoing.places

-- it rests on all stamps and on the bound, since its session holds the commit latch
pub record MayUndo (P Q : Saying) (here : Beside) (undoing : Undoing) : Type 0 where
  pub reads : ReadsForCommit here.object here.reads
  pub says : (left : ℕ → ℕ) (words : List ℕ) → P left words → SaysOf words
  pub follows : (left : ℕ → ℕ) → Follows 0 P Q (without here.session left) left
  pub plan : IsPlan (length here.base) (aborting here undoing)
  pub may : MayAbort here.base here.object undoing.created undoing.bound undoing.places

-- ── the two halves of a commit ──

-- a commit: its number, the rows that it creates and ends, and how many rows are used up then
pub record Committing : Type 0 where
  pub number : ℕ
  pub created : List ℕ
  pub ended : List ℕ
  pub bound : ℕ

-- its first half, up to the commit word
abbrev pub deciding : ℕ → Committing → List Part
deciding object commit = commit_early object commit.number commit.created commit.ended commit.bound

-- the words that it leaves
abbrev pub decided_words : ℕ → Committing → List ℕ → List ℕ
decided_words object commit words = finished (deciding object commit) words

abbrev pub MayDecide : List ℕ → ℕ → Committing → Type 0
MayDecide words object commit = MayCommit words object commit.number commit.created commit.ended commit.bound

-- each commit that P says is shown has a smaller number, and Q follows from P across the first half
pub record MayDecideBeside (P Q : Saying) (here : Beside) (commit : Committing) : Type 0 where
  pub reads : ReadsForCommit here.object here.reads
  pub below : SaysBelow commit.number P
  pub follows : (left : ℕ → ℕ) → FollowsCommit here.session commit.number P Q (without here.session left) left
  pub plan : IsPlan (length here.base) (deciding here.object commit)
  pub may : MayDecide here.base here.object commit

-- its second half: the last commit number, and then the object is idle and these places are cleared
abbrev pub ending : Beside → ℕ → List ℕ → List Part
ending here number places = commit_late here.object number places

pub record MayClose (P Q : Saying) (here : Beside) (number : ℕ) (places : List ℕ) : Type 0 where
  pub reads : ReadsForCommit here.object here.reads
  pub fits : SaysItFits P
  pub follows : (left : ℕ → ℕ) → Follows 0 P Q (without here.session left) left
  pub plan : IsPlan (length here.base) (ending here number places)
  pub may : MayEnd here.base here.object number places

-- a commit may be decided on these words, and the places to clear behind it are the object's, behind its state
pub record MayDecideAndClear (words : List ℕ) (object : ℕ) (commit : Committing) (places : List ℕ) : Type 0 where
  pub size : 32768 ≤ length words
  pub may : MayDecide words object commit
  pub behind : (w : ℕ) → IsTrue (is_in places w) → (state_at object < w) × (w < 1088 + 64 * object)
