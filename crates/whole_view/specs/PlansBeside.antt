-- A plan of a transaction beside any others: the words on which each may begin, and what its cuts keep.
use Rattle.std.specs.Prelude.{ℕ, ◌+◌, ◌≤◌, Bool, IsTrue, List, [], ◌∷◌, Contains, length}
use Rattle.image_layout.specs.Fixed.{last_at}
use Rattle.image_layout.specs.Objects.{entry_places}
use Rattle.pm_model.specs.Plans.{Part, IsPlan}
use Rattle.side_by_side.specs.SideBySide.{SurvivesBeside, without}
use Rattle.whole_view.specs.Premises.{AreCodes, HasNoEntry, MayAbort, MayCommit, MayEnd, MayEnter, MayRetire, ReadsCodes, ReadsCreators, ReadsEnded, ReadsMembers, ReadsObject, ReadsRowsOf}
use Rattle.whole_view.specs.Quiet.{Claimed, Follows, FollowsCommit, FollowsGiven, SaysItFits, SaysItsLast, SaysLast, SaysOf}
use Rattle.whole_view.specs.TransactionParts.{Ended, Mark, Member, abort_parts, commit_parts, end_parts, insert_parts, marks_part, retire_parts, update_parts}
use Rattle.whole_view.specs.WholeView.{is_said}

-- ── what a plan keeps ──

-- Words that fit are claimed, and what is to hold follows from it across a quiet plan of the session: then it holds of
-- each cut of this plan, wherever the plan may begin.
abbrev pub KeepsQuiet : ℕ → (P Q : Claimed) → ((ℕ → Bool) → List ℕ → Type 0) → (List ℕ → List Part) → Type 0
KeepsQuiet session P Q may parts =
    SaysItFits P → ((left : ℕ → ℕ) → Follows P Q (without session left) left)
    → (reads : ℕ → Bool) (base : List ℕ) → may reads base → SurvivesBeside session P Q reads base (parts base)

-- a new row: the entry that says so, its place among those of an object, and the codes of the row's values
pub record NewRow : Type 0 where
  pub table : ℕ
  pub row : ℕ
  pub object : ℕ
  pub nth : ℕ
  pub entry : ℕ
  pub codes : List Mark

-- the same for a plan at whose end a row was given out
abbrev pub KeepsGiven : ℕ → (P Q : Claimed) → NewRow → ((ℕ → Bool) → List ℕ → Type 0) → (List ℕ → List Part) → Type 0
KeepsGiven session P Q new may parts =
    SaysItFits P → ((left : ℕ → ℕ) → FollowsGiven session P Q (without session left) left new.table new.row)
    → (reads : ℕ → Bool) (base : List ℕ) → may reads base → SurvivesBeside session P Q reads base (parts base)

-- the same for the first plan of a commit up to a number, where the claim also says which was the last one
abbrev pub KeepsDecided : ℕ → (P Q : Claimed) → ℕ → List Mark → ((ℕ → Bool) → List ℕ → Type 0) → Type 0
KeepsDecided session P Q number marks may =
    SaysItFits P → SaysItsLast P → ((left : ℕ → ℕ) → FollowsCommit session number P Q marks (without session left) left)
    → (reads : ℕ → Bool) (base : List ℕ) → may reads base
    → SurvivesBeside session P Q reads base (commit_parts base marks number)

-- ── where it may begin ──

-- a begin
pub record BeginsOn (object : ℕ) (reads : ℕ → Bool) (base : List ℕ) : Type 0 where
  -- the plan rests on the words of the object
  pub read : ReadsObject base object reads
  -- which is idle
  pub idle : HasNoEntry base object 0

-- one more entry
pub record EntersOn (object nth : ℕ) (reads : ℕ → Bool) (base : List ℕ) : Type 0 where
  -- the plan rests on the words of the object
  pub read : ReadsObject base object reads
  -- which is open, with room there
  pub may : MayEnter base object nth

-- codes of rows, whose words every claimed image has
pub record WritesCodesOn (P : Claimed) (codes : List Mark) (reads : ℕ → Bool) (base : List ℕ) : Type 0 where
  -- the plan rests on the words that lead to them
  pub read : ReadsCodes base codes reads
  -- they are codes in each image of which the claim holds
  pub are : (left : ℕ → ℕ) (words : List ℕ) → P left words → AreCodes words codes
  pub plan : IsPlan (length base) (marks_part base codes ∷ [])

-- a retire that clears so many entries
pub record RetiresOn (object count : ℕ) (reads : ℕ → Bool) (base : List ℕ) : Type 0 where
  -- the plan rests on the object and the stamps of its rows
  pub read : ReadsRowsOf base object reads
  pub plan : IsPlan (length base) (retire_parts base object count)
  -- nothing of the transaction needs to be undone
  pub may : MayRetire base object count

-- an abort that writes these marks, and clears so many entries
pub record AbortsOn (object : ℕ) (marks : List Mark) (count : ℕ) (reads : ℕ → Bool) (base : List ℕ) : Type 0 where
  -- the plan rests on the object and the stamps of its rows
  pub read : ReadsRowsOf base object reads
  pub plan : IsPlan (length base) (abort_parts base marks object count)
  -- the marks are those of dead rows
  pub may : MayAbort base object marks count

-- a new row's entry and codes: they are read, the entry says that the row is new, and the codes are codes everywhere
pub record AddsRowOn (P : Claimed) (new : NewRow) (reads : ℕ → Bool) (base : List ℕ) : Type 0 where
  pub read : ReadsObject base new.object reads
  pub codes_read : ReadsCodes base new.codes reads
  -- they are codes in each image of which the claim holds
  pub codes : (left : ℕ → ℕ) (words : List ℕ) → P left words → AreCodes words new.codes
  -- the entry says that the row was created
  pub said : IsTrue (is_said 1 new.table new.row new.entry)
  -- the object is open, with room for the entry
  pub may : MayEnter base new.object new.nth

-- an insert
pub record InsertsOn (P : Claimed) (new : NewRow) (reads : ℕ → Bool) (base : List ℕ) : Type 0 where
  pub adds : AddsRowOn P new reads base
  pub plan : IsPlan (length base) (insert_parts base new.object new.nth new.entry new.codes)

-- an update, with the entry of the row that is ended
pub record UpdatesOn (P : Claimed) (ending : ℕ) (new : NewRow) (reads : ℕ → Bool) (base : List ℕ) : Type 0 where
  pub adds : AddsRowOn P new reads base
  -- there is room for the second entry too
  pub more : MayEnter base new.object (new.nth + 1)
  pub plan : IsPlan (length base) (update_parts base new.object new.nth ending new.entry new.codes)

-- a commit of a group, up to the fence of the last commit number
pub record DecidesOn (group : List Member) (marks : List Mark) (number : ℕ) (reads : ℕ → Bool) (base : List ℕ) :
    Type 0 where
  -- the plan rests on the last commit number, on the rows of each member, and on who created those that it ended
  pub last_read : IsTrue (reads last_at)
  pub read : ReadsMembers base group reads
  pub creators_read : ReadsCreators base group reads
  pub plan : IsPlan (length base) (commit_parts base marks number)
  -- the marks are the group's, and its numbers are the next ones
  pub may : MayCommit base group marks number

-- the end of a group
pub record EndsOn (ended : List Ended) (reads : ℕ → Bool) (base : List ℕ) : Type 0 where
  -- the plan rests on each member's object and the stamps of its rows
  pub read : ReadsEnded base ended reads
  pub plan : IsPlan (length base) (end_parts base ended)
  -- each of them may be retired
  pub may : MayEnd base ended

-- ── between the two plans of a commit ──

-- these words fit and say which commit was the last one, and the group may commit on them
pub record MayDecide (words : List ℕ) (group : List Member) (marks : List Mark) (number : ℕ) : Type 0 where
  pub says : SaysOf words
  pub last : SaysLast words
  pub may : MayCommit words group marks number
  pub plan : IsPlan (length words) (commit_parts words marks number)

-- on the later words each member may be retired, and no more entries cleared than its object had room for
abbrev pub EachMayRetire : List ℕ → List Member → List ℕ → Type 0
EachMayRetire words group later =
    (member : Member) (count : ℕ) → Contains group member → count ≤ length (entry_places words member.object)
    → MayRetire later member.object count
