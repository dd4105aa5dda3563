-- What a core keeps.
use Rattle.std.specs.Prelude.{◌≡◌, ◌≢◌, ◌⊎◌, ℕ, ◌+◌, ◌*◌, ◌<◌, ◌≤◌, ◌==◌, ◌&&◌, not, Bool, true, false, IsTrue, List, [], ◌∷◌, ◌++◌, length, slice_index, All}
use Rattle.mv_model.specs.declared.call.Call.TheVariants as call
use Rattle.mv_model.specs.declared.reply.Reply.TheVariants as reply
use Rattle.mv_model.specs.declared.reply.Entry.{Entry}
use Rattle.mv_model.specs.State.{State}
use Rattle.mv_model.specs.History.{IsLegal, after, state_after}
use Rattle.mv_model.specs.View.{next_row_of}
use Rattle.pm_model.specs.declared.action.Action.{Action}
use Rattle.pm_model.specs.Device.{Device}
use Rattle.pm_model.specs.Plans.{at_rest, plan_of, run, words_after}
use Rattle.image_layout.specs.Fixed.{commit_word_at}
use Rattle.side_by_side.specs.SideBySide.{Progress, Plans, left_of, ArePlaying, HoldsAtEachCut}
use Rattle.side_by_side.specs.Standing.{stands}
use Rattle.engine_core.specs.LogicalState.{commit_count, commits_in, logical_state, next_row, state_of}
use Rattle.engine_core.specs.StageRules.{IsStage}
use Rattle.engine_core.specs.StagePlans.{commit_early, commit_late}
use Rattle.engine_core.specs.Served.{is_served}
use Rattle.engine_core.specs.Actions.{late_in, plan_in}
use Rattle.engine_core.specs.Decided.{IsDecided, none_open}
use Rattle.engine_core.specs.Recoverable.{Fits, IsRecoveryOf, deciding_word}
use Rattle.engine_core.specs.Survival.{SurvivesInHalves}
use Rattle.engine_core.specs.CoreState.{EndsCertain, IsAnswered, IsOfOne, due, pending}
use Rattle.engine_core.specs.declared.flight.Flight.{Flight}
use Rattle.engine_core.specs.declared.flight.Flight.TheVariants as flight
use Rattle.engine_core.specs.declared.transactions.Transactions.{Transactions}

-- ── what each image shows that a power cut may leave ──

-- the image shows the commits of the state that these entries leave
abbrev pub ShowsAfter : List ℕ → List Entry → List ℕ → Type 0
ShowsAfter opened entries image =
    commits_in image (commit_count image) ≡ (state_after (logical_state opened) entries).commits

-- the image has the word that decides the commit of this entry
abbrev pub IsDecidedIn : List ℕ → Entry → Type 0
IsDecidedIn image entry = entry.reply ≡ reply.Committed (slice_index image (deciding_word entry))

-- the row of an entry is below this number, once the call was answered or its plan is over
abbrev pub IsGivenBelow : (ℕ → ℕ) → ℕ → Entry → Type 0
IsGivenBelow left count entry =
    (row : ℕ) → entry.reply ≡ reply.Row row → (entry.answered ≡ true) ⊎ (left entry.session ≡ 0) → row < count

-- What an image is to show when so many actions of each session's plan are left. The entries that are due are those of
-- commits that are decided and have no place yet.
pub record IsSafe (opened : List ℕ) (history due : List Entry) (left : ℕ → ℕ) (image : List ℕ) : Type 0 where
  pub fits : Fits image
  -- it shows the commits of the history; or those that are due too, and then it has their deciding words
  pub shows : ShowsAfter opened history image ⊎ (ShowsAfter opened (history ++ due) image × All (IsDecidedIn image) due)
  -- once a commit's plan is over, up to its place, the image shows it
  pub decided : All (λ entry. left entry.session ≡ 0 → ShowsAfter opened (history ++ due) image) due
  -- no fewer row numbers were given out than at the opening, no row that was given comes again, and no more than the
  -- history leaves
  pub least : next_row_of (logical_state opened) 0 ≤ next_row image
  pub given : All (IsGivenBelow left (next_row image)) history
  pub most : next_row image ≤ next_row_of (state_after (logical_state opened) history) 0

-- Of a core with this history the image recovers the state that these entries leave.
abbrev pub Recovers : List ℕ → List Entry → List Entry → List ℕ → Type 0
Recovers opened history entries image =
    IsRecoveryOf (logical_state opened) history (after (logical_state opened) entries) (logical_state image)

-- ── the plans in play ──

-- the session's call has its place: none of these entries, which are due, is the session's
abbrev pub has_place : List Entry → ℕ → Bool
has_place [] session = true
has_place (entry ∷ entries) session = not (entry.session == session) && has_place entries session

-- The words that the state stands for: each plan whose call has its place counts as played whole, and each other one as
-- not begun.
abbrev pub standing : Plans → List Entry → List ℕ → List ℕ
standing plans due base = stands 17 plans (has_place due) base

-- Session 1 is playing the first half of the plan of the commit of this number, up to the fence that makes its commit
-- word durable, and that isn't yet; the second half, of so many actions, comes behind it.
pub record IsCommitting (number late : ℕ) (now : Transactions) (left : List Action) (d : Device) (mine : Progress)
    (base : List ℕ) : Type 0 where
  pub actions : List Action
  pub decided : IsDecided base now call.Commit (reply.Committed number) actions (none_open now)
  pub halves : SurvivesInHalves (state_of base now) (state_of (words_after actions base) (none_open now))
      number late base actions
  pub parts : mine.play.parts ≡ commit_early halves.first halves.count number
  pub behind : left ≡ left_of mine ++ plan_of (commit_late halves.count number)
  pub not_yet : slice_index d.durable (commit_word_at 0) ≡ 0

-- what is left of the plan of the call: what the session plays, and behind it the second half of a commit that waits
-- for its place
abbrev pub HasLeft : Flight → Transactions → List Action → Device → Progress → List ℕ → Type 0
HasLeft flight.Idle now left d mine base = left ≡ left_of mine
HasLeft (flight.Waiting said) now left d mine base = left ≡ left_of mine
HasLeft (flight.Committing number late) now left d mine base = IsCommitting number late now left d mine base
HasLeft (flight.Placed given) now left d mine base = left ≡ left_of mine

-- ── events and actions ──

-- how many more events a call in flight may take, and what is left to play
abbrev pub IsBounded : Flight → List Action → ℕ → Type 0
IsBounded flight.Idle left events_left = left ≡ []
IsBounded (flight.Waiting said) left events_left = (left ≡ []) × (500 ≤ events_left) × IsTrue (is_served said)
IsBounded (flight.Committing number late) left events_left = (late < length left) × (length left < events_left)
IsBounded (flight.Placed given) left events_left = length left < events_left

-- So many actions were played since the words were opened, and these are left: together they are the plans of the
-- entries, one after the other.
pub record HasPlayed (d : Device) (opened : List ℕ) (entries : List Entry) (left : List Action) (played : ℕ) :
    Type 0 where
  pub actions : List Action
  pub planned : plan_in (logical_state opened) entries ≡ actions ++ left
  pub count : length actions ≡ played
  pub device : d ≡ run 1 actions (at_rest opened)

-- how many actions of a commit's plan come after the fence that makes it certain; and it has its place from there on
abbrev pub IsTimed : State → List Entry → Flight → ℕ → Type 0
IsTimed opened history flight.Idle left = Unit {0}
IsTimed opened history (flight.Waiting said) left = Unit {0}
IsTimed opened history (flight.Committing number late) left = late ≡ late_in (state_after opened history) number
IsTimed opened history (flight.Placed given) left = EndsCertain opened history left

-- ── the core ──

-- Nobody but session 1 writes. The history is legal from the state that the opened words stand for, and leaves the
-- state that the words stand for.
pub record IsKept (d : Device) (opened : List ℕ) (history : List Entry) (now : Transactions) (left : List Action)
    (in_flight : Flight) (events_left played started : ℕ) : Type 0 where
  -- the plans in play, as the proof sees them, and the words with every plan taken back to its start
  pub plans : Plans
  pub base : List ℕ
  pub playing : ArePlaying 17 plans base d
  -- no other session's plan has words of its own, and what is left of session 1's is what the call has yet to play
  pub others : (session w : ℕ) → session ≢ 1 → (plans session).play.own w ≡ false
  pub plan : HasLeft in_flight now left d (plans 1) base
  -- the history, and what the words stand for
  pub legal : IsLegal (logical_state opened) history
  pub represents : state_after (logical_state opened) history
      ≡ state_of (standing plans (due (length history) in_flight) base) now
  pub stage : IsStage (standing plans (due (length history) in_flight) base) now.running
  -- every cut, now and after any further actions
  pub safe : HoldsAtEachCut 17 (IsSafe opened history (due (length history) in_flight)) plans base
  -- exactly the entry of a call in flight isn't answered, and each entry is of session 1
  pub answers : IsAnswered in_flight history
  pub alone : IsOfOne history
  -- each call that was started has its entry, or is in flight without one
  pub count : length history + pending in_flight ≡ started
  -- no more transactions were begun than there are entries
  pub begun : now.begun ≤ length history
  -- a call in flight has events left for what it has to play, and all calls together have had no more than their share
  pub bounded : IsBounded in_flight left events_left
  pub actions : played + events_left ≤ 65536 * started
  -- what was played and what is left to play are the plans of the entries, one after the other
  pub done : HasPlayed d opened (history ++ due (length history) in_flight) left played
  pub timed : IsTimed (logical_state opened) history in_flight (length left)
