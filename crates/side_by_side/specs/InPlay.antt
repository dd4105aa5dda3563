-- Sessions in play at one moment, and what comes next for one of them.
use Rattle.std.specs.Prelude.{◌≡◌, ℕ, ◌<◌, Bool, true, false, IsTrue, List, [], ◌∷◌}
use Rattle.pm_model.specs.declared.action.Action.{Action}
use Rattle.pm_model.specs.Device.{Device}
use Rattle.pm_model.specs.Plans.{Play, IsPlayable, finished, plan_of}
use Rattle.side_by_side.specs.SideBySide.{Plans, left_of, advanced, begun, idle, with_plan, ArePlaying, IsLater, HoldsAtEachCut, SurvivesBeside, MayJoin, AreReadApart}
use Rattle.side_by_side.specs.Standing.{stands, SameButFor}
use Rattle.side_by_side.specs.Written.{WritesOnly}

-- how many sessions there are, their plans, the words with every plan taken back to its start, and the device
pub record InPlay : Type 0 where
  pub count : ℕ
  pub plans : Plans
  pub base : List ℕ
  pub device : Device

-- they play these plans on the device
abbrev pub IsInPlay : InPlay → Type 0
IsInPlay m = ArePlaying m.count m.plans m.base m.device

-- P holds of each image that a power cut may leave of them, now or later
abbrev pub HoldsIn : ((ℕ → ℕ) → List ℕ → Type 0) → InPlay → Type 0
HoldsIn P m = HoldsAtEachCut m.count P m.plans m.base

-- what P says of each image now or later, Q says too
abbrev pub GivesLater : (P Q : (ℕ → ℕ) → List ℕ → Type 0) → ℕ → Plans → Type 0
GivesLater P Q n plans = (left : ℕ → ℕ) (image : List ℕ) → IsLater n plans left → P left image → Q left image

-- what their words stand for
abbrev pub standing : InPlay → (ℕ → Bool) → List ℕ
standing m placed = stands m.count m.plans placed m.base

-- ── one of them plays on ──

-- a session has this action to play next
pub record HasNext (m : InPlay) (session : ℕ) (action : Action) (rest : List Action) : Type 0 where
  pub is_one : session < m.count
  pub playing : IsInPlay m
  pub left : left_of (m.plans session) ≡ action ∷ rest

-- the plans once one more action of it was played
abbrev pub plans_after : InPlay → ℕ → Plans
plans_after m session = with_plan m.plans session (advanced (m.plans session))

-- ── one of them begins a plan ──

-- a session may begin this plan beside the others
pub record Begins (m : InPlay) (session : ℕ) (play : Play) : Type 0 where
  pub is_one : session < m.count
  pub playing : IsInPlay m
  pub playable : IsPlayable play
  pub may : MayJoin m.count session m.plans play m.device

-- the plans once it has begun it
abbrev pub plans_with : InPlay → ℕ → Play → Plans
plans_with m session play = with_plan m.plans session (begun play)

-- it may begin this plan, which reads what no other one owns, and from words that have P each cut of the plan has Q
pub record KeepsBeside (P Q : (ℕ → ℕ) → List ℕ → Type 0) (m : InPlay) (session : ℕ) (play : Play) (reads : ℕ → Bool) :
    Type 0 where
  pub begins : Begins m session play
  pub apart : AreReadApart m.count session m.plans reads
  pub law : SurvivesBeside session P Q reads m.base play.parts

-- it may begin this plan, and its call gets its place, or waits for it; the places of other calls stay
pub record GetsPlace (m : InPlay) (session : ℕ) (play : Play) (placed after : ℕ → Bool) : Type 0 where
  pub begins : Begins m session play
  pub others : SameButFor session placed after
  pub now : after session ≡ true

pub record Waits (m : InPlay) (session : ℕ) (play : Play) (placed after : ℕ → Bool) : Type 0 where
  pub begins : Begins m session play
  pub others : SameButFor session placed after
  pub now : after session ≡ false

-- ── one of them ends ──

-- a session has nothing left to play
pub record HasEnded (m : InPlay) (session : ℕ) : Type 0 where
  pub is_one : session < m.count
  pub playing : IsInPlay m
  pub left : left_of (m.plans session) ≡ []

-- its call had its place before, or gets it now; the places of other calls stay
pub record EndsPlaced (m : InPlay) (session : ℕ) (placed after : ℕ → Bool) : Type 0 where
  pub ended : HasEnded m session
  pub others : SameButFor session placed after
  pub before : placed session ≡ true

pub record EndsUnplaced (m : InPlay) (session : ℕ) (placed after : ℕ → Bool) : Type 0 where
  pub ended : HasEnded m session
  pub others : SameButFor session placed after
  pub before : placed session ≡ false

-- the words and the plans without its plan
abbrev pub words_without : InPlay → ℕ → List ℕ
words_without m session = finished (m.plans session).play.parts m.base

abbrev pub plans_without : InPlay → ℕ → Plans
plans_without m session = with_plan m.plans session (idle session (words_without m session))

-- ── what one of them writes ──

-- a session's plan owns the word, and Q holds of each place and value that the plan writes
pub record OwnsAndWrites (Q : ℕ → ℕ → Type 0) (m : InPlay) (session w : ℕ) : Type 0 where
  pub is_one : session < m.count
  pub playing : IsInPlay m
  pub own : IsTrue ((m.plans session).play.own w)
  pub only : WritesOnly Q (plan_of (m.plans session).play.parts)
