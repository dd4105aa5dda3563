-- A session plays alone: the words when its plan has ended, and when its next plan joins. The law of a plan is one beside
-- any others.
use Rattle.std.proofs.Common.{◌≡◌, ◌≢◌, ℕ, ◌<◌, Bool, true, false, List, [], ◌∷◌, length, get_or, refl, sym, ◌∙◌, ap, subst, arith}
use Rattle.std.proofs.lemmas.Bool.{both_ways}
use Rattle.pm_model.specs.declared.action.Action.{Action}
use Rattle.pm_model.specs.Device.{Device, acted, IsClean}
use Rattle.pm_model.specs.Plans.{Play, Part, IsPlan, IsPlayable, IsPlaying, EachCut, finished, footprint, plan_of}
use Rattle.pm_model.specs.Changes.{Change, HoldsOnWords}
use Rattle.mv_model.specs.State.{State}
use Rattle.engine_core.specs.Recoverable.{Fits}
use Rattle.engine_core.specs.Survival.{IsLike, shown_commits}
use Rattle.pm_model.proofs.Words.{ext_words}
use Rattle.pm_model.proofs.PlanLaw.{plan_goes_on}
use Rattle.side_by_side.specs.SideBySide.{Progress, Plans, left_of, advanced, begun, idle, with_plan, ArePlaying, HoldsAtEachCut, MayJoin, SurvivesBeside, without}
use Rattle.side_by_side.specs.Standing.{stands}
use Rattle.side_by_side.proofs.Changed.{survives_beside}
use Rattle.side_by_side.proofs.Cutting.{holds-plays, playing-plays, with-elim, with-other, with-same}
use Rattle.side_by_side.proofs.Joining.{holds-ends, holds-joins, playing-ends, playing-joins}
use Rattle.side_by_side.proofs.Standing.{length-stands, stands-base, stands-ends, stands-joins, stands-plays}

-- no session but this one owns a word
abbrev pub AreAlone : ℕ → Plans → Type 0
AreAlone session plans = (t w : ℕ) → t ≢ session → (plans t).play.own w ≡ false

-- no session owns one
abbrev pub AreIdle : Plans → Type 0
AreIdle plans = (session w : ℕ) → (plans session).play.own w ≡ false

pub alone-with : (session : ℕ) (plans : Plans) (p : Progress) → AreAlone session plans → AreAlone session (with_plan plans session p)
alone-with session plans p others t w apart = subst (λ (q : Progress). q.play.own w ≡ false) (sym (with-other plans session p t apart)) (others t w apart)

-- ── an action ──

module _ (session : ℕ) (is_one : session < 17) (plans : Plans) (base : List ℕ) (d after : Device) (action : Action) (rest : List Action) (all : ArePlaying 17 plans base d)
    (first : left_of (plans session) ≡ action ∷ rest) (acts : after ≡ acted session action d) where
  abbrev pub moved : Plans
  moved = with_plan plans session (advanced (plans session))

  pub moved-one : moved session ≡ advanced (plans session)
  moved-one = with-same plans session (advanced (plans session)) session refl

  pub moved-playing : ArePlaying 17 moved base after
  moved-playing = subst (λ (x : Device). ArePlaying 17 moved base x) (sym acts) (playing-plays 17 plans base session is_one d all action rest first)

  pub moved-left : left_of (moved session) ≡ rest
  moved-left = ap left_of moved-one
      ∙ (plan_goes_on (plans session).play (plans session).played d action rest (subst (λ (l : List Action). IsPlaying (plans session).play (plans session).played l d) first (all.playing session is_one))).rest

  pub moved-stands : (placed : ℕ → Bool) → stands 17 moved placed base ≡ stands 17 plans placed base
  moved-stands placed = stands-plays 17 plans moved placed base
      (λ t. with-elim (λ q. q.play ≡ (plans t).play) plans session (advanced (plans session)) t (λ (is : t ≡ session). ap (λ (u : ℕ). (plans u).play) (sym is)) (λ apart. refl))

  pub moved-holds : (P : (ℕ → ℕ) → List ℕ → Type 0) → HoldsAtEachCut 17 P plans base → HoldsAtEachCut 17 P moved base
  moved-holds P holds = holds-plays 17 plans base session is_one P holds

-- ── the plan has ended ──

module _ (session : ℕ) (is_one : session < 17) (plans : Plans) (base : List ℕ) (d : Device) (all : ArePlaying 17 plans base d) (others : AreAlone session plans) (none : left_of (plans session) ≡ []) where
  abbrev ended : List ℕ
  ended = finished (plans session).play.parts base

  abbrev pub rested : List ℕ → Plans
  rested words = with_plan plans session (idle session words)

  pub rested-idle : (words : List ℕ) → AreIdle (rested words)
  rested-idle words t w = with-elim (λ q. q.play.own w ≡ false) plans session (idle session words) t (λ is. refl) (λ apart. others t w apart)

  playing_then : ArePlaying 17 (rested ended) ended d
  playing_then = playing-ends 17 plans base session is_one d all none

  -- the device has the words after it
  pub rested-cached : ended ≡ d.cached
  rested-cached = ext_words ended d.cached playing_then.size (λ w. playing_then.free w (λ s lt. rested-idle ended s w))

  pub rested-clean : (w : ℕ) → IsClean d w
  rested-clean w = playing_then.clean w (λ s lt. rested-idle ended s w)

  pub rested-playing : ArePlaying 17 (rested d.cached) d.cached d
  rested-playing = subst (λ (words : List ℕ). ArePlaying 17 (rested words) words d) rested-cached playing_then

  pub rested-holds : (P : (ℕ → ℕ) → List ℕ → Type 0) → HoldsAtEachCut 17 P plans base → HoldsAtEachCut 17 P (rested d.cached) d.cached
  rested-holds P holds = subst (λ (words : List ℕ). HoldsAtEachCut 17 P (rested words) words) rested-cached (holds-ends 17 plans base session is_one d all none P holds)

  -- and the words stand for these, where its call had its place
  pub rested-stands : (placed : ℕ → Bool) → placed session ≡ true → stands 17 plans placed base ≡ d.cached
  rested-stands placed is =
      sym (stands-ends 17 plans base session is_one d all none placed placed (λ t apart. refl) is)
      ∙ ext_words (stands 17 (rested ended) placed ended) d.cached
      (length-stands 17 (rested ended) placed ended ∙ playing_then.size)
      (λ w. stands-base 17 (rested ended) ended d playing_then placed 17 w (omega arith) (λ t lt _. rested-idle ended t w)
      ∙ ap (λ (words : List ℕ). get_or words w 0) rested-cached)

-- where its call waits for its place, the words stand for the base
pub stands-waiting : (session : ℕ) (plans : Plans) (base : List ℕ) (d : Device) (placed : ℕ → Bool) → ArePlaying 17 plans base d → AreAlone session plans → placed session ≡ false → stands 17 plans placed base ≡ base
stands-waiting session plans base d placed all others waits = ext_words (stands 17 plans placed base) base (length-stands 17 plans placed base)
    (λ w. stands-base 17 plans base d all placed 17 w (omega arith)
    (λ t lt is. others t w (λ same. both_ways (placed session) waits (subst (λ (u : ℕ). placed u ≡ true) same is))))

-- ── its next plan ──

module _ (session : ℕ) (is_one : session < 17) (plans : Plans) (d : Device) (all : ArePlaying 17 plans d.cached d) (none : AreIdle plans) (parts : List Part) (plan : IsPlan (length d.cached) parts) where
  abbrev pub next_play : Play
  next_play = record { own = footprint (plan_of parts); session = session; parts = parts; start = d.cached }

  playable : IsPlayable next_play
  playable = record { plan = plan; within = λ w hit. hit }

  may : MayJoin 17 session plans next_play d
  may = record { session_is = refl; start = refl; apart = λ t w lt apart hit. none t w; idle = λ w. none session w }

  abbrev pub joined : Plans
  joined = with_plan plans session (begun next_play)

  pub joined-one : joined session ≡ begun next_play
  joined-one = with-same plans session (begun next_play) session refl

  pub joined-playing : ArePlaying 17 joined d.cached d
  joined-playing = playing-joins 17 plans d.cached session is_one next_play d all playable may

  pub joined-alone : AreAlone session joined
  joined-alone = alone-with session plans (begun next_play) (λ t w apart. none t w)

  pub joined-holds : (P Q : (ℕ → ℕ) → List ℕ → Type 0) (reads : ℕ → Bool) → SurvivesBeside session P Q reads d.cached parts → HoldsAtEachCut 17 P plans d.cached → HoldsAtEachCut 17 Q joined d.cached
  joined-holds P Q reads law holds = holds-joins 17 plans d.cached session is_one next_play P Q reads
      (λ w hit. hit) refl (λ t w lt apart hit. none t w) (λ w. none session w) (λ t w lt apart hit. none t w) law holds

  -- where its call has its place, the words stand for those after it
  pub joined-stands : (placed : ℕ → Bool) → placed session ≡ true → stands 17 joined placed d.cached ≡ finished parts d.cached
  joined-stands placed is =
      stands-joins 17 plans d.cached session is_one next_play d all playable may placed placed (λ t apart. refl) is
      ∙ ap (finished parts) (ext_words (stands 17 plans placed d.cached) d.cached (length-stands 17 plans placed d.cached)
      (λ w. stands-base 17 plans d.cached d all placed 17 w (omega arith) (λ t lt _. none t w)))

-- ── the law of a plan beside any others ──

-- The plan rests on some places: from any words that have P each cut that shows A has Q while actions are left, and each end
-- that shows B has it once none is.
pub survives-like : (session : ℕ) (P Q : (ℕ → ℕ) → List ℕ → Type 0) (state : State) (A B : List ℕ → List ℕ → Type 0) (reads : ℕ → Bool) (base : List ℕ) (parts : List Part)
    → IsPlan (length base) parts → IsLike reads state base base
    → ((words : List ℕ) → IsLike reads state base words → EachCut (A words) parts words)
    → ((words : List ℕ) → IsLike reads state base words → B words (finished parts words))
    → ((left : ℕ → ℕ) (words : List ℕ) → P (without session left) words → Fits words × (shown_commits words ≡ state.commits))
    → ((left : ℕ → ℕ) (words image : List ℕ) → P (without session left) words → 0 < left session → A words image → Q left image)
    → ((left : ℕ → ℕ) (words image : List ℕ) → P (without session left) words → left session ≡ 0 → B words image → Q left image)
    → SurvivesBeside session P Q reads base parts
survives-like session P Q state A B reads base parts plan here cuts end says gives ends =
    survives_beside change P Q session reads base holds here
    (λ left words size same p. let now = says left words p in record { size = size; same = same; fits = now.0; shows = now.1 })
    (λ left words image like p some shows. gives left words image p some shows)
    (λ left words image like p none shows. ends left words image p none shows)
  where
    change : Change
    change = record { asks = IsLike reads state base; parts = λ words. parts; shows = A; ends = B; reads = λ old new. IsLike reads state base new }

    holds : HoldsOnWords change
    holds = record {
      plan = λ words like. subst (λ (n : ℕ). IsPlan n parts) (sym like.size) plan;
      cuts = cuts;
      end = end;
      stable = λ old new like is. (like, refl);
    }
