-- Each event keeps what a core keeps.
use Rattle.std.proofs.Common.{◌≡◌, ◌≢◌, inl, inr, ℕ, ◌+◌, ◌<◌, ◌≤◌, ◌∙◌, Bool, true, false, List, [], ◌∷◌, ◌++◌, length, Option, None, Some, refl, ap, sym, subst, append-nil, arith}
use Rattle.std.specs.Prelude.{IsTrue}
use Rattle.std.proofs.lemmas.Grind.{flat_map-append}
use Rattle.std.proofs.lemmas.List.{length-append}
use Rattle.std.proofs.lemmas.List.Elements.{All-append, All-cons, All-nil}
use Rattle.mv_model.specs.declared.call.Call.{Call}
use Rattle.mv_model.specs.declared.call.Call.TheVariants as call
use Rattle.mv_model.specs.declared.reply.Reply.{Reply}
use Rattle.mv_model.specs.declared.reply.Reply.TheVariants as reply
use Rattle.mv_model.specs.declared.reply.Entry.{Entry}
use Rattle.mv_model.specs.State.{State}
use Rattle.mv_model.specs.History.{IsAllowed, IsLegal, state_after}
use Rattle.mv_model.specs.Next.{next}
use Rattle.pm_model.specs.declared.action.Action.{Action}
use Rattle.pm_model.specs.Device.{Device, acted, CanAct}
use Rattle.pm_model.specs.Plans.{Part, IsPlan, finished, part_actions, plan_of, words_after}
use Rattle.pm_model.proofs.Cuts.{each_cut-end}
use Rattle.pm_model.proofs.Words.{ext_words}
use Rattle.image_layout.specs.Fixed.{commit_word_at}
use Rattle.side_by_side.specs.SideBySide.{Progress, Plans, left_of, advanced, ArePlaying, HoldsAtEachCut, without}
use Rattle.side_by_side.proofs.Cutting.{can-act, holds-now}
use Rattle.side_by_side.proofs.Joining.{holds-map}
use Rattle.engine_core.specs.Actions.{late_in, plan_due}
use Rattle.engine_core.specs.Recoverable.{Fits}
use Rattle.engine_core.specs.Survival.{IsLike, IsShown, IsShownUntil, IsSurvived, SurvivesCuts, SurvivesInHalves, commit_reads, shown_commits}
use Rattle.engine_core.specs.Decided.{IsDecided, IsLateIn, IsOpenStill, IsPlacedLate, at_place, none_open}
use Rattle.engine_core.specs.LogicalState.{logical_state, next_row, state_of}
use Rattle.engine_core.specs.StagePlans.{commit_early, commit_late}
use Rattle.engine_core.specs.StageRules.{IsStage}
use Rattle.engine_core.specs.CoreState.{due, IsEntered, IsOfOne, IsPlacedAt, Nothing, answered, in_flight_of, unanswered}
use Rattle.engine_core.specs.Kept.{HasPlayed, IsKept, IsSafe, has_place, standing}
use Rattle.engine_core.specs.Served.{is_served}
use Rattle.engine_core.specs.declared.decision.Late.{Late}
use Rattle.engine_core.specs.declared.flight.Flight.{Flight}
use Rattle.engine_core.specs.declared.flight.Flight.TheVariants as flight
use Rattle.engine_core.specs.declared.transactions.Transactions.{Transactions}
use Rattle.engine_core.proofs.Alone.{alone-with, joined, joined-alone, joined-holds, joined-one, joined-playing, joined-stands, moved, moved-holds, moved-left, moved-one, moved-playing, moved-stands, rested, rested-cached, rested-clean, rested-holds, rested-idle, rested-playing, rested-stands, stands-waiting, survives-like}
use Rattle.engine_core.proofs.Histories.{legal-answered, legal-more, of_one-answered, of_one-last, of_one-more, state_after-answered, state_after-more}
use Rattle.engine_core.proofs.Placing.{committing-plays, first-over, next_of}
use Rattle.engine_core.proofs.Played.{certain-less, certain-now, ends-certain, played-answered, played-decided, played-more}
use Rattle.engine_core.proofs.Safeties.{answered-safe, certain-safe, decided-ends, decided-safe, placed-safe, safe-shows, until-ends, until-safe}
use Rattle.engine_core.proofs.Stores.{words_after-plan}

module _ (opened : List ℕ) where
  -- ── one action ──

  -- the next action is the next one of the session's plan
  next_action : (d : Device) (history : List Entry) (now : Transactions) (left rest : List Action) (action : Action) (in_flight : Flight) (events played started : ℕ)
      → left ≡ action ∷ rest → (kept : IsKept d opened history now left in_flight events played started)
      → (more : List Action) × (left_of (kept.plans 1) ≡ action ∷ more)
  next_action d history now left rest action flight.Idle events played started is kept = (rest, sym kept.plan ∙ is)
  next_action d history now left rest action (flight.Waiting said) events played started is kept = (rest, sym kept.plan ∙ is)
  next_action d history now left rest action (flight.Committing number late) events played started is kept =
      let next = next_of number late now kept.plans kept.base d (acted 1 action d) left rest action kept.playing is refl kept.bounded.0 kept.plan in
      (next.0, next.1)
  next_action d history now left rest action (flight.Placed given) events played started is kept = (rest, sym kept.plan ∙ is)

  -- it may be played
  pub can : (d : Device) (history : List Entry) (now : Transactions) (left rest : List Action) (action : Action) (in_flight : Flight) (events played started : ℕ)
      → left ≡ action ∷ rest → IsKept d opened history now left in_flight events played started → CanAct action d
  can d history now left rest action in_flight events played started is kept =
      let next = next_action d history now left rest action in_flight events played started is kept in
      can-act 17 kept.plans kept.base 1 (omega arith) d kept.playing action next.0 next.1

  -- nothing but the events that are left changes for a call that has its place
  plays_placed : (d after : Device) (history : List Entry) (now : Transactions) (left rest : List Action) (action : Action) (given : Reply) (events fewer played started : ℕ)
      → left ≡ action ∷ rest → after ≡ acted 1 action d → events ≡ fewer + 1
      → IsKept d opened history now left (flight.Placed given) events played started → IsKept after opened history now rest (flight.Placed given) fewer (played + 1) started
  plays_placed d after history now left rest action given events fewer played started is acts one kept =
      let first : left_of (kept.plans 1) ≡ action ∷ rest = sym kept.plan ∙ is in
      let same : standing (moved 1 (omega arith) kept.plans kept.base d after action rest kept.playing first acts) [] kept.base ≡ standing kept.plans [] kept.base =
      moved-stands 1 (omega arith) kept.plans kept.base d after action rest kept.playing first acts (has_place []) in
      record {
        plans = moved 1 (omega arith) kept.plans kept.base d after action rest kept.playing first acts;
        base = kept.base;
        playing = moved-playing 1 (omega arith) kept.plans kept.base d after action rest kept.playing first acts;
        others = alone-with 1 kept.plans (advanced (kept.plans 1)) kept.others;
        plan = sym (moved-left 1 (omega arith) kept.plans kept.base d after action rest kept.playing first acts);
        legal = kept.legal;
        represents = kept.represents ∙ ap (λ (ws : List ℕ). state_of ws now) (sym same);
        stage = subst (λ (ws : List ℕ). IsStage ws now.running) (sym same) kept.stage;
        safe = moved-holds 1 (omega arith) kept.plans kept.base d after action rest kept.playing first acts (IsSafe opened history []) kept.safe;
        answers = kept.answers;
        alone = kept.alone;
        count = kept.count;
        begun = kept.begun;
        bounded = let below = kept.bounded in let size = ap length is in omega (arith, below, size, one);
        actions = let a = kept.actions in omega (arith, a, one);
        done = played-more kept.done after rest action is acts;
        timed = λ front last same. certain-less (state_after (logical_state opened) front) last.reply (length left) (length rest) (let size = ap length is in omega (arith, size)) (kept.timed front last same);
      }

  plays_early : (d after : Device) (history : List Entry) (now : Transactions) (left rest : List Action) (action : Action) (number late events fewer played started : ℕ)
      → left ≡ action ∷ rest → after ≡ acted 1 action d → events ≡ fewer + 1 → late ≢ length rest
      → IsKept d opened history now left (flight.Committing number late) events played started → IsKept after opened history now rest (flight.Committing number late) fewer (played + 1) started
  plays_early d after history now left rest action number late events fewer played started is acts one apart kept =
      let entries = unanswered (length history + 1) call.Commit (reply.Committed number) ∷ [] in
      let next = next_of number late now kept.plans kept.base d after left rest action kept.playing is acts kept.bounded.0 kept.plan in
      let more = next.0 in
      let first = next.1 in
      let same : standing (moved 1 (omega arith) kept.plans kept.base d after action more kept.playing first acts) entries kept.base ≡ standing kept.plans entries kept.base =
      moved-stands 1 (omega arith) kept.plans kept.base d after action more kept.playing first acts (has_place entries) in
      record {
        plans = moved 1 (omega arith) kept.plans kept.base d after action more kept.playing first acts;
        base = kept.base;
        playing = moved-playing 1 (omega arith) kept.plans kept.base d after action more kept.playing first acts;
        others = alone-with 1 kept.plans (advanced (kept.plans 1)) kept.others;
        plan = committing-plays number late now kept.plans kept.base d after left rest action kept.playing is acts kept.bounded.0 kept.plan
            (let below = kept.bounded.0 in let size = ap length is in omega (arith, below, size, apart));
        legal = kept.legal;
        represents = kept.represents ∙ ap (λ (ws : List ℕ). state_of ws now) (sym same);
        stage = subst (λ (ws : List ℕ). IsStage ws now.running) (sym same) kept.stage;
        safe = moved-holds 1 (omega arith) kept.plans kept.base d after action more kept.playing first acts (IsSafe opened history entries) kept.safe;
        answers = kept.answers;
        alone = kept.alone;
        count = kept.count;
        begun = kept.begun;
        bounded = let below = kept.bounded in let size = ap length is in (omega (arith, below.0, size, apart), omega (arith, below.1, size, one));
        actions = let a = kept.actions in omega (arith, a, one);
        done = played-more kept.done after rest action is acts;
        timed = kept.timed;
      }

  -- a commit gets its place: the first half of its plan has ended, and the second half joins
  plays_commit : (d after : Device) (history : List Entry) (now : Transactions) (left rest : List Action) (action : Action) (number late events fewer played started : ℕ)
      → left ≡ action ∷ rest → after ≡ acted 1 action d → events ≡ fewer + 1 → late ≡ length rest
      → IsKept d opened history now left (flight.Committing number late) events played started
      → IsKept after opened (history ++ unanswered (length history + 1) call.Commit (reply.Committed number) ∷ []) (none_open now) rest (flight.Placed (reply.Committed number)) fewer (played + 1) started
  plays_commit d after history now left rest action number late events fewer played started is acts one at kept =
      let entry = unanswered (length history + 1) call.Commit (reply.Committed number) in
      let none = append-nil (history ++ entry ∷ []) in
      let size_more = length-append history (entry ∷ []) in
      let way = kept.plan in
      let h = way.halves in
      let early = commit_early h.first h.count number in
      let second = commit_late h.count number in
      let over = first-over number late now kept.plans kept.base d after left rest action kept.playing is acts kept.bounded.0 way at in
      let plans = moved 1 (omega arith) kept.plans kept.base d after action [] kept.playing over.0 acts in
      let playing = moved-playing 1 (omega arith) kept.plans kept.base d after action [] kept.playing over.0 acts in
      let others = alone-with 1 kept.plans (advanced (kept.plans 1)) kept.others in
      let gone = moved-left 1 (omega arith) kept.plans kept.base d after action [] kept.playing over.0 acts in
      -- the states before and after
      let before = state_of kept.base now in
      let then = state_of (words_after way.actions kept.base) (none_open now) in
      let base_is : standing kept.plans (entry ∷ []) kept.base ≡ kept.base = stands-waiting 1 kept.plans kept.base d (has_place (entry ∷ [])) kept.playing kept.others refl in
      let is_before : state_after (logical_state opened) history ≡ before = kept.represents ∙ ap (λ (ws : List ℕ). state_of ws now) base_is in
      let is_then : state_after (logical_state opened) (history ++ entry ∷ []) ≡ then =
      state_after-more (logical_state opened) history entry ∙ ap (λ (s : State). next s 1 call.Commit (reply.Committed number)) is_before ∙ way.decided.state in
      -- the words at the fence
      let words : finished early kept.base ≡ after.cached =
      ap (λ (ps : List Part). finished ps kept.base) (sym way.parts)
      ∙ ap (λ (p : Progress). finished p.play.parts kept.base) (sym (moved-one 1 (omega arith) kept.plans kept.base d after action [] kept.playing over.0 acts))
      ∙ rested-cached 1 (omega arith) plans kept.base after playing others gone in
      let placed = IsSafe opened (history ++ entry ∷ []) [] in
      let certain : HoldsAtEachCut 17 placed plans kept.base = holds-map 17 (IsSafe opened history (entry ∷ [])) placed plans kept.base
      (λ few image later safe. placed-safe opened history before then is_before number (length history + 1) h.rows is_then few image
      (let most = subst (λ (xs : List Action). few 1 ≤ length xs) gone (later 1 (omega arith)) in omega (arith, most)) safe)
      (moved-holds 1 (omega arith) kept.plans kept.base d after action [] kept.playing over.0 acts (IsSafe opened history (entry ∷ [])) kept.safe) in
      -- the second half
      let rest_plans = rested 1 (omega arith) plans kept.base after playing others gone after.cached in
      let rest_playing = rested-playing 1 (omega arith) plans kept.base after playing others gone in
      let rest_idle = rested-idle 1 (omega arith) plans kept.base after playing others gone after.cached in
      let plan : IsPlan (length after.cached) second = subst (λ (n : ℕ). IsPlan n second) (playing.size) h.plan.1.1 in
      let moved_safe = rested-holds 1 (omega arith) plans kept.base after playing others gone placed certain in
      let safe = holds-now 17 rest_plans after.cached after rest_playing placed moved_safe after.cached (record { size = sym rest_playing.whole; each = λ w. inr refl }) in
      let like : IsLike (commit_reads h.first h.count) then after.cached after.cached = record { size = refl; same = λ w hit. refl; fits = safe.fits; shows = safe-shows opened (history ++ entry ∷ []) then is_then (λ s. length (left_of (rest_plans s))) after.cached safe } in
      let law = survives-like 1 placed placed then (IsShown then.commits 0) (IsShown then.commits 0) (commit_reads h.first h.count) after.cached second plan like
      (λ now_words here. h.later now_words (subst (λ (ws : List ℕ). IsLike (commit_reads h.first h.count) then ws now_words) (sym words) here))
      (λ now_words here. each_cut-end (IsShown then.commits 0 now_words) second now_words (h.later now_words (subst (λ (ws : List ℕ). IsLike (commit_reads h.first h.count) then ws now_words) (sym words) here)))
      (λ counts now_words safe. (safe.fits, safe-shows opened (history ++ entry ∷ []) then is_then (without 1 counts) now_words safe))
      (λ counts now_words image safe some shown. certain-safe opened (history ++ entry ∷ []) then is_then counts now_words image safe shown)
      (λ counts now_words image safe nothing shown. certain-safe opened (history ++ entry ∷ []) then is_then counts now_words image safe shown) in
      let reached : words_after way.actions kept.base ≡ standing (joined 1 (omega arith) rest_plans after rest_playing rest_idle second plan) [] after.cached =
      ap (λ (xs : List Action). words_after xs kept.base) h.plan_is ∙ words_after-plan (early ++ second) kept.base ∙ ap (finished second) words
      ∙ sym (joined-stands 1 (omega arith) rest_plans after rest_playing rest_idle second plan (has_place []) refl) in
      record {
        plans = joined 1 (omega arith) rest_plans after rest_playing rest_idle second plan;
        base = after.cached;
        playing = joined-playing 1 (omega arith) rest_plans after rest_playing rest_idle second plan;
        others = joined-alone 1 (omega arith) rest_plans after rest_playing rest_idle second plan;
        plan = over.1 ∙ ap left_of (sym (joined-one 1 (omega arith) rest_plans after rest_playing rest_idle second plan));
        legal = legal-more (logical_state opened) history entry kept.legal kept.alone refl refl (subst (λ (s : State). IsAllowed s 1 call.Commit (reply.Committed number)) (sym is_before) way.decided.allowed);
        represents = is_then ∙ ap (λ (ws : List ℕ). state_of ws (none_open now)) reached;
        stage = subst (λ (ws : List ℕ). IsStage ws None) reached way.decided.stage;
        safe = joined-holds 1 (omega arith) rest_plans after rest_playing rest_idle second plan placed placed (commit_reads h.first h.count) law moved_safe;
        answers = record { front = history; last = entry; is = refl; given_before = kept.answers; open_still = refl; reply = refl };
        alone = of_one-more history entry kept.alone refl;
        count = let c = kept.count in omega (arith, c, size_more);
        begun = let b = kept.begun in omega (arith, b, size_more);
        bounded = let below = kept.bounded in let size = ap length is in omega (arith, below.1, size, one);
        actions = let a = kept.actions in omega (arith, a, one);
        done = subst (λ (h : List Entry). HasPlayed after opened h rest (played + 1)) (sym none) (played-more kept.done after rest action is acts);
        timed = ends-certain (logical_state opened) history entry (length rest) (let is_late = kept.timed in omega (arith, at, is_late));
      }

  -- an action
  pub plays : (d after : Device) (history new : List Entry) (now next_now : Transactions) (left rest : List Action) (action : Action) (before placed : Flight) (events fewer played started : ℕ)
      → left ≡ action ∷ rest → after ≡ acted 1 action d → events ≡ fewer + 1 → IsPlacedAt (length rest) before placed now next_now history new
      → IsKept d opened history now left before events played started → IsKept after opened new next_now rest placed fewer (played + 1) started
  plays d after history new now next_now left rest action flight.Idle placed events fewer played started is acts one places kept =
      let none : left ≡ [] = kept.bounded in absurd (empty (sym none ∙ is))
    where
      empty : [] ≡ action ∷ rest → ⊥
      empty e = cc
  plays d after history new now next_now left rest action (flight.Waiting said) placed events fewer played started is acts one places kept =
      let none : left ≡ [] = kept.bounded.0 in absurd (empty (sym none ∙ is))
    where
      empty : [] ≡ action ∷ rest → ⊥
      empty e = cc
  plays d after history new now next_now left rest action (flight.Committing number late) placed events fewer played started is acts one (inl places) kept =
      rw (places.1, places.2, places.3) (plays_commit d after history now left rest action number late events fewer played started is acts one places.0 kept)
  plays d after history new now next_now left rest action (flight.Committing number late) placed events fewer played started is acts one (inr places) kept =
      rw (places.1, places.2, places.3) (plays_early d after history now left rest action number late events fewer played started is acts one places.0 kept)
  plays d after history new now next_now left rest action (flight.Placed given) placed events fewer played started is acts one places kept =
      rw (places.0, places.1, places.2) (plays_placed d after history now left rest action given events fewer played started is acts one kept)

  -- ── a decision ──

  module _ (d : Device) (history : List Entry) (now : Transactions) (said : Call) (events played started : ℕ) (kept : IsKept d opened history now [] (flight.Waiting said) events played started) where
    gone : left_of (kept.plans 1) ≡ []
    gone = sym kept.plan

    -- the words stand for those of the device
    stood : standing kept.plans [] kept.base ≡ d.cached
    stood = rested-stands 1 (omega arith) kept.plans kept.base d kept.playing kept.others gone (has_place []) refl

    -- the state before it
    pub state_now : state_after (logical_state opened) history ≡ state_of d.cached now
    state_now = kept.represents ∙ ap (λ (ws : List ℕ). state_of ws now) stood

    pub stage_now : IsStage d.cached now.running
    stage_now = subst (λ (ws : List ℕ). IsStage ws now.running) stood kept.stage

    safe_now : IsSafe opened history [] (λ s. length (left_of (kept.plans s))) d.cached
    safe_now = holds-now 17 kept.plans kept.base d kept.playing (IsSafe opened history []) kept.safe d.cached (record { size = sym kept.playing.whole; each = λ w. inr refl })

    -- a plan may rest on any places of them
    like_now : (reads : ℕ → Bool) → IsLike reads (state_of d.cached now) d.cached d.cached
    like_now reads = record { size = refl; same = λ w hit. refl; fits = safe_now.fits; shows = safe-shows opened history (state_of d.cached now) state_now (λ s. length (left_of (kept.plans s))) d.cached safe_now }

    -- what is safe without the plan
    safe_gives : (left : ℕ → ℕ) (words : List ℕ) → IsSafe opened history [] (without 1 left) words → Fits words × (shown_commits words ≡ (state_of d.cached now).commits)
    safe_gives left words safe = (safe.fits, safe-shows opened history (state_of d.cached now) state_now (without 1 left) words safe)

    -- nothing is played
    abbrev idle_plans : Plans
    idle_plans = rested 1 (omega arith) kept.plans kept.base d kept.playing kept.others gone d.cached

    idle_playing : ArePlaying 17 idle_plans d.cached d
    idle_playing = rested-playing 1 (omega arith) kept.plans kept.base d kept.playing kept.others gone

    idle_all : (session w : ℕ) → (idle_plans session).play.own w ≡ false
    idle_all = rested-idle 1 (omega arith) kept.plans kept.base d kept.playing kept.others gone d.cached

    idle_holds : HoldsAtEachCut 17 (IsSafe opened history []) idle_plans d.cached
    idle_holds = rested-holds 1 (omega arith) kept.plans kept.base d kept.playing kept.others gone (IsSafe opened history []) kept.safe

    decides_now : (next_now : Transactions) (given copy : Reply) (actions : List Action) (fewer : ℕ)
        → events ≡ fewer + 1 → copy ≡ given → IsPlacedLate None said given actions → IsDecided d.cached now said given actions next_now
        → (Fits d.cached → SurvivesCuts (state_of d.cached now) (state_of (words_after actions d.cached) next_now) given d.cached actions)
        → IsKept d opened (history ++ unanswered (length history + 1) said given ∷ []) next_now actions (flight.Placed copy) fewer played started
    decides_now next_now given copy actions fewer one copied places decided survives =
        let entry = unanswered (length history + 1) said given in
        let none = append-nil (history ++ entry ∷ []) in
        let size_more = length-append history (entry ∷ []) in
        let short = decided.short in
        let before = state_of d.cached now in
        let then = state_of (words_after actions d.cached) next_now in
        let is_then : state_after (logical_state opened) (history ++ entry ∷ []) ≡ then =
        state_after-more (logical_state opened) history entry ∙ ap (λ (s : State). next s 1 said given) state_now ∙ decided.state in
        let s = survives safe_now.fits in
        let words : words_after actions d.cached ≡ finished s.parts d.cached = ap (λ (xs : List Action). words_after xs d.cached) s.plan_is ∙ words_after-plan s.parts d.cached in
        let placed = IsSafe opened (history ++ entry ∷ []) [] in
        let law = survives-like 1 (IsSafe opened history []) placed before (IsShown before.commits s.bound) (λ words image. IsShown before.commits s.bound words image × (s.bound ≤ next_row image)) s.reads d.cached s.parts s.plan (like_now s.reads)
        s.each (λ words like. (each_cut-end (IsShown before.commits s.bound words) s.parts words (s.each words like), s.end words like)) safe_gives
        (λ left words image safe some shown. decided-safe opened history before then state_now words left said given (length history + 1) s.bound is_then s.commits s.rows s.most image safe some shown)
        (λ left words image safe nothing shown. decided-ends opened history before then state_now words left said given (length history + 1) s.bound is_then s.commits s.rows s.most image safe s.below shown) in
        let reached : words_after actions d.cached ≡ standing (joined 1 (omega arith) idle_plans d idle_playing idle_all s.parts s.plan) [] d.cached =
        words ∙ sym (joined-stands 1 (omega arith) idle_plans d idle_playing idle_all s.parts s.plan (has_place []) refl) in
        record {
          plans = joined 1 (omega arith) idle_plans d idle_playing idle_all s.parts s.plan;
          base = d.cached;
          playing = joined-playing 1 (omega arith) idle_plans d idle_playing idle_all s.parts s.plan;
          others = joined-alone 1 (omega arith) idle_plans d idle_playing idle_all s.parts s.plan;
          plan = s.plan_is ∙ ap left_of (sym (joined-one 1 (omega arith) idle_plans d idle_playing idle_all s.parts s.plan));
          legal = legal-more (logical_state opened) history entry kept.legal kept.alone refl refl (subst (λ (s : State). IsAllowed s 1 said given) (sym state_now) decided.allowed);
          represents = is_then ∙ ap (λ (ws : List ℕ). state_of ws next_now) reached;
          stage = subst (λ (ws : List ℕ). IsStage ws next_now.running) reached decided.stage;
          safe = joined-holds 1 (omega arith) idle_plans d idle_playing idle_all s.parts s.plan (IsSafe opened history []) placed s.reads law idle_holds;
          answers = record { front = history; last = entry; is = refl; given_before = kept.answers; open_still = refl; reply = sym copied };
          alone = of_one-more history entry kept.alone refl;
          count = let c = kept.count in omega (arith, c, size_more);
          begun = let b = kept.begun in let more = decided.begun in omega (arith, b, more, size_more);
          bounded = let some = kept.bounded.1 in omega (arith, some, short, one);
          actions = let a = kept.actions in omega (arith, a, one);
          done = subst (λ (h : List Entry). HasPlayed d opened h actions played) (sym none)
              (played-decided d opened history entry actions played (decided.planned ∙ ap (λ (s : State). plan_due s said given) (sym state_now)) kept.done);
          timed = ends-certain (logical_state opened) history entry (length actions) (certain-now said given actions (state_after (logical_state opened) history) (length actions) places);
        }

  decides_late : (d : Device) (history : List Entry) (now : Transactions) (number late : ℕ) (actions : List Action) (events fewer played started : ℕ)
      → events ≡ fewer + 1 → late < length actions → late ≡ late_in (state_of d.cached now) number → IsDecided d.cached now call.Commit (reply.Committed number) actions (none_open now)
      → (Fits d.cached → SurvivesInHalves (state_of d.cached now) (state_of (words_after actions d.cached) (none_open now)) number late d.cached actions)
      → IsKept d opened history now [] (flight.Waiting call.Commit) events played started
      → IsKept d opened history now actions (flight.Committing number late) fewer played started
  decides_late d history now number late actions events fewer played started one later is_late decided survives kept =
      let entry = unanswered (length history + 1) call.Commit (reply.Committed number) in
      let short = decided.short in
      let before = state_of d.cached now in
      let then = state_of (words_after actions d.cached) (none_open now) in
      let is_before = state_now d history now call.Commit events played started kept in
      let is_then : state_after (logical_state opened) (history ++ entry ∷ []) ≡ then =
      state_after-more (logical_state opened) history entry ∙ ap (λ (s : State). next s 1 call.Commit (reply.Committed number)) is_before ∙ decided.state in
      let h = survives (safe_now d history now call.Commit events played started kept).fits in
      let early = commit_early h.first h.count number in
      let second = commit_late h.count number in
      let plan : IsPlan (length d.cached) early = (h.plan.0, (h.plan.1.0, tt)) in
      let plans = idle_plans d history now call.Commit events played started kept in
      let playing = idle_playing d history now call.Commit events played started kept in
      let all = idle_all d history now call.Commit events played started kept in
      let due_then = IsSafe opened history (entry ∷ []) in
      let law = survives-like 1 (IsSafe opened history []) due_then before (IsShownUntil before then number) (λ words image. IsShownUntil before then number words image × IsShown then.commits 0 words image)
      (commit_reads h.first h.count) d.cached early plan (like_now d history now call.Commit events played started kept (commit_reads h.first h.count))
      h.early (λ words like. (each_cut-end (IsShownUntil before then number words) early words (h.early words like), h.decided words like)) (safe_gives d history now call.Commit events played started kept)
      (λ left words image safe some shown. until-safe opened history before then is_before words left number (length history + 1) is_then image safe some shown)
      (λ left words image safe nothing shown. until-ends opened history before then is_before words left number (length history + 1) is_then image safe shown) in
      let stays : standing (joined 1 (omega arith) plans d playing all early plan) (entry ∷ []) d.cached ≡ d.cached =
      stands-waiting 1 (joined 1 (omega arith) plans d playing all early plan) d.cached d (has_place (entry ∷ [])) (joined-playing 1 (omega arith) plans d playing all early plan) (joined-alone 1 (omega arith) plans d playing all early plan) refl in
      let mine = joined-one 1 (omega arith) plans d playing all early plan in
      record {
        plans = joined 1 (omega arith) plans d playing all early plan;
        base = d.cached;
        playing = joined-playing 1 (omega arith) plans d playing all early plan;
        others = joined-alone 1 (omega arith) plans d playing all early plan;
        plan = record {
          actions = actions;
          decided = decided;
          halves = h;
          parts = ap (λ (p : Progress). p.play.parts) mine;
          behind = h.plan_is ∙ flat_map-append part_actions early second ∙ ap (λ (p : Progress). left_of p ++ plan_of second) (sym mine);
          not_yet = sym (rested-clean 1 (omega arith) kept.plans kept.base d kept.playing kept.others (sym kept.plan) (commit_word_at 0)) ∙ h.unset;
        };
        legal = kept.legal;
        represents = is_before ∙ ap (λ (ws : List ℕ). state_of ws now) (sym stays);
        stage = subst (λ (ws : List ℕ). IsStage ws now.running) (sym stays) (stage_now d history now call.Commit events played started kept);
        safe = joined-holds 1 (omega arith) plans d playing all early plan (IsSafe opened history []) due_then (commit_reads h.first h.count) law (idle_holds d history now call.Commit events played started kept);
        answers = kept.answers;
        alone = kept.alone;
        count = kept.count;
        begun = kept.begun;
        bounded = (later, (let some = kept.bounded.1 in omega (arith, some, short, one)));
        actions = let a = kept.actions in omega (arith, a, one);
        done = played-decided d opened history entry actions played (decided.planned ∙ ap (λ (s : State). plan_due s call.Commit (reply.Committed number)) (sym is_before)) kept.done;
        timed = is_late ∙ ap (λ (s : State). late_in s number) (sym is_before);
      }

  -- a decision
  pub decides : (d : Device) (history new : List Entry) (now next_now : Transactions) (said : Call) (given copy : Reply) (late : Option Late) (entered : Flight) (actions : List Action) (events fewer played started : ℕ)
      → events ≡ fewer + 1 → copy ≡ given → IsPlacedLate late said given actions → IsOpenStill late now next_now → IsLateIn (state_of d.cached now) late → IsEntered late said given copy history new entered
      → IsDecided d.cached now said given actions (at_place late next_now)
      → (Fits d.cached → IsSurvived (state_of d.cached now) (state_of (words_after actions d.cached) (at_place late next_now)) late given d.cached actions)
      → IsKept d opened history now [] (flight.Waiting said) events played started → IsKept d opened new next_now actions entered fewer played started
  decides d history new now next_now said given copy None entered actions events fewer played started one copied places still timed enters decided survives kept =
      rw (enters.0, enters.1) (decides_now d history now said events played started kept next_now given copy actions fewer one copied places decided survives)
  decides d history new now next_now said (reply.Committed number) copy (Some late) entered actions events fewer played started one copied places still timed enters decided survives kept =
      let decided_now = subst (λ (n : Transactions). IsDecided d.cached now said (reply.Committed number) actions (none_open n)) still decided in
      let survives_now = subst (λ (n : Transactions). Fits d.cached → SurvivesInHalves (state_of d.cached now) (state_of (words_after actions d.cached) (none_open n)) late.number late.left d.cached actions) still survives in
      rw (enters.0, enters.1, places.1, still)
      (decides_late d history now number late.left actions events fewer played started one places.2 (timed ∙ ap (λ (n : ℕ). late_in (state_of d.cached now) n) places.1)
      (subst (λ (c : Call). IsDecided d.cached now c (reply.Committed number) actions (none_open now)) places.0 decided_now)
      (subst (λ (n : ℕ). Fits d.cached → SurvivesInHalves (state_of d.cached now) (state_of (words_after actions d.cached) (none_open now)) n late.left d.cached actions) places.1 survives_now)
      (subst (λ (c : Call). IsKept d opened history now [] (flight.Waiting c) events played started) places.0 kept))
  decides d history new now next_now said given copy (Some late) entered actions events fewer played started one copied places still timed enters decided survives kept = absurd places

  -- ── a reply, and a call ──

  pub replies : (d : Device) (history new : List Entry) (now : Transactions) (given : Reply) (events fewer played started : ℕ) → events ≡ fewer + 1
      → ((front : List Entry) → (last : Entry) → history ≡ front ++ last ∷ [] → new ≡ front ++ answered last ∷ [])
      → IsKept d opened history now [] (flight.Placed given) events played started → IsKept d opened new now [] flight.Idle fewer played started
  replies d history new now given events fewer played started one marked kept =
      let ends = kept.answers in
      let is_new = marked ends.front ends.last ends.is in
      let none_old = append-nil history in
      let none = append-nil (ends.front ++ answered ends.last ∷ []) in
      let alone = subst IsOfOne ends.is kept.alone in
      let legal = legal-answered (logical_state opened) ends.front ends.last (subst (λ (h : List Entry). IsLegal (logical_state opened) h) ends.is kept.legal) in
      let size_old = length-append ends.front (ends.last ∷ []) in
      let size_new = length-append ends.front (answered ends.last ∷ []) in
      let size = ap length ends.is in
      rw is_new (record {
        plans = kept.plans;
        base = kept.base;
        playing = kept.playing;
        others = kept.others;
        plan = kept.plan;
        legal = legal;
        represents = state_after-answered (logical_state opened) ends.front ends.last ∙ ap (state_after (logical_state opened)) (sym ends.is) ∙ kept.represents;
        stage = kept.stage;
        safe = holds-map 17 (IsSafe opened history []) (IsSafe opened (ends.front ++ answered ends.last ∷ []) []) kept.plans kept.base
            (λ left image later safe. answered-safe opened ends.front ends.last left image (of_one-last ends.front ends.last alone)
            (let most = subst (λ (xs : List Action). left 1 ≤ length xs) (sym kept.plan) (later 1 (omega arith)) in omega (arith, most))
            (subst (λ (h : List Entry). IsSafe opened h [] left image) ends.is safe))
            kept.safe;
        answers = All-append (λ entry. entry.answered ≡ true) ends.front (answered ends.last ∷ []) ends.given_before
            (All-cons (λ entry. entry.answered ≡ true) (answered ends.last) [] refl (All-nil (λ entry. entry.answered ≡ true)));
        alone = of_one-answered ends.front ends.last alone;
        count = let c = kept.count in omega (arith, c, size, size_old, size_new);
        begun = let b = kept.begun in omega (arith, b, size, size_old, size_new);
        bounded = refl;
        actions = let a = kept.actions in omega (arith, a, one);
        done = subst (λ (h : List Entry). HasPlayed d opened h [] played) (sym none)
            (played-answered d opened ends.front ends.last played (subst (λ (h : List Entry). HasPlayed d opened h [] played) (none_old ∙ ends.is) kept.done));
        timed = tt;
      })

  -- a call
  pub starts : (d : Device) (history : List Entry) (now : Transactions) (left : List Action) (said : Call) (events played started : ℕ) → IsTrue (is_served said)
      → IsKept d opened history now left flight.Idle events played started → IsKept d opened history now left (flight.Waiting said) 65536 played (started + 1)
  starts d history now left said events played started served kept = record {
    plans = kept.plans;
    base = kept.base;
    playing = kept.playing;
    others = kept.others;
    plan = kept.plan;
    legal = kept.legal;
    represents = kept.represents;
    stage = kept.stage;
    safe = kept.safe;
    answers = kept.answers;
    alone = kept.alone;
    count = let c = kept.count in omega (arith, c);
    begun = kept.begun;
    bounded = (kept.bounded, omega arith, served);
    actions = let a = kept.actions in omega (arith, a);
    done = kept.done;
    timed = tt;
  }

  -- ── what follows ──

  -- the entry of a commit that waits for its place may come next
  pub legal-due : (d : Device) (history : List Entry) (now : Transactions) (left : List Action) (in_flight : Flight) (events played started : ℕ) → IsKept d opened history now left in_flight events played started
      → IsLegal (logical_state opened) (history ++ due (length history) in_flight)
  legal-due d history now left flight.Idle events played started kept = subst (λ (h : List Entry). IsLegal (logical_state opened) h) (sym (append-nil history)) kept.legal
  legal-due d history now left (flight.Waiting said) events played started kept = subst (λ (h : List Entry). IsLegal (logical_state opened) h) (sym (append-nil history)) kept.legal
  legal-due d history now left (flight.Placed given) events played started kept = subst (λ (h : List Entry). IsLegal (logical_state opened) h) (sym (append-nil history)) kept.legal
  legal-due d history now left (flight.Committing number late) events played started kept =
      let entry = unanswered (length history + 1) call.Commit (reply.Committed number) in
      let base_is : standing kept.plans (entry ∷ []) kept.base ≡ kept.base = stands-waiting 1 kept.plans kept.base d (has_place (entry ∷ [])) kept.playing kept.others refl in
      legal-more (logical_state opened) history entry kept.legal kept.alone refl refl
      (subst (λ (s : State). IsAllowed s 1 call.Commit (reply.Committed number)) (sym (kept.represents ∙ ap (λ (ws : List ℕ). state_of ws now) base_is)) kept.plan.decided.allowed)

  -- with no call in flight each word is durable
  pub rests : (d : Device) (history : List Entry) (now : Transactions) (left : List Action) (in_flight : Flight) (events played started : ℕ) → IsKept d opened history now left in_flight events played started
      → in_flight_of in_flight ≡ Nothing → d.durable ≡ d.cached
  rests d history now left flight.Idle events played started kept none =
      let clean = rested-clean 1 (omega arith) kept.plans kept.base d kept.playing kept.others (sym kept.plan ∙ kept.bounded) in
      ext_words d.durable d.cached kept.playing.whole (λ w. sym (clean w))
  rests d history now left (flight.Waiting said) events played started kept none = cc
  rests d history now left (flight.Committing number late) events played started kept none = cc
  rests d history now left (flight.Placed given) events played started kept none = cc

  -- and nothing is left to play or due
  pub rests-idle : (d : Device) (history : List Entry) (now : Transactions) (left : List Action) (in_flight : Flight) (events played started : ℕ) → IsKept d opened history now left in_flight events played started
      → in_flight_of in_flight ≡ Nothing → (length left ≡ 0) × (due (length history) in_flight ≡ [])
  rests-idle d history now left flight.Idle events played started kept none = (ap length kept.bounded, refl)
  rests-idle d history now left (flight.Waiting said) events played started kept none = cc
  rests-idle d history now left (flight.Committing number late) events played started kept none = cc
  rests-idle d history now left (flight.Placed given) events played started kept none = cc
