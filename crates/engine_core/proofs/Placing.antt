-- A commit that waits for its place gets it at the fence that makes its commit word durable.
use Rattle.std.proofs.Common.{◌≡◌, inl, ⊎_elim, ℕ, zero, suc, ◌+◌, ◌<◌, ◌≤◌, ◌∙◌, Bool, true, false, cond, List, [], ◌∷◌, ◌++◌, length, get_or, map, take, drop, append_assoc, refl, ap, sym, arith}
use Rattle.std.proofs.lemmas.Bool.{cases_Bool, both_ways, or_parts, or_from}
use Rattle.std.proofs.lemmas.List.{length-append, length-drop, take-append-le}
use Rattle.pm_model.specs.declared.action.Action.{Action}
use Rattle.pm_model.specs.declared.action.Action.TheVariants.{Store, Flush, Fence, Punch}
use Rattle.pm_model.specs.Device.{Device, acted, writes}
use Rattle.image_layout.specs.declared.place.Place.{Place}
use Rattle.pm_model.proofs.Words.{get_or-choose_by}
use Rattle.image_layout.specs.Fixed.{last_at, commit_word_at}
use Rattle.pm_model.specs.Plans.{Part, Play, IsPlaying, store, one_store, words_after, footprint, part_actions, plan_of, finished, lines_of, part_end}
use Rattle.pm_model.proofs.Alone.{length-words_after}
use Rattle.pm_model.proofs.PlanLaw.{footprint-append, plan_cached, words_after-kept, footprint-take}
use Rattle.side_by_side.specs.SideBySide.{Progress, Plans, left_of, advanced, with_plan, ArePlaying}
use Rattle.mv_model.specs.declared.call.Call.TheVariants as call
use Rattle.mv_model.specs.declared.reply.Reply.TheVariants as reply
use Rattle.engine_core.specs.CoreState.{IsAtFence, unanswered}
use Rattle.engine_core.specs.Kept.{IsCommitting}
use Rattle.engine_core.specs.Stage.{high_at, born_at}
use Rattle.engine_core.specs.StagePlans.{stamp_part, commit_early, commit_late}
use Rattle.engine_core.specs.declared.transactions.Transactions.{Transactions}
use Rattle.engine_core.proofs.Alone.{AreAlone, alone-with, moved-left, moved-one, moved-playing, rested-cached, rested-clean}
use Rattle.engine_core.proofs.Stores.{get-stored, get-beside, get-run_beside, run-misses}

-- ── the next action ──

-- Where as many are left as come after one action, that action is the next.
at_seam : (xs ys rest : List Action) (n : ℕ) (one action : Action) → drop n (xs ++ one ∷ ys) ≡ action ∷ rest → length rest ≡ length ys → (action ≡ one) × (n ≡ length xs)
at_seam [] ys rest zero one action left size = (cc, refl)
at_seam [] ys rest (suc n) one action left size = let all = ap length left in let few = length-drop n ys in absurd (omega (arith, all, few, size))
at_seam (x ∷ xs) ys rest zero one action left size = let all = ap length left in let many = length-append xs (one ∷ ys) in absurd (omega (arith, all, many, size))
at_seam (x ∷ xs) ys rest (suc n) one action left size = let later = at_seam xs ys rest n one action left size in (later.0, (let same = later.1 in omega (arith, same)))

-- where more is left than a second half, the next action is of the first
pub of_first : (xs ys rest : List Action) (action : Action) → xs ++ ys ≡ action ∷ rest → length ys < length (xs ++ ys) → (more : List Action) × (xs ≡ action ∷ more) × (rest ≡ more ++ ys)
of_first [] ys rest action is more = absurd (omega (arith, more))
of_first (x ∷ xs) ys rest action is more = (xs, cc, cc)

footprint-right : (xs ys : List Action) (w : ℕ) → footprint ys w ≡ true → footprint (xs ++ ys) w ≡ true
footprint-right xs ys w hit = ⊎_elim (λ (yes : footprint (xs ++ ys) w ≡ true). yes)
    (λ (out : footprint (xs ++ ys) w ≡ false). absurd (both_ways (footprint ys w) (footprint-append xs ys w out).1 hit))
    (cases_Bool (footprint (xs ++ ys) w))

-- Where more are left, a fence comes before all three.
before_seam : (xs ys rest : List Action) (n : ℕ) (place : Place) (value line : ℕ) → drop n (xs ++ Store place value ∷ Flush line ∷ Fence ∷ ys) ≡ Fence ∷ rest → length ys < length rest → n ≤ length xs
before_seam [] ys rest zero place value line left more = omega arith
before_seam [] ys rest (suc zero) place value line left more = absurd (cc)
before_seam [] ys rest (suc (suc zero)) place value line left more = let all = ap length left in absurd (omega (arith, all, more))
before_seam [] ys rest (suc (suc (suc n))) place value line left more = let all = ap length left in let few = length-drop n ys in absurd (omega (arith, all, few, more))
before_seam (x ∷ xs) ys rest zero place value line left more = omega arith
before_seam (x ∷ xs) ys rest (suc n) place value line left more = let le = before_seam xs ys rest n place value line left more in omega (arith, le)

-- ── the plan of a commit ──

-- its stamps leave the commit word
stamps_miss : (first count number : ℕ) → footprint (part_actions (stamp_part first count number)) (commit_word_at 0) ≡ false
stamps_miss first count number =
    footprint-both (stamp_part first count number) (part_end (stamp_part first count number)) (commit_word_at 0)
    (run-misses number born_at 2048 (λ k. refl) high_at (first + count) first count (commit_word_at 0) (inl (omega arith)) (λ e. omega (arith, e)))
    (flushes_miss (lines_of (stamp_part first count number)) (commit_word_at 0))
  where
    footprint-both : (xs ys : List Action) (w : ℕ) → footprint xs w ≡ false → footprint ys w ≡ false → footprint (xs ++ ys) w ≡ false
    footprint-both [] ys w a b = b
    footprint-both (x ∷ xs) ys w a b = let parts = or_parts (writes x w) (footprint xs w) a in or_from (writes x w) (footprint (xs ++ ys) w) parts.0 (footprint-both xs ys w parts.1 b)

    flushes_miss : (lines : List ℕ) (w : ℕ) → footprint (map (λ line. Flush line) lines ++ Fence ∷ []) w ≡ false
    flushes_miss [] w = refl
    flushes_miss (line ∷ lines) w = flushes_miss lines w

-- its first half writes the commit word
writes_word : (first count number : ℕ) → footprint (plan_of (commit_early first count number)) (commit_word_at 0) ≡ true
writes_word first count number =
    footprint-right (part_actions (stamp_part first count number)) (part_actions (one_store (commit_word_at 0) number) ++ []) (commit_word_at 0) refl

-- what stands there at the fence
word_then : (first count number : ℕ) (words : List ℕ) → commit_word_at 0 < length words → get_or (finished (commit_early first count number) words) (commit_word_at 0) 0 ≡ number
word_then first count number words within =
    get-stored (words_after (stamp_part first count number) words) (commit_word_at 0) number
    (let size = length-words_after (stamp_part first count number) words in omega (arith, size, within))

last_then : (first count number : ℕ) (words : List ℕ) → get_or (finished (commit_early first count number) words) last_at 0 ≡ get_or words last_at 0
last_then first count number words =
    get-beside (words_after (stamp_part first count number) words) (commit_word_at 0) number last_at (λ e. omega (arith, e))
    ∙ get-run_beside number born_at 2048 (λ k. refl) high_at (first + count) first count words last_at (inl (omega arith)) (λ e. omega (arith, e))

-- ── the invariant ──

module _ (number late : ℕ) (now : Transactions) (plans : Plans) (base : List ℕ) (d after : Device) (left rest : List Action) (action : Action)
    (all : ArePlaying 17 plans base d) (is : left ≡ action ∷ rest) (acts : after ≡ acted 1 action d)
    (far : late < length left) (way : IsCommitting number late now left d (plans 1) base) where
  abbrev mine : Play
  mine = (plans 1).play

  abbrev pub tail : List Action
  tail = plan_of (commit_late way.halves.count number)

  -- the next action is one of the first half
  pub next_of : (more : List Action) × (left_of (plans 1) ≡ action ∷ more) × (rest ≡ more ++ tail)
  next_of = of_first (left_of (plans 1)) tail rest action (sym way.behind ∙ is) (let size = ap length way.behind in let late_is = way.halves.late_is in omega (arith, far, size, late_is))

  playing : IsPlaying mine (plans 1).played (left_of (plans 1)) d
  playing = all.playing 1 (omega arith)

  own_word : mine.own (commit_word_at 0) ≡ true
  own_word = playing.playable.within (commit_word_at 0) (ap (λ (ps : List Part). footprint (plan_of ps) (commit_word_at 0)) way.parts ∙ writes_word way.halves.first way.halves.count number)

  -- before its last fence the commit word isn't durable
  not_durable : (one : Action) → action ≡ one → late < length rest → get_or after.durable (commit_word_at 0) 0 ≡ 0
  not_durable (Store place value) same more = ap (λ (x : Device). get_or x.durable (commit_word_at 0) 0) (acts ∙ ap (λ (a : Action). acted 1 a d) same) ∙ way.not_yet
  not_durable (Flush line) same more = ap (λ (x : Device). get_or x.durable (commit_word_at 0) 0) (acts ∙ ap (λ (a : Action). acted 1 a d) same) ∙ way.not_yet
  not_durable (Punch page) same more = ap (λ (x : Device). get_or x.durable (commit_word_at 0) 0) (acts ∙ ap (λ (a : Action). acted 1 a d) same) ∙ way.not_yet
  not_durable Fence same more =
      let first = way.halves.first in
      let count = way.halves.count in
      let stamps = part_actions (stamp_part first count number) in
      let next = next_of in
      let all_left : drop (plans 1).played (stamps ++ store (commit_word_at 0) number ∷ Flush 128 ∷ Fence ∷ []) ≡ Fence ∷ next.0 =
      ap (λ (ps : List Part). drop (plans 1).played (plan_of ps)) (sym way.parts) ∙ next.1 ∙ ap (λ (a : Action). a ∷ next.0) same in
      let late_is = way.halves.late_is in
      let size = ap length next.2 ∙ length-append next.0 tail in
      let within = before_seam stamps [] next.0 (plans 1).played (record { 0 = commit_word_at 0 }) number 128 all_left (omega (arith, more, late_is, size)) in
      let short : take (plans 1).played (plan_of mine.parts) ≡ take (plans 1).played stamps =
      ap (λ (ps : List Part). take (plans 1).played (plan_of ps)) way.parts
      ∙ take-append-le (plans 1).played stamps (store (commit_word_at 0) number ∷ Flush 128 ∷ Fence ∷ []) within in
      let cached : get_or d.cached (commit_word_at 0) 0 ≡ 0 =
      plan_cached mine (plans 1).played d (left_of (plans 1)) playing (commit_word_at 0) own_word
      ∙ ap (λ (xs : List Action). get_or (words_after xs mine.start) (commit_word_at 0) 0) short
      ∙ words_after-kept (take (plans 1).played stamps) mine.start (commit_word_at 0) (footprint-take (plans 1).played stamps (commit_word_at 0) (stamps_miss first count number))
      ∙ sym (all.own 1 (commit_word_at 0) (omega arith) own_word)
      ∙ way.halves.unset in
      let word = get_or-choose_by (d.flushed 1) d.cached d.durable (sym all.whole) (commit_word_at 0) in
      ap (λ (x : Device). get_or x.durable (commit_word_at 0) 0) (acts ∙ ap (λ (a : Action). acted 1 a d) same) ∙ word
      ∙ either (d.flushed 1 (commit_word_at 0)) (get_or d.cached (commit_word_at 0) 0) (get_or d.durable (commit_word_at 0) 0) cached way.not_yet
    where
      either : (b : Bool) (x y : ℕ) → x ≡ 0 → y ≡ 0 → cond b x y ≡ 0
      either true x y p q = p
      either false x y p q = q

  -- it goes on up to the fence
  pub committing-plays : late < length rest → IsCommitting number late now rest after (with_plan plans 1 (advanced (plans 1)) 1) base
  committing-plays more =
      let next = next_of in
      let one = moved-one 1 (omega arith) plans base d after action next.0 all next.1 acts in
      record {
        actions = way.actions;
        decided = way.decided;
        halves = way.halves;
        parts = ap (λ (p : Progress). p.play.parts) one ∙ way.parts;
        behind = next.2 ∙ ap (λ (xs : List Action). xs ++ tail) (sym (moved-left 1 (omega arith) plans base d after action next.0 all next.1 acts));
        not_yet = not_durable action refl more;
      }

  module _ (at : late ≡ length rest) where
    -- at the fence nothing is left of the first half
    pub first-over : (left_of (plans 1) ≡ action ∷ []) × (rest ≡ tail)
    first-over =
        let next = next_of in
        let late_is = way.halves.late_is in
        let size = ap length next.2 ∙ length-append next.0 tail in
        let none = nothing next.0 (omega (arith, at, late_is, size)) in
        (next.1 ∙ ap (λ (xs : List Action). action ∷ xs) none, next.2 ∙ ap (λ (xs : List Action). xs ++ tail) none)
      where
        nothing : (xs : List Action) → length xs ≡ 0 → xs ≡ []
        nothing [] none = refl
        nothing (x ∷ xs) none = absurd (omega (arith, none))

    pub placed-at : (ordinal : ℕ) → AreAlone 1 plans → IsAtFence (unanswered ordinal call.Commit (reply.Committed number)) number d after
    placed-at ordinal others =
        let first = way.halves.first in
        let count = way.halves.count in
        let stamps = part_actions (stamp_part first count number) in
        let front = store (commit_word_at 0) number ∷ Flush 128 ∷ [] in
        let over = first-over in
        let all_left : drop (plans 1).played ((stamps ++ front) ++ Fence ∷ []) ≡ action ∷ [] =
        ap (drop (plans 1).played) (append_assoc stamps front (Fence ∷ [])) ∙ ap (λ (ps : List Part). drop (plans 1).played (plan_of ps)) (sym way.parts) ∙ over.0 in
        let seam = at_seam (stamps ++ front) [] [] (plans 1).played Fence action all_left refl in
        let further = moved-playing 1 (omega arith) plans base d after action [] all over.0 acts in
        let one = moved-one 1 (omega arith) plans base d after action [] all over.0 acts in
        let none = moved-left 1 (omega arith) plans base d after action [] all over.0 acts in
        let next_plans = with_plan plans 1 (advanced (plans 1)) in
        let alone = alone-with 1 plans (advanced (plans 1)) others in
        let words : finished (commit_early first count number) base ≡ after.cached =
        ap (λ (ps : List Part). finished ps base) (sym way.parts) ∙ ap (λ (p : Progress). finished p.play.parts base) (sym one) ∙ rested-cached 1 (omega arith) next_plans base after further alone none in
        let plan = way.halves.plan in
        let word : get_or after.cached (commit_word_at 0) 0 ≡ number = ap (λ (ws : List ℕ). get_or ws (commit_word_at 0) 0) (sym words) ∙ word_then first count number base plan.1.0.1 in
        let last : get_or after.cached last_at 0 ≡ get_or base last_at 0 = ap (λ (ws : List ℕ). get_or ws last_at 0) (sym words) ∙ last_then first count number base in
        let next = way.halves.next in
        record {
          fence = acts ∙ ap (λ (a : Action). acted 1 a d) seam.0;
          was = way.not_yet;
          decided = sym (rested-clean 1 (omega arith) next_plans base after further alone none (commit_word_at 0)) ∙ word;
          last = omega (arith, last, next);
        }
