-- What each image shows goes on to hold as calls are decided, get their place and are answered.
use Rattle.std.proofs.Common.{◌≡◌, ◌⊎◌, inl, inr, ⊎_elim, ℕ, ◌<◌, ◌≤◌, ◌∙◌, Bool, true, false, cond, eqb, List, [], ◌∷◌, ◌++◌, refl, ap, sym, subst, append-nil, arith}
use Rattle.std.specs.Prelude.{All}
use Rattle.std.proofs.lemmas.List.Elements.{All-cons, All-head, All-nil, All-push, All-weaker}
use Rattle.mv_model.specs.declared.call.Call.{Call}
use Rattle.mv_model.specs.declared.call.Call.TheVariants as call
use Rattle.mv_model.specs.declared.reply.Reply.{Reply}
use Rattle.mv_model.specs.declared.reply.Reply.TheVariants as reply
use Rattle.mv_model.specs.declared.reply.Entry.{Entry}
use Rattle.mv_model.specs.State.{State, WriteSet}
use Rattle.mv_model.specs.View.{next_row_of}
use Rattle.mv_model.specs.History.{state_after}
use Rattle.side_by_side.specs.SideBySide.{without}
use Rattle.engine_core.specs.CoreState.{answered, unanswered}
use Rattle.engine_core.specs.Kept.{IsDecidedIn, IsGivenBelow, IsSafe, ShowsAfter}
use Rattle.engine_core.specs.LogicalState.{logical_state, next_row}
use Rattle.engine_core.specs.Survival.{IsRowBelow, IsShown, IsShownUntil, shown_commits}
use Rattle.engine_core.proofs.Histories.{state_after-answered}
use Rattle.engine_core.proofs.ImageFacts.{all-left, all-right}

-- ── rows that were given ──

without-none : (left : ℕ → ℕ) (session : ℕ) → left session ≡ 0 → without 1 left session ≡ 0
without-none left session none = go (eqb session 1)
  where
    go : (b : Bool) → cond b 0 (left session) ≡ 0
    go true = refl
    go false = none

-- from the words before a plan to an image of it, which has given out no fewer rows
given-further : (left : ℕ → ℕ) (count more : ℕ) (history : List Entry) → count ≤ more → All (IsGivenBelow (without 1 left) count) history → All (IsGivenBelow left more) history
given-further left count more history le all = All-weaker (IsGivenBelow (without 1 left) count) (IsGivenBelow left more)
    (λ entry given row is known. let below = given row is (⊎_elim (λ yes. inl yes) (λ none. inr (without-none left entry.session none)) known) in omega (arith, below, le))
    history all

-- a row that is given is below the number
given-row : (count : ℕ) (given : Reply) (row : ℕ) → given ≡ reply.Row row → IsRowBelow count given → row < count
given-row count given row is below = subst (IsRowBelow count) is below

-- words that are safe show the commits of the state
pub safe-shows : (opened : List ℕ) (history : List Entry) (before : State) → state_after (logical_state opened) history ≡ before → (left : ℕ → ℕ) (words : List ℕ)
    → IsSafe opened history [] left words → shown_commits words ≡ before.commits
safe-shows opened history before now left words safe =
    ⊎_elim (λ yes. yes) (λ also. subst (λ (entries : List Entry). ShowsAfter opened entries words) (append-nil history) also.0) safe.shows ∙ ap (λ (s : State). s.commits) now

-- and give out no row more
safe-most : (opened : List ℕ) (history : List Entry) (before : State) → state_after (logical_state opened) history ≡ before → (left : ℕ → ℕ) (due : List Entry) (words : List ℕ)
    → IsSafe opened history due left words → next_row words ≤ next_row_of before 0
safe-most opened history before now left due words safe = subst (λ (s : State). next_row words ≤ next_row_of s 0) now safe.most

module _ (opened : List ℕ) (history : List Entry) (before after : State) (now : state_after (logical_state opened) history ≡ before) where
  module _ (words : List ℕ) (left : ℕ → ℕ) where
    -- ── a call that has its place at its decision ──

    module _ (said : Call) (given : Reply) (ordinal bound : ℕ) (then : state_after (logical_state opened) (history ++ unanswered ordinal said given ∷ []) ≡ after)
        (same : after.commits ≡ before.commits) (rows : next_row_of before 0 ≤ next_row_of after 0) (top : bound ≤ next_row_of after 0) where
      decided_safe : (image : List ℕ) → IsSafe opened history [] (without 1 left) words → IsShown before.commits bound words image → IsGivenBelow left (next_row image) (unanswered ordinal said given)
          → IsSafe opened (history ++ unanswered ordinal said given ∷ []) [] left image
      decided_safe image safe shown new =
          let least = shown.least in
          let most = shown.most in
          let old = safe.least in
          let few = safe-most opened history before now (without 1 left) [] words safe in
          let all : next_row image ≤ next_row_of after 0 = omega (arith, most, few, rows, top) in
          record {
            fits = shown.fits;
            shows = inl (shown.commits_are ∙ sym same ∙ ap (λ (s : State). s.commits) (sym then));
            decided = All-nil (λ entry. left entry.session ≡ 0 → ShowsAfter opened ((history ++ unanswered ordinal said given ∷ []) ++ []) image);
            least = omega (arith, old, least);
            given = All-push (IsGivenBelow left (next_row image)) history (unanswered ordinal said given)
                (given-further left (next_row words) (next_row image) history least safe.given) new;
            most = subst (λ (s : State). next_row image ≤ next_row_of s 0) (sym then) all;
          }

      pub decided-safe : (image : List ℕ) → IsSafe opened history [] (without 1 left) words → 0 < left 1 → IsShown before.commits bound words image
          → IsSafe opened (history ++ unanswered ordinal said given ∷ []) [] left image
      decided-safe image safe some shown = decided_safe image safe shown (λ row is known. ⊎_elim (λ yes. absurd (unlike yes)) (λ none. absurd (omega (arith, none, some))) known)
        where
          unlike : false ≡ true → ⊥
          unlike e = cc

      pub decided-ends : (image : List ℕ) → IsSafe opened history [] (without 1 left) words → IsRowBelow bound given → IsShown before.commits bound words image × (bound ≤ next_row image)
          → IsSafe opened (history ++ unanswered ordinal said given ∷ []) [] left image
      decided-ends image safe below shown = decided_safe image safe shown.0
          (λ row is known. let lt = given-row bound given row is below in let reached = shown.1 in omega (arith, lt, reached))

    -- ── a commit that waits for its place ──

    module _ (number ordinal : ℕ) (then : state_after (logical_state opened) (history ++ unanswered ordinal call.Commit (reply.Committed number) ∷ []) ≡ after) where
      abbrev entry : Entry
      entry = unanswered ordinal call.Commit (reply.Committed number)

      shows_new : (image : List ℕ) → IsShown after.commits 0 words image → ShowsAfter opened (history ++ entry ∷ []) image
      shows_new image shown = shown.commits_are ∙ ap (λ (s : State). s.commits) (sym then)

      waits : (image : List ℕ) (commits : List WriteSet) → IsSafe opened history [] (without 1 left) words → (left 1 ≡ 0 → ShowsAfter opened (history ++ entry ∷ []) image) → IsShown commits 0 words image
          → ShowsAfter opened history image ⊎ (ShowsAfter opened (history ++ entry ∷ []) image × All (IsDecidedIn image) (entry ∷ [])) → IsSafe opened history (entry ∷ []) left image
      waits image commits safe sure shown shows =
          let least = shown.least in
          let most = shown.most in
          let old = safe.least in
          let few = safe-most opened history before now (without 1 left) [] words safe in
          let all : next_row image ≤ next_row_of before 0 = omega (arith, most, few) in
          record {
            fits = shown.fits;
            shows = shows;
            decided = All-cons (λ one. left one.session ≡ 0 → ShowsAfter opened (history ++ entry ∷ []) image) entry [] sure (All-nil (λ one. left one.session ≡ 0 → ShowsAfter opened (history ++ entry ∷ []) image));
            least = omega (arith, old, least);
            given = given-further left (next_row words) (next_row image) history least safe.given;
            most = subst (λ (s : State). next_row image ≤ next_row_of s 0) (sym now) all;
          }

      until_safe : (image : List ℕ) → IsSafe opened history [] (without 1 left) words → (left 1 ≡ 0 → ShowsAfter opened (history ++ entry ∷ []) image) → IsShownUntil before after number words image
          → IsSafe opened history (entry ∷ []) left image
      until_safe image safe sure (inl shown) = waits image before.commits safe sure shown (inl (shown.commits_are ∙ ap (λ (s : State). s.commits) (sym now)))
      until_safe image safe sure (inr both) = waits image after.commits safe sure both.0
          (inr (shows_new image both.0, All-cons (IsDecidedIn image) entry [] (ap reply.Committed (sym both.1)) (All-nil (IsDecidedIn image))))

      pub until-safe : (image : List ℕ) → IsSafe opened history [] (without 1 left) words → 0 < left 1 → IsShownUntil before after number words image → IsSafe opened history (entry ∷ []) left image
      until-safe image safe some shown = until_safe image safe (λ none. absurd (omega (arith, none, some))) shown

      pub until-ends : (image : List ℕ) → IsSafe opened history [] (without 1 left) words → IsShownUntil before after number words image × IsShown after.commits 0 words image → IsSafe opened history (entry ∷ []) left image
      until-ends image safe shown = until_safe image safe (λ none. shows_new image shown.1) shown.0

  -- ── a commit gets its place ──

  module _ (number ordinal : ℕ) (same_rows : next_row_of after 0 ≡ next_row_of before 0)
      (then : state_after (logical_state opened) (history ++ unanswered ordinal call.Commit (reply.Committed number) ∷ []) ≡ after) (left : ℕ → ℕ) where
    abbrev commit : Entry
    commit = unanswered ordinal call.Commit (reply.Committed number)

    -- the plan up to its place is over
    pub placed-safe : (image : List ℕ) → left 1 ≡ 0 → IsSafe opened history (commit ∷ []) left image → IsSafe opened (history ++ commit ∷ []) [] left image
    placed-safe image none safe =
        let most = safe-most opened history before now left (commit ∷ []) image safe in
        let all : next_row image ≤ next_row_of after 0 = omega (arith, most, same_rows) in
        record {
          fits = safe.fits;
          shows = inl (All-head (λ one. left one.session ≡ 0 → ShowsAfter opened (history ++ commit ∷ []) image) commit [] safe.decided none);
          decided = All-nil (λ one. left one.session ≡ 0 → ShowsAfter opened ((history ++ commit ∷ []) ++ []) image);
          least = safe.least;
          given = All-push (IsGivenBelow left (next_row image)) history commit safe.given (λ row is known. absurd (unlike row is));
          most = subst (λ (s : State). next_row image ≤ next_row_of s 0) (sym then) all;
        }
      where
        unlike : (row : ℕ) → reply.Committed number ≡ reply.Row row → ⊥
        unlike row e = cc

-- and the plan behind its place is played
pub certain-safe : (opened : List ℕ) (history : List Entry) (after : State) → state_after (logical_state opened) history ≡ after → (left : ℕ → ℕ) (words image : List ℕ) → IsSafe opened history [] (without 1 left) words
    → IsShown after.commits 0 words image → IsSafe opened history [] left image
certain-safe opened history after then left words image safe shown =
    let old = safe.least in
    let least = shown.least in
    let few = safe.most in
    let most = shown.most in
    record {
      fits = shown.fits;
      shows = inl (shown.commits_are ∙ ap (λ (s : State). s.commits) (sym then));
      decided = All-nil (λ one. left one.session ≡ 0 → ShowsAfter opened (history ++ []) image);
      least = omega (arith, old, least);
      given = given-further left (next_row words) (next_row image) history least safe.given;
      most = omega (arith, few, most);
    }

-- ── the last call is answered ──

-- its plan is over
pub answered-safe : (opened : List ℕ) (front : List Entry) (last : Entry) (left : ℕ → ℕ) (image : List ℕ) → last.session ≡ 1 → left 1 ≡ 0
    → IsSafe opened (front ++ last ∷ []) [] left image → IsSafe opened (front ++ answered last ∷ []) [] left image
answered-safe opened front last left image own none safe =
    let same = state_after-answered (logical_state opened) front last in
    let shows : ShowsAfter opened (front ++ last ∷ []) image = ⊎_elim (λ yes. yes) (λ also. subst (λ (entries : List Entry). ShowsAfter opened entries image) (append-nil (front ++ last ∷ [])) also.0) safe.shows in
    let old = all-left (IsGivenBelow left (next_row image)) front (last ∷ []) safe.given in
    let given = All-head (IsGivenBelow left (next_row image)) last [] (all-right (IsGivenBelow left (next_row image)) front (last ∷ []) safe.given) in
    record {
      fits = safe.fits;
      shows = inl (shows ∙ ap (λ (s : State). s.commits) (sym same));
      decided = All-nil (λ entry. left entry.session ≡ 0 → ShowsAfter opened ((front ++ answered last ∷ []) ++ []) image);
      least = safe.least;
      given = All-push (IsGivenBelow left (next_row image)) front (answered last) old (λ row is known. given row is (inr (ap left own ∙ none)));
      most = subst (λ (s : State). next_row image ≤ next_row_of s 0) (sym same) safe.most;
    }
