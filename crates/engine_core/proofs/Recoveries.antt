-- What an image that fits together recovers of a history.
use Rattle.std.proofs.Common.{◌≡◌, inl, inr, ⊎_elim, ℕ, zero, suc, ◌+◌, ◌<◌, ◌≤◌, ◌∙◌, Bool, true, false, cond, not, List, [], ◌∷◌, ◌++◌, length, get_or, None, Some, refl, ap, sym, subst, append-nil, arith}
use Rattle.std.specs.Prelude.{All, Contains}
use Rattle.std.proofs.lemmas.Bool.{ne_eqb}
use Rattle.std.proofs.lemmas.List.Elements.{All-contains, All-head}
use Rattle.mv_model.specs.declared.call.Call.{Call}
use Rattle.mv_model.specs.declared.call.Call.TheVariants as call
use Rattle.mv_model.specs.declared.reply.Reply.{Reply}
use Rattle.mv_model.specs.declared.reply.Reply.TheVariants as reply
use Rattle.mv_model.specs.declared.reply.Entry.{Entry}
use Rattle.mv_model.specs.Name.{same_name}
use Rattle.mv_model.specs.Next.{next}
use Rattle.mv_model.specs.State.{State, WriteSet, all_idle}
use Rattle.mv_model.specs.View.{next_row_of}
use Rattle.mv_model.specs.History.{closed, state_after}
use Rattle.pm_model.specs.declared.action.Action.{Action}
use Rattle.pm_model.specs.Device.{Device, IsCrashImage}
use Rattle.pm_model.specs.Plans.{words_after}
use Rattle.side_by_side.specs.SideBySide.{left_of}
use Rattle.side_by_side.proofs.Cutting.{holds-now}
use Rattle.image_layout.specs.Fixed.{last_at, commit_word_at}
use Rattle.engine_core.specs.CoreState.{IsDueNext, due, in_flight_of, unanswered}
use Rattle.engine_core.specs.Decided.{none_open}
use Rattle.engine_core.specs.Kept.{IsDecidedIn, IsGivenBelow, IsKept, IsSafe, Recovers, ShowsAfter, has_place, standing}
use Rattle.engine_core.specs.Survival.{IsRowBelow}
use Rattle.engine_core.specs.LogicalState.{commit_count, commits_in, logical_state, next_row, state_of, table_of}
use Rattle.engine_core.specs.Recoverable.{Fits, IsGiven, IsRecoveryOf, MayRecoverTo, table_drawn, undecided, without_rows}
use Rattle.engine_core.specs.declared.flight.Flight.{Flight}
use Rattle.engine_core.specs.declared.flight.Flight.TheVariants as flight
use Rattle.engine_core.specs.declared.transactions.Transactions.{Transactions}
use Rattle.engine_core.proofs.Alone.{stands-waiting}
use Rattle.engine_core.proofs.Histories.{state_after-more}

-- ── the one table ──

-- a state of the one table, in which no transaction is open
abbrev pub idle_state : ℕ → List WriteSet → State
idle_state rows commits = record { tables = table_of rows ∷ []; commits = commits; begun = 0; running = all_idle }

-- a call draws a row of no other table
drawn-named : (b : Bool) (table : ℕ) → cond b (Some 0) None ≡ Some table → table ≡ 0
drawn-named true table is = cc
drawn-named false table is = absurd (none is)
  where
    none : None ≡ Some table → ⊥
    none e = cc

drawn-first : (rows : ℕ) (commits : List WriteSet) (said : Call) (table : ℕ) → table_drawn (idle_state rows commits) said ≡ Some table → table ≡ 0
drawn-first rows commits (call.Insert name values) table is = drawn-named (same_name (table_of rows).name name) table is
drawn-first rows commits (call.Update name row values) table is = drawn-named (same_name (table_of rows).name name) table is
drawn-first rows commits call.Begin table is = cc
drawn-first rows commits call.Commit table is = cc
drawn-first rows commits call.Abort table is = cc
drawn-first rows commits (call.Create name shape) table is = cc
drawn-first rows commits (call.Defrag pages) table is = cc
drawn-first rows commits (call.Delete name row) table is = cc
drawn-first rows commits (call.Get name row) table is = cc
drawn-first rows commits (call.Scan name pred) table is = cc
drawn-first rows commits (call.Count name pred) table is = cc
drawn-first rows commits (call.Sum name column pred) table is = cc

-- ── recovery ──

-- the rows of answered entries were given out
abbrev pub AreGivenBelow : List Entry → ℕ → Type 0
AreGivenBelow history count = (entry : Entry) → Contains history entry → entry.answered ≡ true → IsRowBelow count entry.reply

recovery : (opened : List ℕ) (history : List Entry) (rows least : ℕ) (commits : List WriteSet) (image : List ℕ)
    → next_row_of (logical_state opened) 0 ≤ least → AreGivenBelow history least
    → commits_in image (commit_count image) ≡ commits → least ≤ next_row image → next_row image ≤ rows
    → IsRecoveryOf (logical_state opened) history (idle_state rows commits) (logical_state image)
recovery opened history rows least commits image opening given is_commits low high = record {
  same = ap (λ (sets : List WriteSet). without_rows (idle_state (next_row image) sets)) is_commits;
  least = none_lost;
  given = λ entry table row has is. first_given entry table row has is (drawn-first rows commits entry.call table is.table_is);
  most = none_more;
}
  where
    none_lost : (table : ℕ) → next_row_of (logical_state opened) table ≤ next_row_of (logical_state image) table
    none_lost zero = omega (arith, opening, low)
    none_lost (suc table) = omega arith

    none_more : (table : ℕ) → next_row_of (logical_state image) table ≤ next_row_of (idle_state rows commits) table
    none_more zero = high
    none_more (suc table) = omega arith

    first_given : (entry : Entry) (table row : ℕ) → Contains history entry → IsGiven (idle_state rows commits) entry table row → table ≡ 0 → row < next_row_of (logical_state image) table
    first_given entry table row has is first =
        let below : row < least = subst (λ (r : Reply). IsRowBelow least r) is.reply (given entry has is.answered) in
        subst (λ (t : ℕ). row < next_row_of (logical_state image) t) (sym first) (omega (arith, below, low))

-- an image with the commits of the state that the entries leave, and with rows between these
pub recovers : (opened words : List ℕ) (history entries : List Entry) (now : Transactions) (least : ℕ) (image : List ℕ) → state_after (logical_state opened) entries ≡ state_of words now
    → next_row_of (logical_state opened) 0 ≤ least → AreGivenBelow history least
    → commits_in image (commit_count image) ≡ (state_of words now).commits → least ≤ next_row image → next_row image ≤ next_row_of (state_of words now) 0 → Recovers opened history entries image
recovers opened words history entries now least image is opening given is_commits low high =
    subst (λ (s : State). IsRecoveryOf (logical_state opened) history s (logical_state image)) (sym (ap closed is))
    (recovery opened history (next_row_of (state_of words now) 0) least (state_of words now).commits image opening given is_commits low high)

-- what the image of a core was given, and shows
given-of : (left : ℕ → ℕ) (count : ℕ) (history : List Entry) → All (IsGivenBelow left count) history → AreGivenBelow history count
given-of left count history all = λ entry has is_answered. below entry.reply (λ row is. All-contains (IsGivenBelow left count) history entry all has row is (inl is_answered))
  where
    below : (given : Reply) → ((row : ℕ) → given ≡ reply.Row row → row < count) → IsRowBelow count given
    below (reply.Row row) gives = gives row refl
    below given gives = tt

-- ── what a core promises of its memory ──

pub due-next : (in_flight : Flight) (history : List Entry) → IsDueNext (in_flight_of in_flight) history (due (length history) in_flight)
due-next flight.Idle history = inl refl
due-next (flight.Waiting said) history = inl refl
due-next (flight.Committing number late) history = inr (refl, (number, refl))
due-next (flight.Placed given) history = inl refl

-- a commit word that differs in the cache is the one that is stored and isn't durable
undecided-set : (d : Device) (ordinal number last : ℕ) (image : List ℕ) → IsCrashImage d image → get_or image (commit_word_at 0) 0 ≡ number → get_or d.durable (commit_word_at 0) 0 ≡ 0 → last + 1 ≡ number
    → undecided d (unanswered ordinal call.Commit (reply.Committed number) ∷ []) ≡ unanswered ordinal call.Commit (reply.Committed number) ∷ []
undecided-set d ordinal number last image cut word durable next =
    let word_now : get_or d.cached (commit_word_at 0) 0 ≡ number = ⊎_elim (λ old. absurd (omega (arith, old, word, durable, next))) (λ new. sym new ∙ word) (cut.each (commit_word_at 0)) in
    ap (λ (same : Bool). cond (not same) (unanswered ordinal call.Commit (reply.Committed number) ∷ []) [])
    (ne_eqb (get_or d.cached (commit_word_at 0) 0) (get_or d.durable (commit_word_at 0) 0) (λ e. omega (arith, e, word_now, durable, next)))

module _ (d : Device) (opened : List ℕ) (history : List Entry) (now : Transactions) (left : List Action) where
  -- each image is safe
  safe-now : (in_flight : Flight) (events played started : ℕ) (kept : IsKept d opened history now left in_flight events played started) (image : List ℕ) → IsCrashImage d image
      → IsSafe opened history (due (length history) in_flight) (λ session. length (left_of (kept.plans session))) image
  safe-now in_flight events played started kept image cut = holds-now 17 kept.plans kept.base d kept.playing (IsSafe opened history (due (length history) in_flight)) kept.safe image cut

  pub fits-now : (in_flight : Flight) (events played started : ℕ) → IsKept d opened history now left in_flight events played started → (image : List ℕ) → IsCrashImage d image → Fits image
  fits-now in_flight events played started kept image cut = (safe-now in_flight events played started kept image cut).fits

  -- it shows the commits of the history, and recovers the state that the history leaves
  module _ (in_flight : Flight) (events played started : ℕ) (kept : IsKept d opened history now left in_flight events played started) (image : List ℕ) (cut : IsCrashImage d image) where
    recovers_now : ShowsAfter opened history image → Recovers opened history history image
    recovers_now shows =
        let safe = safe-now in_flight events played started kept image cut in
        recovers opened (standing kept.plans (due (length history) in_flight) kept.base) history history now (next_row image) image kept.represents safe.least
        (given-of (λ session. length (left_of (kept.plans session))) (next_row image) history safe.given)
        (shows ∙ ap (λ (s : State). s.commits) kept.represents) (omega arith)
        (subst (λ (s : State). next_row image ≤ next_row_of s 0) kept.represents safe.most)

  -- nothing is due
  recovers_none : (in_flight : Flight) (events played started : ℕ) (kept : IsKept d opened history now left in_flight events played started) (image : List ℕ) → IsCrashImage d image
      → due (length history) in_flight ≡ [] → Recovers opened history history image
  recovers_none in_flight events played started kept image cut none =
      recovers_now in_flight events played started kept image cut
      (⊎_elim (λ shows. shows) (λ also. subst (λ (entries : List Entry). ShowsAfter opened entries image) (ap (λ (more : List Entry). history ++ more) none ∙ append-nil history) also.0)
      (safe-now in_flight events played started kept image cut).shows)

  pub may-recover : (in_flight : Flight) (events played started : ℕ) → IsKept d opened history now left in_flight events played started
      → (image : List ℕ) → IsCrashImage d image → MayRecoverTo (logical_state opened) history (undecided d (due (length history) in_flight)) (logical_state image)
  may-recover flight.Idle events played started kept image cut = inl (recovers_none flight.Idle events played started kept image cut refl)
  may-recover (flight.Waiting said) events played started kept image cut = inl (recovers_none (flight.Waiting said) events played started kept image cut refl)
  may-recover (flight.Placed given) events played started kept image cut = inl (recovers_none (flight.Placed given) events played started kept image cut refl)
  may-recover (flight.Committing number late) events played started kept image cut =
      let in_flight = flight.Committing number late in
      let entry = unanswered (length history + 1) call.Commit (reply.Committed number) in
      let safe = safe-now in_flight events played started kept image cut in
      let way = kept.plan in
      let h = way.halves in
      let base_is : standing kept.plans (entry ∷ []) kept.base ≡ kept.base = stands-waiting 1 kept.plans kept.base d (has_place (entry ∷ [])) kept.playing kept.others refl in
      let is_before : state_after (logical_state opened) history ≡ state_of kept.base now = kept.represents ∙ ap (λ (ws : List ℕ). state_of ws now) base_is in
      let is_then : state_after (logical_state opened) (history ++ entry ∷ []) ≡ state_of (words_after way.actions kept.base) (none_open now) =
      state_after-more (logical_state opened) history entry ∙ ap (λ (s : State). next s 1 call.Commit (reply.Committed number)) is_before ∙ way.decided.state in
      let rows = h.rows in
      let few = subst (λ (s : State). next_row image ≤ next_row_of s 0) is_before safe.most in
      ⊎_elim
      (λ shows. inl (recovers_now in_flight events played started kept image cut shows))
      (λ also.
      let word : get_or image (commit_word_at 0) 0 ≡ number = sym (numbers number (get_or image (commit_word_at 0) 0) (All-head (IsDecidedIn image) entry [] also.1)) in
      inr (subst (λ (more : List Entry). Recovers opened history (history ++ more) image)
      (sym (undecided-set d (length history + 1) number (get_or kept.base last_at 0) image cut word way.not_yet h.next))
      (recovers opened (words_after way.actions kept.base) history (history ++ entry ∷ []) (none_open now) (next_row image) image is_then safe.least
      (given-of (λ session. length (left_of (kept.plans session))) (next_row image) history safe.given)
      (also.0 ∙ ap (λ (s : State). s.commits) is_then) (omega arith) (omega (arith, few, rows)))))
      safe.shows
    where
      numbers : (a b : ℕ) → reply.Committed a ≡ reply.Committed b → a ≡ b
      numbers a b e = cc
