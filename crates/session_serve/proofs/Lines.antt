-- What the lines of a script leave, one after the other.
use Rattle.std.proofs.Common.{◌≡◌, ◌≢◌, ◌⊎◌, inl, inr, ℕ, ◌+◌, ◌<◌, ◌==◌, ◌∙◌, Bool, true, false, cond, IsTrue, List, [], ◌∷◌, ◌++◌, length, map, Option, refl, ap, sym, subst, get_or, take, drop, take-append-drop, append-nil, length-append, arith}
use Rattle.std.specs.List.{All}
use Rattle.std.proofs.lemmas.List.Elements.{All-append, All-cons, All-nil, filter-append}
use Rattle.std.proofs.lemmas.Bool.Decides.{eqb_tells}
use Rattle.std.proofs.lemmas.Grind.{flat_map-append}
use Rattle.std.proofs.lemmas.List.{drop_more, map-append, map-id}
use Rattle.sf_value.proofs.Digits.{and-right}
use Rattle.mv_model.specs.declared.call.Call.{Call}
use Rattle.mv_model.specs.declared.reply.Entry.{Entry}
use Rattle.mv_model.specs.State.{State}
use Rattle.mv_model.specs.Next.{next}
use Rattle.mv_model.specs.History.{entries_of, state_after}
use Rattle.engine_core.specs.Actions.{plan_in}
use Rattle.engine_core.specs.CoreState.{CoreState, InFlight}
use Rattle.engine_core.specs.LogicalState.{logical_state}
use Rattle.engine_core.specs.Served.{is_served}
use Rattle.script_text.specs.declared.script.Line.{Line}
use Rattle.script_text.specs.declared.script.Line.TheVariants as line
use Rattle.built_calls.specs.Built.{is_built}
use Rattle.script_text.specs.Script.{IsBuiltLine, asked_by, statements_of}
use Rattle.session_serve.specs.Moments.{AreWantingWhere, IsWantingWhere, calls_of}
use Rattle.session_serve.specs.declared.playing.Ending.TheVariants as ending
use Rattle.session_serve.specs.Playing.{said_in, EndsCall, HasEntry, HasRun, IsBefore, IsCounted, IsFresh, IsInCall, StopsInLine, WasGiven}

-- ── calls and statements ──

pub calls_of-append : (session : ℕ) (front rest : List Entry) → calls_of session (front ++ rest) ≡ calls_of session front ++ calls_of session rest
calls_of-append session front rest =
    ap (λ (entries : List Entry). map (λ (entry : Entry). entry.call) entries) (filter-append (λ (entry : Entry). entry.session == session) front rest)
    ∙ map-append (λ (entry : Entry). entry.call) (entries_of session front) (entries_of session rest)

pub statements_of-append : (session : ℕ) (front rest : List Line) → statements_of session (front ++ rest) ≡ statements_of session front ++ statements_of session rest
statements_of-append session front rest = flat_map-append (asked_by session) front rest

abbrev call_if : Bool → Call → List Call
call_if b said = cond b (said ∷ []) []

calls_of-one : (session : ℕ) (entry : Entry) → calls_of session (entry ∷ []) ≡ call_if (entry.session == session) entry.call
calls_of-one session entry = by_test (entry.session == session)
  where
    by_test : (b : Bool) → map (λ (entry : Entry). entry.call) (cond b (entry ∷ []) []) ≡ call_if b entry.call
    by_test true = refl
    by_test false = refl

statements_of-one : (session speaker ordinal : ℕ) (said : Call) → statements_of session (line.Say speaker ordinal said ∷ []) ≡ call_if (speaker == session) said
statements_of-one session speaker ordinal said = append-nil (call_if (speaker == session) said)

-- what the line of a statement says is served, and session 1 says it
pub line-served : (speaker : ℕ) (said : Call) → IsTrue (is_built speaker said) → (speaker ≡ 1) × IsTrue (is_served said)
line-served speaker said built =
    elim (eqb_tells speaker 1) [
      | inl w ↦ (w.1, and-right _ _ built)
      | inr w ↦ absurd (let e : false ≡ true = rw w.0 at built in cc)
    ]

-- a line and its entry say the same
pub same-one : (session : ℕ) (next : Line) (entry : Entry) → IsBuiltLine next → entry.session ≡ 1 → entry.call ≡ said_in next
    → calls_of session (entry ∷ []) ≡ statements_of session (next ∷ [])
same-one session (line.Say speaker ordinal said) entry built is_one is_said =
    calls_of-one session entry
    ∙ ap (λ (who : ℕ). call_if (who == session) entry.call) (is_one ∙ sym (line-served speaker said built).0)
    ∙ ap (λ (said : Call). call_if (speaker == session) said) is_said
    ∙ sym (statements_of-one session speaker ordinal said)
same-one session (line.Await speaker on nth) entry built is_one is_said = absurd cc

pub same-more : (session : ℕ) (lines : List Line) (next : Line) (history : List Entry) (entry : Entry) → IsBuiltLine next → entry.session ≡ 1 → entry.call ≡ said_in next
    → calls_of session history ≡ statements_of session lines → calls_of session (history ++ entry ∷ []) ≡ statements_of session (lines ++ next ∷ [])
same-more session lines next history entry built is_one is_said same =
    calls_of-append session history (entry ∷ [])
    ∙ ap (λ (calls : List Call). calls ++ calls_of session (entry ∷ [])) same
    ∙ ap (λ (calls : List Call). statements_of session lines ++ calls) (same-one session next entry built is_one is_said)
    ∙ sym (statements_of-append session lines (next ∷ []))

pub wanting-more : (state : State) (entries : List Entry) (entry : Entry) → AreWantingWhere state entries → IsWantingWhere (state_after state entries) entry → AreWantingWhere state (entries ++ entry ∷ [])
wanting-more state [] entry all last = (last, tt)
wanting-more state (first ∷ entries) entry all last = (all.0, wanting-more (next state first.session first.call first.reply) entries entry all.1 last)

pub given-more : (entries : List Entry) (entry : Entry) → All WasGiven entries → WasGiven entry → All WasGiven (entries ++ entry ∷ [])
given-more entries entry all last = All-append WasGiven entries (entry ∷ []) all (All-cons WasGiven entry [] last (All-nil WasGiven))

-- ── lines ──

-- a list that was yielded as far as these, and gives this next
pub split-at : (lines all : List Line) (next : Line) → map (λ line. line) lines ≡ take (length lines) all → length lines < length all → next ≡ get_or all (length lines) next
    → all ≡ lines ++ next ∷ drop (length lines + 1) all
split-at lines all next so_far within is =
    let front : take (length lines) all ≡ lines = sym so_far ∙ map-id lines in
    let rest : drop (length lines) all ≡ next ∷ drop (length lines + 1) all = drop_more all (length lines) next within ∙ ap (λ (line : Line). line ∷ drop (length lines + 1) all) (sym is) in
    sym (take-append-drop (length lines) all) ∙ ap (λ (before : List Line). before ++ drop (length lines) all) front ∙ ap (λ (rest : List Line). lines ++ rest) rest

-- a list that is longer than another has lines
pub not_nil : (lines all : List Line) → length lines < length all → all ≢ []
not_nil lines all longer = λ none. omega (arith, longer, ap length none)

-- no lines, or some of which this holds
pub none_or : (lines : List Line) (P : Type 0) → (lines ≢ [] → P) → (lines ≡ []) ⊎ P
none_or [] P some = inl refl
none_or (line ∷ lines) P some = inr (some (λ e. cc))

module _ {M : Type 0} where
  -- one line more was answered
  pub line-more : (cut : Option ℕ) (lines : List Line) (next : Line) (before after : CoreState M) → HasRun lines before → IsBuiltLine next → after.opened ≡ before.opened
      → after.started ≡ before.started + 1 → IsCounted after
      → IsInCall (logical_state before.opened) (said_in next) before.history after.in_flight after.history
      → EndsCall ending.Finished cut after → HasRun (lines ++ next ∷ []) after
  line-more cut lines next before after ran built opened started counted in_call ends =
      let got : HasEntry (logical_state before.opened) (said_in next) before.history after.history WasGiven =
      subst (λ (in_flight : InFlight). IsInCall (logical_state before.opened) (said_in next) before.history in_flight after.history) ends.0 in_call in
      let size = length-append lines (next ∷ []) in
      record {
        idle = ends.0;
        to_play = ends.1;
        due = ends.2;
        counted = counted;
        started = omega (arith, started, ran.started, size);
        said = λ session. ap (calls_of session) got.is ∙ same-more session lines next before.history got.entry built got.session got.call (ran.said session);
        answered = subst (λ (entries : List Entry). All WasGiven entries) (sym got.is) (given-more before.history got.entry ran.answered got.given);
        wanting = subst (λ (words : List ℕ). AreWantingWhere (logical_state words) after.history) (sym opened)
            (subst (λ (entries : List Entry). AreWantingWhere (logical_state before.opened) entries) (sym got.is) (wanting-more (logical_state before.opened) before.history got.entry ran.wanting got.wanting));
      }

  -- what the answered calls have played
  pub played-between : (lines : List Line) (core : CoreState M) → HasRun lines core → length (plan_in (logical_state core.opened) core.history) ≡ core.played
  played-between lines core ran =
      let none : core.history ++ core.due ≡ core.history = ap (λ (due : List Entry). core.history ++ due) ran.due ∙ append-nil core.history in
      let same : length (plan_in (logical_state core.opened) (core.history ++ core.due)) ≡ length (plan_in (logical_state core.opened) core.history) =
      ap (λ (entries : List Entry). length (plan_in (logical_state core.opened) entries)) none in
      omega (arith, ran.counted, ran.to_play, same)

  -- the cut came within a line
  pub line-cut : (cut : Option ℕ) (lines rest : List Line) (next : Line) (before after : CoreState M) → HasRun lines before → IsBuiltLine next → after.opened ≡ before.opened
      → IsCounted after → IsInCall (logical_state before.opened) (said_in next) before.history after.in_flight after.history
      → IsBefore cut before.played → EndsCall ending.Cut cut after → StopsInLine after.played (lines ++ next ∷ rest) after
  line-cut cut lines rest next before after ran built opened counted in_call still ends =
      let early : before.played < after.played = subst (λ (cut : Option ℕ). IsBefore cut before.played) ends.1 still in
      let same : length (plan_in (logical_state after.opened) before.history) ≡ before.played =
      ap (λ (words : List ℕ). length (plan_in (logical_state words) before.history)) opened ∙ played-between lines before ran in
      record {
        so_far = lines;
        line = next;
        rest = rest;
        lines_are = refl;
        built = built;
        front = before.history;
        said = ran.said;
        answered = ran.answered;
        wanting = subst (λ (words : List ℕ). AreWantingWhere (logical_state words) before.history) (sym opened) ran.wanting;
        in_call = subst (λ (words : List ℕ). IsInCall (logical_state words) (said_in next) before.history after.in_flight after.history) (sym opened) in_call;
        in_flight = ends.0;
        counted = counted;
        before = omega (arith, early, same);
        reached = refl;
      }

  -- before the first line
  pub none-run : (core : CoreState M) → IsFresh core → IsCounted core → HasRun [] core
  none-run core fresh counted = record {
    idle = fresh.idle;
    to_play = fresh.to_play;
    due = fresh.due;
    counted = counted;
    started = fresh.started;
    said = λ session. ap (calls_of session) fresh.history;
    answered = subst (λ (entries : List Entry). All WasGiven entries) (sym fresh.history) (All-nil WasGiven);
    wanting = subst (λ (entries : List Entry). AreWantingWhere (logical_state core.opened) entries) (sym fresh.history) tt;
  }
