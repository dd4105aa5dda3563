-- What is known of a run when it ends.
use Rattle.std.proofs.Common.{◌≡◌, ◌≢◌, ◌⊎◌, inl, inr, ℕ, ◌+◌, ◌∙◌, false, List, [], ◌∷◌, ◌++◌, length, take, Option, None, Some, refl, ap, sym, subst, append-nil, append_assoc, arith}
use Rattle.mv_model.specs.declared.call.Call.{Call}
use Rattle.mv_model.specs.declared.call.Call.TheVariants as call
use Rattle.mv_model.specs.declared.reply.Reply.TheVariants as reply
use Rattle.mv_model.specs.declared.reply.Entry.{Entry}
use Rattle.mv_model.specs.State.{State}
use Rattle.mv_model.specs.History.{IsLegal}
use Rattle.pm_model.specs.declared.action.Keep.{Keep}
use Rattle.pm_model.specs.Device.{Device, IsCrashImage, image_of}
use Rattle.pm_model.specs.Plans.{at_rest, run}
use Rattle.pm_image.specs.Spelling.{spelling}
use Rattle.engine_core.specs.Actions.{plan_in}
use Rattle.engine_core.specs.CoreState.{CoreState, InFlight, IsDueAt, IsDueNext, Nothing, Unplaced, Last, unanswered}
use Rattle.engine_core.specs.LogicalState.{logical_state}
use Rattle.engine_core.specs.Opening.{opening_fault, recovered}
use Rattle.engine_core.specs.Recoverable.{IsRecoverable, MayRecoverTo, undecided}
use Rattle.script_text.specs.declared.script.Line.{Line}
use Rattle.script_text.specs.Printed.{history_text}
use Rattle.script_text.specs.Script.{statements_of}
use Rattle.session_serve.specs.Moments.{AreWantingWhere, IsFirstAt, IsFrontOf, IsRun, IsUncut, calls_of}
use Rattle.session_serve.specs.declared.playing.Ending.{Ending}
use Rattle.session_serve.specs.declared.playing.Ending.TheVariants as ending
use Rattle.session_serve.specs.Parts.{LeavesBy, kept_by}
use Rattle.session_serve.specs.Playing.{said_in, EndsLines, IsBefore, IsCounted, IsInCall, StopsAtOnce, StopsInLine, moment_of}
use Rattle.session_serve.specs.Runs.{Finishes, IsCutOff}
use Rattle.session_serve.proofs.Lines.{wanting-more, same-more, statements_of-append}

-- what a core tells at any moment
pub record IsKnown {M : Type 0} (d : Device) (core : CoreState M) : Type 0 where
  pub legal : IsLegal (logical_state core.opened) core.history
  pub legal_due : IsLegal (logical_state core.opened) (core.history ++ core.due)
  pub due_is : IsDueNext core.in_flight core.history core.due
  pub due_at : IsDueAt (logical_state core.opened) core.history core.due core.to_play
  pub device : d ≡ run 1 (take core.played (plan_in (logical_state core.opened) (core.history ++ core.due))) (at_rest core.opened)
  pub recoverable : (image : List ℕ) → IsCrashImage d image → IsRecoverable image
  pub may_recover_to : (image : List ℕ) → IsCrashImage d image → MayRecoverTo (logical_state core.opened) core.history (undecided d core.due) (logical_state image)
  pub rests : core.in_flight ≡ Nothing → d.durable ≡ d.cached

-- what a core that was opened became
pub record HasCome {M : Type 0} (words : List ℕ) (e : Device) (before after : CoreState M) : Type 0 where
  pub accepted : opening_fault words ≡ None
  pub opened : before.opened ≡ recovered words
  pub same : after.opened ≡ before.opened
  pub known : IsKnown e after

-- the call that is in flight is the last that was decided
pub record IsLastCall (said : Call) (front decided : List Entry) : Type 0 where
  pub entry : Entry
  pub is : decided ≡ front ++ entry ∷ []
  pub session : entry.session ≡ 1
  pub call : entry.call ≡ said
  pub open_still : entry.answered ≡ false

-- the call in flight, where it has no place
abbrev unplaced_call : InFlight → Call
unplaced_call Nothing = call.Begin
unplaced_call (Unplaced said) = said
unplaced_call Last = call.Begin

last-unplaced : (said : Call) → Last ≡ Unplaced said → ⊥
last-unplaced said same = cc

last-call : (opened : State) (said : Call) (front history due : List Entry) (in_flight : InFlight) → in_flight ≢ Nothing
    → IsInCall opened said front in_flight history → IsDueNext in_flight history due → (history ++ due ≡ front → ⊥) → IsLastCall said front (history ++ due)
last-call opened said front history due Nothing some in_call is_due more = absurd (some refl)
last-call opened said front history due (Unplaced other) some in_call (inl none) more =
    absurd (more (ap (λ (due : List Entry). history ++ due) none ∙ append-nil history ∙ in_call.1))
last-call opened said front history due (Unplaced other) some in_call (inr commit) more = record {
  entry = unanswered (length history + 1) call.Commit (reply.Committed commit.1.0);
  is = ap (λ (due : List Entry). history ++ due) commit.1.1
      ∙ ap (λ (entries : List Entry). entries ++ unanswered (length history + 1) call.Commit (reply.Committed commit.1.0) ∷ []) in_call.1;
  session = refl;
  call = sym (ap unplaced_call commit.0) ∙ in_call.0;
  open_still = refl;
}
last-call opened said front history due Last some in_call (inl none) more = record {
  entry = in_call.entry;
  is = ap (λ (due : List Entry). history ++ due) none ∙ append-nil history ∙ in_call.is;
  session = in_call.session;
  call = in_call.call;
  open_still = in_call.given;
}
last-call opened said front history due Last some in_call (inr commit) more = absurd (last-unplaced call.Commit commit.0)

-- and those that have a place were refused for want of room where there is none
wanting-in_call : (opened : State) (said : Call) (front history : List Entry) (in_flight : InFlight) → in_flight ≢ Nothing
    → IsInCall opened said front in_flight history → AreWantingWhere opened front → AreWantingWhere opened history
wanting-in_call opened said front history Nothing some in_call wanting = absurd (some refl)
wanting-in_call opened said front history (Unplaced other) some in_call wanting = subst (AreWantingWhere opened) (sym in_call.1) wanting
wanting-in_call opened said front history Last some in_call wanting = subst (AreWantingWhere opened) (sym in_call.is) (wanting-more opened front in_call.entry wanting in_call.wanting)

module _ {M : Type 0} (words : List ℕ) (e : Device) (before after : CoreState M) (come : HasCome words e before after) where
  run-at : (script : List Line) (number : ℕ) → after.played ≡ number → IsCounted after
      → ((session : ℕ) → IsFrontOf (calls_of session (after.history ++ after.due)) (statements_of session script))
      → AreWantingWhere (logical_state after.opened) after.history
      → IsRun words script number (moment_of e after)
  run-at script number reached counted said wanting = record {
    accepted = come.accepted;
    opened = come.same ∙ come.opened;
    legal = come.known.legal;
    legal_due = come.known.legal_due;
    said = said;
    wanting = wanting;
    due_is = come.known.due_at;
    counted = subst (λ (played : ℕ). played + after.to_play ≡ length (plan_in (logical_state after.opened) (after.history ++ after.due))) reached counted;
    device = subst (λ (played : ℕ). e ≡ run 1 (take played (plan_in (logical_state after.opened) (after.history ++ after.due))) (at_rest after.opened)) reached come.known.device;
    recoverable = come.known.recoverable;
    may_recover_to = come.known.may_recover_to;
  }

  uncut : (cut : Option ℕ) (script : List Line) → (script ≡ []) ⊎ IsBefore cut after.played → IsUncut cut script after.played
  uncut None script still = tt
  uncut (Some number) script still = still

  finishes : (cut : Option ℕ) (script : List Line) (image text : List ℕ) → EndsLines ending.Finished cut script after
      → image ≡ spelling e.cached → text ≡ history_text after.history → Finishes cut words script image text
  finishes cut script image text ends is_image is_text =
      let ran = ends.0 in
      let decided : after.history ++ after.due ≡ after.history = ap (λ (due : List Entry). after.history ++ due) ran.due ∙ append-nil after.history in
      record {
        moment = moment_of e after;
        played = after.played;
        run = run-at script after.played refl ran.counted
            (λ session. ([], sym (append-nil (calls_of session (after.history ++ after.due)) ∙ ap (calls_of session) decided ∙ ran.said session)))
            ran.wanting;
        finished = record {
          said = ran.said;
          answered = ran.answered;
          due = ran.due;
          to_play = ran.to_play;
          clean = come.known.rests ran.idle;
        };
        uncut = uncut cut script ends.1;
        image_is = is_image;
        text_is = is_text;
      }

  -- the cut came before the first line
  at_once-run : (script : List Line) (number : ℕ) → StopsAtOnce number script after
      → IsRun words script number (moment_of e after) × IsFirstAt number script (moment_of e after)
  at_once-run script number stops =
      let none : after.history ++ after.due ≡ [] = ap (λ (history : List Entry). history ++ after.due) stops.fresh.history ∙ stops.fresh.due in (
        run-at script number (stops.fresh.played ∙ sym stops.none) stops.counted
            (λ session. (statements_of session script, sym (ap (λ (entries : List Entry). calls_of session entries ++ statements_of session script) none)))
            (subst (AreWantingWhere (logical_state after.opened)) (sym stops.fresh.history) tt),
        inl (stops.none, stops.some, none),
      )

  -- the cut came within a line
  in_line-run : (script : List Line) (number : ℕ) → StopsInLine number script after
      → IsRun words script number (moment_of e after) × IsFirstAt number script (moment_of e after)
  in_line-run script number stops =
      let opened = logical_state after.opened in
      let more : after.history ++ after.due ≡ stops.front → ⊥ =
      λ same. let count : length (plan_in opened (after.history ++ after.due)) ≡ length (plan_in opened stops.front) = ap (λ (entries : List Entry). length (plan_in opened entries)) same in
      omega (arith, stops.counted, stops.before, stops.reached, count) in
      let last = last-call opened (said_in stops.line) stops.front after.history after.due after.in_flight stops.in_flight stops.in_call come.known.due_is more in
      let split : script ≡ (stops.so_far ++ stops.line ∷ []) ++ stops.rest = stops.lines_are ∙ sym (append_assoc stops.so_far (stops.line ∷ []) stops.rest) in (
        run-at script number stops.reached stops.counted
            (λ session. (
              statements_of session stops.rest,
              ap (statements_of session) split
                  ∙ statements_of-append session (stops.so_far ++ stops.line ∷ []) stops.rest
                  ∙ ap (λ (calls : List Call). calls ++ statements_of session stops.rest)
                  (sym (ap (calls_of session) last.is ∙ same-more session stops.so_far stops.line stops.front last.entry stops.built last.session last.call (stops.said session))),
            ))
            (wanting-in_call opened (said_in stops.line) stops.front after.history after.in_flight stops.in_flight stops.in_call stops.wanting),
        inr (record { front = stops.front; last = last.entry; is = last.is; given_before = stops.answered; open_still = last.open_still; before = stops.before }),
      )

  cut_off : (cut : Option ℕ) (keep : Keep) (script : List Line) (image text : List ℕ) (number : ℕ) → cut ≡ Some number
      → IsRun words script number (moment_of e after) × IsFirstAt number script (moment_of e after)
      → IsCrashImage e (image_of keep e) → image ≡ spelling (image_of keep e) → text ≡ history_text after.history → IsCutOff cut keep words script image text
  cut_off cut keep script image text number is_cut ran left is_image is_text = record {
    moment = moment_of e after;
    number = number;
    cut_is = is_cut;
    run = ran.0;
    first = ran.1;
    left = left;
    image_is = is_image;
    text_is = is_text;
  }

  pub leaves : (end : Ending) (cut : Option ℕ) (keep : Keep) (script : List Line) (image text : List ℕ) → EndsLines end cut script after
      → IsCrashImage e (image_of (kept_by end keep) e) × (image ≡ spelling (image_of (kept_by end keep) e)) → text ≡ history_text after.history
      → LeavesBy end cut keep words script image text
  leaves ending.Finished cut keep script image text ends is_image is_text = finishes cut script image text ends is_image.1 is_text
  leaves ending.Cut cut keep script image text (number, is_cut, inl stops) is_image is_text =
      cut_off cut keep script image text number is_cut (at_once-run script number stops) is_image.0 is_image.1 is_text
  leaves ending.Cut cut keep script image text (number, is_cut, inr stops) is_image is_text =
      cut_off cut keep script image text number is_cut (in_line-run script number stops) is_image.0 is_image.1 is_text

-- the image of the same memory, and with the same words kept
pub image-same : {A : Type 0} (device : A → Device) (memory other : A) (kept given : Keep) (bytes : List ℕ) → other ≡ memory → given ≡ kept
    → IsCrashImage (device other) (image_of given (device other)) × (bytes ≡ spelling (image_of given (device other)))
    → IsCrashImage (device memory) (image_of kept (device memory)) × (bytes ≡ spelling (image_of kept (device memory)))
image-same {A} device memory other kept given bytes same_memory same_keep is =
    subst (λ (keep : Keep). IsCrashImage (device memory) (image_of keep (device memory)) × (bytes ≡ spelling (image_of keep (device memory)))) same_keep
    (subst (λ (m : A). IsCrashImage (device m) (image_of given (device m)) × (bytes ≡ spelling (image_of given (device m)))) same_memory is)
