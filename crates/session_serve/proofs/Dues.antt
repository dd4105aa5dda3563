-- Which of the calls that are decided are due.
use Rattle.std.proofs.Common.{◌≡◌, ◌≢◌, inl, inr, ℕ, ◌+◌, ◌≤◌, ◌∙◌, List, [], ◌∷◌, ◌++◌, length, take, refl, ap, sym, subst, append-nil, append_assoc, length-append, arith}
use Rattle.std.proofs.lemmas.List.{same_from_push}
use Rattle.mv_model.specs.declared.call.Call.TheVariants as call
use Rattle.mv_model.specs.declared.reply.Reply.TheVariants as reply
use Rattle.mv_model.specs.declared.reply.Entry.{Entry}
use Rattle.mv_model.specs.State.{State}
use Rattle.mv_model.specs.History.{state_after}
use Rattle.pm_model.specs.declared.action.Action.{Action}
use Rattle.pm_model.specs.Device.{Device}
use Rattle.pm_model.specs.Plans.{at_rest, run}
use Rattle.engine_core.specs.Actions.{late_in, plan_in}
use Rattle.engine_core.specs.CoreState.{IsCommitDue, IsDueAt, unanswered}
use Rattle.engine_core.specs.LogicalState.{logical_state}
use Rattle.script_text.specs.declared.script.Line.{Line}
use Rattle.session_serve.specs.Moments.{IsRun, Moment, decided}

-- a commit that is due is the last call that is decided; with the same actions left it can't have its place
never-both : (opened : State) (history front entries : List Entry) (to_play : ℕ) → IsDueAt opened history [] to_play → IsCommitDue opened front entries to_play → history ≡ front ++ entries → ⊥
never-both opened history front entries to_play (inl placed) due same =
    let certain : to_play ≤ late_in (state_after opened front) due.number =
    placed.1 front (unanswered (length front + 1) call.Commit (reply.Committed due.number)) (same ∙ ap (λ (more : List Entry). front ++ more) due.is) in
    let before = due.before in
    omega (arith, certain, before)
never-both opened history front entries to_play (inr none) due same = empty none.is
  where
    empty : {e : Entry} → [] ≡ e ∷ [] → ⊥
    empty e = cc

-- what is due is the same where the decided calls are the same
same-due : (opened : State) (history other due other_due : List Entry) (to_play : ℕ) → IsDueAt opened history due to_play → IsDueAt opened other other_due to_play
    → history ++ due ≡ other ++ other_due → (history ≡ other) × (due ≡ other_due)
same-due opened history other due other_due to_play (inl placed) (inl none) same =
    (sym (append-nil history) ∙ ap (λ (more : List Entry). history ++ more) (sym placed.0) ∙ same ∙ ap (λ (more : List Entry). other ++ more) none.0 ∙ append-nil other, placed.0 ∙ sym none.0)
same-due opened history other due other_due to_play (inl placed) (inr commit) same =
    absurd (never-both opened history other other_due to_play (inl (refl, placed.1)) commit
    (sym (append-nil history) ∙ ap (λ (more : List Entry). history ++ more) (sym placed.0) ∙ same))
same-due opened history other due other_due to_play (inr commit) (inl none) same =
    absurd (never-both opened other history due to_play (inl (refl, none.1)) commit
    (sym (append-nil other) ∙ ap (λ (more : List Entry). other ++ more) (sym none.0) ∙ sym same))
same-due opened history other due other_due to_play (inr commit) (inr late) same =
    let parts = same_from_push history other _ _ (sym (ap (λ (more : List Entry). history ++ more) commit.is) ∙ same ∙ ap (λ (more : List Entry). other ++ more) late.is) in
    (parts.0, commit.is ∙ ap (λ (one : Entry). one ∷ []) parts.1 ∙ sym late.is)

-- a moment, part by part
abbrev moment : List ℕ → List Entry → List Entry → ℕ → Device → Moment
moment opened history due to_play device = record { opened = opened; history = history; due = due; to_play = to_play; device = device }

pub determined : (words : List ℕ) (script : List Line) (played : ℕ) (m other : Moment) → IsRun words script played m → IsRun words script played other → decided m ≡ decided other → m ≡ other
determined words script played m other ran run_too same =
    let opened : m.opened ≡ other.opened = ran.opened ∙ sym run_too.opened in
    let plans : plan_in (logical_state m.opened) (decided m) ≡ plan_in (logical_state other.opened) (decided other) =
    ap (λ (words : List ℕ). plan_in (logical_state words) (decided m)) opened ∙ ap (plan_in (logical_state other.opened)) same in
    let size = ap length plans in
    let one = ran.counted in
    let two = run_too.counted in
    let left : m.to_play ≡ other.to_play = omega (arith, size, one, two) in
    let here : IsDueAt (logical_state other.opened) m.history m.due other.to_play =
    subst (λ (n : ℕ). IsDueAt (logical_state other.opened) m.history m.due n) left (subst (λ (words : List ℕ). IsDueAt (logical_state words) m.history m.due m.to_play) opened ran.due_is) in
    let parts = same-due (logical_state other.opened) m.history other.history m.due other.due other.to_play here run_too.due_is same in
    let device : m.device ≡ other.device =
    ran.device
    ∙ ap (λ (actions : List Action). run 1 (take played actions) (at_rest m.opened)) plans
    ∙ ap (λ (words : List ℕ). run 1 (take played (plan_in (logical_state other.opened) (decided other))) (at_rest words)) opened
    ∙ sym run_too.device in
    ap (λ (words : List ℕ). moment words m.history m.due m.to_play m.device) opened
    ∙ ap (λ (history : List Entry). moment other.opened history m.due m.to_play m.device) parts.0
    ∙ ap (λ (due : List Entry). moment other.opened other.history due m.to_play m.device) parts.1
    ∙ ap (λ (n : ℕ). moment other.opened other.history other.due n m.device) left
    ∙ ap (λ (d : Device). moment other.opened other.history other.due other.to_play d) device

-- an entry with a place isn't due as well
pub placed : (words : List ℕ) (script : List Line) (played : ℕ) (m : Moment) (front rest : List Entry) → IsRun words script played m → m.history ≡ front ++ rest → rest ≢ []
    → IsRun words script played (record m { history = front; due = rest ++ m.due }) → ⊥
placed words script played m front rest ran split some moved =
    let same : decided m ≡ front ++ (rest ++ m.due) = ap (λ (history : List Entry). history ++ m.due) split ∙ append_assoc front rest m.due in
    let equal = determined words script played m (record m { history = front; due = rest ++ m.due }) ran moved same in
    let history : m.history ≡ front = ap (λ (m : Moment). m.history) equal in
    some (nothing front rest (sym history ∙ split))
  where
    nothing : (front rest : List Entry) → front ≡ front ++ rest → rest ≡ []
    nothing front [] same = refl
    nothing front (entry ∷ rest) same = absurd (let size = ap length same in let more = length-append front (entry ∷ rest) in omega (arith, size, more))
