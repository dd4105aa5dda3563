use Rattle.std.proofs.Common.{◌≡◌, ◌∙◌, ℕ, ◌+◌, Bool, ap, arith, refl}
use Rattle.std.specs.Prelude.{OnOk, Result, Ok, Err}
use Rattle.mv_model.specs.declared.call.Call.{Call}
use Rattle.drill.specs.Calls.{statement_drawn}
use Rattle.drill.specs.Draws.{session_drawn}
use Rattle.drill.specs.Script.{Drafted, is_open, with_drawn, with_line, with_statement}
use Rattle.drill.proofs.draft.Draft.push_statement.Goals as goal

on-ok : {T E : Type 0} (P Q : Type 0) (outcome : Result T E) → (P → Q) → OnOk outcome P → OnOk outcome Q
on-ok P Q (Ok value) goes_on held = goes_on held
on-ok P Q (Err error) goes_on held = tt

-- the script with the statement that was drawn
said-next : (old now : Drafted) (session number next : ℕ) (opened : Bool) (said : Call)
    → session ≡ session_drawn old.number old.next → opened ≡ is_open old.lines session
    → record { call = said; next = next } ≡ statement_drawn old.number opened (old.next + 1) → number ≡ old.number
    → now ≡ record { number = number; lines = with_line old.lines session said; next = next }
    → now ≡ with_statement old
said-next old now session number next opened said is_session is_opened is_drawn same is_now =
    let step : with_drawn old session (statement_drawn old.number opened (old.next + 1)) ≡ with_statement old = rw (is_opened, is_session) refl in
    rw (is_now, same) (ap (with_drawn old session) is_drawn ∙ step)

pub returns : goal.returns
returns c =
    let old : Drafted = record { number = c.self.inside.draws.number; lines = c.self.inside.lines.items; next = c.self.inside.draws.next } in
    let session : c.take_below.result + 1 ≡ session_drawn old.number old.next = omega (arith, c.take_below.ensures.drawn) in
    let opened = c.self.invariant.is_open (c.take_below.result + 1) (omega arith) in
    let drawn = rw c.take_below.ensures.taken at c.in_ok-call.ensures.drawn in
    let same = rw c.take_below.ensures.taken at c.in_ok-call.ensures.same in
    on-ok
    (c.say.new.self ≡ record {
      number = c.draw_statement.new.draws.number;
      lines = with_line old.lines (c.take_below.result + 1) c.in_ok-call.call;
      next = c.draw_statement.new.draws.next;
    })
    (c.say.new.self ≡ with_statement c.args.self.now) c.say.result
    (λ now. said-next old c.say.new.self (c.take_below.result + 1) c.draw_statement.new.draws.number c.draw_statement.new.draws.next _
    c.in_ok-call.call session opened drawn same now ∙ ap with_statement c.self.view_is)
    c.say.ensures
