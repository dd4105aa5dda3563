use Rattle.std.proofs.Common.{ℕ, List, ap, subst}
use Rattle.mv_model.specs.declared.reply.Entry.{Entry}
use Rattle.engine_core.specs.LogicalState.{logical_state}
use Rattle.session_serve.specs.Playing.{IsInCall}
use Rattle.session_serve.proofs.playing.start_and_step.Goals as goal

pub returns-clause-in_call : goal.returns-clause-in_call
returns-clause-in_call g c =
    let begun = c.in_ok-start.ensures.started in
    let now = c.step_to_reply.ensures.in_call c.args.said (ap (λ core. core.in_flight) begun) in
    subst (λ (opened : List ℕ). IsInCall (logical_state opened) c.args.said c.args.core.now.history c.step_to_reply.new.core.in_flight c.step_to_reply.new.core.history) (ap (λ core. core.opened) begun)
    (subst (λ (history : List Entry). IsInCall (logical_state c.start.new.self.opened) c.args.said history c.step_to_reply.new.core.in_flight c.step_to_reply.new.core.history) (ap (λ core. core.history) begun) now)
