use Rattle.std.proofs.Common.{◌∙◌, ℤ, Some, ap, sym, subst, rules}
use mir.Syntax.{w64}
use mir.Val.{SFits, of_z, to_z}
use Rattle.std.proofs.lemmas.Int.{to_z-of_z}
use Rattle.std.specs.Prelude.{IfOk}
use Rattle.std.specs.Result.{OnErr}
use Rattle.mv_model.specs.Answer.{answer}
use Rattle.mv_model.specs.declared.call.Call.{Call}
use Rattle.engine_core.specs.Decided.{IsDecision, TakesMemory}
use Rattle.engine_core.specs.LogicalState.{state_of}
use Rattle.engine_core.specs.Served.{insert_of}
use Rattle.engine_core.specs.declared.transactions.Transactions.{Transactions}
use Rattle.mv_model.specs.declared.reply.Reply.TheVariants as reply
use Rattle.engine_core.proofs.Answered.{already, served-insert, stands}
use Rattle.engine_core.proofs.decision.decide_inside.Goals as goal

pub returns-in-Begin-clause-decided : goal.returns-in-Begin-clause-decided
returns-in-Begin-clause-decided g c =
    let words = (g.M.Memory.device c.args.memory.now).cached in
    stands words _ c.args.said.now reply.AlreadyOpen c.stand.result c.stand.ensures (already words c.args.begun c.args.own c.args.said.now c.requires.stage c.in-Begin.is) tt tt

pub returns-in-Int-clause-decided : goal.returns-in-Int-clause-decided
returns-in-Int-clause-decided g c =
    let words = (g.M.Memory.device c.args.memory.now).cached in
    let fits : SFits w64 c.in-Int.number = search rules in
    let before : Transactions = record { begun = c.args.begun; running = Some c.args.own } in
    subst (λ (said : Call). IfOk c.insert.result (λ decision. IsDecision words before said decision))
    (sym (served-insert c.args.said.now c.in-Insert.table c.in-Insert.values c.in-Int.number c.requires.served c.in-Insert.is (c.get-in-Insert.ensures ∙ ap Some c.in-Int.is))) (simp to_z-of_z at c.insert.ensures.decided)

pub returns-in-Int-clause-memory : goal.returns-in-Int-clause-memory
returns-in-Int-clause-memory g c =
    let words = (g.M.Memory.device c.args.memory.now).cached in
    let fits : SFits w64 c.in-Int.number = search rules in
    let now = state_of words (record { begun = c.args.begun; running = Some c.args.own }) in
    let given : OnErr c.insert.result (TakesMemory now (answer now 1 (insert_of (to_z w64 (of_z w64 c.in-Int.number))))) = c.insert.ensures.memory in
    subst (λ (said : Call). OnErr c.insert.result (TakesMemory now (answer now 1 said)))
    (sym (served-insert c.args.said.now c.in-Insert.table c.in-Insert.values c.in-Int.number c.requires.served c.in-Insert.is (c.get-in-Insert.ensures ∙ ap Some c.in-Int.is))) (subst (λ (value : ℤ). OnErr c.insert.result (TakesMemory now (answer now 1 (insert_of value)))) (to_z-of_z w64 c.in-Int.number fits) given)
