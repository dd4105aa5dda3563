use Rattle.mv_model.specs.declared.reply.Reply.TheVariants as reply
use Rattle.engine_core.proofs.Answered.{anyhow, begin-takes, no_txn, stands}
use Rattle.engine_core.proofs.decision.decide_outside.Goals as goal

pub returns-in_default-clause-decided : goal.returns-in_default-clause-decided
returns-in_default-clause-decided g c =
    let words = (g.M.Memory.device c.args.memory.now).cached in
    stands words _ c.args.said.now reply.NoTxn c.stand.result c.stand.ensures (no_txn words c.args.begun c.args.said.now c.requires.stage c.requires.served c.in_default.not-Begin) tt tt

pub returns-in-Begin-clause-memory : goal.returns-in-Begin-clause-memory
returns-in-Begin-clause-memory g c =
    anyhow c.begin.result (begin-takes (g.M.Memory.device c.args.memory.now).cached c.args.begun c.args.said.now c.in-Begin.is)
