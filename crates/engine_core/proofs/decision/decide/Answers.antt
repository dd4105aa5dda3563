use Rattle.std.proofs.Common.{refl}
use Rattle.mv_model.specs.declared.reply.Reply.TheVariants as reply
use Rattle.mv_model.proofs.Unchanged.{refusals_change_nothing_lem}
use Rattle.engine_core.specs.LogicalState.{state_of}
use Rattle.engine_core.proofs.Decisions.{refused}
use Rattle.engine_core.proofs.Survivals.{stands-survives}
use Rattle.engine_core.proofs.decision.decide.Goals as goal

pub returns-in-Err : goal.returns-in-Err
returns-in-Err g c =
    let words = (g.M.Memory.device c.args.memory.now).cached in
    record {
      copied = refl;
      decided = refused words c.args.now c.args.said.now reply.NoMemory c.requires.stage tt (refusals_change_nothing_lem (state_of words c.args.now) 1 c.args.said.now reply.NoMemory refl) tt refl c.in-Err.ensures.memory;
      late = tt;
      open_still = tt;
      timed = tt;
      survives = stands-survives words c.args.now reply.NoMemory tt;
    }
