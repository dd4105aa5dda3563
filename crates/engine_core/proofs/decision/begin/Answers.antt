use Rattle.std.proofs.Common.{◌∙◌, ℕ, ◌+◌, get_or, length, refl, ap, arith}
use Rattle.engine_core.proofs.Decisions.{begin-decided}
use Rattle.engine_core.proofs.Survivals.{begin-survives}
use Rattle.engine_core.proofs.decision.begin.Goals as goal

pub returns : goal.returns
returns g c =
    let words = (g.M.Memory.device c.args.memory.now).cached in
    let decided = begin-decided words c.args.begun c.requires.stage (c.args.begun + 1) c.load-snapshot.result c.in_ok-plan.plan.left refl
    (c.load-snapshot.ensures ∙ ap (λ (k : ℕ). get_or words k 0) c.last_commit.ensures) c.in_ok-plan.ensures (omega (arith, ap length c.in_ok-plan.ensures)) in
    record {
      copied = refl;
      decided = decided;
      late = tt;
      open_still = tt;
      timed = tt;
      survives = begin-survives words c.args.begun (c.args.begun + 1) c.load-snapshot.result c.in_ok-plan.plan.left _ c.requires.stage c.in_ok-plan.ensures decided;
    }
