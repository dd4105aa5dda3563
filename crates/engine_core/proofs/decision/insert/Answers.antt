use Rattle.std.proofs.Common.{◌≡◌, inl, inr, ◌∙◌, ℕ, ◌+◌, ◌<◌, get_or, refl, ap, arith, rules}
use mir.Syntax.{w64}
use mir.Val.{SFits}
use Rattle.std.proofs.lemmas.Int.{to_z-of_z}
use Rattle.mv_model.specs.declared.reply.Reply.TheVariants as reply
use Rattle.engine_core.specs.Served.{insert_of}
use Rattle.engine_core.specs.Stage.{high_at}
use Rattle.engine_core.proofs.Answered.{anyhow, stands}
use Rattle.engine_core.proofs.Decisions.{insert-decided, insert-full, insert-takes}
use Rattle.engine_core.proofs.Survivals.{insert-survives}
use Rattle.engine_core.proofs.decision.insert.Goals as goal
use Rattle.engine_core.proofs.decision.insert.Goals.{then-own-from-via-then-own-from, then-own-from-via-else-own-from+then-row-ge-STAGE_ROWS}

pub returns-then-own-from-clause-decided : goal.returns-then-own-from-clause-decided
returns-then-own-from-clause-decided g c =
    let words = (g.M.Memory.device c.args.memory.now).cached in
    let is_high : c.load.result ≡ get_or words high_at 0 = c.load.ensures ∙ ap (λ (k : ℕ). get_or words k 0) c.high.ensures in
    stands words _ (insert_of c.args.number) (reply.Full 1 0) c.stand.result c.stand.ensures (insert-full words c.args.begun c.args.own.number c.args.own.snapshot c.args.own.rows c.args.number c.requires
    (elim c.then-own-from.branch [ then-own-from-via-then-own-from w ↦ inl (omega (arith, c.from.ensures, w.if-own-from.true)) | then-own-from-via-else-own-from+then-row-ge-STAGE_ROWS w ↦ inr (omega (arith, is_high, w.if-row-ge-STAGE_ROWS.true)) ])) tt tt

pub returns-clause-decided : goal.returns-clause-decided
returns-clause-decided g c =
    let words = (g.M.Memory.device c.args.memory.now).cached in
    let is_high : c.load.result ≡ get_or words high_at 0 = c.load.ensures ∙ ap (λ (k : ℕ). get_or words k 0) c.high.ensures in
    let fits : SFits w64 c.args.number = search rules in
    let is_row : c.load.result + c.args.own.rows ≡ get_or words high_at 0 + c.args.own.rows = ap (λ (n : ℕ). n + c.args.own.rows) is_high in
    let few : c.args.own.rows < 60 = omega (arith, c.from.ensures, c.if-own-from.false) in
    let fewer : c.load.result + c.args.own.rows < 4096 = omega (arith, c.if-row-ge-STAGE_ROWS.false) in
    let decided = insert-decided words c.args.begun c.args.own.number c.args.own.snapshot c.args.own.rows c.requires (c.load.result + c.args.own.rows) c.key_word.result is_row few fewer c.args.number c.in_ok-plan.plan.left
    (simp to_z-of_z at c.key_word.ensures.spells) (simp to_z-of_z at c.key_word.ensures.word) c.in_ok-plan.ensures.left (omega (arith, c.in_ok-plan.ensures.actions)) in
    record {
      copied = refl;
      decided = decided;
      late = tt;
      open_still = tt;
      timed = tt;
      survives = insert-survives words c.args.begun c.args.own (c.load.result + c.args.own.rows) c.key_word.result c.args.number c.in_ok-plan.plan.left _ c.requires is_row few fewer
          c.in_ok-plan.ensures.left decided;
    }

pub returns-in_err-plan-clause-memory : goal.returns-in_err-plan-clause-memory
returns-in_err-plan-clause-memory g c =
    let words = (g.M.Memory.device c.args.memory.now).cached in
    let is_high : c.load.result ≡ get_or words high_at 0 = c.load.ensures ∙ ap (λ (k : ℕ). get_or words k 0) c.high.ensures in
    anyhow c.from_residual.result
    (insert-takes words c.args.begun c.args.own.number c.args.own.snapshot c.args.own.rows c.args.number c.requires (omega (arith, c.from.ensures, c.if-own-from.false)) (omega (arith, is_high, c.if-row-ge-STAGE_ROWS.false)))
