use Rattle.std.proofs.Common.{◌≡◌, ◌∙◌, ℕ, ◌+◌, ◌<◌, get_or, refl, ap, sym, arith}
use Rattle.mv_model.specs.declared.call.Call.TheVariants as call
use Rattle.mv_model.specs.declared.reply.Reply.TheVariants as reply
use Rattle.mv_model.specs.declared.limits.TheConstants.{MAX_COMMITS}
use Rattle.image_layout.specs.Fixed.{last_at}
use Rattle.engine_core.specs.Stage.{high_at}
use Rattle.engine_core.proofs.Answered.{anyhow, close-takes, closes, commit-takes, spent, stands}
use Rattle.engine_core.proofs.Commits.{commit-decided, commit-timed}
use Rattle.engine_core.proofs.Survivals.{commit-survives}
use Rattle.engine_core.proofs.decision.commit.Goals as goal

pub returns-then-own-eq0-clause-decided : goal.returns-then-own-eq0-clause-decided
returns-then-own-eq0-clause-decided g c =
    let words = (g.M.Memory.device c.args.memory.now).cached in
    closes words c.args.begun c.args.own c.close.result c.requires c.if-own-eq0.true c.close.ensures

pub returns-then-last-ge-MAX_COMMITS-clause-decided : goal.returns-then-last-ge-MAX_COMMITS-clause-decided
returns-then-last-ge-MAX_COMMITS-clause-decided g c =
    let words = (g.M.Memory.device c.args.memory.now).cached in
    let is_last : c.load-last.result ≡ get_or words last_at 0 = c.load-last.ensures ∙ ap (λ (k : ℕ). get_or words k 0) c.last_commit.ensures in
    stands words _ call.Commit reply.Spent c.stand.result c.stand.ensures (spent words c.args.begun c.args.own c.requires (omega (arith, c.if-own-eq0.false)) (omega (arith, is_last, c.if-last-ge-MAX_COMMITS.true))) tt tt

pub returns-clause-decided : goal.returns-clause-decided
returns-clause-decided g c =
    let words = (g.M.Memory.device c.args.memory.now).cached in
    let is_last : c.load-last.result ≡ get_or words last_at 0 = c.load-last.ensures ∙ ap (λ (k : ℕ). get_or words k 0) c.last_commit.ensures in
    let is_high : c.load-first.result ≡ get_or words high_at 0 = c.load-first.ensures ∙ ap (λ (k : ℕ). get_or words k 0) c.high.ensures in
    let some : 0 < c.args.own.rows = omega (arith, c.if-own-eq0.false) in
    let room : c.load-last.result < MAX_COMMITS = omega (arith, c.if-last-ge-MAX_COMMITS.false) in
    let decided = commit-decided words c.args.begun c.args.own.number c.args.own.snapshot c.args.own.rows c.load-first.result c.load-last.result c.requires (sym is_high) (sym is_last) some room (c.load-last.result + 1) c.in_ok-made.made.plan.left refl c.in_ok-made.ensures.left
    (omega (arith, c.in_ok-made.ensures.actions)) in
    record {
      copied = refl;
      decided = decided;
      late = (refl, refl, c.in_ok-made.ensures.later);
      open_still = refl;
      timed = commit-timed words c.args.begun c.args.own.number c.args.own.snapshot c.args.own.rows c.load-first.result c.load-last.result c.requires (sym is_high) (sym is_last) some room (c.load-last.result + 1) c.in_ok-made.made.late c.in_ok-made.ensures.late;
      survives = commit-survives words c.args.begun c.args.own.number c.args.own.snapshot c.args.own.rows c.load-first.result c.load-last.result c.requires (sym is_high) (sym is_last) some room (c.load-last.result + 1)
          c.in_ok-made.made.late c.in_ok-made.made.plan.left refl c.in_ok-made.ensures.left c.in_ok-made.ensures.late decided;
    }

pub returns-then-own-eq0-clause-memory : goal.returns-then-own-eq0-clause-memory
returns-then-own-eq0-clause-memory g c =
    anyhow c.close.result (close-takes (g.M.Memory.device c.args.memory.now).cached c.args.begun c.args.own c.requires c.if-own-eq0.true)

pub returns-in_err-made-clause-memory : goal.returns-in_err-made-clause-memory
returns-in_err-made-clause-memory g c =
    let words = (g.M.Memory.device c.args.memory.now).cached in
    let is_last : c.load-last.result ≡ get_or words last_at 0 = c.load-last.ensures ∙ ap (λ (k : ℕ). get_or words k 0) c.last_commit.ensures in
    anyhow c.from_residual.result
    (commit-takes words c.args.begun c.args.own c.requires (omega (arith, c.if-own-eq0.false)) (omega (arith, is_last, c.if-last-ge-MAX_COMMITS.false)))
