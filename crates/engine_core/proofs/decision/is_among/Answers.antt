use Rattle.std.proofs.Common.{◌≡◌, ◌∙◌, ℕ, get_or, ap}
use Rattle.engine_core.specs.Stage.{high_at}
use Rattle.engine_core.proofs.Written.{among-none, among-own}
use Rattle.engine_core.proofs.decision.is_among.Goals as goal

pub returns-then-first-row : goal.returns-then-first-row
returns-then-first-row g c =
    let words = (g.M.Memory.device c.args.memory.now).cached in
    let is_high : c.load-first.result ≡ get_or words high_at 0 = c.load-first.ensures ∙ ap (λ (k : ℕ). get_or words k 0) c.high.ensures in
    among-own words c.args.own c.requires c.load-first.result c.from-row.result c.from.result c.args.row is_high c.from-row.ensures c.from.ensures c.if-first-row.true

pub returns-else-first-row : goal.returns-else-first-row
returns-else-first-row g c =
    let words = (g.M.Memory.device c.args.memory.now).cached in
    let is_high : c.load-first.result ≡ get_or words high_at 0 = c.load-first.ensures ∙ ap (λ (k : ℕ). get_or words k 0) c.high.ensures in
    among-none words c.args.own c.requires c.load-first.result c.from-row.result c.args.row is_high c.from-row.ensures c.if-first-row.false
