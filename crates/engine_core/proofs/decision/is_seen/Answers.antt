use Rattle.std.proofs.Common.{◌≡◌, ◌∙◌, ℕ, true, false, get_or, ap, sym}
use Rattle.engine_core.specs.LogicalState.{within}
use Rattle.engine_core.specs.Stage.{born_at, ended_at}
use Rattle.engine_core.proofs.Written.{seen-by}
use Rattle.engine_core.proofs.decision.is_seen.Goals as goal

pub returns-then-is_born : goal.returns-then-is_born
returns-then-is_born g c =
    let words = (g.M.Memory.device c.args.memory.now).cached in
    let ends : c.load.result ≡ get_or words (ended_at c.args.row) 0 = c.load.ensures ∙ ap (λ (k : ℕ). get_or words k 0) c.ended.ensures in
    let begins : c.load-2.result ≡ get_or words (born_at c.args.row) 0 = c.load-2.ensures ∙ ap (λ (k : ℕ). get_or words k 0) c.born.ensures in
    c.if-is_born.true ∙ seen-by words c.args.own c.requires.stage c.args.row false true c.is_among-is_own.result c.requires.row
    (sym c.if-not-is_ended.true ∙ c.is_read-is_ended.ensures ∙ ap (within 1 c.args.own.snapshot) ends)
    (sym c.if-is_born.true ∙ c.is_read-is_born.ensures ∙ ap (within 1 c.args.own.snapshot) begins)
    c.is_among-is_own.ensures

pub returns-else-is_born : goal.returns-else-is_born
returns-else-is_born g c =
    let words = (g.M.Memory.device c.args.memory.now).cached in
    let ends : c.load.result ≡ get_or words (ended_at c.args.row) 0 = c.load.ensures ∙ ap (λ (k : ℕ). get_or words k 0) c.ended.ensures in
    let begins : c.load-2.result ≡ get_or words (born_at c.args.row) 0 = c.load-2.ensures ∙ ap (λ (k : ℕ). get_or words k 0) c.born.ensures in
    seen-by words c.args.own c.requires.stage c.args.row false false c.is_among-is_own.result c.requires.row
    (sym c.if-not-is_ended.true ∙ c.is_read-is_ended.ensures ∙ ap (within 1 c.args.own.snapshot) ends)
    (sym c.if-is_born.false ∙ c.is_read-is_born.ensures ∙ ap (within 1 c.args.own.snapshot) begins)
    c.is_among-is_own.ensures
