use Rattle.std.proofs.Common.{◌≡◌, ℕ, ◌<◌, ◌≤◌, List, Some, get_or, ap, sym, ◌∙◌, arith}
use Rattle.engine_core.specs.Stage.{high_at}
use Rattle.image_layout.specs.Checks.{first_failing}
use Rattle.engine_core.specs.ImageRules.{row_checks, stamp_rule}
use Rattle.engine_core.proofs.Checking.{rows-start, high-fails, tried-some, tried-none, tried-all}
use Rattle.engine_core.proofs.rules.bad_stamp.Goals as goal

low : (words : List ℕ) (place word most : ℕ) → place ≡ high_at → word ≡ get_or words place 0 → most ≡ 4096 → word ≤ most → get_or words high_at 0 ≤ 4096
low words place word most at load is le = let e = load ∙ ap (λ (w : ℕ). get_or words w 0) at in omega (arith, e, is, le)

above : (words : List ℕ) (place word most : ℕ) → place ≡ high_at → word ≡ get_or words place 0 → most ≡ 4096 → most < word → 4096 < get_or words high_at 0
above words place word most at load is lt = let e = load ∙ ap (λ (w : ℕ). get_or words w 0) at in omega (arith, e, is, lt)

pub loop-row-init : goal.loop-row-init
loop-row-init g c = rows-start (g.M.Memory.device c.args.memory.now).cached (low (g.M.Memory.device c.args.memory.now).cached c.high.result.0 c.load.result c.from.result c.high.ensures c.load.ensures c.from.ensures c.if-load-from.false)

pub loop-row-preserved : goal.loop-row-preserved
loop-row-preserved g c =
    let words = (g.M.Memory.device c.args.memory.now).cached in
    tried-none (row_checks words) c.loop-row.row (4096) (first_failing (stamp_rule words)) c.loop-row.invariant (omega arith) (sym c.in_default.is ∙ c.bad_row.ensures)

pub returns-in-Some : goal.returns-in-Some
returns-in-Some g c =
    let words = (g.M.Memory.device c.args.memory.now).cached in
    tried-some (row_checks words) c.loop-row.row (4096) (first_failing (stamp_rule words)) c.loop-row.invariant c.in-Some.place (omega arith) (sym c.in-Some.is ∙ c.bad_row.ensures)

pub returns : goal.returns
returns g c =
    let words = (g.M.Memory.device c.args.memory.now).cached in
    tried-all (row_checks words) c.loop-row.row (4096) (first_failing (stamp_rule words)) c.loop-row.invariant (omega arith)

pub returns-then-load-from : goal.returns-then-load-from
returns-then-load-from g c =
    ap (λ (place : ℕ). Some place) c.high-then-load-from.ensures
    ∙ high-fails (g.M.Memory.device c.args.memory.now).cached (above (g.M.Memory.device c.args.memory.now).cached c.high.result.0 c.load.result c.from.result c.high.ensures c.load.ensures c.from.ensures c.if-load-from.true)
