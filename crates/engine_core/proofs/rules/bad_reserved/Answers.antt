use Rattle.std.proofs.Common.{sym, ◌∙◌, arith}
use Rattle.image_layout.specs.Places.{page_count}
use Rattle.image_layout.specs.Checks.{first_failing}
use Rattle.engine_core.specs.ImageRules.{reserved_rule}
use Rattle.engine_core.proofs.Checking.{pages-start, tried-some, tried-none, tried-all, page_check}
use Rattle.engine_core.proofs.rules.bad_reserved.Goals as goal

pub loop-page-init : goal.loop-page-init
loop-page-init g c = pages-start (g.M.Memory.device c.args.memory.now).cached

pub loop-page-preserved : goal.loop-page-preserved
loop-page-preserved g c =
    let words = (g.M.Memory.device c.args.memory.now).cached in
    tried-none (page_check words) c.loop-page.page (page_count words) (first_failing (reserved_rule words)) c.loop-page.invariant (omega (arith, c.loop-page-test.true, c.len.ensures)) (sym c.in_default.is ∙ c.bad_page.ensures)

pub returns-in-Some : goal.returns-in-Some
returns-in-Some g c =
    let words = (g.M.Memory.device c.args.memory.now).cached in
    tried-some (page_check words) c.loop-page.page (page_count words) (first_failing (reserved_rule words)) c.loop-page.invariant c.in-Some.place (omega (arith, c.loop-page-test.true, c.len.ensures)) (sym c.in-Some.is ∙ c.bad_page.ensures)

pub returns : goal.returns
returns g c =
    let words = (g.M.Memory.device c.args.memory.now).cached in
    tried-all (page_check words) c.loop-page.page (page_count words) (first_failing (reserved_rule words)) c.loop-page.invariant (omega (arith, c.len.ensures))
