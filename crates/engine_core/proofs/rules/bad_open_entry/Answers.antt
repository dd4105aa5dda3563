use Rattle.std.proofs.Common.{ℕ, get_or, ap, sym, ◌∙◌, arith}
use Rattle.image_layout.specs.Checks.{first_failing}
use Rattle.engine_core.specs.ImageRules.{entry_checks}
use Rattle.engine_core.proofs.Checking.{open-start, open-none, tried-some, tried-none, tried-all, entry_check}
use Rattle.engine_core.proofs.rules.bad_open_entry.Goals as goal

pub loop-nth-init : goal.loop-nth-init
loop-nth-init g c = open-start (g.M.Memory.device c.args.memory.now).cached c.args.object (sym (c.load.ensures ∙ ap (λ (w : ℕ). get_or (g.M.Memory.device c.args.memory.now).cached w 0) c.object_state.ensures) ∙ c.if-load-ne1.false)

pub loop-nth-preserved : goal.loop-nth-preserved
loop-nth-preserved g c =
    let words = (g.M.Memory.device c.args.memory.now).cached in
    tried-none (entry_check words c.args.object) c.loop-nth.nth (60) (first_failing (entry_checks words c.args.object)) c.loop-nth.invariant (omega arith) (sym c.in_default.is ∙ c.bad_entry_at.ensures)

pub returns-in-Some : goal.returns-in-Some
returns-in-Some g c =
    let words = (g.M.Memory.device c.args.memory.now).cached in
    tried-some (entry_check words c.args.object) c.loop-nth.nth (60) (first_failing (entry_checks words c.args.object)) c.loop-nth.invariant c.in-Some.place (omega arith) (sym c.in-Some.is ∙ c.bad_entry_at.ensures)

pub returns : goal.returns
returns g c =
    let words = (g.M.Memory.device c.args.memory.now).cached in
    tried-all (entry_check words c.args.object) c.loop-nth.nth (60) (first_failing (entry_checks words c.args.object)) c.loop-nth.invariant (omega arith)

pub returns-then-load-ne1 : goal.returns-then-load-ne1
returns-then-load-ne1 g c = open-none (g.M.Memory.device c.args.memory.now).cached c.args.object
    (λ e. c.if-load-ne1.true (c.load.ensures ∙ ap (λ (w : ℕ). get_or (g.M.Memory.device c.args.memory.now).cached w 0) c.object_state.ensures ∙ e))
