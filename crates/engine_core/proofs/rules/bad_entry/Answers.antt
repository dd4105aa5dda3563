use Rattle.std.proofs.Common.{sym, ◌∙◌, arith}
use Rattle.image_layout.specs.Checks.{first_failing}
use Rattle.engine_core.specs.ImageRules.{entry_checks, entry_rule}
use Rattle.engine_core.proofs.Checking.{entries-start, tried-some, tried-none, tried-all}
use Rattle.engine_core.proofs.rules.bad_entry.Goals as goal

pub loop-object-init : goal.loop-object-init
loop-object-init g c = entries-start (g.M.Memory.device c.args.memory.now).cached

pub loop-object-preserved : goal.loop-object-preserved
loop-object-preserved g c =
    let words = (g.M.Memory.device c.args.memory.now).cached in
    tried-none (entry_checks words) c.loop-object.object (16) (first_failing (entry_rule words)) c.loop-object.invariant (omega arith) (sym c.in_default.is ∙ c.bad_open_entry.ensures)

pub returns-in-Some : goal.returns-in-Some
returns-in-Some g c =
    let words = (g.M.Memory.device c.args.memory.now).cached in
    tried-some (entry_checks words) c.loop-object.object (16) (first_failing (entry_rule words)) c.loop-object.invariant c.in-Some.place (omega arith) (sym c.in-Some.is ∙ c.bad_open_entry.ensures)

pub returns : goal.returns
returns g c =
    let words = (g.M.Memory.device c.args.memory.now).cached in
    tried-all (entry_checks words) c.loop-object.object (16) (first_failing (entry_rule words)) c.loop-object.invariant (omega arith)
