use Rattle.std.proofs.Common.{sym, ◌∙◌, arith}
use Rattle.image_layout.specs.Checks.{first_failing}
use Rattle.engine_core.specs.ImageRules.{object_checks, object_rule}
use Rattle.engine_core.proofs.Checking.{objects-start, tried-some, tried-none, tried-all}
use Rattle.engine_core.proofs.rules.bad_object.Goals as goal

pub loop-object-init : goal.loop-object-init
loop-object-init g c = objects-start (g.M.Memory.device c.args.memory.now).cached

pub loop-object-preserved : goal.loop-object-preserved
loop-object-preserved g c =
    let words = (g.M.Memory.device c.args.memory.now).cached in
    tried-none (object_checks words) c.loop-object.object (16) (first_failing (object_rule words)) c.loop-object.invariant (omega arith) (sym c.in_default.is ∙ c.bad_object_at.ensures)

pub returns-in-Some : goal.returns-in-Some
returns-in-Some g c =
    let words = (g.M.Memory.device c.args.memory.now).cached in
    tried-some (object_checks words) c.loop-object.object (16) (first_failing (object_rule words)) c.loop-object.invariant c.in-Some.place (omega arith) (sym c.in-Some.is ∙ c.bad_object_at.ensures)

pub returns : goal.returns
returns g c =
    let words = (g.M.Memory.device c.args.memory.now).cached in
    tried-all (object_checks words) c.loop-object.object (16) (first_failing (object_rule words)) c.loop-object.invariant (omega arith)
