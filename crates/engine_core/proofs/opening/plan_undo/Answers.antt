use Rattle.std.proofs.Common.{◌∙◌}
use Rattle.engine_core.proofs.OpeningPlans.{undo-stores-mended, undecided-open, undo-made, undo-unmade}
use Rattle.engine_core.proofs.opening.plan_undo.Goals as goal

pub undo_stores-requires-clause-opened : goal.undo_stores-requires-clause-opened
undo_stores-requires-clause-opened g c = undecided-open (g.M.Memory.device c.args.memory.now).cached c.args.object c.is_undecided.result c.is_undecided.ensures c.if-not-is_undecided.false

pub push_needed-requires-clause-stores : goal.push_needed-requires-clause-stores
push_needed-requires-clause-stores g c = let words = (g.M.Memory.device c.args.memory.now).cached in
    undo-stores-mended words c.args.object c.deref.result.now c.requires.whole.one_or_more c.requires.rules c.requires.object
    (undecided-open words c.args.object c.is_undecided.result c.is_undecided.ensures c.if-not-is_undecided.false) (c.deref.ensures.value ∙ c.in_ok-part.ensures.part)

pub returns : goal.returns
returns g c = let words = (g.M.Memory.device c.args.memory.now).cached in
    undo-made words c.args.object c.is_undecided.result c.deref.result.now c.push_needed.new.plan.left c.push_idle.new.plan.left c.requires.whole.one_or_more c.requires.rules c.requires.object c.is_undecided.ensures c.if-not-is_undecided.false
    (c.deref.ensures.value ∙ c.in_ok-part.ensures.part) c.in_ok-push_needed.ensures.left c.push_idle.ensures

pub returns-then-not-is_undecided : goal.returns-then-not-is_undecided
returns-then-not-is_undecided g c = undo-unmade (g.M.Memory.device c.args.memory.now).cached c.args.object c.is_undecided.result c.in_ok-plan.plan.left c.is_undecided.ensures c.if-not-is_undecided.true c.in_ok-plan.ensures.empty
