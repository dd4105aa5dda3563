use Rattle.std.proofs.Common.{◌∙◌}
use Rattle.engine_core.proofs.OpeningPlans.{cleared-is-mended, clear-made}
use Rattle.engine_core.proofs.opening.plan_clear.Goals as goal

pub push_needed-requires-clause-stores : goal.push_needed-requires-clause-stores
push_needed-requires-clause-stores g c = cleared-is-mended c.args.object c.deref.result.now c.requires.object (c.deref.ensures.value ∙ c.in_ok-part.ensures.part)

pub returns : goal.returns
returns g c = clear-made (g.M.Memory.device c.args.memory.now).cached c.args.object c.deref.result.now c.push_needed.new.plan.left (c.deref.ensures.value ∙ c.in_ok-part.ensures.part) c.in_ok-push_needed.ensures.left
