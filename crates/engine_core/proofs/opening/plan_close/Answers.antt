use Rattle.engine_core.proofs.OpeningPlans.{close-made, close-unmade}
use Rattle.engine_core.proofs.opening.plan_close.Goals as goal

pub returns : goal.returns
returns g c = close-made (g.M.Memory.device c.args.memory.now).cached c.args.object c.is_decided.result c.in_ok-plan.plan.left c.push_idle.new.plan.left c.is_decided.ensures c.if-not-is_decided.false c.in_ok-plan.ensures.empty c.push_idle.ensures

pub returns-then-not-is_decided : goal.returns-then-not-is_decided
returns-then-not-is_decided g c = close-unmade (g.M.Memory.device c.args.memory.now).cached c.args.object c.is_decided.result c.in_ok-plan.plan.left c.is_decided.ensures c.if-not-is_decided.true c.in_ok-plan.ensures.empty
