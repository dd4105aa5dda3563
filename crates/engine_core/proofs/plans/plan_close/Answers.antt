use Rattle.std.proofs.Common.{false, length, ap, arith}
use Rattle.std.proofs.lemmas.List.{length-append}
use Rattle.pm_model.specs.declared.action.Action.{Action}
use Rattle.stage_object.proofs.Clears.{length-plan_of-retire}
use Rattle.engine_core.proofs.plans.plan_close.Goals as goal

pub returns-clause-actions : goal.returns-clause-actions
returns-clause-actions c =
    omega (arith, ap length c.push_retire.ensures.left, ap length c.in_ok-plan.ensures.empty, length-append {A = Action}, length-plan_of-retire 0 0 false)
