use Rattle.std.proofs.Common.{◌∙◌, ap}
use Rattle.pm_model.specs.Plans.{Part, plan_of, unless_empty}
use Rattle.pm_model.specs.Needed.{needed_stores}
use Rattle.engine_core.proofs.OpeningPlans.{last-made, joined-part}
use Rattle.engine_core.proofs.opening.plan_last.Goals as goal

pub returns : goal.returns
returns g c = let words = (g.M.Memory.device c.args.memory.now).cached in
    last-made words c.count_commits.result c.last_commit.result c.push_needed.new.plan.left c.last_commit.ensures c.count_commits.ensures
    (c.in_ok-push_needed.ensures.left ∙ ap (λ (p : Part). plan_of (unless_empty (needed_stores words p))) (joined-part c.deref.result.now c.push_reserved.new.self.items c.in_ok-part.part.items _ c.deref.ensures.value c.push_reserved.ensures.items c.in_ok-part.ensures.items))
