use Rattle.std.proofs.Common.{ℕ, ◌++◌, List, sym, ◌∙◌, ap}
use Rattle.pm_model.specs.declared.action.Action.{Action}
use Rattle.pm_model.specs.Needed.{needed_parts}
use Rattle.pm_model.specs.Plans.{plan_of}
use Rattle.pmem_recover.specs.declared.change.WordChange.{WordChange}
use Rattle.pmem_recover.specs.Changes.{change_parts}
use Rattle.pmem_recover.proofs.VersionChanges.{parts_are}
use Rattle.pmem_recover.proofs.version.plan_version.Goals as goal

pub returns : goal.returns
returns g c =
    let words : List ℕ = (g.M.Memory.device c.args.mem.now).cached in
    c.push_needed.ensures.left
    ∙ ap (λ (xs : List Action). xs ++ plan_of (needed_parts words (change_parts c.deref.result.now))) c.in_ok-plan.ensures.empty
    ∙ ap (λ (cs : List WordChange). plan_of (needed_parts words (change_parts cs))) (c.deref.ensures.value ∙ c.in_ok-changes.ensures.changes)
    ∙ ap plan_of (sym (parts_are words c.requires.first))
