use Rattle.std.proofs.Common.{◌∙◌, ℕ, List, ap, sym, subst, arith}
use Rattle.pm_model.specs.Device.{Device}
use Rattle.pm_model.specs.Plans.{MayPlay, at_rest}
use Rattle.heap_palloc.specs.Index.{IsIndexOf}
use Rattle.heap_palloc.proofs.Choosing.{ok_map}
use Rattle.seg_array.specs.Calls.{MayPlanGrowth}
use Rattle.heap_tests.proofs.ArrayImages.{image_may_grow, planned_plays}
use Rattle.heap_tests.proofs.arrays.growth.Goals as goal

pub plan_grow-requires : goal.plan_grow-requires
plan_grow-requires g c =
    let words = ap (λ (d : Device). d.cached) c.requires in
    subst (λ (xs : List ℕ). MayPlanGrowth xs c.in_ok-heap.heap 0 2064) (sym words) (image_may_grow 1 (omega arith) c.in_ok-heap.heap (subst (λ (xs : List ℕ). IsIndexOf xs c.in_ok-heap.heap) words c.in_ok-heap.ensures))

pub returns : goal.returns
returns g c =
    let same = c.requires in
    let words = ap (λ (d : Device). d.cached) c.requires in
    ok_map _ _ c.plan_grow.result
    (λ plan planned. subst (λ (d : Device). MayPlay 1 plan.left d) (ap at_rest words ∙ sym same) (planned_plays (g.M.Memory.device c.args.mem.now).cached _ _ 0 2064 1 plan.left planned))
    c.plan_grow.ensures.planned
