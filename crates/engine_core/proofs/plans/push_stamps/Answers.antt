use Rattle.std.proofs.Common.{◌≡◌, ◌∙◌, ◌+◌, ◌++◌, List, length, ap, arith}
use Rattle.std.proofs.lemmas.List.{length-append}
use Rattle.pm_model.specs.declared.action.Action.{Action}
use Rattle.pm_model.specs.Plans.{part_end}
use Rattle.pm_model.proofs.Lines.{length-lines_of}
use Rattle.engine_core.proofs.StampPlans.{drop-all_of, length-stamp_actions, length-stamp_part}
use Rattle.engine_core.proofs.plans.push_stamps.Goals as goal

pub end_part-requires-clause-count : goal.end_part-requires-clause-count
end_part-requires-clause-count c =
    let size = length-stamp_part c.args.first c.args.count c.args.number in
    let is = ap length c.push_stamp_stores.ensures.left in omega (arith, size, is)

pub end_part-requires-clause-room : goal.end_part-requires-clause-room
end_part-requires-clause-room c =
    let left = c.push_stamp_stores.new.plan.left in
    let size = length-stamp_part c.args.first c.args.count c.args.number in
    let is : length left ≡ c.args.count + 1 = ap length c.push_stamp_stores.ensures.left ∙ size in
    let lines = length-lines_of left in
    rw (drop-all_of left (c.args.count + 1) is) (omega (arith, lines, is, c.push_stamp_stores.ensures.spare))

pub returns-clause-left : goal.returns-clause-left
returns-clause-left c =
    let left = c.push_stamp_stores.new.plan.left in
    let size = length-stamp_part c.args.first c.args.count c.args.number in
    let is : length left ≡ c.args.count + 1 = ap length c.push_stamp_stores.ensures.left ∙ size in
    c.end_part.ensures.left ∙ ap (λ (part : List Action). left ++ part_end part) (drop-all_of left (c.args.count + 1) is)
    ∙ ap (λ (part : List Action). part ++ part_end part) c.push_stamp_stores.ensures.left

pub returns-clause-spare : goal.returns-clause-spare
returns-clause-spare c =
    let left = c.push_stamp_stores.new.plan.left in
    let size = length-stamp_part c.args.first c.args.count c.args.number in
    let is : length left ≡ c.args.count + 1 = ap length c.push_stamp_stores.ensures.left ∙ size in
    let total = ap length c.end_part.ensures.left in
    omega (arith, is, length-append {A = Action}, total, c.end_part.ensures.spare, c.push_stamp_stores.ensures.spare)

pub returns-clause-most : goal.returns-clause-most
returns-clause-most c =
    let left = c.push_stamp_stores.new.plan.left in
    let size = length-stamp_part c.args.first c.args.count c.args.number in
    let is : length left ≡ c.args.count + 1 = ap length c.push_stamp_stores.ensures.left ∙ size in
    let whole = c.end_part.ensures.left ∙ ap (λ (part : List Action). left ++ part_end part) (drop-all_of left (c.args.count + 1) is)
    ∙ ap (λ (part : List Action). part ++ part_end part) c.push_stamp_stores.ensures.left in
    omega (arith, ap length whole, length-stamp_actions c.args.first c.args.count c.args.number)
