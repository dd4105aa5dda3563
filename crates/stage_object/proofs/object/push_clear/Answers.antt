use Rattle.std.proofs.Common.{◌∙◌, arith}
use Rattle.stage_object.proofs.Clears.{ends_clear}
use Rattle.stage_object.proofs.object.push_clear.Goals as goal

pub end_part-requires-clause-count : goal.end_part-requires-clause-count
end_part-requires-clause-count c =
    (ends_clear c.args.plan.now.left c.push_clear_stores.new.plan.left c.push_clear_stores.new.plan.spare c.args.plan.now.spare c.args.object c.args.entries c.args.word c.from.result
    c.requires.some c.push_clear_stores.ensures.left c.from.ensures c.push_clear_stores.ensures.spare c.requires.room).within

pub end_part-requires-clause-room : goal.end_part-requires-clause-room
end_part-requires-clause-room c =
    (ends_clear c.args.plan.now.left c.push_clear_stores.new.plan.left c.push_clear_stores.new.plan.spare c.args.plan.now.spare c.args.object c.args.entries c.args.word c.from.result
    c.requires.some c.push_clear_stores.ensures.left c.from.ensures c.push_clear_stores.ensures.spare c.requires.room).room

pub returns-clause-left : goal.returns-clause-left
returns-clause-left c =
    c.end_part.ensures.left
    ∙ (ends_clear c.args.plan.now.left c.push_clear_stores.new.plan.left c.push_clear_stores.new.plan.spare c.args.plan.now.spare c.args.object c.args.entries c.args.word c.from.result
    c.requires.some c.push_clear_stores.ensures.left c.from.ensures c.push_clear_stores.ensures.spare c.requires.room).part

pub returns-clause-spare : goal.returns-clause-spare
returns-clause-spare c =
    let size = (ends_clear c.args.plan.now.left c.push_clear_stores.new.plan.left c.push_clear_stores.new.plan.spare c.args.plan.now.spare c.args.object c.args.entries c.args.word c.from.result
    c.requires.some c.push_clear_stores.ensures.left c.from.ensures c.push_clear_stores.ensures.spare c.requires.room).size in
    omega (arith, size, c.end_part.ensures.spare, c.push_clear_stores.ensures.spare)
