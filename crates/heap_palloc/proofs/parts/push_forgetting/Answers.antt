use Rattle.std.proofs.Common.{arith}
use Rattle.heap_palloc.proofs.Forgetting.{part_room, part_ended, part_spare}
use Rattle.heap_palloc.proofs.parts.push_forgetting.Goals as goal

pub end_part-requires-clause-room : goal.end_part-requires-clause-room
end_part-requires-clause-room g c =
    let made = c.push_given_back-count.ensures in
    part_room c.args.plan.now.left _ c.push_given_back-count.new.plan.left c.push_given_back-count.result c.push_given_back-count.new.plan.spare made.left made.count (omega (arith, made.most, made.spare, c.requires.room, c.if-count-gt0.true))

pub returns-then-count-gt0-clause-left : goal.returns-then-count-gt0-clause-left
returns-then-count-gt0-clause-left g c =
    let made = c.push_given_back-count.ensures in
    part_ended c.args.plan.now.left _ c.push_given_back-count.new.plan.left c.push_given_back-count.result c.push_given_back-count.new.plan.spare made.left made.count c.end_part.new.self.left c.end_part.ensures.left c.if-count-gt0.true

pub returns-then-count-gt0-clause-spare : goal.returns-then-count-gt0-clause-spare
returns-then-count-gt0-clause-spare g c =
    let made = c.push_given_back-count.ensures in
    part_spare c.args.plan.now.left _ c.push_given_back-count.new.plan.left c.push_given_back-count.result c.push_given_back-count.new.plan.spare made.left made.count c.args.run.pages c.end_part.new.self.spare c.args.plan.now.spare made.most c.end_part.ensures.spare made.spare
