use Rattle.std.proofs.Common.{arith}
use Rattle.txn_object.proofs.TestEntries.{places_are, enter_plan, enter_played}
use Rattle.object_tests.proofs.transactions.enter.Goals as goal

pub push_entry-requires-clause-there : goal.push_entry-requires-clause-there
push_entry-requires-clause-there g c =
    let all = places_are (g.M.Memory.device c.args.memory.now) 32 c.args.nth c.requires.entries in let lt = c.requires.there in omega (arith, all, lt)

pub play_whole-requires-clause-planned : goal.play_whole-requires-clause-planned
play_whole-requires-clause-planned g c =
    enter_plan (g.M.Memory.device c.args.memory.now) 32 c.args.nth c.row.result c.requires.entries c.requires.there c.row.ensures.table c.row.ensures.row
    c.in_ok-plan.plan.left c.push_entry.new.plan.left c.in_ok-plan.ensures.empty c.push_entry.ensures.left

pub returns : goal.returns
returns g c =
    enter_played (g.M.Memory.device c.args.memory.now) 32 c.args.nth c.row.result c.requires.entries c.requires.there c.row.ensures.table c.row.ensures.row
    c.in_ok-plan.plan.left c.push_entry.new.plan.left c.in_ok-plan.ensures.empty c.push_entry.ensures.left
    (g.M.Memory.device c.play_whole.new.memory) c.play_whole.ensures.words c.play_whole.ensures.clean
