use Rattle.std.proofs.Common.{arith}
use Rattle.txn_object.proofs.TestEntries.{all_there, retire_planned, retire_played}
use Rattle.object_tests.proofs.transactions.retire.Goals as goal

pub push_retire-requires-clause-there : goal.push_retire-requires-clause-there
push_retire-requires-clause-there g c = all_there (g.M.Memory.device c.args.memory.now) c.requires

pub push_retire-requires-clause-room : goal.push_retire-requires-clause-room
push_retire-requires-clause-room g c =
    let most = c.retire_room.ensures.enough (g.M.Memory.device c.args.memory.now).cached 0 (all_there (g.M.Memory.device c.args.memory.now) c.requires) in
    omega (arith, most, c.in_ok-plan.ensures.room)

pub play_whole-requires-clause-planned : goal.play_whole-requires-clause-planned
play_whole-requires-clause-planned g c =
    retire_planned (g.M.Memory.device c.args.memory.now) c.requires c.in_ok-plan.plan.left c.push_retire.new.plan.left c.in_ok-plan.ensures.empty c.push_retire.ensures.left

pub returns : goal.returns
returns g c =
    retire_played (g.M.Memory.device c.args.memory.now) c.requires c.in_ok-plan.plan.left c.push_retire.new.plan.left c.in_ok-plan.ensures.empty c.push_retire.ensures.left
    (g.M.Memory.device c.play_whole.new.memory) c.play_whole.ensures.words c.play_whole.ensures.clean
