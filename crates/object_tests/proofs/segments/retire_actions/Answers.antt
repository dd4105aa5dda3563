use Rattle.std.proofs.Common.{false, refl, arith}
use Rattle.txn_object.proofs.Clears.{retire_length_none}
use Rattle.object_tests.proofs.segments.retire_actions.Goals as goal

pub push_retire-requires-clause-room : goal.push_retire-requires-clause-room
push_retire-requires-clause-room g c =
    let all = retire_length_none (g.M.Memory.device c.args.memory.now).cached 15 0 false (omega arith) refl in
    omega (arith, all, c.in_ok-plan.ensures.room)
