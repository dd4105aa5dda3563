use Rattle.std.proofs.Common.{ℕ, subst}
use Rattle.txn_object.specs.Calls.{IsExtensionPlanned}
use Rattle.txn_object.proofs.Readying.{planned_segment, extended_planned}
use Rattle.txn_object.proofs.extend.plan_extend.Goals as goal

pub push_readying-requires-clause-line : goal.push_readying-requires-clause-line
push_readying-requires-clause-line g c =
    (planned_segment (g.M.Memory.device c.args.mem.now).cached c.args.heap.now c.push_segment.new.heap c.object_of-object.result c.in_ok-segment.segment.0 c.in_ok-plan.plan.left c.push_segment.new.plan.left (g.met.M.Memory.whole c.args.mem.now).most c.in_ok-segment.ensures.planned).0

pub push_readying-requires-clause-within : goal.push_readying-requires-clause-within
push_readying-requires-clause-within g c =
    (planned_segment (g.M.Memory.device c.args.mem.now).cached c.args.heap.now c.push_segment.new.heap c.object_of-object.result c.in_ok-segment.segment.0 c.in_ok-plan.plan.left c.push_segment.new.plan.left (g.met.M.Memory.whole c.args.mem.now).most c.in_ok-segment.ensures.planned).1

pub returns-clause-planned : goal.returns-clause-planned
returns-clause-planned g c =
    subst (λ (o : ℕ). IsExtensionPlanned (g.M.Memory.device c.args.mem.now).cached c.args.heap.now c.push_segment.new.heap o c.push_readying.new.plan.left) c.object_of-object.ensures
    (extended_planned (g.M.Memory.device c.args.mem.now).cached c.args.heap.now c.push_segment.new.heap c.object_of-object.result c.in_ok-segment.segment.0 c.ready-count.result c.in_ok-plan.plan.left c.push_segment.new.plan.left c.push_readying.new.plan.left
    c.in_ok-plan.ensures.empty c.ready-count.ensures.count c.in_ok-segment.ensures.planned c.push_readying.ensures)
