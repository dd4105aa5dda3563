use Rattle.std.proofs.Common.{arith}
use Rattle.engine_core.proofs.StampPlans.{stamped-next, stamped-all}
use Rattle.engine_core.proofs.plans.push_stamp_stores.Goals as goal

pub loop-nth-preserved : goal.loop-nth-preserved
loop-nth-preserved c = record {
  left = stamped-next c.args.number c.args.first c.loop-nth.nth c.loop-nth.plan.left c.push.new.self.left c.born.result c.born.ensures c.loop-nth.invariant.left c.push.ensures.left;
  spare = omega (arith, c.push.ensures.spare);
}

pub returns-clause-left : goal.returns-clause-left
returns-clause-left c = stamped-all c.args.number c.args.first c.args.count c.loop-nth.nth c.loop-nth.plan.left c.push-2.new.self.left c.high.result c.from.result c.high.ensures c.from.ensures (omega arith) c.loop-nth.invariant.left c.push-2.ensures.left
