use Rattle.std.proofs.Common.{arith}
use Rattle.txn_object.proofs.Runs.{stored-more}
use Rattle.txn_object.proofs.object.push_zeros.Goals as goal

pub loop-nth-preserved : goal.loop-nth-preserved
loop-nth-preserved c = record {
  left = stored-more c.args.plan.now.left c.loop-nth.plan.left c.push.new.self.left c.args.first.0 c.loop-nth.nth c.push.ensures.left c.loop-nth.invariant.left;
  spare = omega (arith, c.push.ensures.spare, c.loop-nth.invariant.spare);
}
