use Rattle.std.proofs.Common.{sym, ◌∙◌, arith}
use Rattle.image_rules.proofs.LaneChecks.{lanes_none, lanes_some, lanes_more}
use Rattle.image_rules.proofs.lane_rules.lane_fault.Goals as goal

pub loop-lane-preserved : goal.loop-lane-preserved
loop-lane-preserved c = lanes_more c.args.words.now c.loop-lane.lane c.loop-lane.invariant (sym c.is_lane.ensures ∙ c.if-not-is_lane.false)

pub returns-then-not-is_lane : goal.returns-then-not-is_lane
returns-then-not-is_lane c =
    sym (lanes_some c.args.words.now c.loop-lane.lane c.lane_op.result.0 c.lane_op.ensures (omega (arith, c.loop-lane-test.true)) c.loop-lane.invariant (sym c.is_lane.ensures ∙ c.if-not-is_lane.true))

pub returns : goal.returns
returns c = sym (lanes_none c.args.words.now (λ x lt. c.loop-lane.invariant x (omega (arith, lt, c.loop-lane-test.false))))
