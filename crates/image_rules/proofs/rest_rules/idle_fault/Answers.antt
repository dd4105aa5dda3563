use Rattle.std.proofs.Common.{ℕ, get_or, sym, ◌∙◌, ap, below_more, arith}
use Rattle.image_rules.proofs.RestChecks.{busy_found, idle_none}
use Rattle.image_rules.proofs.rest_rules.idle_fault.Goals as goal

pub returns-then-words-op-ne-IDLE : goal.returns-then-words-op-ne-IDLE
returns-then-words-op-ne-IDLE c =
    busy_found c.args.words.now c.loop-lane.lane c.lane_op-op.result.0 (omega (arith, c.loop-lane-test.true)) c.loop-lane.invariant c.lane_op-op.ensures c.if-words-op-ne-IDLE.true

pub loop-lane-preserved : goal.loop-lane-preserved
loop-lane-preserved c = below_more _ _ c.loop-lane.invariant (ap (λ (p : ℕ). get_or c.args.words.now p 0) (sym c.lane_op-op.ensures) ∙ c.if-words-op-ne-IDLE.false)

pub returns : goal.returns
returns c = idle_none c.args.words.now (λ x lt. c.loop-lane.invariant x (omega (arith, lt, c.loop-lane-test.false)))
