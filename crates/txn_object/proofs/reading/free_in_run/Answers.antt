use Rattle.std.proofs.Common.{arith}
use Rattle.txn_object.proofs.Runs.{free-yes, free-no}
use Rattle.txn_object.proofs.reading.free_in_run.Goals as goal
use Rattle.txn_object.proofs.reading.free_in_run.Goals.{then-load-eq0, else-load-eq0}

pub loop-nth-preserved : goal.loop-nth-preserved
loop-nth-preserved g c = elim c.if-load-eq0.branch [
  | then-load-eq0 w ↦ let more = free-yes (g.M.Memory.device c.args.mem.now).cached c.args.first.0 c.loop-nth.nth c.load.result c.load.ensures w.if-load-eq0.true in
      record { within = omega (arith, w.free-is, c.loop-nth.invariant.within); counted = omega (arith, w.free-is, more, c.loop-nth.invariant.counted) }
  | else-load-eq0 w ↦ let same = free-no (g.M.Memory.device c.args.mem.now).cached c.args.first.0 c.loop-nth.nth c.load.result c.load.ensures w.if-load-eq0.false in
      record { within = omega (arith, w.free-is, c.loop-nth.invariant.within); counted = omega (arith, w.free-is, same, c.loop-nth.invariant.counted) }
]
