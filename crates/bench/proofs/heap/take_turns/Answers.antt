use Rattle.bench.proofs.heap.take_turns.Goals as goal
use Rattle.bench.proofs.heap.take_turns.Goals.{in-Holes+in_ok-actions-in-Holes, in_default}

pub loop-round-init : goal.loop-round-init
loop-round-init g c = elim c.match-job.branch [
  | in-Holes+in_ok-actions-in-Holes w ↦ rw (w.memory-is, w.heap-is) w.in_ok-actions-in-Holes.ensures
  | in_default w ↦ rw (w.memory-is, w.heap-is) c.requires
]
