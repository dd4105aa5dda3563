use Rattle.pm_model.specs.Plain.{device_of}
use Rattle.bench.proofs.Turns.{fresh_used}
use Rattle.bench.proofs.heap.worked.Goals as goal

pub take_turns-requires : goal.take_turns-requires
take_turns-requires c = fresh_used (device_of c.in_ok-memory.memory) c.in_ok-fresh.field-0.items c.in_ok-heap-in_default.heap c.args.job.segments c.in_ok-memory.ensures c.in_ok-fresh.ensures.words c.args.job.some c.in_ok-heap-in_default.ensures
