use Rattle.pm_model.specs.Plain.{device_of}
use Rattle.image_layout.specs.Fresh.{fresh_words}
use Rattle.std.proofs.Common.{refl}
use Rattle.heap_palloc.proofs.Settled.{fresh_settled}
use Rattle.test_ground.proofs.heap.formatted_heap.Goals as goal

pub returns-clause-settled : goal.returns-clause-settled
returns-clause-settled c = fresh_settled (device_of c.in_ok-memory.memory) (fresh_words c.args.segments) c.in_ok-heap.heap c.args.segments c.in_ok-memory.ensures refl c.in_ok-heap.ensures
