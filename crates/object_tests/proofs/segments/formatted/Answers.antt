use Rattle.std.proofs.Common.{refl}
use Rattle.image_layout.specs.Fresh.{fresh_words}
use Rattle.pm_model.specs.Plain.{device_of}
use Rattle.txn_object.proofs.TestObject.{fresh_extendable}
use Rattle.object_tests.proofs.segments.formatted.Goals as goal

pub returns : goal.returns
returns c = fresh_extendable (device_of c.in_ok-memory.memory) (fresh_words 1) c.in_ok-memory.heap c.in_ok-memory.ensures.words refl c.in_ok-memory.ensures.settled.index_of
