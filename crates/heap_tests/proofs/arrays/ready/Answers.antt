use Rattle.pm_model.specs.Plain.{device_of}
use Rattle.heap_tests.proofs.ArrayImages.{image_ready}
use Rattle.heap_tests.proofs.arrays.ready.Goals as goal

pub returns : goal.returns
returns c = image_ready c.args.segments c.requires.one_or_more (device_of c.in_ok-memory.memory) c.in_ok-image.field-0.items c.in_ok-heap.heap c.in_ok-memory.ensures c.in_ok-image.ensures.words c.in_ok-heap.ensures
