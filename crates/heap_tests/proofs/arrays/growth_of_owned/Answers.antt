use Rattle.std.proofs.Common.{◌∙◌, ap}
use Rattle.pm_model.specs.Device.{Device}
use Rattle.heap_tests.proofs.ArrayImages.{owned_may_grow}
use Rattle.heap_tests.proofs.arrays.growth_of_owned.Goals as goal

pub plan_grow-requires : goal.plan_grow-requires
plan_grow-requires c = owned_may_grow c.in_ok-memory.memory.cached.items c.in_ok-heap.heap (ap (λ (d : Device). d.cached) c.in_ok-memory.ensures ∙ c.in_ok-owned.ensures.words) c.in_ok-heap.ensures
