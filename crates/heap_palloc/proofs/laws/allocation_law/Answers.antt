use Rattle.pm_model.proofs.ChangeLaw.{survives-from-words}
use Rattle.heap_palloc.specs.Changes.{allocating}
use Rattle.heap_palloc.proofs.ChangesHold.{allocation_holds}
use Rattle.heap_palloc.proofs.laws.allocation_law.Goals as goal

pub returns : goal.returns
returns c = λ choice. survives-from-words (allocating choice) (allocation_holds choice)
