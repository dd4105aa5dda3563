use Rattle.pm_model.proofs.ChangeLaw.{survives-from-words}
use Rattle.heap_palloc.specs.Changes.{freeing}
use Rattle.heap_palloc.proofs.ChangesHold.{freeing_holds}
use Rattle.heap_palloc.proofs.laws.freeing_law.Goals as goal

pub returns : goal.returns
returns c = λ freed. survives-from-words (freeing freed) (freeing_holds freed)
