use Rattle.pm_model.proofs.ChangeLaw.{survives-from-words}
use Rattle.stage_object.specs.Changes.{entering}
use Rattle.stage_object.proofs.ChangesHold.{entry_holds}
use Rattle.stage_object.proofs.laws.entry_law.Goals as goal

pub returns-clause-survives : goal.returns-clause-survives
returns-clause-survives c = λ n. survives-from-words (entering n) (entry_holds n)
