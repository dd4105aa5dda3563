use Rattle.pm_model.proofs.ChangeLaw.{survives-from-words}
use Rattle.stage_object.specs.Changes.{beginning}
use Rattle.stage_object.proofs.ChangesHold.{begin_holds}
use Rattle.stage_object.proofs.laws.begin_law.Goals as goal

pub returns-clause-survives : goal.returns-clause-survives
returns-clause-survives c = λ object. survives-from-words (beginning object) (begin_holds object)
