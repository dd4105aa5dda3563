use Rattle.pm_model.proofs.ChangeLaw.{survives-from-words}
use Rattle.txn_object.specs.Changes.{beginning}
use Rattle.txn_object.proofs.ChangesHold.{begin_holds}
use Rattle.txn_object.proofs.Parts.{begin_before, begin_finished}
use Rattle.txn_object.proofs.laws.begin_law.Goals as goal

pub returns-clause-survives : goal.returns-clause-survives
returns-clause-survives c = λ object. survives-from-words (beginning object) (begin_holds object)

pub returns-clause-each : goal.returns-clause-each
returns-clause-each c = λ object t parts base is. begin_before base object is.is_object t is.shows parts is.spares

pub returns-clause-finishes : goal.returns-clause-finishes
returns-clause-finishes c = λ object t parts base is. begin_finished base object is.is_object t is.shows parts is.spares
