use Rattle.pm_model.proofs.ChangeLaw.{survives-from-words}
use Rattle.txn_object.specs.Changes.{entering}
use Rattle.txn_object.proofs.ChangesHold.{entry_holds}
use Rattle.txn_object.proofs.Entering.{entry_of-entry_word}
use Rattle.txn_object.proofs.Parts.{entry_before, entry_finished}
use Rattle.txn_object.proofs.laws.entry_law.Goals as goal

pub returns-clause-spelt : goal.returns-clause-spelt
returns-clause-spelt c = λ entry spelt. entry_of-entry_word entry spelt.table spelt.row

pub returns-clause-survives : goal.returns-clause-survives
returns-clause-survives c = λ n. survives-from-words (entering n) (entry_holds n)

pub returns-clause-each : goal.returns-clause-each
returns-clause-each c = λ n t parts base is. entry_before base n.object n.nth n.entry is.may t is.shows parts is.spares

pub returns-clause-finishes : goal.returns-clause-finishes
returns-clause-finishes c = λ n t parts base is. entry_finished base n.object n.nth n.entry is.may t is.shows parts is.spares
