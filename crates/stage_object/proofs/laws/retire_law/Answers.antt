use Rattle.image_layout.specs.Fixed.{state_at}
use Rattle.stage_object.proofs.Clears.{length-plan_of-retire}
use Rattle.pm_model.proofs.ChangeLaw.{survives-from-words}
use Rattle.pm_model.proofs.Cuts.{one_store-cut}
use Rattle.stage_object.specs.Changes.{retiring}
use Rattle.stage_object.proofs.ChangesHold.{retire_holds}
use Rattle.stage_object.proofs.Retire.{retire_writes, retire_idle, retire_shows, retire_empty}
use Rattle.stage_object.proofs.laws.retire_law.Goals as goal

pub returns-clause-survives : goal.returns-clause-survives
returns-clause-survives c = λ r. survives-from-words (retiring r) (retire_holds r)

pub returns-clause-length : goal.returns-clause-length
returns-clause-length c = length-plan_of-retire

pub returns-clause-writes : goal.returns-clause-writes
returns-clause-writes c = λ object entries w word. retire_writes object entries w word

pub returns-clause-first : goal.returns-clause-first
returns-clause-first c = λ object base image between. one_store-cut (state_at object) 0 base image between

pub returns-clause-idle : goal.returns-clause-idle
returns-clause-idle c = λ r base may. retire_idle r.object r.entries r.word base may.is_object may.most

pub returns-clause-shows : goal.returns-clause-shows
returns-clause-shows c = λ r old words most retired commit. retire_shows r.object r.entries r.word old words retired most commit

pub returns-clause-empty : goal.returns-clause-empty
returns-clause-empty c = λ r old words nth most retired packed lt. retire_empty r.object r.entries r.word old words retired most nth packed lt
