use Rattle.pm_model.proofs.ChangeLaw.{survives-from-words}
use Rattle.seg_array.specs.Changes.{growth}
use Rattle.seg_array.proofs.Again.{growth_again}
use Rattle.seg_array.proofs.ChangesHold.{growth_holds}
use Rattle.seg_array.proofs.laws.growth_law.Goals as goal

pub returns : goal.returns
returns c = record { survives = λ g. survives-from-words (growth g) (growth_holds g); again = growth_again }
