use Rattle.pm_model.proofs.ChangeLaw.{survives-from-words}
use Rattle.text_block.specs.Changes.{writing}
use Rattle.text_block.proofs.ChangeHolds.{writing_holds}
use Rattle.text_block.proofs.ReadBack.{text_back, text_sound}
use Rattle.text_block.proofs.laws.write_law.Goals as goal

pub returns-clause-survives : goal.returns-clause-survives
returns-clause-survives c = λ w. survives-from-words (writing w) (writing_holds w)

pub returns-clause-text : goal.returns-clause-text
returns-clause-text c = text_back

pub returns-clause-sound : goal.returns-clause-sound
returns-clause-sound c = text_sound
