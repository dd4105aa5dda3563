use Rattle.opening_steps.proofs.SlotStep.{slot_keeps}
use Rattle.opening_steps.proofs.TextStep.{texts_keep}
use Rattle.opening_steps.proofs.laws.slots_law.Goals as goal

pub returns : goal.returns
returns c = record { table = slot_keeps; texts = texts_keep }
