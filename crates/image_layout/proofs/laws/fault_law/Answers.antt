use Rattle.image_layout.proofs.Faults.{no_fault}
use Rattle.image_layout.proofs.laws.fault_law.Goals as goal

pub returns : goal.returns
returns c = no_fault
