use Rattle.image_layout.proofs.Faults.{no_fault}
use Rattle.pmem_recover.proofs.FirstFault.{entry-lanes}
use Rattle.pmem_recover.proofs.laws.fault_law.Goals as goal

pub returns : goal.returns
returns c = record {
  none = no_fault;
  lanes = entry-lanes;
}
