use Rattle.opening_steps.proofs.Intact.{intact_keeps}
use Rattle.opening_steps.proofs.VersionStep.{version_keeps}
use Rattle.opening_steps.proofs.laws.version_step_law.Goals as goal

pub returns : goal.returns
returns c = record { step = version_keeps; intact = intact_keeps }
