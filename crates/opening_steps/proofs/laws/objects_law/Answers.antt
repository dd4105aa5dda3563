use Rattle.opening_steps.proofs.Clearing.{clears_keep}
use Rattle.opening_steps.proofs.Closing.{closes_keep}
use Rattle.opening_steps.proofs.laws.objects_law.Goals as goal

pub returns : goal.returns
returns c = record { closes = closes_keep; clears = clears_keep }
