use Rattle.opening_steps.proofs.Intact.{intact_quiet}
use Rattle.opening_steps.proofs.QuietOpening.{cut_stays, quiet_opens, quiet_recovers}
use Rattle.opening_steps.proofs.laws.quiet_opening_law.Goals as goal

pub returns : goal.returns
returns c = record { opens = quiet_opens; cuts = cut_stays; recovers = quiet_recovers; intact = intact_quiet }
