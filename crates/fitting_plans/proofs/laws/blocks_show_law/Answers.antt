use Rattle.fitting_plans.proofs.Allocate.{allocation_shows, freeing_shows}
use Rattle.fitting_plans.proofs.laws.blocks_show_law.Goals as goal

pub returns : goal.returns
returns c = record { allocated = allocation_shows; freed = freeing_shows }
