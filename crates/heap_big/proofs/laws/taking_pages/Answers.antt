use Rattle.heap_big.proofs.Heads.{taking}
use Rattle.heap_big.proofs.laws.taking_pages.Goals as goal

pub returns : goal.returns
returns c = taking
