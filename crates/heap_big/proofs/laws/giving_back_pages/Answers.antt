use Rattle.heap_big.proofs.Heads.{giving_back}
use Rattle.heap_big.proofs.laws.giving_back_pages.Goals as goal

pub returns : goal.returns
returns c = giving_back
