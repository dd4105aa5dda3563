use Rattle.heap_big.proofs.PageSets.{zeros}
use Rattle.heap_big.proofs.page_set.no_words.Goals as goal

pub returns : goal.returns
returns c = zeros 128
