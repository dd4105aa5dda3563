use Rattle.heap_big.proofs.PageSets.{pages_of-none}
use Rattle.heap_big.proofs.page_set.PageSet.new.Goals as goal

pub returns : goal.returns
returns c = pages_of-none c.no_words.result c.no_words.ensures
