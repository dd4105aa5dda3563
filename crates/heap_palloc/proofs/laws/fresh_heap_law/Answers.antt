use Rattle.heap_palloc.proofs.RulesKept.{fresh_rules}
use Rattle.heap_palloc.proofs.laws.fresh_heap_law.Goals as goal

pub returns : goal.returns
returns c = fresh_rules
