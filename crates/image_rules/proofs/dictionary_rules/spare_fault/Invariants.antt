use Rattle.image_rules.proofs.SpareSlots.{ZeroFrom}
use Rattle.image_rules.proofs.dictionary_rules.spare_fault.Given as goal

abbrev pub invariant-loop-index : goal.invariant-loop-index
invariant-loop-index l = ZeroFrom l.words l.header.0 l.count l.index
