use Rattle.heap_palloc.proofs.Owners.{allocation_new}
use Rattle.heap_palloc.proofs.ChangesHold.{choice_gives, choice_keeps, freed_keeps}
use Rattle.heap_palloc.proofs.laws.owners_law.Goals as goal

pub returns : goal.returns
returns c = record { gives = choice_gives; new = allocation_new; keeps = choice_keeps; keeps_others = freed_keeps }
