use Rattle.image_rules.proofs.OwnedChecks.{SlotsBelow}
use Rattle.image_rules.proofs.owner_rules.slot_fault.Given as goal

abbrev pub invariant-loop-slot : goal.invariant-loop-slot
invariant-loop-slot l = SlotsBelow l.owned l.page l.class l.bitmap l.slot
