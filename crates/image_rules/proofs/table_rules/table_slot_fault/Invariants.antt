use Rattle.image_rules.proofs.TableChecks.{SlotsBelow}
use Rattle.image_rules.proofs.table_rules.table_slot_fault.Given as goal

abbrev pub invariant-loop-table : goal.invariant-loop-table
invariant-loop-table l = SlotsBelow l.words l.table
