use Rattle.std.proofs.Common.{sym, ◌∙◌}
use Rattle.image_rules.proofs.TableChecks.{slot_fails}
use Rattle.image_rules.proofs.table_rules.slot_fault.Goals as goal

pub returns-then-not-is_table_slot : goal.returns-then-not-is_table_slot
returns-then-not-is_table_slot c = slot_fails c.args.words.now c.args.table c.table_slot-slot.result.0 c.table_slot-slot.ensures (sym c.is_table_slot.ensures ∙ c.if-not-is_table_slot.true)
