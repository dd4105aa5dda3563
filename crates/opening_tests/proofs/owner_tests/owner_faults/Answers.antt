use Rattle.std.proofs.Common.{sym, ◌∙◌}
use Rattle.image_layout.specs.EntryRules.{table_slot_rule, objects_rule}
use Rattle.image_rules.proofs.Kept.{kept}
use Rattle.opening_tests.proofs.owner_tests.owner_faults.Goals as goal

pub owner_fault-requires-clause-slots : goal.owner_fault-requires-clause-slots
owner_fault-requires-clause-slots c = kept c.args.words.now table_slot_rule c.table_slot_fault.result c.table_slot_fault.ensures (sym c.is_some-2.ensures ∙ c.if-is_some-2.false)

pub owner_fault-requires-clause-objects : goal.owner_fault-requires-clause-objects
owner_fault-requires-clause-objects c = kept c.args.words.now objects_rule c.objects_fault.result c.objects_fault.ensures (sym c.is_some-3.ensures ∙ c.if-is_some-3.false)

pub single_owner_fault-requires-clause-slots : goal.single_owner_fault-requires-clause-slots
single_owner_fault-requires-clause-slots c = kept c.args.words.now table_slot_rule c.table_slot_fault.result c.table_slot_fault.ensures (sym c.is_some-2.ensures ∙ c.if-is_some-2.false)

pub single_owner_fault-requires-clause-objects : goal.single_owner_fault-requires-clause-objects
single_owner_fault-requires-clause-objects c = kept c.args.words.now objects_rule c.objects_fault.result c.objects_fault.ensures (sym c.is_some-3.ensures ∙ c.if-is_some-3.false)

pub owned_fault-requires-clause-slots : goal.owned_fault-requires-clause-slots
owned_fault-requires-clause-slots c = kept c.args.words.now table_slot_rule c.table_slot_fault.result c.table_slot_fault.ensures (sym c.is_some-2.ensures ∙ c.if-is_some-2.false)

pub owned_fault-requires-clause-objects : goal.owned_fault-requires-clause-objects
owned_fault-requires-clause-objects c = kept c.args.words.now objects_rule c.objects_fault.result c.objects_fault.ensures (sym c.is_some-3.ensures ∙ c.if-is_some-3.false)
