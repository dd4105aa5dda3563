use Rattle.std.proofs.Common.{[], ◌∷◌, ◌++◌}
use Rattle.image_layout.specs.Checks.{numbered}
use Rattle.image_layout.specs.EntryRules.{table_slot_rule}
use Rattle.image_rules.specs.NumberedRules.{word_rules, heap_rules}
use Rattle.image_rules.proofs.NumberedFaults.{one, both}
use Rattle.image_rules.proofs.numbered_rules.fixed_fault.Goals as goal

pub returns : goal.returns
returns c =
    let words = c.args.words.now in
    both (word_rules ++ heap_rules) (numbered 9 table_slot_rule ∷ []) words c.or.result c.of-slots.result c.or-2.result c.or-2.ensures
    (both word_rules heap_rules words c.word_fault.result c.heap_fault.result c.or.result c.or.ensures c.word_fault.ensures c.heap_fault.ensures)
    (one (numbered 9 table_slot_rule) words c.table_slot_fault.result c.of-slots.result c.of-slots.ensures c.table_slot_fault.ensures)
