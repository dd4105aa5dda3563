use Rattle.std.proofs.Common.{◌∙◌, arith}
use Rattle.image_rules.proofs.RestChecks.{slot_full, slot_is}
use Rattle.image_rules.proofs.rest_rules.next_slot_fault.Goals as goal

pub returns-then-count-eq-TABLES : goal.returns-then-count-eq-TABLES
returns-then-count-eq-TABLES c = slot_full c.args.words.now c.published_tables-count.result c.published_tables-count.ensures.count (omega (arith, c.if-count-eq-TABLES.true))

pub returns : goal.returns
returns c =
    c.then_some.ensures
    ∙ slot_is c.args.words.now c.published_tables-count.result c.table_slot-slot.result.0 c.published_tables-count.ensures.count (omega (arith, c.if-count-eq-TABLES.false, c.published_tables-count.ensures.within)) c.table_slot-slot.ensures
