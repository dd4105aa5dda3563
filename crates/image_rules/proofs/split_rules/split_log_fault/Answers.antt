use Rattle.std.proofs.Common.{sym, ◌∙◌, below_more, arith}
use Rattle.image_rules.proofs.EachColumn.{table_none}
use Rattle.image_rules.proofs.SplitChecks.{slot_next, table_log_found}
use Rattle.image_rules.specs.Parts.{log_checks}
use Rattle.image_rules.proofs.split_rules.split_log_fault.Goals as goal

pub returns-then-is_some : goal.returns-then-is_some
returns-then-is_some c =
    table_log_found c.args.words.now c.loop-table.table c.table_block.result.0 c.table_log_fault-found.result (omega (arith, c.loop-table-test.true, c.published_tables-table-end.ensures.count)) c.loop-table.invariant
    c.table_block.ensures.place c.table_log_fault-found.ensures (sym c.is_some.ensures ∙ c.if-is_some.true)

pub loop-table-preserved : goal.loop-table-preserved
loop-table-preserved c =
    below_more _ _ c.loop-table.invariant
    (table_none c.args.words.now (log_checks c.args.words.now) c.loop-table.table c.table_block.result.0 c.table_log_fault-found.result c.table_block.ensures.place c.table_log_fault-found.ensures (sym c.is_some.ensures ∙ c.if-is_some.false))

pub returns : goal.returns
returns c = slot_next c.args.words.now c.next_slot_fault.result (λ x lt. c.loop-table.invariant x (omega (arith, lt, c.loop-table-test.false, c.published_tables-table-end.ensures.count))) c.next_slot_fault.ensures
