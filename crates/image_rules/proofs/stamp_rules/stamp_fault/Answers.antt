use Rattle.std.proofs.Common.{sym, ◌∙◌, below_more, arith}
use Rattle.image_rules.proofs.TableArrays.{table_rule}
use Rattle.image_rules.proofs.StampChecks.{stamps_found, stamp_none, stamps_none}
use Rattle.image_rules.proofs.stamp_rules.stamp_fault.Goals as goal

pub table_stamp_fault-found-requires-clause-arrays : goal.table_stamp_fault-found-requires-clause-arrays
table_stamp_fault-found-requires-clause-arrays c =
    table_rule c.args.words.now c.requires.arrays c.loop-table.table c.table_block.result.0 (omega (arith, c.loop-table-test.true, c.published_tables-table-end.ensures.count)) c.table_block.ensures.place

pub returns-then-is_some : goal.returns-then-is_some
returns-then-is_some c =
    stamps_found c.args.words.now c.loop-table.table c.table_block.result.0 c.table_stamp_fault-found.result (omega (arith, c.loop-table-test.true, c.published_tables-table-end.ensures.count)) c.loop-table.invariant
    c.table_block.ensures.place c.table_stamp_fault-found.ensures (sym c.is_some.ensures ∙ c.if-is_some.true)

pub loop-table-preserved : goal.loop-table-preserved
loop-table-preserved c =
    below_more _ _ c.loop-table.invariant
    (stamp_none c.args.words.now c.loop-table.table c.table_block.result.0 c.table_stamp_fault-found.result c.table_block.ensures.place c.table_stamp_fault-found.ensures (sym c.is_some.ensures ∙ c.if-is_some.false))

pub returns : goal.returns
returns c = stamps_none c.args.words.now (λ x lt. c.loop-table.invariant x (omega (arith, lt, c.loop-table-test.false, c.published_tables-table-end.ensures.count)))
