use Rattle.std.proofs.Common.{arith}
use Rattle.image_rules.proofs.Gathered.{tables_all, tables_more}
use Rattle.image_rules.proofs.leaf_lists.all_columns.Goals as goal

pub loop-table-preserved : goal.loop-table-preserved
loop-table-preserved c = record {
  columns = tables_more c.args.words.now c.loop-table.table c.table_block.result.0 c.loop-table.columns.items c.push_columns.new.columns.items c.table_block.ensures.place c.loop-table.invariant.columns c.in_ok-push_columns.ensures.columns;
  within = c.in_ok-push_columns.ensures.within c.loop-table.invariant.within;
}

pub returns-clause-columns : goal.returns-clause-columns
returns-clause-columns c =
    tables_all c.args.words.now c.loop-table.table c.loop-table.columns.items (omega (arith, c.loop-table-test.false, c.loop-table.auto.table-end, c.published_tables-table-end.ensures.count)) c.loop-table.invariant.columns
