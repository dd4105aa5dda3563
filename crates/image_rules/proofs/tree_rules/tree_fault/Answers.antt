use Rattle.std.proofs.Common.{sym, ◌∙◌, below_more, arith}
use Rattle.image_layout.specs.EntryRules.{tree_checks, tree_rule}
use Rattle.image_rules.proofs.EachColumn.{rule_found, rule_none, table_none}
use Rattle.image_rules.proofs.tree_rules.tree_fault.Goals as goal

pub returns-then-is_some : goal.returns-then-is_some
unfolding tree_rule
returns-then-is_some c =
    rule_found c.args.words.now (tree_checks c.args.words.now) c.loop-table.table c.table_block.result.0 c.table_trees_fault-found.result (omega (arith, c.loop-table-test.true, c.published_tables-table-end.ensures.count)) c.loop-table.invariant
    c.table_block.ensures.place c.table_trees_fault-found.ensures (sym c.is_some.ensures ∙ c.if-is_some.true)

pub loop-table-preserved : goal.loop-table-preserved
loop-table-preserved c =
    below_more _ _ c.loop-table.invariant
    (table_none c.args.words.now (tree_checks c.args.words.now) c.loop-table.table c.table_block.result.0 c.table_trees_fault-found.result c.table_block.ensures.place c.table_trees_fault-found.ensures (sym c.is_some.ensures ∙ c.if-is_some.false))

pub returns : goal.returns
unfolding tree_rule
returns c = rule_none c.args.words.now (tree_checks c.args.words.now) (λ x lt. c.loop-table.invariant x (omega (arith, lt, c.loop-table-test.false, c.published_tables-table-end.ensures.count)))
