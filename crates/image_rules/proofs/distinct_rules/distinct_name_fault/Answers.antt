use Rattle.std.proofs.Common.{ℕ, ◌+◌, ◌-◌, refl, sym, ◌∙◌, ap, arith}
use Rattle.image_layout.specs.Tables.{table_count}
use Rattle.image_layout.specs.Checks.{first_failing}
use Rattle.image_rules.proofs.DistinctChecks.{tables_from, table_repeats, columns_repeat, table_differs, all_tables}
use Rattle.image_rules.proofs.distinct_rules.distinct_name_fault.Goals as goal

pub loop-table-init : goal.loop-table-init
loop-table-init c = all_tables c.args.words.now ∙ ap (λ (n : ℕ). first_failing (tables_from c.args.words.now 0 n)) (omega arith)

pub returns-then-is_table_name : goal.returns-then-is_table_name
returns-then-is_table_name c =
    table_repeats c.args.words.now c.loop-table.table (table_count c.args.words.now - c.loop-table.table) c.table_block-block.result.0 c.table_name-name.result.0 c.is_table_name.result
    (omega (arith, c.loop-table-test.true, c.published_tables-table-end.ensures.count)) c.table_block-block.ensures.place c.table_name-name.ensures c.is_table_name.ensures c.if-is_table_name.true
    ∙ sym c.loop-table.invariant

pub returns-then-is_some : goal.returns-then-is_some
returns-then-is_some c =
    columns_repeat c.args.words.now c.loop-table.table (table_count c.args.words.now - c.loop-table.table) c.table_block-block.result.0 c.table_name-name.result.0 c.is_table_name.result c.column_repeat-found.result
    (omega (arith, c.loop-table-test.true, c.published_tables-table-end.ensures.count)) c.table_block-block.ensures.place c.table_name-name.ensures c.is_table_name.ensures c.if-is_table_name.false c.column_repeat-found.ensures
    (sym c.is_some.ensures ∙ c.if-is_some.true)
    ∙ sym c.loop-table.invariant

pub loop-table-preserved : goal.loop-table-preserved
loop-table-preserved c =
    c.loop-table.invariant
    ∙ table_differs c.args.words.now c.loop-table.table (c.loop-table.table + 1) (table_count c.args.words.now - c.loop-table.table) (table_count c.args.words.now - (c.loop-table.table + 1)) c.table_block-block.result.0
    c.table_name-name.result.0 c.is_table_name.result c.column_repeat-found.result refl (omega (arith, c.loop-table-test.true, c.published_tables-table-end.ensures.count)) c.table_block-block.ensures.place
    c.table_name-name.ensures c.is_table_name.ensures c.if-is_table_name.false c.column_repeat-found.ensures (sym c.is_some.ensures ∙ c.if-is_some.false)
