use Rattle.std.proofs.Common.{ap, subst, length, arith}
use Rattle.mv_model.specs.declared.shape.Column.{Column}
use Rattle.catalog.proofs.Filling.{pushed_column, table_within, table_room, table_end, table_spare}
use Rattle.catalog.proofs.Named.{named_next}
use Rattle.catalog.specs.Entries.{HasNames}
use Rattle.catalog.proofs.words.push_table.Goals as goal

pub loop-number-preserved : goal.loop-number-preserved
loop-number-preserved c = record {
  name = c.loop-number.invariant.name;
  names = named_next c.columns-columns.result.now c.loop-number.number c.index-columns-number.result c.loop-number-test.true c.index-columns-number.is c.push_column.ensures.name c.loop-number.invariant.names;
  left = pushed_column c.args.block.0 c.args.name.now c.columns-columns.result.now c.loop-number.number c.index-columns-number.result c.loop-number-test.true c.index-columns-number.is
      c.args.plan.now.left c.loop-number.plan.left c.push_column.new.plan.left c.column.result.0 c.loop-number.invariant.left c.column.ensures c.push_column.ensures.left;
  spare = omega (arith, c.loop-number.invariant.spare, c.push_column.ensures.spare);
}

pub end_part-requires-clause-count : goal.end_part-requires-clause-count
end_part-requires-clause-count c =
    table_within c.args.block.0 c.args.name.now c.columns-columns.result.now c.args.shape.now c.loop-number.number c.table_words.result c.args.plan.now.left c.loop-number.plan.left
    c.loop-number-test.false c.columns-columns.ensures.columns c.table_words.ensures c.loop-number.invariant.left

pub end_part-requires-clause-room : goal.end_part-requires-clause-room
end_part-requires-clause-room c =
    let same = ap (length {A = Column}) c.columns-columns.ensures.columns in
    table_room c.args.block.0 c.args.name.now c.columns-columns.result.now c.args.shape.now c.loop-number.number c.table_words.result c.args.plan.now.left c.loop-number.plan.left
    c.loop-number-test.false c.columns-columns.ensures.columns c.table_words.ensures c.loop-number.invariant.left
    c.loop-number.plan.spare (omega (arith, same, c.requires.room, c.loop-number.invariant.spare, c.loop-number-test.false, c.loop-number.auto.number-end, c.table_words.ensures))

pub returns-clause-names : goal.returns-clause-names
returns-clause-names c = subst (HasNames c.args.name.now) c.columns-columns.ensures.columns (record {
  name_is = c.loop-number.invariant.name;
  columns_are = λ k other lt. c.loop-number.invariant.names k other (omega (arith, lt, c.loop-number-test.false)) lt;
})

pub returns-clause-left : goal.returns-clause-left
returns-clause-left c =
    table_end c.args.block.0 c.args.name.now c.columns-columns.result.now c.args.shape.now c.loop-number.number c.table_words.result c.args.plan.now.left c.loop-number.plan.left
    c.loop-number-test.false c.columns-columns.ensures.columns c.table_words.ensures c.loop-number.invariant.left
    c.end_part.new.self.left c.end_part.ensures.left

pub returns-clause-spare : goal.returns-clause-spare
returns-clause-spare c =
    let same = ap (length {A = Column}) c.columns-columns.ensures.columns in
    let used = table_spare c.args.block.0 c.args.name.now c.columns-columns.result.now c.args.shape.now c.loop-number.number c.table_words.result c.args.plan.now.left c.loop-number.plan.left
    c.loop-number-test.false c.columns-columns.ensures.columns c.table_words.ensures c.loop-number.invariant.left
    c.loop-number.plan.spare c.end_part.new.self.spare c.end_part.ensures.spare in
    omega (arith, used, same, c.loop-number.invariant.spare, c.loop-number-test.false, c.loop-number.auto.number-end, c.table_words.ensures)
