use Rattle.std.proofs.Common.{◌+◌, ◌-◌, get_or, refl, sym, ◌∙◌, ap, arith}
use Rattle.image_layout.specs.Records.{column_name_at}
use Rattle.image_rules.proofs.DistinctChecks.{column_repeats, column_differs}
use Rattle.image_rules.proofs.distinct_rules.column_repeat.Goals as goal

pub returns-then-is_column_name : goal.returns-then-is_column_name
returns-then-is_column_name c =
    column_repeats c.args.words.now c.args.block.0 c.loop-number.number (get_or c.args.words.now c.args.block.0 0 - c.loop-number.number) c.column_name-name.result.0 c.is_column_name.result
    (omega (arith, c.loop-number-test.true, c.columns_of-number-end.ensures.count)) (c.column_name-name.ensures ∙ ap column_name_at c.column_record.ensures.place) c.is_column_name.ensures c.if-is_column_name.true
    ∙ sym c.loop-number.invariant

pub loop-number-preserved : goal.loop-number-preserved
loop-number-preserved c =
    c.loop-number.invariant
    ∙ column_differs c.args.words.now c.args.block.0 c.loop-number.number (c.loop-number.number + 1) (get_or c.args.words.now c.args.block.0 0 - c.loop-number.number) (get_or c.args.words.now c.args.block.0 0 - (c.loop-number.number + 1))
    c.column_name-name.result.0 c.is_column_name.result refl (omega (arith, c.loop-number-test.true, c.columns_of-number-end.ensures.count)) (c.column_name-name.ensures ∙ ap column_name_at c.column_record.ensures.place) c.is_column_name.ensures
    c.if-is_column_name.false
