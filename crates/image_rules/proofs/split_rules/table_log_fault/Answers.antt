use Rattle.std.proofs.Common.{sym, ◌∙◌, below_more, arith}
use Rattle.image_rules.proofs.EachColumn.{column_found, column_none, columns_none}
use Rattle.image_rules.specs.Parts.{log_checks}
use Rattle.image_rules.proofs.split_rules.table_log_fault.Goals as goal

pub returns-then-is_some : goal.returns-then-is_some
returns-then-is_some c =
    column_found c.args.words.now (log_checks c.args.words.now) c.args.block.0 c.loop-number.number c.column_record.result.0 c.column_log_fault-found.result (omega (arith, c.loop-number-test.true, c.columns_of-number-end.ensures.count)) c.loop-number.invariant
    c.column_record.ensures.place c.column_log_fault-found.ensures (sym c.is_some.ensures ∙ c.if-is_some.true)

pub loop-number-preserved : goal.loop-number-preserved
loop-number-preserved c =
    below_more _ _ c.loop-number.invariant
    (column_none c.args.words.now (log_checks c.args.words.now) c.args.block.0 c.loop-number.number c.column_record.result.0 c.column_log_fault-found.result c.column_record.ensures.place c.column_log_fault-found.ensures (sym c.is_some.ensures ∙ c.if-is_some.false))

pub returns : goal.returns
returns c = columns_none c.args.words.now (log_checks c.args.words.now) c.args.block.0 (λ x lt. c.loop-number.invariant x (omega (arith, lt, c.loop-number-test.false, c.columns_of-number-end.ensures.count)))
