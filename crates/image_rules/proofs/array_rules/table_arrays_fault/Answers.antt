use Rattle.std.proofs.Common.{sym, ◌∙◌, below_more, arith}
use Rattle.image_rules.proofs.ArrayChecks.{array_at, created_found, ended_found, column_found, column_here, column_none, columns_none}
use Rattle.image_rules.proofs.array_rules.table_arrays_fault.Goals as goal

pub returns-then-is_some : goal.returns-then-is_some
returns-then-is_some c =
    created_found c.args.words.now c.args.block.0 c.array_fault-created.result (array_at c.args.words.now _ _ _ c.created_header.ensures c.array_fault-created.ensures) (sym c.is_some.ensures ∙ c.if-is_some.true)

pub returns-then-is_some-2 : goal.returns-then-is_some-2
returns-then-is_some-2 c =
    ended_found c.args.words.now c.args.block.0 c.array_fault-created.result c.array_fault-ended.result (array_at c.args.words.now _ _ _ c.created_header.ensures c.array_fault-created.ensures) (sym c.is_some.ensures ∙ c.if-is_some.false)
    (array_at c.args.words.now _ _ _ c.ended_header.ensures c.array_fault-ended.ensures) (sym c.is_some-2.ensures ∙ c.if-is_some-2.true)

pub returns-then-is_some-3 : goal.returns-then-is_some-3
returns-then-is_some-3 c =
    column_found c.args.words.now c.args.block.0 c.array_fault-created.result c.array_fault-ended.result c.column_arrays_fault-found.result c.loop-number.number
    (array_at c.args.words.now _ _ _ c.created_header.ensures c.array_fault-created.ensures) (sym c.is_some.ensures ∙ c.if-is_some.false)
    (array_at c.args.words.now _ _ _ c.ended_header.ensures c.array_fault-ended.ensures) (sym c.is_some-2.ensures ∙ c.if-is_some-2.false)
    (omega (arith, c.loop-number-test.true, c.columns_of-number-end.ensures.count)) c.loop-number.invariant
    (column_here c.args.words.now c.args.block.0 c.loop-number.number c.column_record.result.0 c.column_arrays_fault-found.result c.column_record.ensures.place c.column_arrays_fault-found.ensures) (sym c.is_some-in-loop-number.ensures ∙ c.if-is_some-3.true)

pub loop-number-preserved : goal.loop-number-preserved
loop-number-preserved c =
    below_more _ _ c.loop-number.invariant
    (column_none c.args.words.now c.args.block.0 c.loop-number.number c.column_record.result.0 c.column_arrays_fault-found.result c.column_record.ensures.place c.column_arrays_fault-found.ensures (sym c.is_some-in-loop-number.ensures ∙ c.if-is_some-3.false))

pub returns : goal.returns
returns c =
    columns_none c.args.words.now c.args.block.0 c.array_fault-created.result c.array_fault-ended.result
    (array_at c.args.words.now _ _ _ c.created_header.ensures c.array_fault-created.ensures) (sym c.is_some.ensures ∙ c.if-is_some.false)
    (array_at c.args.words.now _ _ _ c.ended_header.ensures c.array_fault-ended.ensures) (sym c.is_some-2.ensures ∙ c.if-is_some-2.false)
    (λ x lt. c.loop-number.invariant x (omega (arith, lt, c.loop-number-test.false, c.columns_of-number-end.ensures.count)))
