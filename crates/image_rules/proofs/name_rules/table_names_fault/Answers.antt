use Rattle.std.proofs.Common.{sym, ◌∙◌, below_more, arith}
use Rattle.image_rules.proofs.Firsts.{found_none}
use Rattle.image_rules.proofs.NameChecks.{name_at, named_found, column_found, columns_none}
use Rattle.image_rules.proofs.name_rules.table_names_fault.Goals as goal

pub returns-then-is_some : goal.returns-then-is_some
returns-then-is_some c =
    named_found c.args.words.now c.args.block.0 c.padded_name_fault-named.result (name_at c.args.words.now _ _ _ c.table_name.ensures c.padded_name_fault-named.ensures) (sym c.is_some.ensures ∙ c.if-is_some.true)

pub returns-then-is_some-2 : goal.returns-then-is_some-2
returns-then-is_some-2 c =
    column_found c.args.words.now c.args.block.0 c.padded_name_fault-named.result c.column_name_fault-found.result c.loop-number.number
    (name_at c.args.words.now _ _ _ c.table_name.ensures c.padded_name_fault-named.ensures) (sym c.is_some.ensures ∙ c.if-is_some.false)
    (omega (arith, c.loop-number-test.true, c.columns_of-number-end.ensures.count)) c.loop-number.invariant c.column_name_fault-found.ensures (sym c.is_some-in-loop-number.ensures ∙ c.if-is_some-2.true)

pub loop-number-preserved : goal.loop-number-preserved
loop-number-preserved c =
    below_more _ _ c.loop-number.invariant
    (found_none c.column_name_fault-found.result _ c.column_name_fault-found.ensures (sym c.is_some-in-loop-number.ensures ∙ c.if-is_some-2.false))

pub returns : goal.returns
returns c =
    columns_none c.args.words.now c.args.block.0 c.padded_name_fault-named.result (name_at c.args.words.now _ _ _ c.table_name.ensures c.padded_name_fault-named.ensures) (sym c.is_some.ensures ∙ c.if-is_some.false)
    (λ x lt. c.loop-number.invariant x (omega (arith, lt, c.loop-number-test.false, c.columns_of-number-end.ensures.count)))
