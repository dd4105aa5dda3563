use Rattle.std.proofs.Common.{sym, ◌∙◌}
use Rattle.image_rules.proofs.ArrayChecks.{array_at, codes_found, dictionary_found}
use Rattle.image_rules.proofs.array_rules.column_arrays_fault.Goals as goal

pub returns-then-is_some : goal.returns-then-is_some
returns-then-is_some c =
    codes_found c.args.words.now c.args.column.0 c.array_fault-codes.result (array_at c.args.words.now _ _ _ c.codes_header.ensures c.array_fault-codes.ensures) (sym c.is_some.ensures ∙ c.if-is_some.true)

pub returns : goal.returns
returns c =
    dictionary_found c.args.words.now c.args.column.0 c.array_fault-codes.result c.array_fault.result (array_at c.args.words.now _ _ _ c.codes_header.ensures c.array_fault-codes.ensures) (sym c.is_some.ensures ∙ c.if-is_some.false)
    (array_at c.args.words.now _ _ _ c.dictionary_header.ensures c.array_fault.ensures)
