use Rattle.std.proofs.Common.{sym, ◌∙◌}
use Rattle.image_rules.proofs.NameChecks.{kind_found, since_found}
use Rattle.image_rules.proofs.name_rules.column_name_fault.Goals as goal

pub returns-then-is_some : goal.returns-then-is_some
returns-then-is_some c =
    kind_found c.args.words.now c.args.block.0 c.args.number c.column_record-column.result.0 c.kind_name_fault-named.result c.column_record-column.ensures.place c.kind_name_fault-named.ensures (sym c.is_some.ensures ∙ c.if-is_some.true)

pub returns : goal.returns
returns c =
    since_found c.args.words.now c.args.block.0 c.args.number c.column_record-column.result.0 c.kind_name_fault-named.result c.since_fault.result c.column_record-column.ensures.place c.kind_name_fault-named.ensures
    (sym c.is_some.ensures ∙ c.if-is_some.false) c.since_fault.ensures
