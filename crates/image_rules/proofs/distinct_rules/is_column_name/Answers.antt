use Rattle.std.proofs.Common.{sym, ◌∙◌, ap}
use Rattle.image_layout.specs.Records.{column_name_at}
use Rattle.image_layout.specs.SoundRules.{same_name}
use Rattle.image_layout.specs.Tables.{column_record}
use Rattle.image_rules.proofs.DistinctChecks.{any_later}
use Rattle.image_rules.proofs.distinct_rules.is_column_name.Goals as goal

pub returns-then-same_name : goal.returns-then-same_name
returns-then-same_name c =
    sym (any_later (same_name c.args.words.now c.args.name.0) (λ k. column_name_at (column_record c.args.words.now c.args.block.0 k)) c.loop-number.number c.args.count c.loop-number-test.true
    (ap (same_name c.args.words.now c.args.name.0) (sym (c.column_name.ensures ∙ ap column_name_at c.column_record.ensures.place)) ∙ sym c.same_name.ensures ∙ c.if-same_name.true))
