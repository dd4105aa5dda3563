use Rattle.std.proofs.Common.{sym, ◌∙◌, ap}
use Rattle.image_layout.specs.Records.{table_name_at}
use Rattle.image_layout.specs.Tables.{table_block}
use Rattle.image_layout.specs.SoundRules.{same_name}
use Rattle.image_rules.proofs.DistinctChecks.{any_later}
use Rattle.image_rules.proofs.distinct_rules.is_table_name.Goals as goal

pub returns-then-same_name : goal.returns-then-same_name
returns-then-same_name c =
    sym (any_later (same_name c.args.words.now c.args.name.0) (λ k. table_name_at (table_block c.args.words.now k)) c.loop-table.table c.args.count c.loop-table-test.true
    (ap (same_name c.args.words.now c.args.name.0) (sym (c.table_name.ensures ∙ ap table_name_at c.table_block.ensures.place)) ∙ sym c.same_name.ensures ∙ c.if-same_name.true))
