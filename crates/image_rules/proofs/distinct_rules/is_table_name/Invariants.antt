use Rattle.std.proofs.Common.{◌≡◌, false}
use Rattle.std.specs.List.{list_any}
use Rattle.image_layout.specs.Records.{table_name_at}
use Rattle.image_layout.specs.Tables.{table_block}
use Rattle.image_layout.specs.SoundRules.{same_name}
use Rattle.image_rules.specs.Parts.{before_of}
use Rattle.image_rules.proofs.distinct_rules.is_table_name.Given as goal

abbrev pub invariant-loop-table : goal.invariant-loop-table
invariant-loop-table l = list_any (same_name l.words l.name.0) (before_of (λ k. table_name_at (table_block l.words k)) l.table) ≡ false
