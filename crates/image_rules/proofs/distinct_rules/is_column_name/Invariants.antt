use Rattle.std.proofs.Common.{◌≡◌, false}
use Rattle.std.specs.List.{list_any}
use Rattle.image_layout.specs.Records.{column_name_at}
use Rattle.image_layout.specs.SoundRules.{same_name}
use Rattle.image_layout.specs.Tables.{column_record}
use Rattle.image_rules.specs.Parts.{before_of}
use Rattle.image_rules.proofs.distinct_rules.is_column_name.Given as goal

abbrev pub invariant-loop-number : goal.invariant-loop-number
invariant-loop-number l = list_any (same_name l.words l.name.0) (before_of (λ k. column_name_at (column_record l.words l.block.0 k)) l.number) ≡ false
