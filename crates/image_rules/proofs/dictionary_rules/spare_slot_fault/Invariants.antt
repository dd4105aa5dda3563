use Rattle.std.proofs.Common.{◌≡◌, drop}
use Rattle.std.specs.List.{flat_map}
use Rattle.image_layout.specs.Checks.{first_failing}
use Rattle.image_rules.specs.BuiltTrees.{column_spare_checks}
use Rattle.image_rules.proofs.dictionary_rules.spare_slot_fault.Given as goal

abbrev pub invariant-loop-column : goal.invariant-loop-column
invariant-loop-column l = first_failing (flat_map (column_spare_checks l.words) (drop l.column-index l.column-items)) ≡ first_failing (flat_map (column_spare_checks l.words) l.column-items)
