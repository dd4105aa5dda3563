use Rattle.std.proofs.Common.{◌≡◌, drop, map}
use Rattle.image_layout.specs.Checks.{first_failing}
use Rattle.image_rules.specs.BuiltTrees.{print_check}
use Rattle.image_rules.proofs.pair_rules.column_print_fault.Given as goal

abbrev pub invariant-loop-slot : goal.invariant-loop-slot
invariant-loop-slot l = first_failing (map (print_check l.words) (drop l.slot-index l.slot-items)) ≡ first_failing (map (print_check l.words) l.slot-items)
