use Rattle.std.proofs.Common.{◌≡◌, ◌-◌, get_or}
use Rattle.image_layout.specs.Checks.{first_failing}
use Rattle.image_rules.proofs.DistinctChecks.{columns_from}
use Rattle.image_rules.proofs.distinct_rules.column_repeat.Given as goal

abbrev pub invariant-loop-number : goal.invariant-loop-number
invariant-loop-number l = first_failing (columns_from l.words l.block.0 0 (get_or l.words l.block.0 0)) ≡ first_failing (columns_from l.words l.block.0 l.number (get_or l.words l.block.0 0 - l.number))
