use Rattle.std.proofs.Common.{◌≡◌, ◌+◌, ◌-◌}
use Rattle.std.specs.List.{range_with_len}
use Rattle.image_layout.specs.Checks.{first_failing}
use Rattle.image_layout.specs.EntryRules.{entry_checks}
use Rattle.image_rules.proofs.entry_rules.run_fault.Given as goal

abbrev pub invariant-loop-entry : goal.invariant-loop-entry
invariant-loop-entry l = first_failing (entry_checks l.words l.fn.before (range_with_len l.first.0 l.count)) ≡ first_failing (entry_checks l.words l.before (range_with_len (l.first.0 + l.entry) (l.count - l.entry)))
