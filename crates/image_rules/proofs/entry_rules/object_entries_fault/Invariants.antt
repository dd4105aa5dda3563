use Rattle.std.proofs.Common.{◌≡◌, ◌-◌, ◌<◌, length}
use Rattle.image_layout.specs.Objects.{entry_places, ready_count, segment_pointer_at}
use Rattle.image_layout.specs.Checks.{first_failing}
use Rattle.image_layout.specs.EntryRules.{entry_checks}
use Rattle.image_rules.proofs.EntryChecks.{segment_entries}
use Rattle.image_rules.proofs.entry_rules.object_entries_fault.Given as goal

abbrev pub invariant-loop-number : goal.invariant-loop-number
invariant-loop-number l = record {
  pointer : l.pointer.0 ≡ segment_pointer_at l.words l.object l.number;
  within : l.pointer.0 < length l.words;
  rest : first_failing (entry_checks l.words 1 (entry_places l.words l.object)) ≡ first_failing (entry_checks l.words l.before (segment_entries l.words l.object l.number (ready_count l.words l.object - l.number)));
}
