use Rattle.std.proofs.Common.{◌≡◌, ℕ, ◌<◌, true, length, take, map}
use Rattle.image_layout.specs.Places.{below}
use Rattle.image_layout.specs.Objects.{segment_pointer_at, segment_of}
use Rattle.image_layout.specs.EntryRules.{is_segment_pointer}
use Rattle.image_rules.proofs.object_rules.segments_fault.Given as goal

abbrev pub invariant-loop-segment : goal.invariant-loop-segment
invariant-loop-segment l = record {
  pointer : l.pointer ≡ segment_pointer_at l.words l.object l.segment;
  within : l.pointer < length l.words;
  reached : take l.segment l.reached ≡ map (segment_of l.words l.object) (below l.segment);
  holds : (x : ℕ) → x < l.segment → is_segment_pointer l.words l.object x ≡ true;
}
