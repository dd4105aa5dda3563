use Rattle.std.proofs.Common.{◌≡◌, ◌<◌, length}
use Rattle.image_layout.specs.Objects.{segment_pointer_at}
use Rattle.image_rules.proofs.RestChecks.{SegmentsZero}
use Rattle.image_rules.proofs.rest_rules.open_word.Given as goal

abbrev pub invariant-loop-number : goal.invariant-loop-number
invariant-loop-number l = record {
  pointer : l.pointer.0 ≡ segment_pointer_at l.words l.object l.number;
  within : l.pointer.0 < length l.words;
  zero : SegmentsZero l.words l.object l.number;
}
