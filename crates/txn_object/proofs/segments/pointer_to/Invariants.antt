use Rattle.std.proofs.Common.{◌≡◌, ◌<◌, length}
use Rattle.image_layout.specs.Objects.{segment_pointer_at}
use Rattle.txn_object.proofs.segments.pointer_to.Given as goal

abbrev pub invariant-loop-passed : goal.invariant-loop-passed
invariant-loop-passed g l = record {
  place : l.pointer.0 ≡ segment_pointer_at (g.M.Memory.device l.mem).cached l.object l.passed;
  in_image : l.pointer.0 < length (g.M.Memory.device l.mem).cached;
}
