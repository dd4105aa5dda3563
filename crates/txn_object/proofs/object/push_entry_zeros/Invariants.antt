use Rattle.std.proofs.Common.{◌≡◌, ◌+◌, ◌*◌, ◌++◌, min, take}
use Rattle.pm_model.specs.Plans.{stores}
use Rattle.image_layout.specs.Objects.{segment_pointer_at, entry_places}
use Rattle.txn_object.proofs.object.push_entry_zeros.Given as goal

abbrev pub invariant-loop-segment : goal.invariant-loop-segment
invariant-loop-segment g l = record {
  place : l.pointer.0 ≡ segment_pointer_at (g.M.Memory.device l.mem).cached l.object l.segment;
  left : l.plan.left ≡ l.fn.plan.left ++ stores 0 (take (min l.entries (60 + 255 * l.segment)) (entry_places (g.M.Memory.device l.mem).cached l.object));
  spare : l.plan.spare + min l.entries (60 + 255 * l.segment) ≡ l.fn.plan.spare;
}
