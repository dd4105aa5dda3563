use Rattle.std.proofs.Common.{◌≡◌, ◌+◌, ◌*◌, ◌≤◌, eqb, get_or}
use Rattle.std.specs.Prelude.{count_by}
use Rattle.image_layout.specs.Objects.{segment_pointer_at}
use Rattle.txn_object.proofs.Places.{places_up_to}
use Rattle.txn_object.proofs.reading.free_entries.Given as goal

abbrev pub invariant-loop-segment : goal.invariant-loop-segment
invariant-loop-segment g l = record {
  place : l.pointer.0 ≡ segment_pointer_at (g.M.Memory.device l.mem).cached l.object l.segment;
  most : l.free ≤ 60 + 255 * l.segment;
  counted : l.free ≡ count_by (λ w. eqb (get_or (g.M.Memory.device l.mem).cached w 0) 0) (places_up_to (g.M.Memory.device l.mem).cached l.object l.segment);
}
