use Rattle.std.proofs.Common.{◌≡◌, ◌+◌, ◌*◌, ◌≤◌, map}
use Rattle.image_layout.specs.Objects.{segment_pointer_at}
use Rattle.txn_object.specs.Entries.{entry_of}
use Rattle.txn_object.proofs.Places.{places_up_to}
use Rattle.txn_object.proofs.Runs.{set_words}
use Rattle.txn_object.proofs.Walk.{words_at}
use Rattle.txn_object.proofs.reading.entries.Given as goal

abbrev pub invariant-loop-segment : goal.invariant-loop-segment
invariant-loop-segment g l = record {
  place : l.pointer.0 ≡ segment_pointer_at (g.M.Memory.device l.mem).cached l.object l.segment;
  room : 60 + 255 * l.ready ≤ l.list.spare + (60 + 255 * l.segment);
  listed : l.list.entries ≡ map entry_of (set_words (words_at (g.M.Memory.device l.mem).cached (places_up_to (g.M.Memory.device l.mem).cached l.object l.segment)));
}
