use Rattle.std.proofs.Common.{◌≡◌, ◌+◌, ◌*◌, ◌<◌, ◌≤◌, length}
use Rattle.std.specs.Prelude.{filter, vec_len}
use Rattle.image_layout.specs.Objects.{segment_pointer_at}
use Rattle.pmem_recover.specs.Filled.{is_filled, places_of}
use Rattle.pmem_recover.proofs.Gathered.{entries_up_to}
use Rattle.pmem_recover.proofs.entries.filled_entries.Given as goal

abbrev pub invariant-loop : goal.invariant-loop
invariant-loop g l = record {
  pointer : l.pointer.0 ≡ segment_pointer_at (g.M.Memory.device l.mem).cached l.object l.counter;
  within : l.pointer.0 < length (g.M.Memory.device l.mem).cached;
  places : places_of l.filled.items ≡ filter (is_filled (g.M.Memory.device l.mem).cached) (entries_up_to (g.M.Memory.device l.mem).cached l.object l.counter);
  few : vec_len l.filled ≤ 60 + 255 * l.counter;
}
