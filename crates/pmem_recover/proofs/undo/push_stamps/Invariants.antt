use Rattle.std.proofs.Common.{◌≡◌, ◌<◌, ◌≤◌, All, length, take}
use Rattle.std.specs.Prelude.{vec_len, vec_capacity}
use Rattle.std.specs.List.{flat_map}
use Rattle.shown_state.specs.Mending.{undo_entry}
use Rattle.pmem_recover.specs.Changes.{change_part}
use Rattle.pmem_recover.specs.Undo.{words_at}
use Rattle.pmem_recover.proofs.undo.push_stamps.Given as goal

abbrev pub invariant-loop-at : goal.invariant-loop-at
invariant-loop-at g l = record {
  part : change_part l.changes.items ≡ flat_map (undo_entry (g.M.Memory.device l.mem).cached) (words_at (g.M.Memory.device l.mem).cached (take l.at-index l.entries));
  within : All (λ change. change.place.0 < length (g.M.Memory.device l.mem).cached) l.changes.items;
  len : vec_len l.changes ≤ l.at-index;
  capacity : vec_capacity l.changes ≡ vec_capacity l.fn.changes;
}
