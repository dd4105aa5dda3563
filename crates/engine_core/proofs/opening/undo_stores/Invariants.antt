use Rattle.std.proofs.Common.{◌≡◌, ◌≤◌, ◌-◌, ◌++◌}
use Rattle.std.specs.Prelude.{vec_len, vec_capacity}
use Rattle.std.specs.List.{flat_map}
use Rattle.stage_object.specs.Object.{entries_from, entries_in}
use Rattle.engine_core.specs.Opening.{undo_entry}
use Rattle.engine_core.proofs.opening.undo_stores.Given as goal

abbrev pub invariant-loop-nth : goal.invariant-loop-nth
invariant-loop-nth g l = record {
  joined : l.part.items ++ flat_map (undo_entry (g.M.Memory.device l.memory).cached) (entries_from (g.M.Memory.device l.memory).cached l.object l.nth (60 - l.nth))
      ≡ flat_map (undo_entry (g.M.Memory.device l.memory).cached) (entries_in (g.M.Memory.device l.memory).cached l.object);
  len : vec_len l.part ≤ l.nth;
  room : 61 ≤ vec_capacity l.part;
}
