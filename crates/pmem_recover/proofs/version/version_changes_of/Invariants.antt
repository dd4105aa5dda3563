use Rattle.std.proofs.Common.{◌≡◌, ◌≤◌, map}
use Rattle.std.specs.Prelude.{vec_len, vec_capacity}
use Rattle.image_layout.specs.Places.{below}
use Rattle.pmem_recover.specs.VersionStep.{count_change}
use Rattle.pmem_recover.proofs.version.version_changes_of.Given as goal

abbrev pub invariant-loop-table : goal.invariant-loop-table
invariant-loop-table g l = record {
  changes : l.changes.items ≡ map (count_change (g.M.Memory.device l.mem).cached) (below l.table);
  len : vec_len l.changes ≤ l.table;
  room : 33 ≤ vec_capacity l.changes;
}
