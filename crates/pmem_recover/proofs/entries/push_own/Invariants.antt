use Rattle.std.proofs.Common.{◌≡◌, ◌+◌, ◌≤◌, ◌++◌, map}
use Rattle.std.specs.Prelude.{filter, vec_len}
use Rattle.image_layout.specs.Fixed.{entry_at}
use Rattle.image_layout.specs.Places.{below}
use Rattle.pmem_recover.specs.Filled.{is_filled, places_of}
use Rattle.pmem_recover.proofs.entries.push_own.Given as goal

abbrev pub invariant-loop-entry : goal.invariant-loop-entry
invariant-loop-entry g l = record {
  places : places_of l.filled.items ≡ places_of l.fn.filled.items ++ filter (is_filled (g.M.Memory.device l.mem).cached) (map (entry_at l.object) (below l.entry));
  few : vec_len l.filled ≤ vec_len l.fn.filled + l.entry;
}
