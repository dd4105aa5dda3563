use Rattle.std.proofs.Common.{◌≡◌, map}
use Rattle.std.specs.Prelude.{None}
use Rattle.image_layout.specs.Places.{below}
use Rattle.catalog.specs.Entries.{published_table}
use Rattle.catalog.proofs.reading.rebuild.Given as goal

abbrev pub invariant-loop-table : goal.invariant-loop-table
invariant-loop-table g l = record { tables : l.catalog.tables ≡ map (published_table (g.M.Memory.device l.mem).cached) (below l.table); planned : l.catalog.planned ≡ None }
