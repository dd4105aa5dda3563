use Rattle.std.proofs.Common.{◌≡◌, map}
use Rattle.image_layout.specs.Places.{below}
use Rattle.image_layout.specs.Tables.{column_record}
use Rattle.shown_state.specs.LogicalState.{column_of}
use Rattle.catalog.proofs.reading.read_shape.Given as goal

abbrev pub invariant-loop-number : goal.invariant-loop-number
invariant-loop-number g l = l.columns.items ≡ map (column_of (g.M.Memory.device l.mem).cached) (map (column_record (g.M.Memory.device l.mem).cached l.block.0) (below l.number))
