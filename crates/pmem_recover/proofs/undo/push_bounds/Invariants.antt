use Rattle.std.proofs.Common.{◌≡◌, ◌+◌, ◌<◌, ◌++◌, All, get_or, length, map, max}
use Rattle.std.specs.Prelude.{vec_len, vec_capacity}
use Rattle.image_layout.specs.Places.{below}
use Rattle.pm_model.specs.Plans.{store}
use Rattle.image_layout.specs.Records.{high_at}
use Rattle.image_layout.specs.Tables.{table_block}
use Rattle.shown_state.specs.LogicalState.{row_bound}
use Rattle.pmem_recover.specs.Changes.{change_part}
use Rattle.pmem_recover.specs.Undo.{words_at, created_among}
use Rattle.pmem_recover.proofs.undo.push_bounds.Given as goal

abbrev pub invariant-loop-table : goal.invariant-loop-table
invariant-loop-table g l = record {
  part : change_part l.changes.items ≡ change_part l.fn.changes.items
      ++ map (λ table. store (high_at (table_block (g.M.Memory.device l.mem).cached table))
      (max (get_or (g.M.Memory.device l.mem).cached (high_at (table_block (g.M.Memory.device l.mem).cached table)) 0) (row_bound (created_among (words_at (g.M.Memory.device l.mem).cached l.entries) table)))) (below l.table);
  within : All (λ change. change.place.0 < length (g.M.Memory.device l.mem).cached) l.changes.items;
  len : vec_len l.changes ≡ vec_len l.fn.changes + l.table;
  capacity : vec_capacity l.changes ≡ vec_capacity l.fn.changes;
}
