use Rattle.std.proofs.Common.{◌≡◌, take}
use Rattle.shown_state.specs.LogicalState.{row_bound}
use Rattle.pmem_recover.specs.Undo.{words_at, created_among}
use Rattle.pmem_recover.proofs.undo.row_bound.Given as goal

abbrev pub invariant-loop-at : goal.invariant-loop-at
invariant-loop-at g l = l.bound ≡ row_bound (created_among (words_at (g.M.Memory.device l.mem).cached (take l.at-index l.entries)) l.table)
