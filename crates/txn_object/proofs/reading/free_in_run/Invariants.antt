use Rattle.std.proofs.Common.{◌≡◌, ◌≤◌}
use Rattle.txn_object.proofs.Runs.{zeros_in_row}
use Rattle.txn_object.proofs.reading.free_in_run.Given as goal

abbrev pub invariant-loop-nth : goal.invariant-loop-nth
invariant-loop-nth g l = record {
  within : l.free ≤ l.nth;
  counted : l.free ≡ zeros_in_row (g.M.Memory.device l.mem).cached l.first.0 l.nth;
}
