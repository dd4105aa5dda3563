use Rattle.std.proofs.Common.{◌≡◌, ◌+◌, ◌-◌, ◌≤◌, ◌++◌, map}
use Rattle.txn_object.specs.Entries.{entry_of}
use Rattle.txn_object.proofs.Runs.{set_in_row}
use Rattle.txn_object.proofs.reading.read_run.Given as goal

abbrev pub invariant-loop-nth : goal.invariant-loop-nth
invariant-loop-nth g l = record {
  within : l.nth ≤ l.count;
  room : l.list.spare + l.nth ≡ l.fn.list.spare;
  joined : l.list.entries ++ map entry_of (set_in_row (g.M.Memory.device l.mem).cached (l.first.0 + l.nth) (l.count - l.nth)) ≡ l.fn.list.entries ++ map entry_of (set_in_row (g.M.Memory.device l.mem).cached l.first.0 l.count);
}
