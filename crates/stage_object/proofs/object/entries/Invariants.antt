use Rattle.std.proofs.Common.{◌≡◌, ◌+◌, ◌-◌, ◌≤◌, ◌++◌}
use Rattle.stage_object.specs.Object.{entries_from, entries_in}
use Rattle.stage_object.proofs.object.entries.Given as goal

abbrev pub invariant-loop-nth : goal.invariant-loop-nth
invariant-loop-nth g l = record {
  within : l.nth ≤ 60;
  room : l.list.spare + l.nth ≡ 60;
  joined : l.list.entries ++ entries_from (g.M.Memory.device l.mem).cached l.object l.nth (60 - l.nth) ≡ entries_in (g.M.Memory.device l.mem).cached l.object;
}
