use Rattle.std.proofs.Common.{◌≡◌, ◌≤◌}
use Rattle.stage_object.specs.Object.{free_among}
use Rattle.stage_object.proofs.object.free_entries.Given as goal

abbrev pub invariant-loop-nth : goal.invariant-loop-nth
invariant-loop-nth g l = record {
  within : l.free ≤ l.nth;
  counted : l.free ≡ free_among (g.M.Memory.device l.mem).cached l.object l.nth;
}
