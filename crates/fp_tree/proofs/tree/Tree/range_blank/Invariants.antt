use Rattle.std.proofs.Common.{◌*◌, ◌-◌, ◌≤◌}
use Rattle.fp_tree.specs.Standing.{Stands}
use Rattle.fp_tree.proofs.Ranged.{Ranging}
use Rattle.fp_tree.proofs.tree.Tree.range_blank.Given as goal

abbrev pub invariant-loop-at : goal.invariant-loop-at
invariant-loop-at g l =
    ((stands : Stands (g.M.Memory.device l.mem).cached l.self) → Ranging (g.M.Memory.device l.mem).cached l.low l.high stands.0 l.at l.list.pairs)
    × (48 * (l.end - l.at) ≤ l.list.spare)
