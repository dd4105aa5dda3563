use Rattle.std.proofs.Common.{◌≡◌, ◌+◌, ◌*◌, ◌≤◌, ◌∷◌, ◌++◌, length, take, drop}
use Rattle.pm_model.specs.Plans.{plan_of}
use Rattle.pm_model.specs.Needed.{needed_parts}
use Rattle.pmem_recover.specs.Changes.{change_part, change_parts}
use Rattle.pmem_recover.proofs.PartByPart.{rest_of}
use Rattle.pmem_recover.proofs.part.push_parts.Given as goal

abbrev pub invariant-loop-done : goal.invariant-loop-done
invariant-loop-done g l = record {
  left : l.plan.left ++ rest_of (g.M.Memory.device l.mem).cached l.changes l.done
      ≡ l.fn.plan.left ++ plan_of (needed_parts (g.M.Memory.device l.mem).cached (change_part (take l.first l.changes) ∷ change_parts (drop l.first l.changes)));
  room : 3 * length l.changes ≤ l.plan.spare + 3 * l.done;
}
