use Rattle.std.proofs.Common.{◌≡◌, ◌+◌, ◌*◌, ◌≤◌, ◌++◌, length, take}
use Rattle.pm_model.specs.Plans.{plan_of}
use Rattle.pm_model.specs.Needed.{needed_parts}
use Rattle.pmem_recover.specs.Changes.{change_parts}
use Rattle.pmem_recover.proofs.change.push_needed.Given as goal

abbrev pub invariant-loop-done : goal.invariant-loop-done
invariant-loop-done g l =
    record {
      left : l.plan.left ≡ l.fn.plan.left ++ plan_of (needed_parts (g.M.Memory.device l.mem).cached (change_parts (take l.done l.changes)));
      room : 3 * length l.changes ≤ l.plan.spare + 3 * l.done;
    }
