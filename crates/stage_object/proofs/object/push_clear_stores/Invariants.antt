use Rattle.std.proofs.Common.{◌≡◌, ◌+◌, ◌++◌}
use Rattle.stage_object.specs.Object.{entry_clears}
use Rattle.stage_object.proofs.object.push_clear_stores.Given as goal

abbrev pub invariant-loop-nth : goal.invariant-loop-nth
invariant-loop-nth l = record {
  spare : l.plan.spare + l.nth ≡ l.fn.plan.spare;
  left : l.plan.left ≡ l.fn.plan.left ++ entry_clears l.object l.nth;
}
