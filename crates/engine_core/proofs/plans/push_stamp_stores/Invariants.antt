use Rattle.std.proofs.Common.{◌≡◌, ◌+◌, map}
use Rattle.std.specs.List.{range_with_len}
use Rattle.pm_model.specs.Plans.{stores}
use Rattle.engine_core.specs.Stage.{born_at}
use Rattle.engine_core.proofs.plans.push_stamp_stores.Given as goal

abbrev pub invariant-loop-nth : goal.invariant-loop-nth
invariant-loop-nth l = record {
  left : l.plan.left ≡ stores l.number (map born_at (range_with_len l.first l.nth));
  spare : l.plan.spare + l.nth ≡ l.fn.plan.spare;
}
