use Rattle.std.proofs.Common.{◌≡◌, ◌+◌, ◌++◌}
use Rattle.std.specs.List.{range_with_len}
use Rattle.pm_model.specs.Plans.{stores}
use Rattle.txn_object.proofs.object.push_zeros.Given as goal

abbrev pub invariant-loop-nth : goal.invariant-loop-nth
invariant-loop-nth l = record {
  left : l.plan.left ≡ l.fn.plan.left ++ stores 0 (range_with_len l.first.0 l.nth);
  spare : l.plan.spare + l.nth ≡ l.fn.plan.spare;
}
