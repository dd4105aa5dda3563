use Rattle.std.proofs.Common.{◌≡◌, ◌+◌, ◌++◌, take}
use Rattle.engine_core.proofs.opening.push_stores.Given as goal

abbrev pub invariant-loop-store : goal.invariant-loop-store
invariant-loop-store l = record {
  left : l.plan.left ≡ l.fn.plan.left ++ take l.store-index l.stores;
  spare : l.plan.spare + l.store-index ≡ l.fn.plan.spare;
}
