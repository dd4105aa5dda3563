use Rattle.std.proofs.Common.{◌≡◌, ◌+◌, ◌++◌, take}
use Rattle.pmem_recover.specs.Changes.{change_part}
use Rattle.pmem_recover.proofs.part.push_stores.Given as goal

abbrev pub invariant-loop-change : goal.invariant-loop-change
invariant-loop-change l = record {
  left : l.plan.left ≡ l.fn.plan.left ++ change_part (take l.change-index l.changes);
  spare : l.plan.spare + l.change-index ≡ l.fn.plan.spare;
}
