use Rattle.std.proofs.Common.{◌≡◌, ◌+◌, ◌++◌}
use Rattle.seg_array.specs.Growth.{punches}
use Rattle.seg_array.proofs.grow.push_punches.Given as goal

abbrev pub invariant-loop-page : goal.invariant-loop-page
invariant-loop-page l = record {
  left : l.plan.left ≡ l.fn.plan.left ++ punches l.first l.page;
  spare : l.plan.spare + l.page ≡ l.fn.plan.spare;
}
