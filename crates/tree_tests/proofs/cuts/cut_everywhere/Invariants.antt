use Rattle.pm_model.specs.Plans.{MayPlay}
use Rattle.tree_tests.proofs.cuts.cut_everywhere.Given as goal

abbrev pub invariant-loop-played : goal.invariant-loop-played
invariant-loop-played g l = MayPlay 1 l.plan.left (g.M.Memory.device l.memory)
