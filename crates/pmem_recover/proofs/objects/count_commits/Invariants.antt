use Rattle.std.proofs.Common.{◌≡◌}
use Rattle.pmem_recover.proofs.Steps.{commits_below}
use Rattle.pmem_recover.proofs.objects.count_commits.Given as goal

abbrev pub invariant-loop-object : goal.invariant-loop-object
invariant-loop-object g l = l.number ≡ commits_below (g.M.Memory.device l.mem).cached l.object
