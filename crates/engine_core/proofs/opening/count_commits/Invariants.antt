use Rattle.std.proofs.Common.{◌≡◌, get_or}
use Rattle.image_layout.specs.Fixed.{commit_word_at}
use Rattle.engine_core.specs.LogicalState.{greatest, of_open}
use Rattle.engine_core.proofs.opening.count_commits.Given as goal

abbrev pub invariant-loop-object : goal.invariant-loop-object
invariant-loop-object g l = l.count ≡ greatest (of_open (g.M.Memory.device l.memory).cached (λ k. get_or (g.M.Memory.device l.memory).cached (commit_word_at k) 0)) l.object
