use Rattle.std.proofs.Common.{◌≡◌, take, get_or}
use Rattle.pm_model.specs.Plans.{finished}
use Rattle.pmem_recover.specs.Changes.{change_parts}
use Rattle.pmem_recover.proofs.change.word_after.Given as goal

abbrev pub invariant-loop-change : goal.invariant-loop-change
invariant-loop-change g l = l.word ≡ get_or (finished (change_parts (take l.change-index l.changes)) (g.M.Memory.device l.mem).cached) l.at.0 0
