use Rattle.fp_tree.specs.Standing.{HasSoundTree}
use Rattle.fp_tree.proofs.Walk.{Walking}
use Rattle.fp_tree.proofs.rebuilding.leaves_with_keys.Given as goal

abbrev pub invariant-loop-turn : goal.invariant-loop-turn
invariant-loop-turn g l = (tree : HasSoundTree (g.M.Memory.device l.mem).cached l.fn.column.0) → Walking (g.M.Memory.device l.mem).cached tree.0 l.at.0 l.turn l.leaves.items
