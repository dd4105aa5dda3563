use Rattle.power_cuts.proofs.Kept.{may_extend}
use Rattle.power_cuts.proofs.structures.first_extension.Goals as goal

pub plan_extend-requires-clause-may : goal.plan_extend-requires-clause-may
plan_extend-requires-clause-may g c =
    may_extend (g.M.Memory.device c.args.memory.now).cached c.in_ok-heap.heap c.requires.rules c.requires.idle c.requires.none c.requires.pointer c.in_ok-heap.ensures
