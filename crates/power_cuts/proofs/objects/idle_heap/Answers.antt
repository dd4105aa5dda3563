use Rattle.std.proofs.Common.{arith}
use Rattle.image_layout.proofs.OwnedBlocks.{one_object}
use Rattle.power_cuts.proofs.Kept.{keeps_objects}
use Rattle.power_cuts.proofs.Extending.{idle_extendable}
use Rattle.power_cuts.proofs.objects.idle_heap.Goals as goal

pub free_entries-requires-clause-rule : goal.free_entries-requires-clause-rule
free_entries-requires-clause-rule g c =
    one_object (g.M.Memory.device c.args.memory.now).cached 0 (keeps_objects (g.M.Memory.device c.args.memory.now).cached c.requires.rules) (omega arith)

pub returns : goal.returns
returns g c =
    idle_extendable (g.M.Memory.device c.args.memory.now) c.in_ok-heap.heap c.free_entries.result c.requires.rules c.requires.idle c.requires.none c.requires.pointer c.requires.clean
    c.free_entries.ensures c.if-free_entries-ne60.false c.in_ok-heap.ensures
