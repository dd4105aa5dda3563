use Rattle.power_cuts.proofs.Kept.{may_create, count_of_published, keeps_tables}
use Rattle.power_cuts.proofs.structures.first_creation.Goals as goal

pub rebuild-requires : goal.rebuild-requires
rebuild-requires g c = keeps_tables (g.M.Memory.device c.args.memory.now).cached c.requires.rules c.requires.none

pub plan_create-requires : goal.plan_create-requires
plan_create-requires g c =
    may_create (g.M.Memory.device c.args.memory.now).cached c.in_ok-heap.heap c.in_ok-catalog.catalog.tables c.requires.rules c.requires.idle c.requires.none c.requires.slot c.in_ok-heap.ensures (count_of_published (g.M.Memory.device c.args.memory.now).cached c.in_ok-catalog.catalog.tables c.in_ok-catalog.ensures.tables)
