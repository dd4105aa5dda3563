use Rattle.pmem_recover.proofs.FirstFault.{entry-lanes, entry-undo}
use Rattle.opening_tests.proofs.step_tests.step_plan.Goals as goal

pub next_lane-requires : goal.next_lane-requires
next_lane-requires g c = entry-lanes (g.M.Memory.device c.args.memory.now).cached c.requires

pub next_slot-requires : goal.next_slot-requires
next_slot-requires g c = (entry-undo (g.M.Memory.device c.args.memory.now).cached c.requires).table_slots

pub next_undo-requires : goal.next_undo-requires
next_undo-requires g c = entry-undo (g.M.Memory.device c.args.memory.now).cached c.requires

pub next_clear-requires : goal.next_clear-requires
next_clear-requires g c = (entry-undo (g.M.Memory.device c.args.memory.now).cached c.requires).objects

pub next_version-requires : goal.next_version-requires
next_version-requires g c =
    let rules = entry-undo (g.M.Memory.device c.args.memory.now).cached c.requires in
    record { tables = rules.table_count; slots = rules.table_slots }
