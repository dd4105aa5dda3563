use Rattle.std.proofs.Common.{◌∙◌}
use Rattle.heap_palloc.proofs.Scans.{seen_whole, opened}
use Rattle.heap_palloc.proofs.reading.reopen.Goals as goal

pub from_descriptors-requires-clause-whole : goal.from_descriptors-requires-clause-whole
from_descriptors-requires-clause-whole g c = (seen_whole (g.M.Memory.device c.args.mem.now) (g.met.M.Memory.whole c.args.mem.now) c.deref.result.now (c.deref.ensures.value ∙ c.in_ok-scan.ensures.descriptors)).0

pub from_descriptors-requires-clause-small : goal.from_descriptors-requires-clause-small
from_descriptors-requires-clause-small g c = (seen_whole (g.M.Memory.device c.args.mem.now) (g.met.M.Memory.whole c.args.mem.now) c.deref.result.now (c.deref.ensures.value ∙ c.in_ok-scan.ensures.descriptors)).1

pub returns : goal.returns
returns g c = opened (g.M.Memory.device c.args.mem.now) (g.met.M.Memory.whole c.args.mem.now) c.deref.result.now c.in_ok-runs.runs c.add_rooms.new.heap (c.deref.ensures.value ∙ c.in_ok-scan.ensures.descriptors)
    c.in_ok-runs.ensures.page_count c.in_ok-runs.ensures.pages c.in_ok-runs.ensures.well_formed (c.add_rooms.ensures.free ∙ c.with_runs-heap.ensures.free) c.add_rooms.ensures.rooms
