use Rattle.heap_palloc.proofs.Freeing.{named_pointer}
use Rattle.heap_palloc.proofs.free.plan_free.Goals as goal

pub named_place-first-requires-clause-pointer : goal.named_place-first-requires-clause-pointer
named_place-first-requires-clause-pointer g c = named_pointer (g.M.Memory.device c.args.mem.now) (g.met.M.Memory.whole c.args.mem.now) c.args.heap.now c.args.lane c.args.dest.0 c.requires.may c.requires.owned.0 c.requires.owned.1
