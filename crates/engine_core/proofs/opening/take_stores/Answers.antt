use Rattle.std.proofs.Common.{◌-◌, length, drop, ap, arith}
use Rattle.engine_core.proofs.OpeningPlans.{mended-at, taken-none, taken-next, taken-all}
use Rattle.engine_core.proofs.opening.take_stores.Goals as goal

pub take_store-requires-clause-stores : goal.take_store-requires-clause-stores
take_store-requires-clause-stores g c = mended-at c.args.part.now (length c.args.part.now - 1 - c.loop-done.done) _ c.requires.stores (omega arith)

pub loop-done-init : goal.loop-done-init
loop-done-init g c = record {
  taken = taken-none (g.M.Memory.device c.args.memory.now).cached c.args.part.now c.args.kept.now.items c.args.marks.now c.requires.none (λ w lt. c.requires.unmarked w (omega (arith, lt)));
  len = let none = ap length c.requires.none in omega (arith, none);
  room = c.requires.room;
  size = c.requires.size;
}

pub loop-done-preserved : goal.loop-done-preserved
loop-done-preserved g c = record {
  taken = taken-next (g.M.Memory.device c.args.memory.now).cached c.args.part.now c.loop-done.done _ c.take_store.new.kept.items c.take_store.new.marks (omega arith) (c.take_store.ensures.taken (drop (length c.args.part.now - c.loop-done.done) c.args.part.now) c.loop-done.invariant.taken);
  len = omega (arith, c.take_store.ensures.len);
  room = omega (arith, c.take_store.ensures.capacity);
  size = c.take_store.ensures.size;
}

pub returns-clause-taken : goal.returns-clause-taken
returns-clause-taken g c = taken-all (g.M.Memory.device c.args.memory.now).cached c.args.part.now c.loop-done.done c.loop-done.kept.items c.loop-done.marks (omega arith) c.loop-done.invariant.taken
