use Rattle.std.proofs.Common.{◌++◌, ap, arith}
use Rattle.std.specs.List.{flat_map}
use Rattle.pm_model.specs.Plans.{Part}
use Rattle.stage_object.specs.Object.{entries_from, entries_in}
use Rattle.engine_core.specs.Opening.{undo_entry}
use Rattle.engine_core.proofs.OpeningPlans.{undo-row, undo-next}
use Rattle.engine_core.proofs.opening.undo_stores.Goals as goal

pub push_undo-requires-clause-row : goal.push_undo-requires-clause-row
push_undo-requires-clause-row g c = undo-row (g.M.Memory.device c.args.memory.now).cached c.args.object c.loop-nth.nth c.entry_word.result.0 c.load-word.result c.of_word.result (omega arith) c.requires.rules c.requires.object c.requires.opened c.loop-nth-test.true c.entry_word.ensures c.load-word.ensures c.if-word-eq0.false c.of_word.ensures

pub loop-nth-init : goal.loop-nth-init
unfolding entries_in
loop-nth-init g c = record {
  joined = ap (λ (part : Part). part ++ flat_map (undo_entry (g.M.Memory.device c.args.memory.now).cached) (entries_from (g.M.Memory.device c.args.memory.now).cached c.args.object 0 60)) c.in_ok-part.ensures.items;
  len = omega (arith, c.in_ok-part.ensures.len);
  room = c.in_ok-part.ensures.capacity;
}

pub loop-nth-preserved : goal.loop-nth-preserved
loop-nth-preserved g c = record {
  joined = undo-next (g.M.Memory.device c.args.memory.now).cached c.args.object c.loop-nth.nth c.entry_word.result.0 c.load-word.result c.of_word.result c.loop-nth.part.items c.push_undo.new.part.items _ c.loop-nth-test.true c.entry_word.ensures c.load-word.ensures c.if-word-eq0.false c.of_word.ensures c.push_undo.ensures.items c.loop-nth.invariant.joined;
  len = omega (arith, c.push_undo.ensures.len);
  room = omega (arith, c.push_undo.ensures.capacity);
}
