use Rattle.std.proofs.Common.{drop, ap}
use Rattle.pm_model.specs.Device.{Device}
use Rattle.engine_core.specs.Opening.{mendings}
use Rattle.engine_core.specs.Mended.{mending_of}
use Rattle.engine_core.proofs.OpeningPlans.{opening-starts, opening-rules, opening-may, opening-goes, still-rests, device-done}
use Rattle.engine_core.proofs.opening.mend_all.Goals as goal

pub loop-place-init : goal.loop-place-init
loop-place-init g c = record { whole = c.requires.whole; rests = c.requires.rests; opening = opening-starts (g.M.Memory.device c.args.memory.now).cached c.requires.whole.one_or_more c.requires.rules }

pub mend-requires-clause-rules : goal.mend-requires-clause-rules
mend-requires-clause-rules g c = opening-rules (g.M.Memory.device c.args.memory.now).cached c.requires.whole.one_or_more c.requires.rules (drop c.loop-place.place mendings) (g.M.Memory.device c.loop-place.memory).cached c.loop-place.invariant.opening

pub mend-requires-clause-plan : goal.mend-requires-clause-plan
mend-requires-clause-plan g c = opening-may (g.M.Memory.device c.args.memory.now).cached (mending_of c.nth.result) c.loop-place.place (g.M.Memory.device c.loop-place.memory).cached c.nth.ensures.mending c.loop-place.invariant.opening

pub loop-place-preserved : goal.loop-place-preserved
loop-place-preserved g c = record {
  whole = g.met.M.Memory.whole c.mend.new.memory;
  rests = still-rests (g.M.Memory.device c.mend.new.memory) _ c.in_ok-mend.ensures;
  opening = opening-goes (g.M.Memory.device c.args.memory.now).cached (mending_of c.nth.result) c.loop-place.place (g.M.Memory.device c.loop-place.memory).cached (g.M.Memory.device c.mend.new.memory).cached c.nth.ensures.mending (ap (λ (d : Device). d.cached) c.in_ok-mend.ensures) c.loop-place.invariant.opening;
}

pub returns : goal.returns
returns g c = device-done (g.M.Memory.device c.args.memory.now).cached (g.M.Memory.device c.loop-place.memory) c.loop-place.place c.loop-place-test.false c.loop-place.invariant.rests c.loop-place.invariant.opening
