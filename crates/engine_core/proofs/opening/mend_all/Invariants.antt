use Rattle.std.proofs.Common.{◌≡◌, drop}
use Rattle.pm_model.specs.Device.{IsWhole}
use Rattle.pm_model.specs.Plans.{at_rest}
use Rattle.engine_core.specs.Opening.{mendings}
use Rattle.engine_core.proofs.OpeningPlans.{IsOpening}
use Rattle.engine_core.proofs.opening.mend_all.Given as goal

abbrev pub invariant-loop-place : goal.invariant-loop-place
invariant-loop-place g l = record {
  whole : IsWhole (g.M.Memory.device l.memory);
  rests : g.M.Memory.device l.memory ≡ at_rest (g.M.Memory.device l.memory).cached;
  opening : IsOpening (g.M.Memory.device l.fn.memory).cached (drop l.place mendings) (g.M.Memory.device l.memory).cached;
}
