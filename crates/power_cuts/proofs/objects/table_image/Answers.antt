use Rattle.std.proofs.Common.{get_or, sym, ◌∙◌, ap}
use Rattle.pm_model.specs.Device.{Device}
use Rattle.power_cuts.proofs.objects.table_image.Goals as goal

pub returns : goal.returns
returns g c = λ w.
    ap (λ (x : Device). get_or x.cached w 0) c.in_ok-memory.ensures ∙ sym (ap (λ (x : Device). get_or x.durable w 0) c.in_ok-memory.ensures)
