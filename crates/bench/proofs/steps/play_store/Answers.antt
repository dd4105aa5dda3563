use Rattle.std.proofs.Common.{◌/◌, ◌∙◌, ap}
use Rattle.pm_model.specs.declared.action.Action.TheVariants.{Flush, Fence}
use Rattle.pm_model.specs.Device.{Device, acted}
use Rattle.bench.proofs.Played.{store_played}
use Rattle.bench.proofs.steps.play_store.Goals as goal

pub returns : goal.returns
returns g c = store_played (g.M.Memory.device c.args.memory.now) (g.met.M.Memory.whole c.args.memory.now) c.requires.at_rest c.args.place.0 c.args.value (g.M.Memory.device c.act-3.new.self) c.requires.within
    (c.act-3.ensures ∙ ap (λ (d : Device). acted 1 Fence d) (c.act-2.ensures ∙ ap (λ (d : Device). acted 1 (Flush (c.args.place.0 / 8)) d) c.act.ensures))
