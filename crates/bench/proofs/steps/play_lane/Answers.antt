use Rattle.std.proofs.Common.{◌/◌, ◌∙◌, ap}
use Rattle.pm_model.specs.declared.action.Action.TheVariants.{Flush, Fence}
use Rattle.pm_model.specs.Device.{Device, acted}
use Rattle.pm_model.specs.Plans.{store}
use Rattle.bench.proofs.Played.{lane_played}
use Rattle.bench.proofs.steps.play_lane.Goals as goal

pub returns : goal.returns
returns g c =
    let dest = c.lane_dest-dest.result.0 in
    let block = c.lane_block-block.result.0 in
    lane_played (g.M.Memory.device c.args.memory.now) (g.met.M.Memory.whole c.args.memory.now) c.requires c.lane_dest-dest.result.0 c.lane_block-block.result.0 (g.M.Memory.device c.act-4.new.self) c.lane_dest-dest.ensures c.lane_block-block.ensures
    (c.act-4.ensures ∙ ap (λ (d : Device). acted 1 Fence d) (c.act-3.ensures ∙ ap (λ (d : Device). acted 1 (Flush (dest / 8)) d) (c.act-2.ensures ∙ ap (λ (d : Device). acted 1 (store block 1) d) c.act.ensures)))
