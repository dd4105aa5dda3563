use Rattle.txn_object.specs.Extension.{extension_parts}
use Rattle.txn_object.proofs.TestObject.{extension_plan, extension_parts_plan, extension_played}
use Rattle.test_ground.proofs.objects.extend.Goals as goal

pub play_whole-requires-clause-planned : goal.play_whole-requires-clause-planned
play_whole-requires-clause-planned g c = extension_plan (g.M.Memory.device c.args.memory.now) c.args.heap.now c.plan_extend.new.heap c.requires c.in_ok-plan.plan.left c.in_ok-plan.ensures.planned

pub returns : goal.returns
returns g c =
    extension_played (g.M.Memory.device c.args.memory.now) c.args.heap.now c.plan_extend.new.heap c.requires c.in_ok-plan.plan.left c.in_ok-plan.ensures.planned (g.M.Memory.device c.play_whole.new.memory)
    (c.play_whole.ensures.words (extension_parts (g.M.Memory.device c.args.memory.now).cached (record { object = 0; source = c.in_ok-plan.ensures.planned.source })) c.in_ok-plan.ensures.planned.plan_is
    (extension_parts_plan (g.M.Memory.device c.args.memory.now) c.args.heap.now c.plan_extend.new.heap c.requires c.in_ok-plan.plan.left c.in_ok-plan.ensures.planned))
    c.play_whole.ensures.clean
