use Rattle.stage_object.proofs.Plays.{may_play-rest}
use Rattle.object_tests.proofs.stage.play_and_look.Goals as goal

pub play-requires-clause-may_play : goal.play-requires-clause-may_play
play-requires-clause-may_play g c = c.requires

pub play-requires-2-clause-may_play : goal.play-requires-2-clause-may_play
play-requires-2-clause-may_play g c =
    may_play-rest 3 3 c.args.plan.now.left c.play.new.plan.left (g.M.Memory.device c.args.memory.now) (g.M.Memory.device c.play.new.memory) c.play.ensures.left c.play.ensures.device c.requires

pub play-requires-3-clause-may_play : goal.play-requires-3-clause-may_play
play-requires-3-clause-may_play g c =
    may_play-rest 3 6 c.play.new.plan.left c.play-2.new.plan.left (g.M.Memory.device c.play.new.memory) (g.M.Memory.device c.play-2.new.memory) c.play-2.ensures.left c.play-2.ensures.device
    (may_play-rest 3 3 c.args.plan.now.left c.play.new.plan.left (g.M.Memory.device c.args.memory.now) (g.M.Memory.device c.play.new.memory) c.play.ensures.left c.play.ensures.device c.requires)
