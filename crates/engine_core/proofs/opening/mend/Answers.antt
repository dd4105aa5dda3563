use Rattle.std.proofs.Common.{◌∙◌}
use Rattle.engine_core.specs.Mended.{mending_of}
use Rattle.engine_core.proofs.OpeningPlans.{may-mend, mend-rests}
use Rattle.engine_core.proofs.opening.mend.Goals as goal

pub play-requires-clause-may_play : goal.play-requires-clause-may_play
play-requires-clause-may_play g c = may-mend (mending_of c.args.mending) (g.M.Memory.device c.args.memory.now) c.in_ok-plan.plan.left c.requires.rests c.requires.plan c.in_ok-plan.ensures

pub returns : goal.returns
returns g c = c.play.ensures.device ∙ mend-rests (mending_of c.args.mending) (g.M.Memory.device c.args.memory.now) c.in_ok-plan.plan.left c.len-count.result c.len-count.ensures c.requires.rests c.requires.plan c.in_ok-plan.ensures
