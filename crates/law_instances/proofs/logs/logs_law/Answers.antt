use Rattle.law_instances.proofs.TwoLanes.{cut_is_no_more, cut_left, image_recovers, logs_misfit}
use Rattle.law_instances.proofs.logs.logs_law.Goals as goal

pub returns : goal.returns
returns c = record { alone = image_recovers; cut = cut_left; lost = cut_is_no_more; logs = logs_misfit }
