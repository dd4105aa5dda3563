use Rattle.law_instances.proofs.HalfSplit.{loose_leaf_cut_left, loose_leaf_grows, loose_leaf_misfits, loose_leaf_recovers}
use Rattle.law_instances.proofs.logs.loose_leaf_law.Goals as goal

pub returns : goal.returns
returns c = record { alone = loose_leaf_recovers; cut = loose_leaf_cut_left; grows = loose_leaf_grows; logs = loose_leaf_misfits }
