use Rattle.law_instances.proofs.HalfSplit.{freed_leaf_cut_left, freed_leaf_falls, freed_leaf_misfits, freed_leaf_recovers}
use Rattle.law_instances.proofs.logs.freed_leaf_law.Goals as goal

pub returns : goal.returns
returns c = record { alone = freed_leaf_recovers; cut = freed_leaf_cut_left; falls = freed_leaf_falls; logs = freed_leaf_misfits }
