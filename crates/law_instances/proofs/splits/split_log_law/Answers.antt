use Rattle.law_instances.proofs.SplitLogs.{is_first, is_noted}
use Rattle.law_instances.proofs.splits.split_log_law.Goals as goal

pub returns : goal.returns
returns c = record { first = is_first; noted = is_noted }
