use Rattle.seg_array.proofs.ChangesHold.{table_may_grow}
use Rattle.seg_array.proofs.laws.table_array_law.Goals as goal

pub returns : goal.returns
returns c = table_may_grow
