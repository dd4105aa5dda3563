use Rattle.image_rules.proofs.StampChecks.{RowsBelow}
use Rattle.image_rules.proofs.stamp_rules.chunk_stamp_fault.Given as goal

abbrev pub invariant-loop-offset : goal.invariant-loop-offset
invariant-loop-offset l = RowsBelow l.words l.fn.block.0 l.chunk l.offset
