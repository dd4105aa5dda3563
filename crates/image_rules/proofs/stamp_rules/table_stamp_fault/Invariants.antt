use Rattle.image_rules.proofs.StampChecks.{ChunksBelow}
use Rattle.image_rules.proofs.stamp_rules.table_stamp_fault.Given as goal

abbrev pub invariant-loop-chunk : goal.invariant-loop-chunk
invariant-loop-chunk l = ChunksBelow l.words l.block.0 l.chunk
