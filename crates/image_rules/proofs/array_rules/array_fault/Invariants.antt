use Rattle.image_rules.proofs.ArrayChecks.{ChunksBelow}
use Rattle.image_rules.proofs.array_rules.array_fault.Given as goal

abbrev pub invariant-loop-chunk : goal.invariant-loop-chunk
invariant-loop-chunk l = ChunksBelow l.words l.header.0 l.chunk
