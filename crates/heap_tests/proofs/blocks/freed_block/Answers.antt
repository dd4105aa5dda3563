use Rattle.std.proofs.Common.{◌≤◌, arith}
use Rattle.heap_tests.proofs.blocks.freed_block.Goals as goal

pub free-requires-clause-owned : goal.free-requires-clause-owned
free-requires-clause-owned g c = let few : 80 ≤ 256 = omega arith in (record { first = c.in_ok-_block._block.first.0; words = c.in_ok-_block._block.words }, c.in_ok-_block.ensures.owned few)
