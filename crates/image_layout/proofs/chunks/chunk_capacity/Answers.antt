use Rattle.std.proofs.Common.{arith}
use Rattle.image_layout.proofs.ChunkSizes.{capacity_most}
use Rattle.image_layout.proofs.chunks.chunk_capacity.Goals as goal

pub overflow_mul-result : goal.overflow_mul-result
overflow_mul-result c = let most = capacity_most c.args.chunks c.requires in omega (arith, most, c.pages_before.ensures)

pub returns-clause-most : goal.returns-clause-most
returns-clause-most c = let most = capacity_most c.args.chunks c.requires in omega (arith, most, c.pages_before.ensures)
