use Rattle.std.proofs.Common.{arith}
use Rattle.image_layout.proofs.ChunkSizes.{shifted_capacity, even_capacity}
use Rattle.image_layout.proofs.chunks.pages_before.Goals as goal

pub returns-then-chunks-lt-LAST_DOUBLING : goal.returns-then-chunks-lt-LAST_DOUBLING
returns-then-chunks-lt-LAST_DOUBLING c = shifted_capacity c.args.chunks c.if-chunks-lt-LAST_DOUBLING.true

pub returns-else-chunks-lt-LAST_DOUBLING : goal.returns-else-chunks-lt-LAST_DOUBLING
returns-else-chunks-lt-LAST_DOUBLING c = even_capacity c.args.chunks (omega (arith, c.if-chunks-lt-LAST_DOUBLING.false))
