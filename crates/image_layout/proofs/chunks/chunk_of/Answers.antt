use Rattle.std.proofs.Common.{sym, arith}
use Rattle.image_layout.proofs.ChunkSizes.{small_chunk, large_chunk, log_low}
use Rattle.image_layout.proofs.chunks.chunk_of.Goals as goal

pub returns-then-page : goal.returns-then-page
returns-then-page c =
    let page = c.if-page.true in
    let low = c.ilog2.ensures.power_le in
    let high = c.ilog2.ensures.next_power_gt in
    let few = log_low c.ilog2.result (omega (arith, low, page)) in
    record { chunk = sym (small_chunk c.args.index c.ilog2.result page low high few); most = omega (arith, few) }

pub returns-else-page-clause-chunk : goal.returns-else-page-clause-chunk
returns-else-page-clause-chunk c = sym (large_chunk c.args.index c.if-page.false c.requires)
