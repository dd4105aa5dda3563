use Rattle.std.proofs.Common.{◌+◌, ◌^◌, ◌≤◌, arith}
use Rattle.std.proofs.Math.Pow.{pow_mono}
use Rattle.heap_big.proofs.segment.bits_of.Goals as goal

pub overflow_sub-result : goal.overflow_sub-result
overflow_sub-result c =
    let more : 2 ^ c.from-first.result ≤ 2 ^ (c.from-first.result + c.args.run.pages) = pow_mono (omega arith) in
    omega (arith, more, c.ones_below.ensures, c.ones_below-2.ensures)
