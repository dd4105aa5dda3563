use Rattle.std.proofs.Common.{arith}
use Rattle.fp_tree.proofs.Bytes.{byte_fits}
use Rattle.fp_tree.proofs.inserting.with_byte.Goals as goal

pub overflow_mul-result-2 : goal.overflow_mul-result-2
overflow_mul-result-2 c =
    let fits = byte_fits c.args.word c.args.byte c.from.result (omega (arith, c.ranges.word.fits)) (omega (arith, c.requires)) (omega (arith, c.from.ensures, c.ranges.value.fits)) in
    omega (arith, fits.0)

pub overflow_add-result : goal.overflow_add-result
overflow_add-result c =
    let fits = byte_fits c.args.word c.args.byte c.from.result (omega (arith, c.ranges.word.fits)) (omega (arith, c.requires)) (omega (arith, c.from.ensures, c.ranges.value.fits)) in
    omega (arith, fits.1)
