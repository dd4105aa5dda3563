use Rattle.std.proofs.Common.{arith, w64}
use Rattle.std.proofs.lemmas.Nat.Bits.{bit_at_set_same, bit_at_set_other}
use Rattle.heap_small.proofs.Bitmaps.{with_bit-is}
use Rattle.heap_small.proofs.bitmap.with.Goals as goal

pub returns-clause-set : goal.returns-clause-set
returns-clause-set c = bit_at_set_same w64 c.args.bitmap c.args.slot (omega arith)

pub returns-clause-others : goal.returns-clause-others
returns-clause-others c = λ other differs. bit_at_set_other w64 c.args.bitmap c.args.slot (omega arith) other differs

pub returns-clause-value : goal.returns-clause-value
returns-clause-value c = with_bit-is c.args.bitmap c.args.slot _ (returns-clause-set c) (returns-clause-others c)
