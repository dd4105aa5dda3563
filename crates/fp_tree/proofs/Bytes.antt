-- A word in which one byte has another value is a word.
use Rattle.std.proofs.Common.{ℕ, zero, suc, ◌+◌, ◌-◌, ◌*◌, ◌/◌, ◌%◌, ◌^◌, ◌<◌, arith}

abbrev IsWordWith : ℕ → ℕ → ℕ → Type 0
IsWordWith word unit value = (value * unit < 2 ^ 64) × (word - word / unit % 256 * unit + value * unit < 2 ^ 64)

pub byte_fits : (word byte value : ℕ) → word < 2 ^ 64 → byte < 8 → value < 256 → IsWordWith word (1 * 2 ^ (8 * byte) % 18446744073709551616) value
byte_fits word zero value fits lt small = (omega (arith, small), omega (arith, fits, small))
byte_fits word (suc zero) value fits lt small = (omega (arith, small), omega (arith, fits, small))
byte_fits word (suc (suc zero)) value fits lt small = (omega (arith, small), omega (arith, fits, small))
byte_fits word (suc (suc (suc zero))) value fits lt small = (omega (arith, small), omega (arith, fits, small))
byte_fits word (suc (suc (suc (suc zero)))) value fits lt small = (omega (arith, small), omega (arith, fits, small))
byte_fits word (suc (suc (suc (suc (suc zero))))) value fits lt small = (omega (arith, small), omega (arith, fits, small))
byte_fits word (suc (suc (suc (suc (suc (suc zero)))))) value fits lt small = (omega (arith, small), omega (arith, fits, small))
byte_fits word (suc (suc (suc (suc (suc (suc (suc zero))))))) value fits lt small = (omega (arith, small), omega (arith, fits, small))
byte_fits word (suc (suc (suc (suc (suc (suc (suc (suc more)))))))) value fits lt small = absurd (omega (arith, lt))
