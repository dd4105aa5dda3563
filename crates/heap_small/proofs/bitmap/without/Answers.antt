use Rattle.std.proofs.Common.{ℕ, ◌^◌, ◌<◌, ◌≤◌, ◌⊎◌, ◌≡◌, inl, inr, arith, w64, bit_and}
use Rattle.std.specs.Int.{bit_at}
use Rattle.std.proofs.lemmas.Nat.Bits.{bit_at_clear_same, bit_at_clear_other, bit_at_above, bit_at_and}
use Rattle.heap_small.proofs.Bitmaps.{without_bit-is}
use Rattle.heap_small.proofs.bitmap.without.Goals as goal

-- a word has no bit from 64 on, nor has a part of it
above : (word mask place : ℕ) → word < 2 ^ 64 → 64 ≤ place → bit_at (bit_and word mask) place ≡ bit_at word place
above word mask place fits beyond = omega (arith, bit_at_and word mask place, bit_at_above word 64 place fits beyond)

pub returns-clause-clear : goal.returns-clause-clear
returns-clause-clear c = bit_at_clear_same w64 c.args.bitmap c.args.slot (omega arith)

pub returns-clause-others : goal.returns-clause-others
returns-clause-others c = λ other differs.
    let split : (other < 64) ⊎ (64 ≤ other) = grind arith in
    elim split [
      | inl within ↦ bit_at_clear_other w64 c.args.bitmap c.args.slot (omega arith) other within differs
      | inr beyond ↦ above c.args.bitmap _ other c.ranges.bitmap.fits beyond
    ]

pub returns-clause-value : goal.returns-clause-value
returns-clause-value c = without_bit-is c.args.bitmap c.args.slot _ (returns-clause-clear c) (returns-clause-others c)
