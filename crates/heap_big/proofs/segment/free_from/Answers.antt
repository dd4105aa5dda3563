use Rattle.std.proofs.Common.{◌≡◌, ℕ, ◌+◌, ◌/◌, ◌^◌, ◌<◌, ◌≤◌, sym, subst, ap, ◌∙◌, arith, w64}
use Rattle.std.specs.Int.{bit_at, trailing_ones}
use Rattle.heap_big.proofs.Bits.{ones_from-within, ones_from, ones_from-whole}
use Rattle.heap_big.proofs.segment.free_from.Goals as goal

-- the count, as the code has it
module _ (word page here count : ℕ) (fits : word < 2 ^ 64) (small : page < 64) (here_is : here ≡ word / 2 ^ page) (count_is : count ≡ trailing_ones w64 here) where
  is : trailing_ones w64 (word / 2 ^ page) ≡ count
  is = ap (trailing_ones w64) (sym here_is) ∙ sym count_is

  within : page + count ≤ 64
  within = subst (λ (n : ℕ). page + n ≤ 64) is (ones_from-within word page fits small)

  ones : (other : ℕ) → page ≤ other → other < page + count → bit_at word other ≡ 1
  ones other above below = ones_from word page fits small other above (subst (λ (n : ℕ). other < page + n) (sym is) below)

  whole : page + count < 64 → bit_at word (page + count) ≡ 0
  whole = subst (λ (n : ℕ). page + n < 64 → bit_at word (page + n) ≡ 0) is (ones_from-whole word page fits small)

pub returns-in-Some-clause-within : goal.returns-in-Some-clause-within
returns-in-Some-clause-within c = within c.args.free c.args.page c.in-Some.here c.trailing_ones.result c.ranges.free.fits (omega arith) (omega arith) c.trailing_ones.ensures

pub returns-in-Some-clause-free : goal.returns-in-Some-clause-free
returns-in-Some-clause-free c = ones c.args.free c.args.page c.in-Some.here c.trailing_ones.result c.ranges.free.fits (omega arith) (omega arith) c.trailing_ones.ensures

pub returns-in-Some-clause-whole : goal.returns-in-Some-clause-whole
returns-in-Some-clause-whole c = whole c.args.free c.args.page c.in-Some.here c.trailing_ones.result c.ranges.free.fits (omega arith) (omega arith) c.trailing_ones.ensures
