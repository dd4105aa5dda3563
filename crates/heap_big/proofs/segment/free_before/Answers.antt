use Rattle.std.proofs.Common.{◌≡◌, ℕ, ◌+◌, ◌-◌, ◌<◌, ◌≤◌, sym, subst, w64, bit_and}
use Rattle.std.specs.Int.{bit_at, bit_not}
use Rattle.std.specs.Int.Count.{count_leading_zeros}
use Rattle.heap_big.proofs.Bits.{ones_before-some, ones_before, ones_before-whole}
use Rattle.heap_big.proofs.segment.free_before.Goals as goal

pub overflow_sub-result : goal.overflow_sub-result
overflow_sub-result c =
    subst (λ (mask : ℕ). 64 ≤ c.args.page + count_leading_zeros 64 (bit_and (bit_not w64 c.args.free) mask)) (sym c.ones_below.ensures) (ones_before-some c.args.free c.args.page c.ranges.free.fits c.requires)

pub returns-clause-free : goal.returns-clause-free
returns-clause-free c =
    subst (λ (mask : ℕ). (other : ℕ) → c.args.page - (c.args.page + count_leading_zeros 64 (bit_and (bit_not w64 c.args.free) mask) - 64) ≤ other → other < c.args.page → bit_at c.args.free other ≡ 1) (sym c.ones_below.ensures)
    (ones_before c.args.free c.args.page c.ranges.free.fits c.requires)

pub returns-clause-whole : goal.returns-clause-whole
returns-clause-whole c =
    subst (λ (mask : ℕ). c.args.page + count_leading_zeros 64 (bit_and (bit_not w64 c.args.free) mask) - 64 < c.args.page → bit_at c.args.free (c.args.page - (c.args.page + count_leading_zeros 64 (bit_and (bit_not w64 c.args.free) mask) - 64) - 1) ≡ 0) (sym c.ones_below.ensures)
    (ones_before-whole c.args.free c.args.page c.ranges.free.fits c.requires)
