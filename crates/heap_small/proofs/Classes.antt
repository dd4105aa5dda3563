-- The class of a block by how many bits the number of its last line has.
use Rattle.std.proofs.Common.{ℕ, suc, ⊎_elim, ◌+◌, ◌-◌, ◌*◌, ◌/◌, ◌^◌, ◌<◌, ◌≤◌, arith}
use Rattle.std.proofs.lemmas.Bool.{cases_lt}
use Rattle.std.proofs.Math.Pow.{pow_mono}
use Rattle.heap_small.specs.Class.{IsLeastFor}

module _ (words bits : ℕ) (some : 1 ≤ words) (below : (words - 1) / 8 < 2 ^ bits) (above : 2 ^ bits ≤ 2 * ((words - 1) / 8) + 1) where
  pub least_by_bits : IsLeastFor words bits
  least_by_bits = record {
    holds = omega (arith, some, below);
    least = λ lower lt. omega (arith, some, above, pow_mono {i = suc lower} {j = bits} lt);
  }

  -- of 256 words the last line is line 31, which has five bits
  pub few_bits : words ≤ 256 → bits < 6
  few_bits most = ⊎_elim (λ less. less) (λ more. absurd (omega (arith, some, most, above, pow_mono {i = 6} {j = bits} more))) (cases_lt bits 6)
