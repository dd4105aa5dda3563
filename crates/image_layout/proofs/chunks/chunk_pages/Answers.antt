use Rattle.std.proofs.Common.{ℕ, ◌*◌, ◌%◌, ◌^◌, ◌≤◌, arith, pow_mono}
use Rattle.image_layout.proofs.chunks.chunk_pages.Goals as goal

shifted : (m : ℕ) → m ≤ 5 → 1 * 2 ^ m % 4294967296 ≤ 32
shifted m le = let small : 2 ^ m ≤ 32 = pow_mono le in omega (arith, small)

pub returns-clause-most : goal.returns-clause-most
returns-clause-most c = shifted c.min.result (omega (arith, c.min.ensures))
