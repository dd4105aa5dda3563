use Rattle.std.proofs.Common.{◌≡◌, ℕ, ◌*◌, ◌<◌, ◌≤◌, drop, length, get_or}
use Rattle.fp_tree.specs.Halving.{key_prints}
use Rattle.fp_tree.proofs.halving.prints.Given as goal

abbrev pub invariant-loop-byte : goal.invariant-loop-byte
invariant-loop-byte l = record {
  size : length l.bytes ≡ 8;
  done : (k : ℕ) → k < l.byte → get_or l.bytes k 0 ≡ get_or (drop (8 * l.word) (key_prints (drop 24 l.sorted.pairs))) k 0;
  rest : (k : ℕ) → l.byte ≤ k → get_or l.bytes k 0 ≡ 0;
}
