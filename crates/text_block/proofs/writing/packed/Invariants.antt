use Rattle.std.proofs.Common.{◌≡◌, ℕ, ◌*◌, ◌<◌, ◌≤◌, drop, length, get_or}
use Rattle.text_block.proofs.writing.packed.Given as goal

abbrev pub invariant-loop-byte : goal.invariant-loop-byte
invariant-loop-byte l = record {
  size : length l.eight ≡ 8;
  done : (k : ℕ) → k < l.byte → get_or l.eight k 0 ≡ get_or (drop (8 * l.word) l.bytes) k 0;
  rest : (k : ℕ) → l.byte ≤ k → get_or l.eight k 0 ≡ 0;
}
