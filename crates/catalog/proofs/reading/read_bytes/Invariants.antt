use Rattle.std.proofs.Common.{◌≡◌, ℕ, ◌<◌, length, get_or}
use Rattle.image_layout.specs.Places.{packed_byte}
use Rattle.catalog.proofs.reading.read_bytes.Given as goal

abbrev pub invariant-loop-byte : goal.invariant-loop-byte
invariant-loop-byte g l = record { size : length l.bytes ≡ 24; done : (k : ℕ) → k < l.byte → get_or l.bytes k 0 ≡ packed_byte (g.M.Memory.device l.mem).cached l.first.0 k }
