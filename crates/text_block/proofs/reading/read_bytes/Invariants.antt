use Rattle.std.proofs.Common.{◌≡◌, ◌+◌, ◌≤◌, map, vec_capacity, vec_len}
use Rattle.std.specs.List.{range_with_len}
use Rattle.image_layout.specs.Places.{packed_byte}
use Rattle.text_block.proofs.reading.read_bytes.Given as goal

abbrev pub invariant-loop-byte : goal.invariant-loop-byte
invariant-loop-byte g l = record {
  items : l.bytes.items ≡ map (packed_byte (g.M.Memory.device l.mem).cached (l.at.0 + 1)) (range_with_len 0 l.byte);
  count : vec_len l.bytes ≡ l.byte;
  room : l.length ≤ vec_capacity l.bytes;
}
