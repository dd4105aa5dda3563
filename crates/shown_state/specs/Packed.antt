-- Bytes that are packed into words, eight in a word, the first one lowest.
use Rattle.std.specs.Prelude.{ℕ, ◌*◌, List, drop, map}
use Rattle.std.specs.Int.{w64, from_le_bytes}
use Rattle.image_layout.specs.Places.{below}

-- a word of these bytes; behind the last one they are 0
abbrev pub packed_word : List ℕ → ℕ → ℕ
packed_word bytes word = from_le_bytes w64 (drop (8 * word) bytes)

-- the first words of these bytes, so many of them
abbrev pub packed_words : List ℕ → ℕ → List ℕ
packed_words bytes count = map (packed_word bytes) (below count)
