-- The words of a formatted image.
use Rattle.std.specs.Prelude.{ℕ, ◌*◌, ◌%◌, Bool, ◌||◌, ◌==◌, nat_lt, if◌then◌else◌, List, map}
use Rattle.std.specs.List.{range_with_len}
use Rattle.image_layout.specs.Fixed.{magic_at, version_at}

-- the magic number: the bytes `SOFORTDB`, the first one lowest
abbrev pub magic_number : ℕ
magic_number = 0x4244_5452_4F46_4F53

-- the place is that of the descriptor of a reserved page: the first page of a segment, or one of the first four pages
abbrev pub is_reserved_descriptor : ℕ → Bool
is_reserved_descriptor place = (place % 32768 == 0) || nat_lt place 4

-- the word at a place of a formatted image
abbrev pub fresh_word : ℕ → ℕ
fresh_word place =
    if is_reserved_descriptor place then 8
    else if place == magic_at then magic_number
    else if place == version_at then 2
    else 0

-- the words of a formatted image of so many segments, place by place
unfoldable pub fresh_words : ℕ → List ℕ
fresh_words segments = map fresh_word (range_with_len 0 (32768 * segments))
