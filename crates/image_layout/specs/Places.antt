-- Pages, and the places that pointers name.
use Rattle.std.specs.Prelude.{ℕ, ◌+◌, ◌-◌, ◌*◌, ◌/◌, ◌%◌, ◌^◌, Bool, ◌&&◌, ◌||◌, ◌==◌, nat_lt, nat_le, List, length, slice_index}
use Rattle.std.specs.List.{range_with_len}
use Rattle.image_layout.specs.Pointer.{pointer_word}

-- the numbers below this one, in ascending order
abbrev pub below : ℕ → List ℕ
below count = range_with_len 0 count

-- the page of a place, its number in its segment, and the page's first word
abbrev pub page_of : ℕ → ℕ
page_of place = place / 512

abbrev pub page_at : ℕ → ℕ
page_at page = 512 * page

-- how many pages so many words are
abbrev pub page_count : List ℕ → ℕ
page_count words = length words / 512

-- the place that a pointer word names
abbrev pub place_in : ℕ → ℕ
place_in word = (word / 2 ^ 32 - 1) * 32768 + word % 2 ^ 32

-- the word is the pointer of a place of the image, and not null
abbrev pub is_pointer : List ℕ → ℕ → Bool
is_pointer words word = (word == pointer_word (place_in word)) && nat_lt (place_in word) (length words)

-- so many words from the place on lie in one segment
abbrev pub is_in_segment : ℕ → ℕ → Bool
is_in_segment place count = nat_le (place % 32768 + count) 32768

-- the word is the pointer of so many words of one segment
abbrev pub is_pointer_to : List ℕ → ℕ → ℕ → Bool
is_pointer_to words count word = is_pointer words word && is_in_segment (place_in word) count

-- it is null or such a pointer
abbrev pub is_null_or_pointer_to : List ℕ → ℕ → ℕ → Bool
is_null_or_pointer_to words count word = (word == 0) || is_pointer_to words count word

-- a byte of a text or name that is packed from a place on, eight bytes in a word, the first one lowest
abbrev pub packed_byte : List ℕ → ℕ → ℕ → ℕ
packed_byte words place byte = slice_index words (place + byte / 8) / 2 ^ (8 * (byte % 8)) % 256
