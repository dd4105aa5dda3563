-- Arrays that grow by chunks. An array is named by the place of its header: how many chunks are published, and behind
-- that the pointers to up to 12 chunks.
use Rattle.std.specs.Prelude.{ℕ, zero, suc, ◌+◌, ◌-◌, ◌*◌, ◌^◌, min, Bool, ◌==◌, nat_lt, nat_le, if◌then◌else◌, List, ◌∷◌, map, count_by, slice_index}
use Rattle.image_layout.specs.Places.{below, place_in, is_pointer_to, is_null_or_pointer_to}
use Rattle.image_layout.specs.Checks.{check, Rule}

-- the pages of a chunk: 1, 2, 4, 8, 16, and 32 from chunk 5 on
abbrev pub chunk_pages : ℕ → ℕ
chunk_pages chunk = 2 ^ min chunk 5

-- the words of a chunk
abbrev pub chunk_words : ℕ → ℕ
chunk_words chunk = 512 * chunk_pages chunk

-- the words of the first chunks, so many of them
abbrev pub capacity_of : ℕ → ℕ
capacity_of zero = 0
capacity_of (suc chunks) = capacity_of chunks + chunk_words chunks

-- the chunk in which an index lies: as many chunks end at or before it
unfoldable pub chunk_of : ℕ → ℕ
chunk_of index = count_by (λ chunk. nat_le (capacity_of (chunk + 1)) index) (below 12)

-- where in its chunk it lies
abbrev pub offset_of : ℕ → ℕ
offset_of index = index - capacity_of (chunk_of index)

-- the place of the pointer to a chunk
abbrev pub chunk_pointer_at : ℕ → ℕ → ℕ
chunk_pointer_at header chunk = header + 1 + chunk

-- how many chunks are published
abbrev pub chunk_count : List ℕ → ℕ → ℕ
chunk_count words header = slice_index words header

-- how many words of the array are published
abbrev pub capacity : List ℕ → ℕ → ℕ
capacity words header = capacity_of (chunk_count words header)

-- the place of a word of the array
abbrev pub place_of : List ℕ → ℕ → ℕ → ℕ
place_of words header index = place_in (slice_index words (chunk_pointer_at header (chunk_of index))) + offset_of index

-- the word itself
abbrev pub array_word : List ℕ → ℕ → ℕ → ℕ
array_word words header index = slice_index words (place_of words header index)

-- the places of the first words of the array, so many of them
abbrev pub array_places : List ℕ → ℕ → ℕ → List ℕ
array_places words header count = map (place_of words header) (below count)

-- The pointer to a published chunk names so many words of one segment. The one behind them is null, or such a pointer:
-- a chunk that the array owns and hasn't published. All others are null.
abbrev pub is_chunk_pointer : List ℕ → ℕ → ℕ → ℕ → Bool
is_chunk_pointer words count chunk pointer =
    (if nat_lt chunk count then is_pointer_to words (chunk_words chunk) pointer
    else if chunk == count then is_null_or_pointer_to words (chunk_words chunk) pointer else pointer == 0)

-- 10: an array has at most 12 chunks, and its pointers name them
unfoldable pub array_rule : ℕ → Rule
array_rule header words =
    check header (nat_le (chunk_count words header) 12)
    ∷ map (λ chunk. check (chunk_pointer_at header chunk)
    (is_chunk_pointer words (chunk_count words header) chunk (slice_index words (chunk_pointer_at header chunk))))
    (below 12)
