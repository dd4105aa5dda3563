-- Transaction objects, 0 to 15: their state, their segments and the entries of what a transaction created and ended.
use Rattle.std.specs.Prelude.{ℕ, zero, suc, ◌+◌, ◌*◌, ◌/◌, ◌%◌, ◌^◌, max, Bool, not, ◌==◌, if◌then◌else◌, List, ◌++◌, map, filter, fold, slice_index}
use Rattle.std.specs.List.{flat_map}
use Rattle.image_layout.specs.Fixed.{commit_word_at, entry_at, first_segment_at, last_at, ready_at, state_at}
use Rattle.image_layout.specs.Places.{below, place_in}
use Rattle.image_layout.specs.Records.{segment_entry_at}

-- a transaction is open
abbrev pub is_open : List ℕ → ℕ → Bool
is_open words object = slice_index words (state_at object) == 1

abbrev pub commit_word : List ℕ → ℕ → ℕ
commit_word words object = slice_index words (commit_word_at object)

-- how many segments are ready
abbrev pub ready_count : List ℕ → ℕ → ℕ
ready_count words object = slice_index words (ready_at object)

-- the place of the pointer to a segment by its number: the object has the pointer to segment 0, and each segment's
-- first word is the pointer to the next one
abbrev pub segment_pointer_at : List ℕ → ℕ → ℕ → ℕ
segment_pointer_at words object zero = first_segment_at object
segment_pointer_at words object (suc segment) = place_in (slice_index words (segment_pointer_at words object segment))

-- the first word of a segment
abbrev pub segment_of : List ℕ → ℕ → ℕ → ℕ
segment_of words object segment = place_in (slice_index words (segment_pointer_at words object segment))

-- the places of the pointers to the ready segments, and of the pointer after them
abbrev pub ready_pointers : List ℕ → ℕ → List ℕ
ready_pointers words object = map (segment_pointer_at words object) (below (ready_count words object))

abbrev pub pointer_after : List ℕ → ℕ → ℕ
pointer_after words object = segment_pointer_at words object (ready_count words object)

-- the ready segments
abbrev pub ready_segments : List ℕ → ℕ → List ℕ
ready_segments words object = map (segment_of words object) (below (ready_count words object))

-- the places of the entry words, in the order in which they are filled: 60 of the object, then 255 of each ready
-- segment
unfoldable pub entry_places : List ℕ → ℕ → List ℕ
entry_places words object =
    map (entry_at object) (below 60)
    ++ flat_map (λ segment. map (segment_entry_at segment) (below 255)) (ready_segments words object)

-- the entries: the entry words that aren't 0, in order
abbrev pub entries : List ℕ → ℕ → List ℕ
entries words object = filter (λ word. not (word == 0)) (map (slice_index words) (entry_places words object))

-- an entry word is its kind, 1 for a row that was created and 2 for one that was ended, its table and its row
abbrev pub entry_word : ℕ → ℕ → ℕ → ℕ
entry_word kind table row = kind * 2 ^ 56 + table * 2 ^ 32 + row

abbrev pub entry_kind : ℕ → ℕ
entry_kind word = word / 2 ^ 56

abbrev pub entry_table : ℕ → ℕ
entry_table word = word / 2 ^ 32 % 2 ^ 24

abbrev pub entry_row : ℕ → ℕ
entry_row word = word % 2 ^ 32

-- the commit word of an open object, and 0 of another
abbrev pub open_commit : List ℕ → ℕ → ℕ
open_commit words object = (if is_open words object then commit_word words object else 0)

-- the number of commits: the greatest of the last number and the commit words of the open objects
abbrev pub last_commit : List ℕ → ℕ
last_commit words = fold max (slice_index words last_at) (map (open_commit words) (below 16))
