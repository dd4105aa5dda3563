-- The stage image: a store of one table `t a:int` whose arrays stand at fixed places.
--
--   place          content
--   0 to 27        the descriptors of pages 0 to 27, which the heap never gives out; so is each segment's first word
--   512            the magic number
--   513            the version of the format, 102
--   514            the last commit number
--   515            the number of published tables in a catalog: 0
--   517            the number of rows that commits have used up, from row 0 on
--   1024 + 64 j    transaction object j, whose entries all stand in it
--   2048 + r       of row r below 4,096: the number of the commit that created it, or 0, or all ones for a dead row
--   6144 + r       the number of the commit that ended it, or 0
--   10240 + r      the key word of its value
use Rattle.std.specs.Prelude.{ℕ, ◌*◌, ◌%◌, Bool, ◌||◌, ◌==◌, nat_lt, if◌then◌else◌, List, map}
use Rattle.std.specs.List.{range_with_len}
use Rattle.image_layout.specs.Fixed.{magic_at, version_at}
pub use Rattle.stage_view.specs.StageWords.{high_at, born_at, ended_at, value_at}
use Rattle.image_layout.specs.Fresh.{magic_number}

-- the place is that of the descriptor of a reserved page: the first page of a segment, or one of the first 28 pages
abbrev pub is_reserved : ℕ → Bool
is_reserved place = (place % 32768 == 0) || nat_lt place 28

-- the word at a place of a formatted stage image
abbrev pub stage_word : ℕ → ℕ
stage_word place =
    if is_reserved place then 8
    else if place == magic_at then magic_number
    else if place == version_at then 102
    else 0

-- the words of a formatted stage image of so many segments, place by place
unfoldable pub stage_words : ℕ → List ℕ
stage_words segments = map stage_word (range_with_len 0 (32768 * segments))
