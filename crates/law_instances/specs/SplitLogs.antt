-- Split logs that a power cut left, in images that are written out.
use Rattle.std.specs.Prelude.{ℕ, List, slice_set}
use Rattle.image_layout.specs.Pointer.{pointer_word}
use Rattle.image_layout.specs.Records.{new_leaf_at, split_leaf_at}
use Rattle.shown_state.specs.CommitLaws.{one_table_image, two_commit_image}

-- the image with one table, for whose column a first leaf was allocated, the second slot of page 4
abbrev pub first_leaf_words : List ℕ
first_leaf_words = slice_set one_table_image (new_leaf_at 2096) (pointer_word 2184)

-- the image with two commits, with the leaf of its table's first column noted
abbrev pub noted_words : List ℕ
noted_words = slice_set two_commit_image (split_leaf_at 2096) (pointer_word 2184)
