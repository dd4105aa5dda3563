-- The blocks of texts: their words, where they may stand, and which may be read.
use Rattle.std.specs.Prelude.{ℕ, ◌+◌, ◌/◌, ◌<◌, ◌≤◌, IsTrue, IsUtf8, List, [], ◌∷◌, length}
use Rattle.image_layout.specs.Trees.{text_at, text_length, text_words}
use Rattle.image_layout.specs.Places.{is_in_segment}
use Rattle.pm_model.specs.Plans.{Part}
use Rattle.shown_state.specs.Mending.{fill_from}
use Rattle.shown_state.specs.Packed.{packed_words}

-- the words of a text's block: its length, and its bytes packed behind it, the last word filled up with 0
abbrev pub text_record : List ℕ → List ℕ
text_record bytes = length bytes ∷ packed_words bytes ((length bytes + 7) / 8)

-- the text is written by one part, which stores all words of its block
abbrev pub write_parts : ℕ → List ℕ → List Part
write_parts at bytes = fill_from at (text_record bytes) ∷ []

-- A text may be written at a place: it has at most 2,000 bytes, and its words lie in one segment, below the end of the
-- greatest image.
pub record FitsAt (at : ℕ) (bytes : List ℕ) : Type 0 where
  pub short : length bytes ≤ 2000
  pub one_segment : IsTrue (is_in_segment at (text_words (length bytes)))
  pub within : at + text_words (length bytes) ≤ 4194304

-- A text stands at a place of the image: its length is at most 2,000, and its words lie in one segment.
pub record IsPlacedText (words : List ℕ) (at : ℕ) : Type 0 where
  pub in_image : at < length words
  pub short : text_length words at ≤ 2000
  pub one_segment : IsTrue (is_in_segment at (text_words (text_length words at)))

-- and its bytes are UTF-8
pub record IsTextBlock (words : List ℕ) (at : ℕ) : Type 0 where
  pub placed : IsPlacedText words at
  pub utf8 : IsUtf8 (text_at words at)
