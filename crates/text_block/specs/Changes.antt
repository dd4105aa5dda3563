-- The writing of a text as a change: what its cuts show, and its end.
use Rattle.std.specs.Prelude.{◌≡◌, ◌⊎◌, ℕ, ◌+◌, ◌<◌, ◌≤◌, List, length, slice_index}
use Rattle.image_layout.specs.Trees.{text_words}
use Rattle.pm_model.specs.Changes.{Change}
use Rattle.text_block.specs.Blocks.{FitsAt, text_record, write_parts}

-- a text, and the place of its block
pub record Writing : Type 0 where
  pub at : ℕ
  pub text : List ℕ

-- how many words its block has
abbrev pub size_of : Writing → ℕ
size_of w = text_words (length w.text)

-- the text fits at the place, and its block lies in the image
pub record MayWrite (words : List ℕ) (w : Writing) : Type 0 where
  pub fits : FitsAt w.at w.text
  pub in_image : w.at + size_of w ≤ length words

-- the words outside the block are those of the base
pub record KeepsOthers (w : Writing) (base words : List ℕ) : Type 0 where
  pub size : length words ≡ length base
  pub others : (p : ℕ) → (p < w.at) ⊎ (w.at + size_of w ≤ p) → slice_index words p ≡ slice_index base p

-- What a cut shows: the words outside the block are those of the base, and each word of it is that of the base or the
-- new one.
pub record IsHalfWritten (w : Writing) (base words : List ℕ) : Type 0 where
  pub kept : KeepsOthers w base words
  pub each : (k : ℕ) → k < size_of w → (slice_index words (w.at + k) ≡ slice_index base (w.at + k))
      ⊎ (slice_index words (w.at + k) ≡ slice_index (text_record w.text) k)

-- What the words after it show: each word of the block is the new one.
pub record IsWritten (w : Writing) (base words : List ℕ) : Type 0 where
  pub may : MayWrite base w
  pub kept : KeepsOthers w base words
  pub each : (k : ℕ) → k < size_of w → slice_index words (w.at + k) ≡ slice_index (text_record w.text) k

abbrev pub writing : Writing → Change
writing w = record {
  asks = λ base. MayWrite base w;
  parts = λ base. write_parts w.at w.text;
  shows = IsHalfWritten w;
  ends = IsWritten w;
  reads = λ old new. length new ≡ length old;
}
