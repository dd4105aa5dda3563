-- A text that is written into a formatted image, into the first slot of the first page that isn't reserved.
use Rattle.std.specs.Prelude.{ℕ, List}
use Rattle.image_layout.specs.Fresh.{fresh_words}
use Rattle.pm_model.specs.Plans.{finished}
use Rattle.text_block.specs.Blocks.{write_parts}
use Rattle.text_block.specs.Changes.{Writing}

abbrev pub first_text : List ℕ → Writing
first_text text = record { at = 2056; text = text }

-- the words once it is written
abbrev pub texted_words : ℕ → List ℕ → List ℕ
texted_words segments text = finished (write_parts 2056 text) (fresh_words segments)
