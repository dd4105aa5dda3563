-- Texts in the first pages of the first segment may be written, and then stand there.
use Rattle.std.proofs.Common.{◌≡◌, ℕ, ◌+◌, ◌%◌, ◌<◌, ◌≤◌, List, length, sym, ◌∙◌, ap, subst, arith}
use Rattle.std.specs.Prelude.{IsUtf8}
use Rattle.std.proofs.lemmas.Bool.{le-leb}
use Rattle.image_layout.specs.Trees.{text_words}
use Rattle.pm_model.specs.Plans.{IsPlan, finished}
use Rattle.pm_model.proofs.Cuts.{length-finished}
use Rattle.text_block.specs.Blocks.{write_parts, IsTextBlock}
use Rattle.text_block.specs.Changes.{MayWrite}
use Rattle.text_block.proofs.ChangeHolds.{writing_holds}
use Rattle.text_block.proofs.ReadBack.{text_sound}

module _ (words : List ℕ) (at : ℕ) (text : List ℕ) (low : at < 3072) (short : length text ≤ 2000) (size : length words ≡ 32768) where
  may : MayWrite words (record { at = at; text = text })
  may = record {
    fits = record { short = short; one_segment = le-leb (at % 32768 + text_words (length text)) 32768 (omega (arith, low, short)); within = omega (arith, low, short) };
    in_image = omega (arith, low, short, size);
  }

  pub low_plan : IsPlan (length words) (write_parts at text)
  low_plan = (writing_holds (record { at = at; text = text })).plan words may

  module _ (new : List ℕ) (is : new ≡ finished (write_parts at text) words) where
    pub low_size : length new ≡ 32768
    low_size = ap (length {A = ℕ}) is ∙ length-finished (write_parts at text) words ∙ size

    pub low_sound : IsUtf8 text → IsTextBlock new at
    low_sound utf8 = subst (λ (xs : List ℕ). IsTextBlock xs at) (sym is)
        (text_sound (record { at = at; text = text }) words (finished (write_parts at text) words) utf8 ((writing_holds (record { at = at; text = text })).end words may))
