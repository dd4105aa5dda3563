-- A writing holds what its change says.
use Rattle.std.proofs.Common.{◌≡◌, ◌⊎◌, ℕ, ◌+◌, ◌<◌, ◌≤◌, List, length, get_or, refl, sym, subst, arith}
use Rattle.pm_model.specs.Changes.{HoldsOnWords}
use Rattle.pm_model.specs.Device.{IsBetween}
use Rattle.pm_model.specs.Plans.{words_after}
use Rattle.pm_model.proofs.Cuts.{between-kept, between-end}
use Rattle.shown_state.specs.Mending.{fill_from}
use Rattle.text_block.specs.Blocks.{text_record}
use Rattle.text_block.specs.Changes.{Writing, MayWrite, KeepsOthers, IsHalfWritten, IsWritten, size_of, writing}
use Rattle.text_block.proofs.Filled.{filled-out, filled-word, filled-part}
use Rattle.text_block.proofs.ReadBack.{length-text_record}

module _ (w : Writing) (base : List ℕ) (may : MayWrite base w) where
  count : length (text_record w.text) ≡ size_of w
  count = length-text_record w.text

  abbrev new : List ℕ
  new = words_after (fill_from w.at (text_record w.text)) base

  new_word : (k : ℕ) → k < size_of w → get_or new (w.at + k) 0 ≡ get_or (text_record w.text) k 0
  new_word k lt = filled-word w.at (text_record w.text) base k (omega (arith, lt, count)) (omega (arith, may.in_image, count))

  others_kept : (image : List ℕ) → IsBetween base new image → KeepsOthers w base image
  others_kept image between = record {
    size = between.size;
    others = λ p out. between-kept (fill_from w.at (text_record w.text)) base image p between
        (filled-out w.at (text_record w.text) p (subst (λ (n : ℕ). (p < w.at) ⊎ (w.at + n ≤ p)) (sym count) out));
  }

  half_written : (image : List ℕ) → IsBetween base new image → IsHalfWritten w base image
  half_written image between = record {
    kept = others_kept image between;
    each = λ k lt. subst (λ (v : ℕ). (get_or image (w.at + k) 0 ≡ get_or base (w.at + k) 0) ⊎ (get_or image (w.at + k) 0 ≡ v)) (new_word k lt) (between.each (w.at + k));
  }

  written : IsWritten w base new
  written = record { may = may; kept = others_kept new (between-end (fill_from w.at (text_record w.text)) base); each = new_word }

pub writing_holds : (w : Writing) → HoldsOnWords (writing w)
writing_holds w = record {
  plan = λ base may. (filled-part (length base) w.at (text_record w.text) (let size = length-text_record w.text in omega (arith, size, may.in_image)), tt);
  cuts = λ base may. (half_written w base may, half_written w base may (new w base may) (between-end (fill_from w.at (text_record w.text)) base));
  end = λ base may. written w base may;
  stable = λ old new same may. (record { fits = may.fits; in_image = omega (arith, same, may.in_image) }, refl);
}
