-- The words of the block that so many words are given.
use Rattle.std.proofs.Common.{◌≡◌, ℕ, ◌+◌, ◌*◌, ◌/◌, ◌<◌, ◌≤◌, leb, sym, ◌∙◌, ap}
use Rattle.std.proofs.lemmas.Bool.{cond-true, cond-false, le-leb, lt-leb}
use Rattle.image_layout.specs.Blocks.{slot_words, class_for, block_words}
use Rattle.image_layout.proofs.SlotSizes.{least_is, least_low}
use Rattle.heap_small.specs.Class.{IsLeastFor}

pub small_size : (count class : ℕ) → count ≤ 256 → IsLeastFor count class → slot_words class ≡ block_words count
small_size count class few least =
    ap slot_words (least_is count class (least_low count class few least.least) least.holds least.least) ∙ sym (cond-true (leb count 256) (slot_words (class_for count)) (512 * ((count + 511) / 512)) (le-leb count 256 few))

pub big_size : (count : ℕ) → 256 < count → 512 * ((count + 511) / 512) ≡ block_words count
big_size count many = sym (cond-false (leb count 256) (slot_words (class_for count)) (512 * ((count + 511) / 512)) (lt-leb count 256 many))
