-- An image with two lanes at work, written out, whose owner words are apart and whose opening ends sound, but whose
-- logs don't fit: a power cut after the first store of its opening leaves an owner word that names no block.
use Rattle.std.specs.Prelude.{◌≡◌, ℕ, List, ◌∷◌, ◌++◌, replicate}
use Rattle.image_layout.specs.EntryRules.{KeepsEntryRules}
use Rattle.image_layout.specs.Fresh.{magic_number}
use Rattle.image_layout.specs.Owners.{OwnersAreApart}
use Rattle.image_layout.specs.Pointer.{pointer_word}
use Rattle.image_layout.specs.SoundRules.{IsSound}
use Rattle.shown_state.specs.LogicalState.{logical_state}
use Rattle.shown_state.specs.Mending.{recovered}

-- all that is asked of a recoverable image, but for what its logs say of their blocks
pub record IsRecoveredAlone (words : List ℕ) : Type 0 where
  pub entry : KeepsEntryRules words
  pub sound : IsSound (recovered words)
  pub shown : logical_state (recovered words) ≡ logical_state words
  pub apart : OwnersAreApart words

-- The pages 20 and 21 are small, of one slot of 256 words each, and both slots are taken. That of page 20 is named by
-- the pointer behind object 3's segments. Lane 0 allocates the first word of page 20, into the pointer behind object
-- 5's segments, which is null. Lane 1 frees the slot of page 21, from the word that names that of page 20. The
-- arguments are the descriptor of page 20, the op of lane 0, the pointer of object 3, the op of lane 1, and the bitmap
-- of page 21.
unfoldable pub two_lanes : ℕ → ℕ → ℕ → ℕ → ℕ → List ℕ
two_lanes descriptor allocates owner frees bitmap =
    (8 ∷ 8 ∷ 8 ∷ 8 ∷ replicate {A = ℕ} 16 0 ++ descriptor ∷ 7 ∷ replicate {A = ℕ} 490 0)
    ++ (magic_number ∷ 2 ∷ replicate {A = ℕ} 62 0)
    ++ (allocates ∷ pointer_word 1347 ∷ pointer_word 10240 ∷ replicate {A = ℕ} 5 0)
    ++ (frees ∷ pointer_word 1219 ∷ pointer_word 10760 ∷ replicate {A = ℕ} 437 0)
    ++ (replicate {A = ℕ} 195 0 ++ owner ∷ replicate {A = ℕ} 9020 0)
    ++ (1 ∷ replicate {A = ℕ} 511 0)
    ++ (bitmap ∷ replicate {A = ℕ} 22015 0)

abbrev pub two_lanes_image : List ℕ
two_lanes_image = two_lanes 7 1 (pointer_word 10248) 2 1

-- the image after the first store of its opening, and at its end
abbrev pub two_lanes_cut : List ℕ
two_lanes_cut = two_lanes 0 1 (pointer_word 10248) 2 1

abbrev pub two_lanes_end : List ℕ
two_lanes_end = two_lanes 0 0 0 0 0
