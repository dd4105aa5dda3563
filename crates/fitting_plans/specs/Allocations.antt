-- What an allocation and a freeing ask in an image that fits together, whatever else is half done in it.
use Rattle.std.specs.Prelude.{◌≡◌, ◌⊎◌, ℕ, List, Contains}
use Rattle.image_layout.specs.Owners.{unfinished_slots}
use Rattle.heap_palloc.specs.Changes.{choice_owner, freed_owner}
use Rattle.heap_palloc.specs.Choice.{Choice, Freed, MayMake, MayRelease}
use Rattle.shown_state.specs.Fits.{Fits}
use Rattle.shown_state.specs.LogicalState.{logical_state}
use Rattle.shown_state.specs.OpeningParts.{IsImage}
use Rattle.shown_state.specs.Reads.{OwnsAlone}

-- The word may name a block of which no structure is made yet: it is an unfinished slot, or it is read for what it owns
-- alone, as the pointer behind the published chunks, extensions or segments is.
abbrev pub MayBeHalfDone : List ℕ → ℕ → Type 0
MayBeHalfDone words at = Contains (unfinished_slots words) at ⊎ OwnsAlone words at

-- an allocation may be made, into such a word
pub record MayAllocate (words : List ℕ) (choice : Choice) : Type 0 where
  pub image : IsImage words
  pub fits : Fits words
  pub may : MayMake words choice
  pub owner : MayBeHalfDone words (choice_owner choice)

-- the block that such a word names may be freed
pub record MayFree (words : List ℕ) (freed : Freed) : Type 0 where
  pub image : IsImage words
  pub fits : Fits words
  pub may : MayRelease words freed
  pub owner : MayBeHalfDone words (freed_owner freed)

-- it shows the same as these words
abbrev pub ShowsStill : List ℕ → List ℕ → Type 0
ShowsStill words image = logical_state image ≡ logical_state words
