-- The mendings of an opening, by their names in the code, and the stores that they need.
use Rattle.std.specs.Prelude.{◌≡◌, ℕ, ◌<◌, Bool, false, List, [], ◌∷◌, ◌++◌, length, map, reverse, slice_index_or}
use Rattle.pm_model.specs.declared.action.Action.TheVariants.{Store, Flush, Fence, Punch}
use Rattle.pm_model.specs.declared.action.Action.{Action}
use Rattle.image_layout.specs.Fixed.{commit_word_at, entry_at}
use Rattle.image_layout.specs.Places.{below}
use Rattle.pm_model.specs.Plans.{Part, IsPlan, footprint, one_store, plan_of, stores}
use Rattle.engine_core.specs.declared.opening.Mending.TheVariants as code
use Rattle.engine_core.specs.declared.opening.Mending.{Mending as Named}
use Rattle.pm_model.specs.Needed.{needed_parts, needed_stores, Mending}
use Rattle.engine_core.specs.Opening.{last_mending, undo_mending, close_mending, clear_mending}

-- what a mending of this name does
abbrev pub mending_of : Named → Mending
mending_of code.Last = last_mending
mending_of (code.Undo object) = undo_mending object
mending_of (code.Close object) = close_mending object
mending_of (code.Clear object) = clear_mending object

-- there is such an object
abbrev pub IsOfObject : Named → Type 0
IsOfObject code.Last = Unit {0}
IsOfObject (code.Undo object) = object < 16
IsOfObject (code.Close object) = object < 16
IsOfObject (code.Clear object) = object < 16

-- stores below the values of the rows
abbrev pub AreMended : Part → Type 0
AreMended [] = Unit {0}
AreMended (Store place value ∷ part) = (place.0 < 10240) × AreMended part
AreMended (Flush line ∷ part) = ⊥
AreMended (Fence ∷ part) = ⊥
AreMended (Punch page ∷ part) = ⊥

-- The needed stores of the end of a part are taken, the last one first, and the words that it stores to are marked.
pub record IsTaken (words : List ℕ) (part kept : Part) (marks : List Bool) : Type 0 where
  pub needed : reverse kept ≡ needed_stores words part
  pub marked : (w : ℕ) → w < length marks → slice_index_or marks w false ≡ footprint part w

-- 0 over an object's entries and its commit word
unfoldable pub cleared_part : ℕ → Part
cleared_part object = stores 0 (map (entry_at object) (below 60)) ++ one_store (commit_word_at object) 0

-- the plan that a mending plays on these words
unfoldable pub mended_plan : Mending → List ℕ → List Action
mended_plan mending words = plan_of (needed_parts words (mending words))

-- the stores that a mending needs on these words are a plan
pub record IsMending (mending : Mending) (words : List ℕ) : Type 0 where
  pub plan : IsPlan (length words) (needed_parts words (mending words))
