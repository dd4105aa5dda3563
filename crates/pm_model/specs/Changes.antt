-- A change: what one plan does to the words of a structure. Its law is said and proved on words, and holds on a device.
use Rattle.std.specs.Prelude.{◌≡◌, ℕ, Bool, IsTrue, List, [], length, slice_index}
use Rattle.pm_model.specs.declared.action.Action.{Action}
use Rattle.pm_model.specs.Device.{Device, IsClean}
use Rattle.pm_model.specs.Plans.{Part, Play, IsPlan, IsPlaying, IsCrashImageWithin, IsTakenBack, EachCut, finished}

-- what a plan does, made from the words at its start
pub record Change : Type 1 where
  -- what it asks of the words at its start
  pub asks : List ℕ → Type 0
  -- its parts
  pub parts : List ℕ → List Part
  -- of the words at its start and of those that a cut leaves: what the latter show
  pub shows : List ℕ → List ℕ → Type 0
  -- of the words at its start and of those after all parts: what the latter show
  pub ends : List ℕ → List ℕ → Type 0
  -- of the words at its start and of others: the others have what it reads
  pub reads : List ℕ → List ℕ → Type 0

-- The law of a change on words.
pub record HoldsOnWords (c : Change) : Type 0 where
  -- its parts can be played
  pub plan : (base : List ℕ) → c.asks base → IsPlan (length base) (c.parts base)
  -- what each cut of its parts shows
  pub cuts : (base : List ℕ) → c.asks base → EachCut (c.shows base) (c.parts base) base
  -- what the words after all parts show
  pub end : (base : List ℕ) → c.asks base → c.ends base (finished (c.parts base) base)
  -- others may change what it doesn't read: then it is asked as before, and its parts are the same
  pub stable : (old new : List ℕ) → c.reads old new → c.asks old → c.asks new × (c.parts new ≡ c.parts old)

-- A plan of the change is played, and these actions of it are left. The image is one that a power cut leaves now; the
-- base is the image with the plan taken back.
pub record IsCutShort (c : Change) (play : Play) (left : List Action) (d : Device) (image base : List ℕ) : Type 0 where
  -- how many of its actions were played
  pub played : ℕ
  -- between them others played actions that spare it
  pub playing : IsPlaying play played left d
  -- the cut leaves the image, as far as the plan's own words go
  pub left_by : IsCrashImageWithin play.own d image
  -- and the base has these words as they were at the plan's start, the others as the image has them
  pub back : IsTakenBack play image base
  -- it is the plan that the change makes from the base
  pub parts_are : play.parts ≡ c.parts base
  -- which has what the change asks
  pub asked : c.asks base

-- The law of a change, on words and on a device, whatever is played beside its plan.
pub record Survives (c : Change) : Type 0 where
  pub on_words : HoldsOnWords c
  -- each image that a power cut leaves shows what a cut of the parts shows
  pub image : (play : Play) (left : List Action) (d : Device) (image base : List ℕ)
      → IsCutShort c play left d image base → c.shows base image
  -- after the last action each image shows what the words after all parts show
  pub rest : (play : Play) (d : Device) (image base : List ℕ) → IsCutShort c play [] d image base → c.ends base image
  -- and then the plan's own words are clean
  pub clean : (play : Play) (d : Device) (image base : List ℕ) → IsCutShort c play [] d image base
      → (w : ℕ) → IsTrue (play.own w) → IsClean d w

-- the words at these places are the same
abbrev pub AreSameAt : (ℕ → Bool) → List ℕ → List ℕ → Type 0
AreSameAt places new old = (w : ℕ) → IsTrue (places w) → slice_index new w ≡ slice_index old w
