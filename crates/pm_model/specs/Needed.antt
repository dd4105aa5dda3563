-- Only what is needed is stored: of a plan's parts, the stores that change their word.
use Rattle.std.specs.Prelude.{ℕ, ◌<◌, Bool, false, ◌||◌, ◌==◌, if◌then◌else◌, List, [], ◌∷◌, ◌++◌, slice_index}
use Rattle.pm_model.specs.declared.action.Action.{Action}
use Rattle.pm_model.specs.declared.action.Action.TheVariants.{Store, Flush, Fence, Punch}
use Rattle.pm_model.specs.Plans.{Part, unless_empty, words_after, finished, footprint}

-- a later store of the part writes the word that this one stores to
abbrev pub is_stored_later : Part → Action → Bool
is_stored_later part (Store place value) = footprint part place.0
is_stored_later part (Flush line) = false
is_stored_later part Fence = false
is_stored_later part (Punch page) = false

-- the word has the value already
abbrev pub is_there : List ℕ → Action → Bool
is_there words (Store place value) = slice_index words place.0 == value
is_there words (Flush line) = false
is_there words Fence = false
is_there words (Punch page) = false

-- of several stores to one word the last one, and of those the ones that change their word
abbrev pub needed_stores : List ℕ → Part → Part
needed_stores words [] = []
needed_stores words (action ∷ part) =
    if is_stored_later part action || is_there words action then needed_stores words part
    else action ∷ needed_stores words part

-- the same of each part, by the words as the parts before it leave them; a part without stores is left out
abbrev pub needed_parts : List ℕ → List Part → List Part
needed_parts words [] = []
needed_parts words (part ∷ parts) =
    let needed = needed_stores words part in
    unless_empty needed ++ needed_parts (words_after needed words) parts

-- the parts that mend something, from the words before it
abbrev pub Mending : Type 0
Mending = List ℕ → List Part

-- the words after a mending as opening makes it: of its parts only the stores that are needed, played whole
abbrev pub after_mending : Mending → List ℕ → List ℕ
after_mending mending words = finished (needed_parts words (mending words)) words

-- ── parts of stores ──

-- a part of stores, of each of which this is so, by its place and value
abbrev pub Stores : (ℕ → ℕ → Type 0) → Part → Type 0
Stores Q [] = Unit {0}
Stores Q (Store place value ∷ part) = Q place.0 value × Stores Q part
Stores Q (Flush line ∷ part) = ⊥
Stores Q (Fence ∷ part) = ⊥
Stores Q (Punch page ∷ part) = ⊥

abbrev pub StoresOfParts : (ℕ → ℕ → Type 0) → List Part → Type 0
StoresOfParts Q [] = Unit {0}
StoresOfParts Q (part ∷ parts) = Stores Q part × StoresOfParts Q parts

-- stores in a device of so many words
abbrev pub AreStores : ℕ → Part → Type 0
AreStores size part = Stores (λ place value. place < size) part

abbrev pub AllStores : ℕ → List Part → Type 0
AllStores size parts = StoresOfParts (λ place value. place < size) parts
