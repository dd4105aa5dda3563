-- Changes of words, as parts of a plan.
use Rattle.std.specs.Prelude.{ℕ, List, map}
use Rattle.pm_model.specs.Plans.{Part, one_store, store}
use Rattle.pmem_recover.specs.declared.change.WordChange.{WordChange}

-- the word at a place gets this value
abbrev pub change : ℕ → ℕ → WordChange
change place value = record { place = record { 0 = place }; value = value }

-- a part for each of them
abbrev pub change_parts : List WordChange → List Part
change_parts changes = map (λ c. one_store c.place.0 c.value) changes

-- one part of all of them
abbrev pub change_part : List WordChange → Part
change_part changes = map (λ c. store c.place.0 c.value) changes
