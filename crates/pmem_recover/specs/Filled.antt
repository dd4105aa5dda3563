-- Words of a memory that aren't 0.
use Rattle.std.specs.Prelude.{ℕ, Bool, not, ◌==◌, List, map, slice_index}
use Rattle.image_layout.specs.declared.place.Place.{Place}

abbrev pub is_filled : List ℕ → ℕ → Bool
is_filled words at = not (slice_index words at == 0)

-- places by their numbers
abbrev pub places_of : List Place → List ℕ
places_of places = map (λ place. place.0) places
