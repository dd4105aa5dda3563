-- The checks of stamps by the places where they stand.
use Rattle.std.specs.Prelude.{ℕ, Bool, nat_lt, if◌then◌else◌, Option, None, Some, List, [], ◌∷◌, ◌++◌, slice_index}
use Rattle.image_layout.specs.Places.{place_in}
use Rattle.image_layout.specs.Arrays.{chunk_count, chunk_pointer_at}
use Rattle.image_layout.specs.Checks.{Check, check}
use Rattle.image_layout.specs.SoundRules.{is_created, is_ended}

-- where a chunk of an array begins, if it is published
abbrev pub chunk_place : List ℕ → ℕ → ℕ → Option ℕ
chunk_place words header chunk =
    (if nat_lt chunk (chunk_count words header)
    then Some (place_in (slice_index words (chunk_pointer_at header chunk))) else None)

-- the stamp at a place, and 0 where none is published
abbrev pub stamp_of : List ℕ → Option ℕ → ℕ
stamp_of words None = 0
stamp_of words (Some place) = slice_index words place

-- the check of a stamp that is published
abbrev pub place_check : Option ℕ → Bool → List Check
place_check None holds = []
place_check (Some place) holds = check place holds ∷ []

-- the checks of a row's two stamps
abbrev pub place_checks : List ℕ → Bool → Option ℕ → Option ℕ → List Check
place_checks words stamped created ended =
    place_check created (is_created words stamped (stamp_of words created))
    ++ place_check ended (is_ended words stamped (stamp_of words created) (stamp_of words ended))
