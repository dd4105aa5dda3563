-- Where the words that say where structures stand are the same, so do the entries of
-- transaction objects.
use Rattle.std.proofs.Common.{◌≡◌, ℕ, zero, suc, ◌<◌, ◌≤◌, List, ◌++◌, get_or, map, refl, ◌∙◌, ap, arith}
use Rattle.std.specs.List.{flat_map}
use Rattle.image_layout.specs.Fixed.{entry_at, ready_at}
use Rattle.image_layout.specs.Places.{below, place_in}
use Rattle.image_layout.specs.Records.{segment_entry_at}
use Rattle.image_layout.specs.Objects.{ready_count, segment_pointer_at, segment_of, ready_segments, entry_places}
use Rattle.opening_steps.proofs.Structure.{of_ready, of_segment, SamePlaces}
use Rattle.shown_state.proofs.Alike.{map_below}

module _ (old new : List ℕ) (same : SamePlaces old new) where
  module _ (object : ℕ) (number : object < 16) where
    pub ready_same : ready_count new object ≡ ready_count old object
    ready_same = same.each (ready_at object) (of_ready object number refl)

    -- the word at a pointer to a segment, also at the one behind the ready segments
    pub named_same : (segment : ℕ) → segment ≤ ready_count old object → get_or new (segment_pointer_at old object segment) 0 ≡ get_or old (segment_pointer_at old object segment) 0
    named_same segment le = same.each (segment_pointer_at old object segment) (of_segment object segment number le refl)

    -- the pointers are reached at the same places, also the one behind the ready segments
    pub pointer_same : (segment : ℕ) → segment ≤ ready_count old object → segment_pointer_at new object segment ≡ segment_pointer_at old object segment
    pointer_same zero le = refl
    pointer_same (suc segment) le =
        ap (λ (at : ℕ). place_in (get_or new at 0)) (pointer_same segment (omega (arith, le))) ∙ ap place_in (named_same segment (omega (arith, le)))

    pub segment_same : (segment : ℕ) → segment < ready_count old object → segment_of new object segment ≡ segment_of old object segment
    segment_same segment lt = pointer_same (suc segment) (omega (arith, lt))

    pub segments_same : ready_segments new object ≡ ready_segments old object
    segments_same = map_below (segment_of new object) (segment_of old object) (ready_count new object) (ready_count old object) ready_same segment_same

    pub entry_places_same : entry_places new object ≡ entry_places old object
    unfolding entry_places
    entry_places_same = ap (λ (segments : List ℕ). map (entry_at object) (below 60) ++ flat_map (λ segment. map (segment_entry_at segment) (below 255)) segments) segments_same
