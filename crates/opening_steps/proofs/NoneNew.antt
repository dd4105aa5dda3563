-- What was mended of lanes, logs and slots stays so, and where the entries of an object stand.
use Rattle.std.proofs.Common.{◌≡◌, ⊎_elim, ℕ, ◌+◌, ◌*◌, ◌<◌, ◌≤◌, List, get_or, map, sym, subst, arith}
use Rattle.std.specs.Prelude.{All, Contains, take}
use Rattle.std.specs.List.{flat_map}
use Rattle.std.proofs.lemmas.List.Elements.{Contains-append_cases, Contains-append_left, Contains-append_right}
use Rattle.image_layout.specs.Fixed.{entry_at, object_at}
use Rattle.image_layout.specs.Places.{below}
use Rattle.image_layout.specs.Records.{new_leaf_at, segment_entry_at, split_leaf_at}
use Rattle.image_layout.specs.Objects.{entry_places, ready_count, ready_segments, segment_of}
use Rattle.image_layout.specs.Owners.{next_table_slots, next_text_slots, unfinished_slots}
use Rattle.image_layout.specs.Tables.{all_columns}
use Rattle.image_layout.proofs.Members.{Contains-below, Contains-flat_map, Contains-map, flat_map-Contains}
use Rattle.image_layout.proofs.OwnersApart.{all_from}
use Rattle.shown_state.specs.Fits.{Fits}
use Rattle.shown_state.specs.OpeningParts.{IsImage}
use Rattle.shown_state.specs.StepLaws.{HaveNoNew}
use Rattle.shown_state.proofs.ValuesApart.{segment_behind}
use Rattle.opening_steps.proofs.Beside.{ChangesOnly, columns_same, MayChange, slots_same}
use Rattle.opening_steps.proofs.Idle.{lanes_idle, logs_null, slot_zero}
use Rattle.opening_steps.proofs.ObjectWords.{IsObjectWord, of_entry, of_own}
use Rattle.opening_steps.proofs.OwnerPlaces.{Contains-take}

module _ (old new : List ℕ) (changed : ℕ → Type 0) (image : IsImage old) (fits : Fits old) (clear : HaveNoNew 512 old) (may : MayChange old changed) (only : ChangesOnly changed old new) where
  slot_null : (at : ℕ) → Contains (unfinished_slots new) at → get_or new at 0 ≡ 0
  slot_null at is = slot_zero old new changed image fits clear may only at (subst (λ (xs : List ℕ). Contains xs at) (slots_same old new changed image fits may only) is)

  pub none_new : HaveNoNew 512 new
  none_new =
      let columns = all_columns new in
      let texts = flat_map (next_text_slots new) columns in (
        (
          lanes_idle old new changed image fits clear may only,
          all_from (λ (column : ℕ). (get_or new (split_leaf_at column) 0 ≡ 0) × (get_or new (new_leaf_at column) 0 ≡ 0)) (take 512 columns) (λ column is.
              logs_null old new changed image fits clear may only column
              (subst (λ (xs : List ℕ). Contains xs column) (columns_same old new changed image fits may only) (Contains-take 512 columns column is))),
        ),
        all_from (λ (at : ℕ). get_or new at 0 ≡ 0) (next_table_slots new) (λ at is. slot_null at (Contains-append_left (next_table_slots new) texts at is)),
        all_from (λ (column : ℕ). All (λ (at : ℕ). get_or new at 0 ≡ 0) (next_text_slots new column)) (take 512 columns) (λ column is.
            all_from (λ (at : ℕ). get_or new at 0 ≡ 0) (next_text_slots new column) (λ at next.
            slot_null at (Contains-append_right (next_table_slots new) texts at (flat_map-Contains (next_text_slots new) columns column at (Contains-take 512 columns column is) next)))),
      )

-- an entry's word is one of its object, or of a ready segment
pub data IsEntrySpot (words : List ℕ) (object at : ℕ) : Type 0 where
  own_entry : (entry : ℕ) → entry < 60 → at ≡ object_at object (4 + entry) → IsEntrySpot words object at
  later_entry : (segment entry : ℕ) → segment < ready_count words object → entry < 255 → at ≡ segment_of words object segment + (1 + entry) → IsEntrySpot words object at

pub entry_spot : (words : List ℕ) (object at : ℕ) → Contains (entry_places words object) at → IsEntrySpot words object at
unfolding entry_places
entry_spot words object at is =
    let parts : ℕ → List ℕ = λ segment. map (segment_entry_at segment) (below 255) in
    ⊎_elim
    (λ own.
    let (entry, among, here) = Contains-map (entry_at object) (below 60) at own in
    own_entry entry (Contains-below 60 entry among) (sym here))
    (λ later.
    let (place, ready, there) = Contains-flat_map parts (ready_segments words object) at later in
    let (entry, among, here) = Contains-map (segment_entry_at place) (below 255) at there in
    let (segment, counted, first) = Contains-map (segment_of words object) (below (ready_count words object)) place ready in
    later_entry segment entry (Contains-below (ready_count words object) segment counted) (Contains-below 255 entry among) (omega (arith, here, first)))
    (Contains-append_cases (map (entry_at object) (below 60)) (flat_map parts (ready_segments words object)) at is)

-- it stands behind the first words
pub entry_behind : (words : List ℕ) → Fits words → (object at : ℕ) → object < 16 → Contains (entry_places words object) at → 1028 + 64 * object ≤ at
entry_behind words fits object at lt is = behind (entry_spot words object at is)
  where
    behind : IsEntrySpot words object at → 1028 + 64 * object ≤ at
    behind (own_entry entry few here) = omega (arith, here)
    behind (later_entry segment entry ready few here) = let far = segment_behind words fits object segment lt ready in omega (arith, far, here, lt)

-- nor is it one of the first words of another
pub entry_apart : (words : List ℕ) → Fits words → (object at other word : ℕ) → object < 16 → Contains (entry_places words object) at → other < 16 → word < 4 → at ≡ object_at other word → ⊥
entry_apart words fits object at other word lt is less few same = apart (entry_spot words object at is)
  where
    apart : IsEntrySpot words object at → ⊥
    apart (own_entry entry under here) = omega (arith, here, under, same, few)
    apart (later_entry segment entry ready under here) = let far = segment_behind words fits object segment lt ready in omega (arith, far, here, same, less, few)

pub entry_word : (words : List ℕ) (object at : ℕ) → object < 16 → Contains (entry_places words object) at → IsObjectWord words at
entry_word words object at lt is = word (entry_spot words object at is)
  where
    word : IsEntrySpot words object at → IsObjectWord words at
    word (own_entry entry few here) = of_own object (4 + entry) lt (omega (arith, few)) (λ two. omega (arith, two)) (λ three. omega (arith, three)) here
    word (later_entry segment entry ready few here) = of_entry object segment (1 + entry) lt ready (omega arith) (omega (arith, few)) here
