-- What may follow a begin and an extension: the next entry. And that an extended object owns its new segment.
use Rattle.std.proofs.Common.{◌≡◌, inl, ⊎_elim, ℕ, ◌+◌, ◌-◌, ◌%◌, ◌<◌, ◌≤◌, Bool, true, false, not, eqb, List, [], ◌∷◌, ◌++◌, length, map, get_or, set, refl, sym, ◌∙◌, ap, subst, append_assoc, append-nil, arith}
use Rattle.std.specs.Prelude.{Contains}
use Rattle.std.specs.List.{flat_map, range_with_len}
use Rattle.std.proofs.lemmas.Bool.{cases_lt}
use Rattle.std.proofs.lemmas.Grind.{flat_map-append}
use Rattle.std.proofs.lemmas.List.{length-append, length-map, get_or-append-add, get_or_append_left, get_or-set_other}
use Rattle.std.proofs.lemmas.List.Filters.{length-filter_both}
use Rattle.std.proofs.lemmas.List.FromFn.{length-range_with_len, get_or-range_with_len}
use Rattle.image_layout.specs.Blocks.{live_blocks}
use Rattle.image_layout.specs.Fixed.{entry_at, state_at, commit_word_at}
use Rattle.image_layout.specs.Objects as objects
use Rattle.image_layout.specs.Objects.{entry_places, pointer_after, ready_segments}
use Rattle.image_layout.specs.Places.{below}
use Rattle.image_layout.specs.Records.{segment_entry_at}
use Rattle.heap_palloc.specs.Calls.{OwnsBlock}
use Rattle.txn_object.specs.declared.entry.Entry.{Entry}
use Rattle.txn_object.specs.Changes.{IsSpelt, extended_words}
use Rattle.txn_object.specs.Entries.{entry_of}
use Rattle.txn_object.specs.Extension.{Extension, new_segment, segment_block, HasSegments, MayExtend}
use Rattle.txn_object.specs.Object.{entries_in, nth_word, NoEntryFollowsZero}
use Rattle.txn_object.specs.Shown.{HasObject, MayAddEntry, IsExtended}
use Rattle.txn_object.proofs.Entering.{state_frame, state_object, state_shows}
use Rattle.txn_object.proofs.Extending.{entry_untouched}
use Rattle.txn_object.proofs.Frames.{frame_places, entry_not_fixed}
use Rattle.txn_object.proofs.Places.{more_places}
use Rattle.txn_object.proofs.Taken.{StandsOn, source_stands}
use Rattle.txn_object.proofs.Whole.{apart_from_blocks, extension_shown}

-- ── a begin ──

module _ (base : List ℕ) (object nth : ℕ) (entry : Entry) (may : MayAddEntry base object nth entry) where
  abbrev opened : List ℕ
  opened = set base (state_at object) 1

  places_stay : entry_places opened object ≡ entry_places base object
  places_stay = frame_places base opened object (state_frame base object 1 may.is_object)

  word_stays : (k : ℕ) → k < length (entry_places base object) → nth_word opened object k ≡ nth_word base object k
  word_stays k lt =
      let number = may.is_object.number in
      ap (λ (places : List ℕ). get_or opened (get_or places k 0) 0) places_stay
      ∙ get_or-set_other base (state_at object) (get_or (entry_places base object) k 0) 1 0 (entry_not_fixed base object may.is_object k (state_at object) lt (omega (arith, number)) (inl (omega arith)))

  pub begun_enters : MayAddEntry opened object nth entry
  begun_enters = record {
    is_object = state_object base object 1 may.is_object (omega arith);
    count =
        let now = length-map (objects.entries opened object) entry_of in
        let was = length-map (objects.entries base object) entry_of in
        let entries = ap (λ (l : List Entry). length l) (state_shows base object 1 may.is_object (record { state = get_or base (state_at object) 0; commit_word = get_or base (commit_word_at object) 0; entries = entries_in base object }) (record { state = refl; commit_word = refl; entries = refl })).entries in
        let count = may.count in
        omega (arith, now, was, entries, count);
    room = subst (λ (l : List ℕ). nth < length l) (sym places_stay) may.room;
    packed = λ k lt none.
        let size = ap (λ (l : List ℕ). length l) places_stay in
        word_stays (k + 1) (omega (arith, lt, size)) ∙ may.packed k (omega (arith, lt, size)) (sym (word_stays k (omega (arith, lt, size))) ∙ none);
    table = may.table;
    row = may.row;
  }

-- ── an extension ──

not_twice : (b : Bool) → b ≡ not (not b)
not_twice true = refl
not_twice false = refl

-- no more entries than entry words
few_entries : (words : List ℕ) (object : ℕ) → length (objects.entries words object) ≤ length (entry_places words object)
few_entries words object =
    let all = map (λ (w : ℕ). get_or words w 0) (entry_places words object) in
    let both = length-filter_both (λ (word : ℕ). not (eqb word 0)) (λ (word : ℕ). eqb word 0) (λ word. not_twice (eqb word 0)) all in
    let size = length-map (entry_places words object) (λ (w : ℕ). get_or words w 0) in
    omega (arith, both, size)

module _ (base : List ℕ) (e : Extension) (may : MayExtend base e) (page : ℕ) (stands : StandsOn base (new_segment e) page) (words : List ℕ) (is : IsExtended base e words) where
  abbrev more : List ℕ
  more = range_with_len (new_segment e + 1) 255

  abbrev its_entries : ℕ → List ℕ
  its_entries segment = map (segment_entry_at segment) (below 255)

  places_are : entry_places words e.object ≡ entry_places base e.object ++ more
  unfolding entry_places
  places_are =
      let own = map (entry_at e.object) (below 60) in
      let old = flat_map its_entries (ready_segments base e.object) in
      ap (λ (segments : List ℕ). own ++ flat_map its_entries segments) is.segments
      ∙ ap (λ (l : List ℕ). own ++ l) (flat_map-append its_entries (ready_segments base e.object) (new_segment e ∷ []))
      ∙ ap (λ (l : List ℕ). own ++ (old ++ l)) (append-nil (its_entries (new_segment e)) ∙ more_places (new_segment e))
      ∙ sym (append_assoc own old more)

  old_word : (nth : ℕ) → nth < length (entry_places base e.object) → nth_word words e.object nth ≡ nth_word base e.object nth
  old_word nth lt =
      let away = entry_untouched base e may page stands nth lt in
      ap (λ (places : List ℕ). get_or words (get_or places nth 0) 0) places_are
      ∙ ap (λ (w : ℕ). get_or words w 0) (get_or_append_left (entry_places base e.object) more 0 nth lt)
      ∙ is.keeps.others (get_or (entry_places base e.object) nth 0) away.0 away.1 away.2

  size_is : length (entry_places words e.object) ≡ length (entry_places base e.object) + 255
  size_is =
      let both = length-append (entry_places base e.object) more in
      let one = length-range_with_len (new_segment e + 1) 255 in
      ap (λ (l : List ℕ). length l) places_are ∙ omega (arith, both, one)

  new_word : (nth : ℕ) → length (entry_places base e.object) ≤ nth → nth < length (entry_places words e.object) → nth_word words e.object nth ≡ 0
  new_word nth from lt = at (nth - length (entry_places base e.object)) (omega (arith, from)) (omega (arith, lt, size_is, from))
    where
      at : (k : ℕ) → nth ≡ length (entry_places base e.object) + k → k < 255 → nth_word words e.object nth ≡ 0
      at k there small =
          ap (λ (places : List ℕ). get_or words (get_or places nth 0) 0) places_are
          ∙ ap (λ (n : ℕ). get_or words (get_or (entry_places base e.object ++ more) n 0) 0) there
          ∙ ap (λ (w : ℕ). get_or words w 0) (get_or-append-add (entry_places base e.object) more k 0 ∙ get_or-range_with_len (new_segment e + 1) 255 k 0 small)
          ∙ is.new_words (new_segment e + 1 + k) (omega arith) (omega (arith, small))

  pub extended_enters : HasSegments words e.object → HasObject base e.object → NoEntryFollowsZero base e.object → (entry : Entry) → IsSpelt entry
      → MayAddEntry words e.object (length (objects.entries base e.object)) entry
  extended_enters segments has packed entry spelt =
      let size = is.keeps.size in
      let most = has.size in
      record {
        is_object = apart_from_blocks words e.object may.number (omega (arith, size, most)) (subst (λ (n : ℕ). n % 32768 ≡ 0) (sym size) has.whole) segments;
        count = ap (λ (l : List ℕ). length l) is.keeps.entries;
        room = let few = few_entries base e.object in omega (arith, few, size_is);
        packed = λ nth lt none. ⊎_elim
            (λ (below : nth + 1 < length (entry_places base e.object)). old_word (nth + 1) below ∙ packed nth below (sym (old_word nth (omega (arith, below))) ∙ none))
            (λ from. new_word (nth + 1) from lt)
            (cases_lt (nth + 1) (length (entry_places base e.object)));
        table = spelt.table;
        row = spelt.row;
      }

  -- the pointer behind the ready segments names the new one
  pub extended_owns : Contains (live_blocks words) (segment_block (new_segment e)) → OwnsBlock words (pointer_after base e.object) (segment_block (new_segment e))
  extended_owns live = record {
    live = live;
    named = is.segment.named;
    clean = λ other after before. let first = stands.first in absurd (omega (arith, first, after, before));
  }

pub enters_after : (e : Extension) (base : List ℕ) (may : MayExtend base e) → HasObject base e.object → NoEntryFollowsZero base e.object → (entry : Entry) → IsSpelt entry
    → MayAddEntry (extended_words base e) e.object (length (objects.entries base e.object)) entry
enters_after e base may has packed entry spelt =
    let (page, stands) = source_stands base e.object may.segments.rules e.source may.source in
    let shown = extension_shown base e may in
    extended_enters base e may page stands (extended_words base e) shown.ends shown.again has packed entry spelt

pub owns_after : (e : Extension) (base : List ℕ) (may : MayExtend base e) → OwnsBlock (extended_words base e) (pointer_after base e.object) (segment_block (new_segment e))
owns_after e base may =
    let (page, stands) = source_stands base e.object may.segments.rules e.source may.source in
    let shown = extension_shown base e may in
    extended_owns base e may page stands (extended_words base e) shown.ends shown.live
