-- A walk over an object's own entries and then over its ready segments.
use Rattle.std.proofs.Common.{◌≡◌, ℕ, zero, suc, ◌+◌, ◌-◌, ◌*◌, ◌<◌, ◌≤◌, min, not, eqb, List, [], ◌∷◌, ◌++◌, length, map, take, get_or, refl, sym, ◌∙◌, ap, append_assoc, arith}
use Rattle.std.specs.List.{range_with_len, count_by}
use Rattle.std.specs.Int.{div_ceil}
use Rattle.std.proofs.lemmas.List.{map-append, take-append-le}
use Rattle.std.proofs.lemmas.List.Elements.{filter-append}
use Rattle.std.proofs.Math.Seq.{take-append_seam, take-append-add}
use Rattle.std.proofs.lemmas.List.FromFn.{length-range_with_len}
use Rattle.pm_model.specs.declared.action.Action.{Action}
use Rattle.image_layout.specs.Fixed.{entry_at}
use Rattle.image_layout.specs.Places.{place_in}
use Rattle.pm_model.specs.Plans.{store, stores}
use Rattle.image_layout.specs.Objects.{ready_count, segment_pointer_at, segment_of, entry_places}
use Rattle.txn_object.specs.declared.entry.Entry.{Entry}
use Rattle.txn_object.specs.Entries.{entry_of}
use Rattle.txn_object.proofs.Places.{places_up_to, own_split, places_split, places_next, no_more_places, all_places, own_place, more_place, length-places_up_to, length-entry_places}
use Rattle.txn_object.proofs.Runs.{set_words, set_in_row, zeros_in_row, count_by-append}

-- from one pointer to the next
pub named_next : (words : List ℕ) (object k pointer first : ℕ) → pointer ≡ segment_pointer_at words object k → first ≡ place_in (get_or words pointer 0) → first ≡ segment_of words object k
named_next words object k pointer first at is = is ∙ ap (λ (w : ℕ). place_in (get_or words w 0)) at

pub pointer_next : (words : List ℕ) (object k pointer first : ℕ) → pointer ≡ segment_pointer_at words object k → first ≡ place_in (get_or words pointer 0) → first ≡ segment_pointer_at words object (k + 1)
pointer_next words object k pointer first at is = let next : suc k ≡ k + 1 = omega arith in named_next words object k pointer first at is ∙ ap (segment_pointer_at words object) next

-- ── the entries ──

abbrev pub words_at : List ℕ → List ℕ → List ℕ
words_at words places = map (λ w. get_or words w 0) places

pub entries_next : (words : List ℕ) (object k first at : ℕ) (before after : List Entry) → first ≡ segment_of words object k → at ≡ first + 1
    → before ≡ map entry_of (set_words (words_at words (places_up_to words object k))) → after ≡ before ++ map entry_of (set_in_row words at 255)
    → after ≡ map entry_of (set_words (words_at words (places_up_to words object (k + 1))))
entries_next words object k first at before after named here is more =
    let places = places_up_to words object k in
    let row = range_with_len (segment_of words object k + 1) 255 in
    let start : at ≡ segment_of words object k + 1 = omega (arith, named, here) in
    more ∙ ap (λ (l : List Entry). l ++ map entry_of (set_in_row words at 255)) is
    ∙ ap (λ (n : ℕ). map entry_of (set_words (words_at words places)) ++ map entry_of (set_in_row words n 255)) start
    ∙ sym (map-append entry_of (set_words (words_at words places)) (set_words (words_at words row)))
    ∙ ap (λ (l : List ℕ). map entry_of l) (sym (filter-append (λ word. not (eqb word 0)) (words_at words places) (words_at words row)))
    ∙ ap (λ (l : List ℕ). map entry_of (set_words l)) (sym (map-append (λ w. get_or words w 0) places row))
    ∙ ap (λ (l : List ℕ). map entry_of (set_words (words_at words l))) (sym (places_next words object k))

pub entries_first : (words : List ℕ) (object at : ℕ) (none list : List Entry) → at ≡ entry_at object 0 → none ≡ [] → list ≡ none ++ map entry_of (set_in_row words at 60)
    → list ≡ map entry_of (set_words (words_at words (places_up_to words object 0)))
entries_first words object at none list here empty is =
    is ∙ ap (λ (l : List Entry). l ++ map entry_of (set_in_row words at 60)) empty ∙ ap (λ (n : ℕ). map entry_of (set_in_row words n 60)) here
    ∙ ap (λ (l : List ℕ). map entry_of (set_words (words_at words l))) (sym (no_more_places words object))

pub entries_last : (words : List ℕ) (object k : ℕ) (list : List Entry) → k ≡ ready_count words object → list ≡ map entry_of (set_words (words_at words (places_up_to words object k)))
    → list ≡ map entry_of (set_words (words_at words (entry_places words object)))
entries_last words object k list end is =
    is ∙ ap (λ (n : ℕ). map entry_of (set_words (words_at words (places_up_to words object n)))) end ∙ ap (λ (l : List ℕ). map entry_of (set_words (words_at words l))) (sym (all_places words object))

-- no word of a row follows a 0
module _ (words : List ℕ) (object : ℕ)
    (packed : (nth : ℕ) → nth + 1 < length (entry_places words object) → get_or words (get_or (entry_places words object) nth 0) 0 ≡ 0 → get_or words (get_or (entry_places words object) (nth + 1) 0) 0 ≡ 0) where
  pub own_packed : (at nth : ℕ) → at ≡ entry_at object 0 → nth + 1 < 60 → get_or words (at + nth) 0 ≡ 0 → get_or words (at + (nth + 1)) 0 ≡ 0
  own_packed at nth here lt none =
      let one : get_or (entry_places words object) nth 0 ≡ at + nth = own_place words object nth (omega (arith, lt)) ∙ omega (arith, here) in
      let two : get_or (entry_places words object) (nth + 1) 0 ≡ at + (nth + 1) = own_place words object (nth + 1) lt ∙ omega (arith, here) in
      ap (λ (w : ℕ). get_or words w 0) (sym two) ∙ packed nth (omega (arith, lt, length-entry_places words object)) (ap (λ (w : ℕ). get_or words w 0) one ∙ none)

  pub more_packed : (k first at nth : ℕ) → k < ready_count words object → first ≡ segment_of words object k → at ≡ first + 1 → nth + 1 < 255 → get_or words (at + nth) 0 ≡ 0 → get_or words (at + (nth + 1)) 0 ≡ 0
  more_packed k first at nth below named here lt none =
      let i = 60 + 255 * k + nth in
      let next : 60 + 255 * k + (nth + 1) ≡ 60 + 255 * k + nth + 1 = omega arith in
      let one : get_or (entry_places words object) (60 + 255 * k + nth) 0 ≡ at + nth = more_place words object k nth below (omega (arith, lt)) ∙ omega (arith, here, named) in
      let two : get_or (entry_places words object) (60 + 255 * k + nth + 1) 0 ≡ at + (nth + 1) =
      ap (λ (n : ℕ). get_or (entry_places words object) n 0) (sym next) ∙ more_place words object k (nth + 1) below lt ∙ omega (arith, here, named) in
      ap (λ (w : ℕ). get_or words w 0) (sym two) ∙ packed (60 + 255 * k + nth) (omega (arith, lt, below, length-entry_places words object)) (ap (λ (w : ℕ). get_or words w 0) one ∙ none)

-- ── the free words ──

pub free_next : (words : List ℕ) (object k first at before more after : ℕ) → first ≡ segment_of words object k → at ≡ first + 1
    → before ≡ count_by (λ w. eqb (get_or words w 0) 0) (places_up_to words object k) → more ≡ zeros_in_row words at 255 → after ≡ before + more
    → after ≡ count_by (λ w. eqb (get_or words w 0) 0) (places_up_to words object (k + 1))
free_next words object k first at before more after named here is count sum =
    let start : at ≡ segment_of words object k + 1 = here ∙ ap (λ (n : ℕ). n + 1) named in
    sum ∙ ap (λ (n : ℕ). n + more) is
    ∙ ap (λ (n : ℕ). count_by (λ w. eqb (get_or words w 0) 0) (places_up_to words object k) + n) (count ∙ ap (λ (n : ℕ). zeros_in_row words n 255) start)
    ∙ sym (count_by-append (λ w. eqb (get_or words w 0) 0) (places_up_to words object k) (range_with_len (segment_of words object k + 1) 255))
    ∙ ap (λ (l : List ℕ). count_by (λ w. eqb (get_or words w 0) 0) l) (sym (places_next words object k))

pub free_first : (words : List ℕ) (object at free : ℕ) → at ≡ entry_at object 0 → free ≡ zeros_in_row words at 60 → free ≡ count_by (λ w. eqb (get_or words w 0) 0) (places_up_to words object 0)
free_first words object at free here is = is ∙ ap (λ (n : ℕ). zeros_in_row words n 60) here ∙ ap (λ (l : List ℕ). count_by (λ w. eqb (get_or words w 0) 0) l) (sym (no_more_places words object))

pub free_last : (words : List ℕ) (object k free : ℕ) → k ≡ ready_count words object → free ≡ count_by (λ w. eqb (get_or words w 0) 0) (places_up_to words object k)
    → free ≡ count_by (λ w. eqb (get_or words w 0) 0) (entry_places words object)
free_last words object k free end is =
    is ∙ ap (λ (n : ℕ). count_by (λ w. eqb (get_or words w 0) 0) (places_up_to words object n)) end ∙ ap (λ (l : List ℕ). count_by (λ w. eqb (get_or words w 0) 0) l) (sym (all_places words object))

-- ── the first places ──

take_range : (count a n : ℕ) → count ≤ n → take count (range_with_len a n) ≡ range_with_len a count
take_range zero a n le = refl
take_range (suc count) a zero le = absurd (omega (arith, le))
take_range (suc count) a (suc n) le = ap (λ (l : List ℕ). a ∷ l) (take_range count (a + 1) n (omega (arith, le)))

pub take_own : (words : List ℕ) (object count : ℕ) → count ≤ 60 → take count (entry_places words object) ≡ range_with_len (entry_at object 0) count
take_own words object count le =
    let split = own_split words object in
    let size = length-range_with_len (entry_at object 0) 60 in
    ap (λ (l : List ℕ). take count l) split.1 ∙ take-append-le count (range_with_len (entry_at object 0) 60) split.0 (omega (arith, size, le)) ∙ take_range count (entry_at object 0) 60 le

pub take_more : (words : List ℕ) (object k count : ℕ) → k < ready_count words object → count ≤ 255
    → take (60 + 255 * k + count) (entry_places words object) ≡ take (60 + 255 * k) (entry_places words object) ++ range_with_len (segment_of words object k + 1) count
take_more words object k count lt le =
    let split = places_split words object k lt in
    let before = places_up_to words object k in
    let row = range_with_len (segment_of words object k + 1) 255 in
    let size = length-places_up_to words object k in
    let width = length-range_with_len (segment_of words object k + 1) 255 in
    let at : 60 + 255 * k + count ≡ length before + count = omega (arith, size) in
    let first : take (60 + 255 * k) (entry_places words object) ≡ before =
    ap (λ (n : ℕ). take n (entry_places words object)) (sym size) ∙ ap (λ (l : List ℕ). take (length before) l) split.1 ∙ take-append_seam before (row ++ split.0) in
    ap (λ (n : ℕ). take n (entry_places words object)) at ∙ ap (λ (l : List ℕ). take (length before + count) l) split.1
    ∙ take-append-add before (row ++ split.0) count
    ∙ ap (λ (l : List ℕ). before ++ l) (take-append-le count row split.0 (omega (arith, width, le)) ∙ take_range count (segment_of words object k + 1) 255 le)
    ∙ ap (λ (l : List ℕ). l ++ range_with_len (segment_of words object k + 1) count) (sym first)

-- ── 0 over them ──

pub zeros_first : (words : List ℕ) (object at entries own : ℕ) (old left : List Action) → at ≡ entry_at object 0 → own ≡ min entries 60 → left ≡ old ++ stores 0 (range_with_len at own)
    → left ≡ old ++ stores 0 (take (min entries (60 + 255 * 0)) (entry_places words object))
zeros_first words object at entries own old left here size is =
    let same : own ≡ min entries (60 + 255 * 0) = omega (arith, size) in
    is ∙ ap (λ (n : ℕ). old ++ stores 0 (range_with_len n own)) here
    ∙ ap (λ (l : List ℕ). old ++ stores 0 l) (sym (take_own words object own (omega (arith, size))))
    ∙ ap (λ (n : ℕ). old ++ stores 0 (take n (entry_places words object))) same

pub zeros_next : (words : List ℕ) (object k first at entries count : ℕ) (old before left : List Action) → k < ready_count words object → first ≡ segment_of words object k → at ≡ first + 1
    → 60 + 255 * k < entries → count ≡ min (entries - 60 - 255 * k) 255 → before ≡ old ++ stores 0 (take (min entries (60 + 255 * k)) (entry_places words object)) → left ≡ before ++ stores 0 (range_with_len at count)
    → left ≡ old ++ stores 0 (take (min entries (60 + 255 * (k + 1))) (entry_places words object))
zeros_next words object k first at entries count old before left below named here lt size is more =
    let start : at ≡ segment_of words object k + 1 = omega (arith, named, here) in
    let now : min entries (60 + 255 * k) ≡ 60 + 255 * k = omega (arith, lt) in
    let end : min entries (60 + 255 * (k + 1)) ≡ 60 + 255 * k + count = omega (arith, lt, size) in
    let done = take (60 + 255 * k) (entry_places words object) in
    let row = range_with_len (segment_of words object k + 1) count in
    more ∙ ap (λ (l : List Action). l ++ stores 0 (range_with_len at count)) (is ∙ ap (λ (n : ℕ). old ++ stores 0 (take n (entry_places words object))) now)
    ∙ ap (λ (n : ℕ). (old ++ stores 0 done) ++ stores 0 (range_with_len n count)) start
    ∙ append_assoc old (stores 0 done) (stores 0 row)
    ∙ ap (λ (l : List Action). old ++ l) (sym (map-append (λ place. store place 0) done row))
    ∙ ap (λ (l : List ℕ). old ++ stores 0 l) (sym (take_more words object k count below (omega (arith, size))))
    ∙ ap (λ (n : ℕ). old ++ stores 0 (take n (entry_places words object))) (sym end)

pub div_ceil_below : (more k end : ℕ) → end ≡ div_ceil more 255 → k < end → 255 * k < more
div_ceil_below more k end is lt = omega (arith, is, lt)

pub div_ceil_end : (more k end : ℕ) → end ≡ div_ceil more 255 → end ≤ k → more ≤ 255 * k
div_ceil_end more k end is le = omega (arith, is, le)
