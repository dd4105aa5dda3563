-- What the rule of an object says of its segments.
use Rattle.std.proofs.Common.{◌≡◌, ◌≢◌, ⊎_elim, ℕ, zero, suc, ◌+◌, ◌-◌, ◌%◌, ◌^◌, ◌<◌, ◌≤◌, min, true, not, eqb, leb, ltb, List, [], ◌∷◌, ◌++◌, length, map, get_or, refl, sym, ◌∙◌, subst, arith}
use Rattle.std.specs.Prelude.{Contains}
use Rattle.std.proofs.lemmas.Bool.{leb-true, le-leb, ltb-true, eqb-true, and_parts, or_cases}
use Rattle.std.proofs.lemmas.List.Elements.{All-contains, All-cons, All-append, All-map, Contains-append_left, Contains-append_right}
use Rattle.std.proofs.lemmas.List.FromFn.{length-range_with_len, get_or-range_with_len}
use Rattle.image_layout.specs.Pointer.{pointer_word}
use Rattle.image_layout.specs.Fixed.{state_at, commit_word_at, ready_at, last_at}
use Rattle.image_layout.specs.Places.{below, place_in, is_pointer, is_in_segment, is_pointer_to, is_null_or_pointer_to}
use Rattle.image_layout.specs.Checks.{Check, check, Keeps}
use Rattle.image_layout.specs.Objects.{commit_word, ready_count, segment_pointer_at, segment_of, pointer_after}
use Rattle.image_layout.specs.EntryRules.{is_among, is_segment_pointer, object_rule}
use Rattle.image_layout.proofs.Heap.{Holds}
use Rattle.image_layout.proofs.Members.{below-Contains, Contains-here, Contains-there, map-Contains}

-- a segment's words lie in the image, and in one segment of it
pub record NamesSegment (words : List ℕ) (pointer : ℕ) : Type 0 where
  pub is_one : is_pointer words pointer ≡ true
  pub word_is : pointer ≡ pointer_word (place_in pointer)
  pub begins : place_in pointer < length words
  pub in_segment : place_in pointer % 32768 + 256 ≤ 32768

pub names_segment : (words : List ℕ) (pointer : ℕ) → is_pointer_to words 256 pointer ≡ true → NamesSegment words pointer
names_segment words pointer is =
    let both = and_parts (is_pointer words pointer) (is_in_segment (place_in pointer) 256) is in
    let parts = and_parts (eqb pointer (pointer_word (place_in pointer))) (ltb (place_in pointer) (length words)) both.0 in
    record {
      is_one = both.0;
      word_is = eqb-true pointer (pointer_word (place_in pointer)) parts.0;
      begins = ltb-true (place_in pointer) (length words) parts.1;
      in_segment = leb-true (place_in pointer % 32768 + 256) 32768 both.1;
    }

module _ (words : List ℕ) (object : ℕ) where
  abbrev pub state_check : Check
  state_check = check (state_at object) (leb (get_or words (state_at object) 0) 1)

  abbrev pub commit_check : Check
  commit_check = check (commit_word_at object) (leb (commit_word words object) (min (get_or words last_at 0 + 1) (2 ^ 40 - 1)))

  abbrev pub ready_check : Check
  ready_check = check (ready_at object) (leb (ready_count words object) 32)

  abbrev pub pointer_check : ℕ → Check
  pointer_check segment = check (segment_pointer_at words object segment) (is_segment_pointer words object segment)

  abbrev pub after_check : Check
  after_check = check (pointer_after words object) (is_null_or_pointer_to words 256 (get_or words (pointer_after words object) 0))

  pub rule_is : object_rule object words ≡ state_check ∷ commit_check ∷ ready_check ∷ (map pointer_check (below (ready_count words object)) ++ after_check ∷ [])
  unfolding object_rule
  rule_is = refl

module _ (words : List ℕ) (object : ℕ) (keeps : Keeps words (object_rule object)) where
  abbrev rest : List Check
  rest = map (pointer_check words object) (below (ready_count words object)) ++ after_check words object ∷ []

  holds : (c : Check) → Contains (state_check words object ∷ commit_check words object ∷ ready_check words object ∷ rest) c → c.holds ≡ true
  unfolding object_rule
  holds c is = All-contains Holds (state_check words object ∷ commit_check words object ∷ ready_check words object ∷ (map (pointer_check words object) (below (ready_count words object)) ++ after_check words object ∷ [])) c keeps.checks is

  behind : (c : Check) → Contains (map (pointer_check words object) (below (ready_count words object)) ++ after_check words object ∷ []) c → c.holds ≡ true
  behind c is =
      let r = map (pointer_check words object) (below (ready_count words object)) ++ after_check words object ∷ [] in
      holds c (Contains-there (state_check words object) c (commit_check words object ∷ ready_check words object ∷ r)
      (Contains-there (commit_check words object) c (ready_check words object ∷ r) (Contains-there (ready_check words object) c r is)))

  pub at_most_32 : ready_count words object ≤ 32
  at_most_32 =
      let r = map (pointer_check words object) (below (ready_count words object)) ++ after_check words object ∷ [] in
      leb-true (ready_count words object) 32 (holds (ready_check words object)
      (Contains-there (state_check words object) (ready_check words object) (commit_check words object ∷ ready_check words object ∷ r)
      (Contains-there (commit_check words object) (ready_check words object) (ready_check words object ∷ r) (Contains-here (ready_check words object) r))))

  pub state_ok : get_or words (state_at object) 0 ≤ 1
  state_ok =
      let r = map (pointer_check words object) (below (ready_count words object)) ++ after_check words object ∷ [] in
      leb-true (get_or words (state_at object) 0) 1 (holds (state_check words object) (Contains-here (state_check words object) (commit_check words object ∷ ready_check words object ∷ r)))

  pub commit_ok : leb (commit_word words object) (min (get_or words last_at 0 + 1) (2 ^ 40 - 1)) ≡ true
  commit_ok =
      let r = map (pointer_check words object) (below (ready_count words object)) ++ after_check words object ∷ [] in
      holds (commit_check words object) (Contains-there (state_check words object) (commit_check words object) (commit_check words object ∷ ready_check words object ∷ r) (Contains-here (commit_check words object) (ready_check words object ∷ r)))

  pub after_ok : is_null_or_pointer_to words 256 (get_or words (pointer_after words object) 0) ≡ true
  after_ok = behind (after_check words object)
      (Contains-append_right (map (pointer_check words object) (below (ready_count words object))) (after_check words object ∷ []) (after_check words object) (Contains-here (after_check words object) []))

  pub pointer_rule : (segment : ℕ) → segment < ready_count words object → is_segment_pointer words object segment ≡ true
  pointer_rule segment lt = behind (pointer_check words object segment)
      (Contains-append_left (map (pointer_check words object) (below (ready_count words object))) (after_check words object ∷ []) (pointer_check words object segment)
      (map-Contains (pointer_check words object) (below (ready_count words object)) segment (below-Contains (ready_count words object) segment lt)))

  -- a ready segment
  pub named : (segment : ℕ) → segment < ready_count words object → NamesSegment words (get_or words (segment_pointer_at words object segment) 0)
  named segment lt = names_segment words (get_or words (segment_pointer_at words object segment) 0)
      (and_parts (is_pointer_to words 256 (get_or words (segment_pointer_at words object segment) 0)) (not (is_among (map (segment_of words object) (below segment)) (segment_of words object segment))) (pointer_rule segment lt)).0

  -- the pointer after them
  pub named_after : get_or words (pointer_after words object) 0 ≢ 0 → NamesSegment words (get_or words (pointer_after words object) 0)
  named_after some =
      let pointer = get_or words (pointer_after words object) 0 in
      ⊎_elim (λ null. absurd (some (eqb-true pointer 0 null))) (λ is. names_segment words pointer is)
      (or_cases (eqb pointer 0) (is_pointer_to words 256 pointer) (behind (after_check words object)
      (Contains-append_right (map (pointer_check words object) (below (ready_count words object))) (after_check words object ∷ []) (after_check words object) (Contains-here (after_check words object) []))))

  -- a word of a segment stands in the image
  pub within : length words % 32768 ≡ 0 → (segment entry : ℕ) → segment < ready_count words object → entry < 256 → segment_of words object segment + entry < length words
  within whole segment entry lt small =
      let is = named segment lt in fits (segment_of words object segment) (length words) entry is.begins is.in_segment small whole
    where
      fits : (place size entry : ℕ) → place < size → place % 32768 + 256 ≤ 32768 → entry < 256 → size % 32768 ≡ 0 → place + entry < size
      fits place size entry a b c d = omega arith

  -- the pointer to each of them, and the one after
  pub pointer_in : 2048 ≤ length words → object < 16 → (segment : ℕ) → segment ≤ ready_count words object → segment_pointer_at words object segment < length words
  pointer_in size number zero le = omega (arith, size, number)
  pointer_in size number (suc segment) le = (named segment (omega (arith, le))).begins

-- and what makes the rule hold
pub rule_from : (words : List ℕ) (object : ℕ) → get_or words (state_at object) 0 ≤ 1 → leb (commit_word words object) (min (get_or words last_at 0 + 1) (2 ^ 40 - 1)) ≡ true → ready_count words object ≤ 32
    → ((segment : ℕ) → segment < ready_count words object → is_segment_pointer words object segment ≡ true) → is_null_or_pointer_to words 256 (get_or words (pointer_after words object) 0) ≡ true → Keeps words (object_rule object)
unfolding object_rule
rule_from words object state commit ready pointers after = record {
  checks =
      let last = after_check words object ∷ [] in
      let segments = map (pointer_check words object) (below (ready_count words object)) in
      All-cons Holds (state_check words object) (commit_check words object ∷ ready_check words object ∷ (segments ++ last)) (le-leb (get_or words (state_at object) 0) 1 state)
      (All-cons Holds (commit_check words object) (ready_check words object ∷ (segments ++ last)) commit
      (All-cons Holds (ready_check words object) (segments ++ last) (le-leb (ready_count words object) 32 ready)
      (All-append Holds segments last
      (All-map Holds (pointer_check words object) (below (ready_count words object))
      (λ k d lt. let within : k < ready_count words object = omega (arith, lt, length-range_with_len 0 (ready_count words object)) in
      let at : get_or (below (ready_count words object)) k d ≡ k = get_or-range_with_len 0 (ready_count words object) k d within ∙ omega arith in
      subst (λ (n : ℕ). is_segment_pointer words object n ≡ true) (sym at) (pointers k within)))
      (All-cons Holds (after_check words object) [] after (λ k d lt. absurd (omega (arith, lt)))))));
}
