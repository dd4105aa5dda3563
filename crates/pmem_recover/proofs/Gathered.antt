-- The entries of an object: its segments lie in the image, and the places of the entries are gathered piece by piece.
use Rattle.std.proofs.Common.{◌≡◌, ℕ, ◌+◌, ◌%◌, ◌<◌, ◌≤◌, Bool, true, List, [], ◌∷◌, ◌++◌, length, get_or, map, sym, ◌∙◌, ap, subst, append_assoc, arith}
use Rattle.std.specs.Prelude.{filter}
use Rattle.std.specs.List.{flat_map}
use Rattle.std.proofs.lemmas.List.{append-nil}
use Rattle.std.proofs.lemmas.List.Elements.{filter-append}
use Rattle.std.proofs.lemmas.List.FromFn.{map-range_with_len_more}
use Rattle.std.proofs.lemmas.Grind.{flat_map-append}
use Rattle.image_layout.specs.Fixed.{entry_at}
use Rattle.image_layout.specs.Places.{below, is_pointer}
use Rattle.image_layout.specs.Records.{segment_entry_at}
use Rattle.image_layout.specs.Objects.{entry_places, ready_count, segment_pointer_at, segment_of}
use Rattle.image_layout.specs.Checks.{Keeps}
use Rattle.image_layout.specs.EntryRules.{objects_rule, object_rule}
use Rattle.image_layout.proofs.OwnedBlocks.{one_object}
use Rattle.txn_object.proofs.Rule.{at_most_32, named}

-- ── places gathered one by one ──

pub gather-next : (test : ℕ → Bool) (place : ℕ → ℕ) (n at : ℕ) (old before after : List ℕ) → at ≡ place n → before ≡ old ++ filter test (map place (below n)) → after ≡ before ++ filter test (at ∷ [])
    → after ≡ old ++ filter test (map place (below (n + 1)))
gather-next test place n at old before after is was more =
    more ∙ ap (λ (xs : List ℕ). xs ++ filter test (at ∷ [])) was ∙ append_assoc old (filter test (map place (below n))) (filter test (at ∷ []))
    ∙ ap (λ (k : ℕ). old ++ (filter test (map place (below n)) ++ filter test (k ∷ []))) is
    ∙ ap (λ (xs : List ℕ). old ++ xs) (sym (filter-append test (map place (below n)) (place n ∷ [])))
    ∙ ap (λ (xs : List ℕ). old ++ filter test xs) (sym (map-range_with_len_more place 0 n n (omega arith)))

pub gather-none : (test : ℕ → Bool) (old : List ℕ) → old ≡ old ++ filter test []
gather-none test old = sym (append-nil old)

-- ── the segments of an object ──

-- the entries up to a ready segment
unfoldable pub entries_up_to : List ℕ → ℕ → ℕ → List ℕ
entries_up_to words object n = map (entry_at object) (below 60) ++ flat_map (λ segment. map (segment_entry_at segment) (below 255)) (map (segment_of words object) (below n))

pub entries-all : (words : List ℕ) (object n : ℕ) → n ≡ ready_count words object → entries_up_to words object n ≡ entry_places words object
unfolding entry_places entries_up_to
entries-all words object n all = ap (entries_up_to words object) all

-- one segment more
pub segments-next : (test : ℕ → Bool) (words : List ℕ) (object n segment : ℕ) (before after : List ℕ) → segment ≡ segment_of words object n → before ≡ filter test (entries_up_to words object n)
    → after ≡ before ++ filter test (map (segment_entry_at segment) (below 255)) → after ≡ filter test (entries_up_to words object (n + 1))
unfolding entries_up_to
segments-next test words object n segment before after is was more =
    let own = map (entry_at object) (below 60) in
    let entries_of : ℕ → List ℕ = λ (s : ℕ). map (segment_entry_at s) (below 255) in
    let first = map (segment_of words object) (below n) in
    let joined : flat_map entries_of (map (segment_of words object) (below (n + 1))) ≡ flat_map entries_of first ++ entries_of (segment_of words object n) =
    ap (flat_map entries_of) (map-range_with_len_more (segment_of words object) 0 n n (omega arith)) ∙ flat_map-append entries_of first (segment_of words object n ∷ [])
    ∙ ap (λ (xs : List ℕ). flat_map entries_of first ++ xs) (append-nil (entries_of (segment_of words object n))) in
    more ∙ ap (λ (xs : List ℕ). xs ++ filter test (entries_of segment)) was ∙ ap (λ (s : ℕ). filter test (own ++ flat_map entries_of first) ++ filter test (entries_of s)) is
    ∙ sym (filter-append test (own ++ flat_map entries_of first) (entries_of (segment_of words object n)))
    ∙ ap (filter test) (append_assoc own (flat_map entries_of first) (entries_of (segment_of words object n)) ∙ ap (λ (xs : List ℕ). own ++ xs) (sym joined))

pub segments-none : (test : ℕ → Bool) (words : List ℕ) (object : ℕ) (before after : List ℕ) → before ≡ [] → after ≡ before ++ filter test (map (entry_at object) (below 60)) → after ≡ filter test (entries_up_to words object 0)
unfolding entries_up_to
segments-none test words object before after none is =
    is ∙ ap (λ (xs : List ℕ). xs ++ filter test (map (entry_at object) (below 60))) none ∙ ap (filter test) (sym (append-nil (map (entry_at object) (below 60))))

module _ (words : List ℕ) (keeps : Keeps words objects_rule) (object : ℕ) (number : object < 16) where
  rule : Keeps words (object_rule object)
  rule = one_object words object keeps number

  pub ready-few : ready_count words object ≤ 32
  ready-few = at_most_32 words object rule

  pub segment-pointer : (segment at : ℕ) → segment < ready_count words object → at ≡ segment_pointer_at words object segment → is_pointer words (get_or words at 0) ≡ true
  segment-pointer segment at lt is = ap (λ (k : ℕ). is_pointer words (get_or words k 0)) is ∙ (named words object rule segment lt).is_one

  -- a segment stands in the image
  pub segment-within : (segment place : ℕ) → length words % 32768 ≡ 0 → segment < ready_count words object → place ≡ segment_of words object segment → place + 256 ≤ length words
  segment-within segment place whole lt is =
      let it = named words object rule segment lt in
      let inside = it.begins in
      let room = it.in_segment in
      subst (λ (k : ℕ). k + 256 ≤ length words) (sym is) (omega (arith, inside, room, whole))
