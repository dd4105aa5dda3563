-- The extension of an object, part by part.
use Rattle.std.proofs.Common.{◌≡◌, ◌≢◌, ◌⊎◌, inl, inr, ⊎_elim, ℕ, zero, suc, ◌+◌, ◌-◌, ◌*◌, ◌%◌, ◌^◌, ◌<◌, ◌≤◌, min, Bool, true, false, not, ◌&&◌, ◌||◌, eqb, leb, ltb, List, [], ◌∷◌, ◌++◌, length, map, get_or, set, refl, sym, ◌∙◌, ap, subst, append-nil, arith}
use Rattle.std.specs.List.{range_with_len}
use Rattle.std.proofs.lemmas.Bool.{cases_eq, cases_lt, both_ways, not-true, and_parts, and_from, or_right, eq-eqb, ne_eqb, lt-ltb, le-leb}
use Rattle.std.proofs.lemmas.List.{map-append}
use Rattle.std.proofs.lemmas.List.Elements.{filter-append}
use Rattle.std.proofs.lemmas.List.Folds.{list_any_at}
use Rattle.std.proofs.lemmas.List.FromFn.{length-map-range_with_len, get_or-map-range_with_len, map-range_with_len_more}
use Rattle.image_layout.specs.Fixed.{state_at, commit_word_at, ready_at, last_at, first_segment_at, lane_op_at}
use Rattle.image_layout.specs.Pointer.{pointer_word}
use Rattle.image_layout.specs.Places.{below, place_in, is_pointer_to, is_null_or_pointer_to}
use Rattle.pm_model.specs.Device.{IsBetween}
use Rattle.pm_model.specs.Plans.{words_after, EachCut, finished}
use Rattle.image_layout.specs.Blocks.{live_blocks}
use Rattle.image_layout.specs.Checks.{Keeps}
use Rattle.image_layout.specs.Objects.{commit_word, ready_count, segment_pointer_at, segment_of, pointer_after, ready_segments, entry_places, entries}
use Rattle.image_layout.specs.EntryRules.{is_among, is_segment_pointer, object_rule}
use Rattle.pm_model.proofs.Alone.{length-words_after}
use Rattle.pm_model.proofs.Cuts.{between-kept, between-end, cut-one_store}
use Rattle.image_layout.proofs.Ranges.{map_same}
use Rattle.heap_palloc.specs.Lane.{mended_lane}
use Rattle.heap_palloc.specs.Law.{ChangesShown}
use Rattle.heap_palloc.specs.Choice.{Choice, in_page, on_new_page, in_run, choice_parts, choice_block, choice_page, choice_pages, IsThrough, MayMake}
use Rattle.heap_palloc.proofs.Stages.{place_in-pointer, mended-idle}
use Rattle.heap_palloc.proofs.Choices.{choice_allocates}
use Rattle.heap_palloc.proofs.LiveBlocks.{live_blocks-same}
use Rattle.heap_palloc.proofs.Owners.{choice_heap}
use Rattle.txn_object.specs.Extension.{Source, owned, allocated, Extension, new_segment, zero_part, readying_parts, extension_parts, MayExtend, MayTake}
use Rattle.txn_object.specs.Shown.{IsElsewhereOf, IsOutside, HasSegment, HasNoSegment, IsUnextended, IsExtended}
use Rattle.txn_object.proofs.Places.{places_up_to, all_places, places_next}
use Rattle.txn_object.proofs.Rule.{state_ok, commit_ok, pointer_rule, rule_from}
use Rattle.txn_object.proofs.Runs.{set_words, set_in_row, row-stop}
use Rattle.txn_object.proofs.Walk.{words_at}
use Rattle.txn_object.proofs.Frames.{pointer_same, segment_same, places_up_to_same, segment_pointer-same, place_cases}
use Rattle.txn_object.proofs.Entering.{words_at-same}
use Rattle.txn_object.proofs.Taken.{StandsOn, taken}
use Rattle.txn_object.proofs.Readying.{SameButSegment, zero-out, same_heap, segment_in, segment_behind, readied, readied_is_set, readied_count, readied_zero, readied_same}

-- two ready segments are two
pub segments_differ : (words : List ℕ) (object : ℕ) → Keeps words (object_rule object) → (a b : ℕ) → a < b → b < ready_count words object → segment_of words object a ≢ segment_of words object b
segments_differ words object keeps a b lt below_b e =
    let before = map (segment_of words object) (below b) in
    let both = and_parts (is_pointer_to words 256 (get_or words (segment_pointer_at words object b) 0)) (not (is_among (map (segment_of words object) (below b)) (segment_of words object b))) (pointer_rule words object keeps b below_b) in
    let size = length-map-range_with_len (segment_of words object) 0 b in
    let at : get_or (map (segment_of words object) (below b)) a 0 ≡ segment_of words object a = get_or-map-range_with_len (segment_of words object) 0 b a a 0 lt (omega arith) in
    both_ways (is_among (map (segment_of words object) (below b)) (segment_of words object b)) (not-true (is_among (map (segment_of words object) (below b)) (segment_of words object b)) both.1)
    (list_any_at (λ other. eqb other (segment_of words object b)) (map (segment_of words object) (below b)) a 0 (omega (arith, size, lt)) (eq-eqb (get_or (map (segment_of words object) (below b)) a 0) (segment_of words object b) (at ∙ e)))

-- ── an allocation as one of this object ──

pub choice_changes : (base : List ℕ) (lane owner : ℕ) (choice : Choice) → MayMake base choice → IsThrough lane owner choice
    → ChangesShown lane owner (choice_page choice) (choice_pages choice) base (live_blocks base) 0 (live_blocks (finished (choice_parts base choice) base)) (pointer_word (choice_block choice).first) (choice_parts base choice) base
choice_changes base lane owner (in_page s) may through =
    subst (λ (l : ℕ). ChangesShown l owner (choice_page (in_page s)) (choice_pages (in_page s)) base (live_blocks base) 0 (live_blocks (finished (choice_parts base (in_page s)) base)) (pointer_word (choice_block (in_page s)).first) (choice_parts base (in_page s)) base) through.0
    (subst (λ (o : ℕ). ChangesShown s.lane o (choice_page (in_page s)) (choice_pages (in_page s)) base (live_blocks base) 0 (live_blocks (finished (choice_parts base (in_page s)) base)) (pointer_word (choice_block (in_page s)).first) (choice_parts base (in_page s)) base) through.1
    (choice_allocates base (in_page s) may).changes)
choice_changes base lane owner (on_new_page s) may through =
    subst (λ (l : ℕ). ChangesShown l owner (choice_page (on_new_page s)) (choice_pages (on_new_page s)) base (live_blocks base) 0 (live_blocks (finished (choice_parts base (on_new_page s)) base)) (pointer_word (choice_block (on_new_page s)).first) (choice_parts base (on_new_page s)) base) through.0
    (subst (λ (o : ℕ). ChangesShown s.lane o (choice_page (on_new_page s)) (choice_pages (on_new_page s)) base (live_blocks base) 0 (live_blocks (finished (choice_parts base (on_new_page s)) base)) (pointer_word (choice_block (on_new_page s)).first) (choice_parts base (on_new_page s)) base) through.1
    (choice_allocates base (on_new_page s) may).changes)
choice_changes base lane owner (in_run r) may through =
    subst (λ (l : ℕ). ChangesShown l owner (choice_page (in_run r)) (choice_pages (in_run r)) base (live_blocks base) 0 (live_blocks (finished (choice_parts base (in_run r)) base)) (pointer_word (choice_block (in_run r)).first) (choice_parts base (in_run r)) base) through.0
    (subst (λ (o : ℕ). ChangesShown r.lane o (choice_page (in_run r)) (choice_pages (in_run r)) base (live_blocks base) 0 (live_blocks (finished (choice_parts base (in_run r)) base)) (pointer_word (choice_block (in_run r)).first) (choice_parts base (in_run r)) base) through.1
    (choice_allocates base (in_run r) may).changes)

pub choice_unowned : (base : List ℕ) (lane owner : ℕ) (choice : Choice) → MayMake base choice → IsThrough lane owner choice → get_or base owner 0 ≡ 0
choice_unowned base lane owner (in_page s) may through = ap (λ (o : ℕ). get_or base o 0) (sym through.1) ∙ may.unowned
choice_unowned base lane owner (on_new_page s) may through = ap (λ (o : ℕ). get_or base o 0) (sym through.1) ∙ may.unowned
choice_unowned base lane owner (in_run r) may through = ap (λ (o : ℕ). get_or base o 0) (sym through.1) ∙ may.unowned

module _ (base : List ℕ) (e : Extension) (may : MayExtend base e) (page : ℕ) (stands : StandsOn base (new_segment e) page) where
  abbrev owner : ℕ
  owner = pointer_after base e.object

  -- ── words that the extension doesn't write ──

  abbrev Untouched : ℕ → Type 0
  Untouched w = IsElsewhereOf base e.object e.source w × IsOutside (new_segment e) w × (w ≢ ready_at e.object)

  elsewhere : (w : ℕ) → (w < 576) ⊎ (704 ≤ w) → 64 ≤ w % 32768 → (w < 2048) ⊎ (0 < w % 512) → w ≢ pointer_after base e.object → IsElsewhereOf base e.object e.source w
  elsewhere w lanes header bitmap apart = go e.source may.source
    where
      go : (source : Source) → MayTake base e.object source → IsElsewhereOf base e.object source w
      go (owned segment) take = tt
      go (allocated choice) take =
          let number = may.number in
          let outside : (n : ℕ) → n < 3 → w ≢ 576 + 8 * e.object + n = λ n small is. ⊎_elim (λ low. omega (arith, low, is)) (λ high. omega (arith, high, is, number, small)) lanes in
          let fixed = (choice_heap base choice take.0).behind_fixed in
          record {
            outside_lane = (outside 0 (omega arith), outside 1 (omega arith), outside 2 (omega arith));
            no_owner = apart;
            no_descriptor = λ k from to is. omega (arith, is, header);
            no_bitmap = λ is. ⊎_elim (λ low. omega (arith, low, is, fixed)) (λ some. omega (arith, some, is)) bitmap;
          }

  -- a word of the fixed pages
  fixed_untouched : (w : ℕ) → 512 ≤ w → w < 2048 → (w < 576) ⊎ (704 ≤ w) → w ≢ pointer_after base e.object → w ≢ ready_at e.object → IsElsewhereOf base e.object e.source w × IsOutside (new_segment e) w × (w ≢ ready_at e.object)
  fixed_untouched w low high lanes apart other =
      let far = segment_behind e.object (new_segment e) page may.number base stands in
      (elsewhere w lanes (omega (arith, low, high)) (inl high) apart, inl (omega (arith, high, far)), other)

  -- a word of a ready segment
  segment_untouched : (k entry w : ℕ) → k < ready_count base e.object → entry < 256 → w ≡ segment_of base e.object k + entry → w ≢ pointer_after base e.object → IsElsewhereOf base e.object e.source w × IsOutside (new_segment e) w × (w ≢ ready_at e.object)
  segment_untouched k entry w lt small is apart =
      let old = taken base may.segments.rules (segment_of base e.object k) (may.segments.live k lt) in
      let at = old.stands.first in
      let fixed = old.stands.page_is.behind_fixed in
      let header = old.stands.page_is.behind_header in
      let new_at = stands.first in
      let differ = may.apart k lt in
      let number = may.number in
      let pages : old.page ≢ page = λ same. differ (omega (arith, at, new_at, same)) in (
        elsewhere w (inr (omega (arith, is, at, fixed))) (in_page old.page (segment_of base e.object k) entry w at is small header) (inr (omega (arith, is, at, small))) apart,
        ⊎_elim (λ before. inl (omega (arith, before, is, at, new_at, small))) (λ after. inr (omega (arith, after, pages, is, at, new_at))) (cases_lt old.page page),
        λ same. omega (arith, same, is, at, fixed, number),
      )
    where
      in_page : (p first entry w : ℕ) → first ≡ 512 * p + 8 → w ≡ first + entry → entry < 256 → 0 < p % 64 → 64 ≤ w % 32768
      in_page p first entry w a b c d = omega arith

  -- the pointer behind the ready segments is none of the words below
  owner_far : (k : ℕ) → k < ready_count base e.object → (n : ℕ) → n ≡ ready_count base e.object → 2048 ≤ segment_pointer_at base e.object n
  owner_far k lt zero is = absurd (omega (arith, is, lt))
  owner_far k lt (suc n) is =
      let old = taken base may.segments.rules (segment_of base e.object n) (may.segments.live n (omega (arith, is))) in
      let at = old.stands.first in let fixed = old.stands.page_is.behind_fixed in omega (arith, at, fixed)

  pointers_differ : (j k : ℕ) → j < k → k ≤ ready_count base e.object → segment_pointer_at base e.object j ≢ segment_pointer_at base e.object k
  pointers_differ zero (suc k) lt le is =
      let old = taken base may.segments.rules (segment_of base e.object k) (may.segments.live k (omega (arith, le))) in
      let at = old.stands.first in let fixed = old.stands.page_is.behind_fixed in let number = may.number in omega (arith, at, fixed, number, is)
  pointers_differ (suc j) (suc k) lt le is = segments_differ base e.object may.segments.rule j k (omega (arith, lt)) (omega (arith, le)) is
  pointers_differ j zero lt le is = omega (arith, lt)

  pointer_untouched : (k : ℕ) → k < ready_count base e.object → IsElsewhereOf base e.object e.source (segment_pointer_at base e.object k) × IsOutside (new_segment e) (segment_pointer_at base e.object k) × (segment_pointer_at base e.object k ≢ ready_at e.object)
  pointer_untouched zero lt =
      let number = may.number in
      fixed_untouched (first_segment_at e.object) (omega arith) (omega (arith, number)) (inr (omega arith)) (pointers_differ 0 (ready_count base e.object) lt (omega arith)) (λ is. omega (arith, is))
  pointer_untouched (suc k) lt = segment_untouched k 0 (segment_of base e.object k) (omega (arith, lt)) (omega arith) (omega arith) (pointers_differ (suc k) (ready_count base e.object) lt (omega arith))

  -- a word of the object's fixed ones isn't the pointer behind
  own_apart : (w n : ℕ) → n ≤ ready_count base e.object → w < 2048 → w ≢ first_segment_at e.object → w ≢ segment_pointer_at base e.object n
  own_apart w zero le low apart is = apart is
  own_apart w (suc n) le low apart is =
      let old = taken base may.segments.rules (segment_of base e.object n) (may.segments.live n (omega (arith, le))) in
      let at = old.stands.first in let fixed = old.stands.page_is.behind_fixed in omega (arith, at, fixed, low, is)

  segment_apart : (k entry n : ℕ) → k < ready_count base e.object → entry < 255 → n ≤ ready_count base e.object → segment_of base e.object k + 1 + entry ≢ segment_pointer_at base e.object n
  segment_apart k entry zero lt small le is =
      let old = taken base may.segments.rules (segment_of base e.object k) (may.segments.live k lt) in
      let at = old.stands.first in let fixed = old.stands.page_is.behind_fixed in let number = may.number in omega (arith, at, fixed, number, is)
  segment_apart k entry (suc n) lt small le is =
      let old = taken base may.segments.rules (segment_of base e.object k) (may.segments.live k lt) in
      let other = taken base may.segments.rules (segment_of base e.object n) (may.segments.live n (omega (arith, le))) in
      let a = old.stands.first in let b = other.stands.first in omega (arith, a, b, small, is)

  pub entry_untouched : (k : ℕ) → k < length (entry_places base e.object) → IsElsewhereOf base e.object e.source (get_or (entry_places base e.object) k 0) × IsOutside (new_segment e) (get_or (entry_places base e.object) k 0) × (get_or (entry_places base e.object) k 0 ≢ ready_at e.object)
  entry_untouched k lt = ⊎_elim
      (λ own. let at = own.1 in let small = own.0 in let number = may.number in
      fixed_untouched (get_or (entry_places base e.object) k 0) (omega (arith, at)) (omega (arith, at, small, number)) (inr (omega (arith, at)))
      (own_apart (get_or (entry_places base e.object) k 0) (ready_count base e.object) (omega arith) (omega (arith, at, small, number)) (λ is. omega (arith, is, at))) (λ is. omega (arith, is, at)))
      (λ more. let at = more.place_is in let small = more.small in
      segment_untouched more.segment (more.entry + 1) (get_or (entry_places base e.object) k 0) more.ready (omega (arith, small)) (omega (arith, at))
      (λ is. segment_apart more.segment more.entry (ready_count base e.object) more.ready small (omega arith) (sym at ∙ is)))
      (place_cases base e.object k lt)

  -- the word for the pointer may be that of the new segment, and the count is none of the heap's words
  pub new_pointer_sound : (words : List ℕ) → length words ≡ length base → is_pointer_to words 256 (pointer_word (new_segment e)) ≡ true
  new_pointer_sound words size =
      let back = place_in-pointer (new_segment e) in
      let there = segment_in e.object (new_segment e) page may.number base stands in
      let at = stands.first in
      and_from (eqb (pointer_word (new_segment e)) (pointer_word (place_in (pointer_word (new_segment e)))) && ltb (place_in (pointer_word (new_segment e))) (length words)) (leb (place_in (pointer_word (new_segment e)) % 32768 + 256) 32768)
      (and_from (eqb (pointer_word (new_segment e)) (pointer_word (place_in (pointer_word (new_segment e))))) (ltb (place_in (pointer_word (new_segment e))) (length words))
      (eq-eqb (pointer_word (new_segment e)) (pointer_word (place_in (pointer_word (new_segment e)))) (ap pointer_word (sym back)))
      (lt-ltb (place_in (pointer_word (new_segment e))) (length words) (in_size (place_in (pointer_word (new_segment e))) (new_segment e) (length base) (length words) back there size)))
      (le-leb (place_in (pointer_word (new_segment e)) % 32768 + 256) 32768 (in_one (place_in (pointer_word (new_segment e))) (new_segment e) page back at))
    where
      in_size : (p s l m : ℕ) → p ≡ s → s + 256 ≤ l → m ≡ l → p < m
      in_size p s l m a b c = omega (arith, a, b, c)

      in_one : (p s q : ℕ) → p ≡ s → s ≡ 512 * q + 8 → p % 32768 + 256 ≤ 32768
      in_one p s q a b = omega (arith, a, b)

  pub ready_elsewhere : IsElsewhereOf base e.object e.source (ready_at e.object)
  ready_elsewhere =
      let number = may.number in
      elsewhere (ready_at e.object) (inr (omega arith)) (omega (arith, number)) (inl (omega (arith, number)))
      (own_apart (ready_at e.object) (ready_count base e.object) (omega arith) (omega (arith, number)) (λ is. omega (arith, is)))

  -- ── words that are kept so ──

  abbrev pub Kept : List ℕ → Type 0
  Kept words = (w : ℕ) → IsElsewhereOf base e.object e.source w → IsOutside (new_segment e) w → w ≢ ready_at e.object → get_or words w 0 ≡ get_or base w 0

  module _ (words : List ℕ) (size : length words ≡ length base) (kept : (w : ℕ) → IsElsewhereOf base e.object e.source w → IsOutside (new_segment e) w → w ≢ ready_at e.object → get_or words w 0 ≡ get_or base w 0) where
    pub pointers_kept : (k : ℕ) → k < ready_count base e.object → get_or words (segment_pointer_at base e.object k) 0 ≡ get_or base (segment_pointer_at base e.object k) 0
    pointers_kept k lt = let is = pointer_untouched k lt in kept (segment_pointer_at base e.object k) is.0 is.1 is.2

    own_kept : (w : ℕ) → 512 ≤ w → w < 2048 → (w < 576) ⊎ (704 ≤ w) → w ≢ first_segment_at e.object → w ≢ ready_at e.object → get_or words w 0 ≡ get_or base w 0
    own_kept w low high lanes apart other = let is = fixed_untouched w low high lanes (own_apart w (ready_count base e.object) (omega arith) high apart) other in kept w is.0 is.1 is.2

    state_kept : get_or words (state_at e.object) 0 ≡ get_or base (state_at e.object) 0
    state_kept = let number = may.number in own_kept (state_at e.object) (omega arith) (omega (arith, number)) (inr (omega arith)) (λ is. omega (arith, is)) (λ is. omega (arith, is))

    commit_kept : get_or words (commit_word_at e.object) 0 ≡ get_or base (commit_word_at e.object) 0
    commit_kept = let number = may.number in own_kept (commit_word_at e.object) (omega arith) (omega (arith, number)) (inr (omega arith)) (λ is. omega (arith, is)) (λ is. omega (arith, is))

    last_kept : get_or words last_at 0 ≡ get_or base last_at 0
    last_kept = own_kept last_at (omega arith) (omega arith) (inl (omega arith)) (λ is. omega (arith, is)) (λ is. omega (arith, is))

    entries_kept : words_at words (entry_places base e.object) ≡ words_at base (entry_places base e.object)
    entries_kept = words_at-same base words (entry_places base e.object) (λ k lt. let is = entry_untouched k lt in kept (get_or (entry_places base e.object) k 0) is.0 is.1 is.2)

    -- the rule, where the count and the pointer behind the ready segments are sound
    rule_kept : (n : ℕ) → get_or words (ready_at e.object) 0 ≡ n → n ≤ 32 → ((k : ℕ) → k < n → is_segment_pointer words e.object k ≡ true) → is_null_or_pointer_to words 256 (get_or words (segment_pointer_at words e.object n) 0) ≡ true → Keeps words (object_rule e.object)
    rule_kept n count most pointers after = rule_from words e.object
        (let ok = state_ok base e.object may.segments.rule in let same = state_kept in omega (arith, ok, same))
        (ap (λ (m : ℕ). leb m (min (get_or words last_at 0 + 1) (2 ^ 40 - 1))) commit_kept ∙ ap (λ (m : ℕ). leb (commit_word base e.object) (min (m + 1) (2 ^ 40 - 1))) last_kept ∙ commit_ok base e.object may.segments.rule)
        (omega (arith, count, most))
        (λ k lt. pointers k (omega (arith, lt, count)))
        (ap (λ (m : ℕ). is_null_or_pointer_to words 256 (get_or words (segment_pointer_at words e.object m) 0)) count ∙ after)

    old_pointers : (k : ℕ) → k < ready_count base e.object → is_segment_pointer words e.object k ≡ true
    old_pointers k lt = segment_pointer-same base words e.object k size (λ j le. pointers_kept j (omega (arith, le, lt))) ∙ pointer_rule base e.object may.segments.rule k lt

    -- ── before it is ready ──

    module _ (count : get_or words (ready_at e.object) 0 ≡ ready_count base e.object) where
      old_segments : ready_segments words e.object ≡ ready_segments base e.object
      old_segments = ap (λ (n : ℕ). map (segment_of words e.object) (below n)) count
          ∙ map_same (segment_of words e.object) (segment_of base e.object) 0 (ready_count base e.object) (λ k le lt. segment_same base words e.object (ready_count base e.object) pointers_kept k (omega (arith, lt)))

      old_places : entry_places words e.object ≡ entry_places base e.object
      old_places = all_places words e.object ∙ ap (λ (n : ℕ). places_up_to words e.object n) count ∙ places_up_to_same base words e.object (ready_count base e.object) pointers_kept ∙ sym (all_places base e.object)

      pub unextended : is_null_or_pointer_to words 256 (get_or words (pointer_after base e.object) 0) ≡ true → HasNoSegment base e words ⊎ HasSegment base e words → IsUnextended base e words
      unextended after segment = record {
        keeps = record {
          size = size;
          rule = rule_kept (ready_count base e.object) count (let lt = may.count in omega (arith, lt)) old_pointers
              (ap (λ (at : ℕ). is_null_or_pointer_to words 256 (get_or words at 0)) (pointer_same base words e.object (ready_count base e.object) pointers_kept (ready_count base e.object) (omega arith)) ∙ after);
          state = state_kept;
          commit_word = commit_kept;
          entries = ap (λ (places : List ℕ). set_words (words_at words places)) old_places ∙ ap set_words entries_kept;
          others = kept;
        };
        segments = old_segments;
        segment = segment;
      }

    -- ── once it is ready ──

    module _ (count : get_or words (ready_at e.object) 0 ≡ ready_count base e.object + 1) (named : get_or words (pointer_after base e.object) 0 ≡ pointer_word (new_segment e))
        (none : (w : ℕ) → new_segment e ≤ w → w < new_segment e + 256 → get_or words w 0 ≡ 0) where
      abbrev n : ℕ
      n = ready_count base e.object

      last_pointer : segment_pointer_at words e.object (ready_count base e.object) ≡ pointer_after base e.object
      last_pointer = pointer_same base words e.object (ready_count base e.object) pointers_kept (ready_count base e.object) (omega arith)

      last_word : get_or words (segment_pointer_at words e.object (ready_count base e.object)) 0 ≡ pointer_word (new_segment e)
      last_word = ap (λ (at : ℕ). get_or words at 0) last_pointer ∙ named

      last_segment : segment_of words e.object (ready_count base e.object) ≡ new_segment e
      last_segment = ap place_in last_word ∙ place_in-pointer (new_segment e)

      old_segments_list : map (segment_of words e.object) (below (ready_count base e.object)) ≡ map (segment_of base e.object) (below (ready_count base e.object))
      old_segments_list = map_same (segment_of words e.object) (segment_of base e.object) 0 (ready_count base e.object) (λ k le lt. segment_same base words e.object (ready_count base e.object) pointers_kept k (omega (arith, lt)))

      new_segments : ready_segments words e.object ≡ ready_segments base e.object ++ new_segment e ∷ []
      new_segments = ap (λ (m : ℕ). map (segment_of words e.object) (below m)) count
          ∙ map-range_with_len_more (segment_of words e.object) 0 (ready_count base e.object) (ready_count base e.object) (omega arith)
          ∙ ap (λ (s : ℕ). map (segment_of words e.object) (below (ready_count base e.object)) ++ s ∷ []) last_segment
          ∙ ap (λ (l : List ℕ). l ++ new_segment e ∷ []) old_segments_list

      new_row : set_in_row words (new_segment e + 1) 255 ≡ []
      new_row = row-stop words (new_segment e + 1) 255 (λ nth lt is. none (new_segment e + 1 + (nth + 1)) (omega arith) (omega (arith, lt))) (λ some. none (new_segment e + 1) (omega arith) (omega arith))

      new_entries : entries words e.object ≡ entries base e.object
      new_entries =
          let old = places_up_to words e.object (ready_count base e.object) in
          let row = range_with_len (new_segment e + 1) 255 in
          ap (λ (places : List ℕ). set_words (words_at words places)) (all_places words e.object ∙ ap (λ (m : ℕ). places_up_to words e.object m) count ∙ places_next words e.object (ready_count base e.object)
          ∙ ap (λ (s : ℕ). old ++ range_with_len (s + 1) 255) last_segment)
          ∙ ap set_words (map-append (λ w. get_or words w 0) old row)
          ∙ filter-append (λ word. not (eqb word 0)) (words_at words old) (words_at words row)
          ∙ ap (λ (l : List ℕ). set_words (words_at words old) ++ l) new_row
          ∙ append-nil (set_words (words_at words old))
          ∙ ap (λ (places : List ℕ). set_words (words_at words places)) (places_up_to_same base words e.object (ready_count base e.object) pointers_kept ∙ sym (all_places base e.object))
          ∙ ap set_words entries_kept

      pub extended : HasSegment base e words → IsExtended base e words
      extended segment = record {
        keeps = record {
          size = size;
          rule = rule_kept (ready_count base e.object + 1) count (let lt = may.count in omega (arith, lt)) all_pointers
              (ap (λ (at : ℕ). is_null_or_pointer_to words 256 (get_or words at 0)) next_pointer_is ∙ ap (is_null_or_pointer_to words 256) (none (new_segment e) (omega arith) (omega arith)));
          state = state_kept;
          commit_word = commit_kept;
          entries = new_entries;
          others = kept;
        };
        segments = new_segments;
        new_words = none;
        segment = segment;
      }
        where
          next_pointer_is : segment_pointer_at words e.object (ready_count base e.object + 1) ≡ new_segment e
          next_pointer_is = let next : ready_count base e.object + 1 ≡ suc (ready_count base e.object) = omega arith in ap (segment_pointer_at words e.object) next ∙ last_segment

          not_among : (numbers : List ℕ) (s : ℕ) → ((k : ℕ) → k < length numbers → get_or numbers k 0 ≢ s) → not (is_among numbers s) ≡ true
          not_among [] s differ = refl
          not_among (x ∷ numbers) s differ = head (eqb x s) (ne_eqb x s (differ 0 (omega arith))) (not_among numbers s (λ k lt. differ (suc k) (omega (arith, lt))))
            where
              head : (b : Bool) → b ≡ false → not (is_among numbers s) ≡ true → not (b || is_among numbers s) ≡ true
              head false is rest = rest
              head true is rest = absurd (both_ways true is refl)

          here : is_segment_pointer words e.object (ready_count base e.object) ≡ true
          here =
              let m = ready_count base e.object in
              and_from (is_pointer_to words 256 (get_or words (segment_pointer_at words e.object (ready_count base e.object)) 0)) (not (is_among (map (segment_of words e.object) (below (ready_count base e.object))) (segment_of words e.object (ready_count base e.object))))
              (ap (is_pointer_to words 256) last_word ∙ new_pointer_sound words size)
              (ap (λ (l : List ℕ). not (is_among l (segment_of words e.object (ready_count base e.object)))) old_segments_list
              ∙ ap (λ (s : ℕ). not (is_among (map (segment_of base e.object) (below (ready_count base e.object))) s)) last_segment
              ∙ not_among (map (segment_of base e.object) (below (ready_count base e.object))) (new_segment e)
              (λ k lt is.
              let within : k < ready_count base e.object = omega (arith, lt, length-map-range_with_len (segment_of base e.object) 0 (ready_count base e.object)) in
              may.apart k within (sym (get_or-map-range_with_len (segment_of base e.object) 0 (ready_count base e.object) k k 0 within (omega arith)) ∙ is)))

          all_pointers : (k : ℕ) → k < ready_count base e.object + 1 → is_segment_pointer words e.object k ≡ true
          all_pointers k lt = ⊎_elim
              (λ (last : k ≡ ready_count base e.object). subst (λ (m : ℕ). is_segment_pointer words e.object m ≡ true) (sym last) here)
              (λ before. old_pointers k (omega (arith, lt, before)))
              (cases_eq k (ready_count base e.object))

  -- ── once the object owns the segment ──

  pub record AtSegment (now : List ℕ) : Type 0 where
    pub size : length now ≡ length base
    pub op : get_or now (lane_op_at e.object) 0 ≡ 0
    pub count_is : get_or now (ready_at e.object) 0 ≡ ready_count base e.object
    pub named : get_or now (pointer_after base e.object) 0 ≡ pointer_word (new_segment e)
    pub kept : (w : ℕ) → IsElsewhereOf base e.object e.source w → get_or now w 0 ≡ get_or base w 0
    pub ends : finished (extension_parts base e) base ≡ readied e.object (ready_count base e.object) (new_segment e) now

  -- the pointer to the segment is none of its words, and not the count
  owner_out : (m : ℕ) → m ≤ ready_count base e.object → IsOutside (new_segment e) (segment_pointer_at base e.object m) × (segment_pointer_at base e.object m ≢ ready_at e.object)
  owner_out zero le = let far = segment_behind e.object (new_segment e) page may.number base stands in let number = may.number in (inl (omega (arith, far, number)), λ is. omega (arith, is))
  owner_out (suc m) le =
      let old = taken base may.segments.rules (segment_of base e.object m) (may.segments.live m (omega (arith, le))) in
      let at = old.stands.first in let new_at = stands.first in let fixed = old.stands.page_is.behind_fixed in let number = may.number in let differ = may.apart m (omega (arith, le)) in
      (⊎_elim (λ before. inl (omega (arith, before, at, new_at))) (λ after. inr (omega (arith, after, at, new_at, differ))) (cases_lt (segment_of base e.object m) (new_segment e)), λ is. omega (arith, is, at, fixed, number))

  module _ (now : List ℕ) (at : AtSegment now) where
    abbrev Ready : List ℕ
    Ready = readied e.object (ready_count base e.object) (new_segment e) now

    pub blocks_end : live_blocks (finished (extension_parts base e) base) ≡ live_blocks now
    blocks_end = ap live_blocks at.ends
        ∙ live_blocks-same now (readied e.object (ready_count base e.object) (new_segment e) now)
        (same_heap e.object (new_segment e) page may.number base stands now (readied e.object (ready_count base e.object) (new_segment e) now) (readied_same e.object (ready_count base e.object) (new_segment e) now))

    module _ (words : List ℕ) (same : SameButSegment e.object (new_segment e) now words) where
      pub op_here : get_or words (lane_op_at e.object) 0 ≡ 0
      op_here =
          let far = segment_behind e.object (new_segment e) page may.number base stands in let number = may.number in
          same.each (lane_op_at e.object) (inl (omega (arith, far, number))) (λ is. omega (arith, is, number)) ∙ at.op

      kept_here : (w : ℕ) → IsElsewhereOf base e.object e.source w → IsOutside (new_segment e) w → w ≢ ready_at e.object → get_or words w 0 ≡ get_or base w 0
      kept_here w away out other = same.each w out other ∙ at.kept w away

      named_here : get_or words (pointer_after base e.object) 0 ≡ pointer_word (new_segment e)
      named_here = let out = owner_out (ready_count base e.object) (omega arith) in same.each (pointer_after base e.object) out.0 out.1 ∙ at.named

      has_segment : HasSegment base e words
      has_segment = record {
        blocks_are = live_blocks-same now words (same_heap e.object (new_segment e) page may.number base stands now words same) ∙ sym blocks_end;
        named = named_here;
      }

      pointer_here : is_null_or_pointer_to words 256 (get_or words (pointer_after base e.object) 0) ≡ true
      pointer_here =
          or_right (eqb (get_or words (pointer_after base e.object) 0) 0) (is_pointer_to words 256 (get_or words (pointer_after base e.object) 0))
          (ap (is_pointer_to words 256) named_here ∙ new_pointer_sound words (same.size ∙ at.size))

      mended_here : mended_lane e.object words ≡ words
      mended_here = mended-idle e.object words op_here

    -- while its words are made 0
    zeroed_same : (image : List ℕ) → IsBetween now (words_after (zero_part (new_segment e)) now) image → SameButSegment e.object (new_segment e) now image
    zeroed_same image between = record { size = between.size; each = λ w out _. between-kept (zero_part (new_segment e)) now image w between (zero-out (new_segment e) w out) }

    before_ready : (image : List ℕ) → IsBetween now (words_after (zero_part (new_segment e)) now) image → IsUnextended base e (mended_lane e.object image)
    before_ready image between =
        let same = zeroed_same image between in
        let far = segment_behind e.object (new_segment e) page may.number base stands in let number = may.number in
        let count : get_or image (ready_at e.object) 0 ≡ ready_count base e.object = between-kept (zero_part (new_segment e)) now image (ready_at e.object) between (zero-out (new_segment e) (ready_at e.object) (inl (omega (arith, far, number)))) ∙ at.count_is in
        subst (IsUnextended base e) (sym (mended_here image same))
        (unextended image (same.size ∙ at.size) (kept_here image same) count (pointer_here image same) (inr (has_segment image same)))

    -- and once it is ready
    pub is_extended : IsExtended base e (readied e.object (ready_count base e.object) (new_segment e) now)
    is_extended =
        let same = readied_same e.object (ready_count base e.object) (new_segment e) now in
        extended (readied e.object (ready_count base e.object) (new_segment e) now) (same.size ∙ at.size) (kept_here (readied e.object (ready_count base e.object) (new_segment e) now) same)
        counted (named_here (readied e.object (ready_count base e.object) (new_segment e) now) same) none_set (has_segment (readied e.object (ready_count base e.object) (new_segment e) now) same)
      where
        zeroed : List ℕ
        zeroed = words_after (zero_part (new_segment e)) now

        in_words : (w : ℕ) → w < new_segment e + 256 → w < length (words_after (zero_part (new_segment e)) now)
        in_words w lt = let there = segment_in e.object (new_segment e) page may.number base stands in let same = at.size in let size = length-words_after (zero_part (new_segment e)) now in omega (arith, lt, there, same, size)

        counted : get_or (readied e.object (ready_count base e.object) (new_segment e) now) (ready_at e.object) 0 ≡ ready_count base e.object + 1
        counted = readied_count e.object (ready_count base e.object) (new_segment e) now
            (let far = segment_behind e.object (new_segment e) page may.number base stands in let number = may.number in let there = segment_in e.object (new_segment e) page may.number base stands in let same = at.size in omega (arith, far, number, there, same))

        none_set : (w : ℕ) → new_segment e ≤ w → w < new_segment e + 256 → get_or (readied e.object (ready_count base e.object) (new_segment e) now) w 0 ≡ 0
        none_set w from to = readied_zero e.object (ready_count base e.object) (new_segment e) w now from to
            (let far = segment_behind e.object (new_segment e) page may.number base stands in let number = may.number in omega (arith, far, number))
            (let there = segment_in e.object (new_segment e) page may.number base stands in let same = at.size in omega (arith, there, same))

    pub mended_ready : mended_lane e.object (readied e.object (ready_count base e.object) (new_segment e) now) ≡ readied e.object (ready_count base e.object) (new_segment e) now
    mended_ready = mended_here (readied e.object (ready_count base e.object) (new_segment e) now) (readied_same e.object (ready_count base e.object) (new_segment e) now)

    pub readying_cuts : EachCut (λ image. (IsUnextended base e (mended_lane e.object image)) ⊎ (IsExtended base e (mended_lane e.object image))) (readying_parts e.object (ready_count base e.object) (new_segment e)) now
    readying_cuts =
        let P : List ℕ → Type 0 = λ image. (IsUnextended base e (mended_lane e.object image)) ⊎ (IsExtended base e (mended_lane e.object image)) in
        let zeroed = words_after (zero_part (new_segment e)) now in
        let end : (IsUnextended base e (mended_lane e.object (set zeroed (ready_at e.object) (ready_count base e.object + 1)))) ⊎ (IsExtended base e (mended_lane e.object (set zeroed (ready_at e.object) (ready_count base e.object + 1)))) =
        subst (λ (l : List ℕ). (IsUnextended base e (mended_lane e.object l)) ⊎ (IsExtended base e (mended_lane e.object l))) (sym (readied_is_set e.object (ready_count base e.object) (new_segment e) now)) (inr (subst (IsExtended base e) (sym mended_ready) is_extended)) in (
          λ image between. inl (before_ready image between),
          (
            cut-one_store (λ image. (IsUnextended base e (mended_lane e.object image)) ⊎ (IsExtended base e (mended_lane e.object image))) (ready_at e.object) (ready_count base e.object + 1) zeroed
                (inl (before_ready zeroed (between-end (zero_part (new_segment e)) now))) end,
            end,
          ),
        )
