-- The checks that words are 0.
use Rattle.std.proofs.Common.{◌≡◌, ◌≢◌, ⊎_elim, ℕ, ◌+◌, ◌*◌, ◌/◌, ◌%◌, ◌<◌, ◌≤◌, true, false, not, cond, eqb, ltb, List, [], ◌∷◌, ◌++◌, map, get_or, sym, ◌∙◌, ap, arith}
use Rattle.std.specs.Prelude.{Option, None, Some, filter}
use Rattle.std.specs.Option.{is_some}
use Rattle.std.specs.Bool.{then_some}
use Rattle.std.specs.List.{range_with_len, flat_map}
use Rattle.std.proofs.lemmas.Bool.{cases_eq, eq-eqb, ne_eqb, lt-ltb, le-ltb, cond-true, cond-false, and_from, and_left, and_right, not_from_true, not_from_false}
use Rattle.std.proofs.lemmas.List.{map-append}
use Rattle.std.proofs.lemmas.List.Folds.{flat_map-map}
use Rattle.image_layout.specs.Fixed.{lane_op_at, state_at, commit_word_at, entry_at, table_slot_at, descriptor_at}
use Rattle.image_layout.specs.Places.{below, page_at, page_count}
use Rattle.image_layout.specs.Records.{segment_entry_at}
use Rattle.image_layout.specs.Blocks.{inside_at, is_given_back, descriptor_of}
use Rattle.image_layout.specs.Tables.{table_count}
use Rattle.image_layout.specs.Objects.{ready_count, segment_of, ready_segments, entry_places}
use Rattle.image_layout.specs.Checks.{Check, first_failing}
use Rattle.image_layout.specs.SoundRules.{zero_check, idle_rule, closed_rule, given_back_rule}
use Rattle.image_layout.proofs.Faults.{passes, fails}
use Rattle.image_rules.specs.Parts.{next_slot_rule, object_zeros}
use Rattle.image_rules.proofs.Firsts.{lone, map_none, map_some, map_none_from, map_some_from, flat_none, flat_found, found_none, first_of, then_rest, flat_map-filter, map-flat_map, map-range}
use Rattle.image_rules.proofs.HeapChecks.{outside, within}

module _ (words : List ℕ) where
  abbrev zero_at : ℕ → Check
  zero_at at = zero_check words at

  -- ── words one behind the other ──

  abbrev pub ZerosBetween : ℕ → ℕ → Type 0
  ZerosBetween first place = (x : ℕ) → first ≤ x → x < place → get_or words x 0 ≡ 0

  pub used_found : (first count place : ℕ) → first ≤ place → place < first + count → ZerosBetween first place → get_or words place 0 ≢ 0 → Some place ≡ first_failing (map (zero_check words) (range_with_len first count))
  used_found first count place low high each used =
      sym (map_some_from zero_at count first place low high (λ x above under. eq-eqb (get_or words x 0) 0 (each x above under)) (ne_eqb (get_or words place 0) 0 used))

  pub used_none : (first count place : ℕ) → first + count ≤ place → ZerosBetween first place → None ≡ first_failing (map (zero_check words) (range_with_len first count))
  used_none first count place over each = sym (map_none_from zero_at count first (λ x low high. eq-eqb (get_or words x 0) 0 (each x low (omega arith))))

  pub zeros_more : (first place : ℕ) → ZerosBetween first place → get_or words place 0 ≡ 0 → ZerosBetween first (place + 1)
  zeros_more first place each here x low high =
      ⊎_elim (λ (e : x ≡ place). ap (λ (p : ℕ). get_or words p 0) e ∙ here) (λ apart. each x low (omega (arith, apart))) (cases_eq x place)

  -- ── lanes ──

  abbrev pub IdleBelow : ℕ → Type 0
  IdleBelow lane = (x : ℕ) → x < lane → get_or words (lane_op_at x) 0 ≡ 0

  pub busy_found : (lane op : ℕ) → lane < 16 → IdleBelow lane → op ≡ lane_op_at lane → get_or words op 0 ≢ 0 → Some op ≡ first_failing (idle_rule words)
  unfolding idle_rule
  busy_found lane op lt each at busy =
      ap (λ (p : ℕ). Some p) at
      ∙ sym (map_some (λ x. zero_check words (lane_op_at x)) 16 lane lt (λ x low. eq-eqb (get_or words (lane_op_at x) 0) 0 (each x low))
      (ne_eqb (get_or words (lane_op_at lane) 0) 0 (λ e. busy (ap (λ (p : ℕ). get_or words p 0) at ∙ e))))

  pub idle_none : IdleBelow 16 → None ≡ first_failing (idle_rule words)
  unfolding idle_rule
  idle_none each = sym (map_none (λ x. zero_check words (lane_op_at x)) 16 (λ x lt. eq-eqb (get_or words (lane_op_at x) 0) 0 (each x lt)))

  -- ── the table slot at the table count ──

  pub slot_full : (count : ℕ) → count ≡ table_count words → 32 ≤ count → None ≡ first_failing (next_slot_rule words)
  unfolding next_slot_rule
  slot_full count is full =
      ap (λ (places : List ℕ). first_failing (map (zero_check words) places)) (sym (cond-false (ltb (table_count words) 32) (table_slot_at (table_count words) ∷ []) [] (le-ltb (table_count words) 32 (omega (arith, is, full)))))

  pub slot_is : (count slot : ℕ) → count ≡ table_count words → count < 32 → slot ≡ table_slot_at count → then_some (not (eqb (get_or words slot 0) 0)) slot ≡ first_failing (next_slot_rule words)
  unfolding next_slot_rule
  slot_is count slot is room at =
      lone slot (eqb (get_or words slot 0) 0)
      ∙ ap (λ (p : ℕ). first_failing (map (zero_check words) (p ∷ []))) (at ∙ ap table_slot_at is)
      ∙ ap (λ (places : List ℕ). first_failing (map (zero_check words) places)) (sym (cond-true (ltb (table_count words) 32) (table_slot_at (table_count words) ∷ []) [] (lt-ltb (table_count words) 32 (omega (arith, is, room)))))

  -- ── an object ──

  module _ (object : ℕ) where
    abbrev numbered_segment : ℕ → List Check
    numbered_segment k = map zero_at (map (segment_entry_at (segment_of words object k)) (below 255))

    abbrev of_segment : ℕ → List ℕ
    of_segment segment = map (segment_entry_at segment) (below 255)

    own-zeros : (first : ℕ) → first ≡ entry_at object 0 → map zero_at (entry_places words object) ≡ map zero_at (range_with_len first 60) ++ flat_map numbered_segment (below (ready_count words object))
    unfolding entry_places
    own-zeros first at =
        map-append zero_at (map (entry_at object) (below 60)) (flat_map of_segment (ready_segments words object))
        ∙ ap (λ (xs : List ℕ). map zero_at xs ++ map zero_at (flat_map of_segment (ready_segments words object))) (map-range (entry_at object) 60 0 first (λ k lt. omega (arith, at)))
        ∙ ap (λ (cs : List Check). map zero_at (range_with_len first 60) ++ cs)
        (map-flat_map zero_at of_segment (ready_segments words object) ∙ flat_map-map (λ (s : ℕ). map zero_at (of_segment s)) (segment_of words object) (below (ready_count words object)))

    pub state_used : (state : ℕ) → state ≡ state_at object → get_or words state 0 ≢ 0 → Some state ≡ first_failing (object_zeros words object)
    state_used state at used =
        ap (λ (p : ℕ). Some p) at
        ∙ sym (fails (zero_at (state_at object)) (zero_at (commit_word_at object) ∷ map zero_at (entry_places words object)) (ne_eqb (get_or words (state_at object) 0) 0 (λ e. used (ap (λ (p : ℕ). get_or words p 0) at ∙ e))))

    state_zero : (state : ℕ) → state ≡ state_at object → get_or words state 0 ≡ 0 → first_failing (object_zeros words object) ≡ first_failing (zero_at (commit_word_at object) ∷ map zero_at (entry_places words object))
    state_zero state at idle =
        passes (zero_at (state_at object)) (zero_at (commit_word_at object) ∷ map zero_at (entry_places words object)) (eq-eqb (get_or words (state_at object) 0) 0 (ap (λ (p : ℕ). get_or words p 0) (sym at) ∙ idle))

    pub commit_used : (state commit : ℕ) → state ≡ state_at object → get_or words state 0 ≡ 0 → commit ≡ commit_word_at object → get_or words commit 0 ≢ 0 → Some commit ≡ first_failing (object_zeros words object)
    commit_used state commit state_is idle at used =
        ap (λ (p : ℕ). Some p) at
        ∙ sym (state_zero state state_is idle ∙ fails (zero_at (commit_word_at object)) (map zero_at (entry_places words object)) (ne_eqb (get_or words (commit_word_at object) 0) 0 (λ e. used (ap (λ (p : ℕ). get_or words p 0) at ∙ e))))

    -- the state and the commit word of an object are 0, and its own entries stand from here on
    pub record Begins (state commit first : ℕ) : Type 0 where
      pub state_is : state ≡ state_at object
      pub idle : get_or words state 0 ≡ 0
      pub commit_is : commit ≡ commit_word_at object
      pub none : get_or words commit 0 ≡ 0
      pub first_is : first ≡ entry_at object 0

    both_zero : (state commit first : ℕ) → Begins state commit first
        → first_failing (object_zeros words object) ≡ first_failing (map zero_at (range_with_len first 60) ++ flat_map numbered_segment (below (ready_count words object)))
    both_zero state commit first begins =
        state_zero state begins.state_is begins.idle
        ∙ passes (zero_at (commit_word_at object)) (map zero_at (entry_places words object)) (eq-eqb (get_or words (commit_word_at object) 0) 0 (ap (λ (p : ℕ). get_or words p 0) (sym begins.commit_is) ∙ begins.none))
        ∙ ap first_failing (own-zeros first begins.first_is)

    pub own_used : (state commit first : ℕ) (own : Option ℕ) → Begins state commit first → own ≡ first_failing (map (zero_check words) (range_with_len first 60)) → is_some own ≡ true
        → own ≡ first_failing (object_zeros words object)
    own_used state commit first own begins here some =
        first_of (map zero_at (range_with_len first 60)) (flat_map numbered_segment (below (ready_count words object))) own here some ∙ sym (both_zero state commit first begins)

    abbrev pub SegmentsZero : ℕ → Type 0
    SegmentsZero k = (x : ℕ) → x < k → first_failing (map (zero_check words) (map (segment_entry_at (segment_of words object x)) (below 255))) ≡ None

    segment_zeros : (k segment first : ℕ) → segment ≡ segment_of words object k → first ≡ segment + 1 → map zero_at (range_with_len first 255) ≡ numbered_segment k
    segment_zeros k segment first is at =
        ap (λ (xs : List ℕ). map zero_at xs) (sym (map-range (segment_entry_at segment) 255 0 first (λ x lt. omega (arith, at))))
        ∙ ap (λ (s : ℕ). map zero_at (map (segment_entry_at s) (below 255))) is

    pub segment_used : (state commit first k segment at : ℕ) (own found : Option ℕ) → Begins state commit first → own ≡ first_failing (map (zero_check words) (range_with_len first 60)) → is_some own ≡ false
        → k < ready_count words object → SegmentsZero k → segment ≡ segment_of words object k → at ≡ segment + 1 → found ≡ first_failing (map (zero_check words) (range_with_len at 255)) → is_some found ≡ true
        → found ≡ first_failing (object_zeros words object)
    segment_used state commit first k segment at own found begins here none lt each is behind found_here some =
        then_rest (map zero_at (range_with_len first 60)) (flat_map numbered_segment (below (ready_count words object))) own found here none
        (flat_found numbered_segment (ready_count words object) k found lt each (found_here ∙ ap first_failing (segment_zeros k segment at is behind)) some)
        ∙ sym (both_zero state commit first begins)

    pub segment_zero : (k segment at : ℕ) (found : Option ℕ) → segment ≡ segment_of words object k → at ≡ segment + 1 → found ≡ first_failing (map (zero_check words) (range_with_len at 255)) → is_some found ≡ false
        → first_failing (map (zero_check words) (map (segment_entry_at (segment_of words object k)) (below 255))) ≡ None
    segment_zero k segment at found is behind here none = ap first_failing (sym (segment_zeros k segment at is behind)) ∙ found_none found _ here none

    pub object_closed : (state commit first : ℕ) (own : Option ℕ) → Begins state commit first → own ≡ first_failing (map (zero_check words) (range_with_len first 60)) → is_some own ≡ false
        → SegmentsZero (ready_count words object) → None ≡ first_failing (object_zeros words object)
    object_closed state commit first own begins here none each =
        then_rest (map zero_at (range_with_len first 60)) (flat_map numbered_segment (below (ready_count words object))) own None here none (sym (flat_none numbered_segment (ready_count words object) each))
        ∙ sym (both_zero state commit first begins)

  -- ── all objects ──

  abbrev pub ClosedBelow : ℕ → Type 0
  ClosedBelow k = (x : ℕ) → x < k → first_failing (object_zeros words x) ≡ None

  by_object : first_failing (closed_rule words) ≡ first_failing (flat_map (object_zeros words) (below 16))
  unfolding closed_rule
  by_object = ap first_failing (map-flat_map zero_at (λ (object : ℕ). state_at object ∷ commit_word_at object ∷ entry_places words object) (below 16))

  pub open_found : (k : ℕ) (found : Option ℕ) → k < 16 → ClosedBelow k → found ≡ first_failing (object_zeros words k) → is_some found ≡ true → found ≡ first_failing (closed_rule words)
  open_found k found lt each here some = flat_found (object_zeros words) 16 k found lt each here some ∙ sym by_object

  pub closed_none : ClosedBelow 16 → None ≡ first_failing (closed_rule words)
  closed_none each = sym (by_object ∙ flat_none (object_zeros words) 16 each)

  -- ── pages that were given back ──

  abbrev pub page_zeros : ℕ → List Check
  page_zeros page = cond (is_given_back words page) (map (zero_check words) (range_with_len (page_at page) 512)) []

  abbrev pub PagesZero : ℕ → Type 0
  PagesZero k = (x : ℕ) → x < k → first_failing (page_zeros x) ≡ None

  by_page : first_failing (given_back_rule words) ≡ first_failing (flat_map page_zeros (below (page_count words)))
  unfolding given_back_rule
  by_page =
      ap first_failing (map-flat_map zero_at (λ (page : ℕ). range_with_len (page_at page) 512) (filter (is_given_back words) (below (page_count words)))
      ∙ flat_map-filter (λ (page : ℕ). map zero_at (range_with_len (page_at page) 512)) (is_given_back words) (below (page_count words)))

  given : (page inside place : ℕ) → inside ≡ inside_at words (page / 64) (page % 64) → inside ≡ 0 → place ≡ descriptor_at page → get_or words place 0 ≡ 1 → is_given_back words page ≡ true
  given page inside place is out at one =
      and_from _ _ (not_from_false _ (outside words page inside is out)) (eq-eqb (descriptor_of words page) 1 (ap (λ (p : ℕ). get_or words p 0) (sym at) ∙ one))

  pub page_found : (page inside place : ℕ) (found : Option ℕ) → inside ≡ inside_at words (page / 64) (page % 64) → inside ≡ 0 → place ≡ descriptor_at page → get_or words place 0 ≡ 1
      → page < page_count words → PagesZero page → found ≡ first_failing (map (zero_check words) (range_with_len (512 * page) 512)) → is_some found ≡ true → found ≡ first_failing (given_back_rule words)
  page_found page inside place found is out at one lt each here some =
      flat_found page_zeros (page_count words) page found lt each
      (here ∙ ap first_failing (sym (cond-true (is_given_back words page) (map zero_at (range_with_len (page_at page) 512)) [] (given page inside place is out at one)))) some
      ∙ sym by_page

  pub page_none : (page inside place : ℕ) (found : Option ℕ) → inside ≡ inside_at words (page / 64) (page % 64) → inside ≡ 0 → place ≡ descriptor_at page → get_or words place 0 ≡ 1
      → found ≡ first_failing (map (zero_check words) (range_with_len (512 * page) 512)) → is_some found ≡ false → first_failing (page_zeros page) ≡ None
  page_none page inside place found is out at one here none =
      ap first_failing (cond-true (is_given_back words page) (map zero_at (range_with_len (page_at page) 512)) [] (given page inside place is out at one)) ∙ found_none found _ here none

  pub page_inside : (page inside : ℕ) → inside ≡ inside_at words (page / 64) (page % 64) → inside ≢ 0 → first_failing (page_zeros page) ≡ None
  page_inside page inside is some =
      ap first_failing (cond-false (is_given_back words page) (map zero_at (range_with_len (page_at page) 512)) [] (and_left _ _ (not_from_true _ (within words page inside is some))))

  pub page_other : (page place : ℕ) → place ≡ descriptor_at page → get_or words place 0 ≢ 1 → first_failing (page_zeros page) ≡ None
  page_other page place at other =
      ap first_failing (cond-false (is_given_back words page) (map zero_at (range_with_len (page_at page) 512)) []
      (and_right _ _ (ne_eqb (descriptor_of words page) 1 (λ e. other (ap (λ (p : ℕ). get_or words p 0) at ∙ e)))))

  pub pages_none : PagesZero (page_count words) → None ≡ first_failing (given_back_rule words)
  pages_none each = sym (by_page ∙ flat_none page_zeros (page_count words) each)
