-- What a scan of the descriptors finds.
use Rattle.std.proofs.Common.{◌≡◌, ◌≢◌, ◌⊎◌, ⊎_elim, ℕ, zero, suc, ◌+◌, ◌*◌, ◌/◌, ◌%◌, ◌<◌, ◌≤◌, Bool, true, false, not, ◌&&◌, cond, ltb, leb, eqb, List, [], ◌∷◌, ◌++◌, length, map, get_or, refl, sym, ◌∙◌, ap, subst, arith, append_assoc, append-nil}
use Rattle.std.specs.Prelude.{◌↔◌, Contains}
use Rattle.std.specs.List.{range_with_len, filter}
use Rattle.std.proofs.lemmas.Bool.{cases_eq, eq-eqb, ne_eqb, lt-ltb, ltb-false, le-ltb, le-leb, leb-true, and_parts, and_from, and_left, and_right, not-true, not_from_true, not_from_false, cond-true, cond-false}
use Rattle.std.proofs.lemmas.List.FromFn.{length-map-range_with_len, get_or-map-range_with_len}
use Rattle.pm_model.specs.Device.{Device, IsWhole}
use Rattle.image_layout.specs.Places.{below, page_count}
use Rattle.image_layout.specs.Blocks.{descriptor_of, says_small, inside_after, inside_at, is_inside, is_free_page, is_small_page, class_of, bitmap_of}
use Rattle.std.proofs.lemmas.List.Elements.{Contains-append_left, Contains-append_right}
use Rattle.image_layout.proofs.Members.{Contains-here, Contains-below, Contains-filter}
use Rattle.heap_big.specs.Descriptors.{inside_next, IsFreePage}
use Rattle.heap_big.specs.Descriptors as big
use Rattle.heap_big.specs.Pages.{IsRising}
use Rattle.heap_big.specs.Runs.{FreeRuns, IsFree, IsWellFormed}
use Rattle.heap_palloc.specs.Index.{HeapIndex, rooms_of, is_full, has_room, pages_with_room, IsIndexOf}
use Rattle.image_layout.proofs.Ranges.{map_append, filter_append, map_more, filter_hit, filter_miss, filter-filter, filter_last}
use Rattle.heap_big.proofs.Rising.{rising-lower, filter-rising}

-- ── a page of a segment ──

-- whether it stands inside a big block
pub inside_here : (words : List ℕ) (segment page : ℕ) → page < 64 → is_inside words (64 * segment + page) ≡ ltb 0 (inside_at words segment page)
unfolding is_inside
inside_here words segment page lt =
    let in_segment : (64 * segment + page) / 64 ≡ segment = omega (arith, lt) in
    let number : (64 * segment + page) % 64 ≡ page = omega (arith, lt) in
    ap (λ (s : ℕ). ltb 0 (inside_at words s ((64 * segment + page) % 64))) in_segment ∙ ap (λ (p : ℕ). ltb 0 (inside_at words segment p)) number

descriptor_here : (words : List ℕ) (segment page : ℕ) → page < 64 → get_or words (segment * 32768 + page) 0 ≡ descriptor_of words (64 * segment + page)
descriptor_here words segment page lt = ap (λ (w : ℕ). get_or words w 0) (omega (arith, lt))

-- the count of the pages that are left of a block, one page on
pub inside_step : (words : List ℕ) (segment page inside value next : ℕ) → page < 64 → inside ≡ inside_at words segment page → value ≡ descriptor_of words (64 * segment + page) → next ≡ inside_after inside value → next ≡ inside_at words segment (page + 1)
inside_step words segment page inside value next lt inside_is value_is next_is =
    next_is ∙ ap (λ (i : ℕ). inside_after i value) inside_is ∙ ap (inside_after (inside_at words segment page)) (value_is ∙ sym (descriptor_here words segment page lt)) ∙ ap (inside_at words segment) (more page)
  where
    more : (n : ℕ) → suc n ≡ n + 1
    more n = omega arith

-- the small pages, one page on
pub small_hit : (words : List ℕ) (segment page inside value number : ℕ) (before small after : List ℕ) → page < 64 → inside ≡ inside_at words segment page → value ≡ descriptor_of words (64 * segment + page) → number ≡ 64 * segment + page
    → small ≡ before ++ filter (is_small_page words) (range_with_len (64 * segment) page) → inside ≡ 0 → says_small value ≡ true → after ≡ small ++ number ∷ [] → after ≡ before ++ filter (is_small_page words) (range_with_len (64 * segment) (page + 1))
small_hit words segment page inside value number before small after lt inside_is value_is number_is was none says is =
    is ∙ ap (λ (n : ℕ). small ++ n ∷ []) number_is ∙ ap (λ (xs : List ℕ). xs ++ (64 * segment + page) ∷ []) was ∙ append_assoc before (filter (is_small_page words) (range_with_len (64 * segment) page)) ((64 * segment + page) ∷ [])
    ∙ ap (λ (xs : List ℕ). before ++ xs) (sym (filter_hit (is_small_page words) (64 * segment) page hit))
  where
    outside : is_inside words (64 * segment + page) ≡ false
    outside = inside_here words segment page lt ∙ le-ltb 0 (inside_at words segment page) (omega (arith, sym inside_is ∙ none))

    hit : is_small_page words (64 * segment + page) ≡ true
    hit = and_from (not (is_inside words (64 * segment + page))) (says_small (descriptor_of words (64 * segment + page))) (not_from_false (is_inside words (64 * segment + page)) outside) (ap says_small (sym value_is) ∙ says)

pub small_miss : (words : List ℕ) (segment page inside value : ℕ) (before small : List ℕ) → page < 64 → inside ≡ inside_at words segment page → value ≡ descriptor_of words (64 * segment + page)
    → small ≡ before ++ filter (is_small_page words) (range_with_len (64 * segment) page) → (inside ≢ 0) ⊎ (says_small value ≡ false) → small ≡ before ++ filter (is_small_page words) (range_with_len (64 * segment) (page + 1))
small_miss words segment page inside value before small lt inside_is value_is was why =
    was ∙ ap (λ (xs : List ℕ). before ++ xs) (sym (filter_miss (is_small_page words) (64 * segment) page (⊎_elim
    (λ some. and_left (not (is_inside words (64 * segment + page))) (says_small (descriptor_of words (64 * segment + page))) (not_from_true (is_inside words (64 * segment + page)) (inside_here words segment page lt ∙ lt-ltb 0 (inside_at words segment page) (omega (arith, inside_is, some)))))
    (λ says. and_right (not (is_inside words (64 * segment + page))) (says_small (descriptor_of words (64 * segment + page))) (ap says_small (sym value_is) ∙ says))
    why)))

-- the descriptors, one page on
pub value_more : (words : List ℕ) (segment page value : ℕ) (before descriptors after : List ℕ) → value ≡ descriptor_of words (64 * segment + page) → descriptors ≡ before ++ map (descriptor_of words) (range_with_len (64 * segment) page)
    → after ≡ descriptors ++ value ∷ [] → after ≡ before ++ map (descriptor_of words) (range_with_len (64 * segment) (page + 1))
value_more words segment page value before descriptors after value_is was is =
    is ∙ ap (λ (v : ℕ). descriptors ++ v ∷ []) value_is ∙ ap (λ (xs : List ℕ). xs ++ descriptor_of words (64 * segment + page) ∷ []) was
    ∙ append_assoc before (map (descriptor_of words) (range_with_len (64 * segment) page)) (descriptor_of words (64 * segment + page) ∷ [])
    ∙ ap (λ (xs : List ℕ). before ++ xs) (sym (map_more (descriptor_of words) (64 * segment) page))

-- ── free pages by the list of descriptors ──

module _ (words : List ℕ) (whole : length words % 32768 ≡ 0) where
  abbrev pub all_descriptors : List ℕ
  all_descriptors = map (descriptor_of words) (below (page_count words))

  pub length-all : length all_descriptors ≡ page_count words
  length-all = length-map-range_with_len (descriptor_of words) 0 (page_count words)

  pub each_descriptor : (page : ℕ) → page < page_count words → get_or all_descriptors page 0 ≡ descriptor_of words page
  each_descriptor page lt = get_or-map-range_with_len (descriptor_of words) 0 (page_count words) page page 0 lt (zero_add page)
    where
      zero_add : (k : ℕ) → 0 + k ≡ k
      zero_add k = omega arith

  pub inside_same : (page : ℕ) → page ≤ page_count words → big.inside_at all_descriptors page ≡ inside_at words (page / 64) (page % 64)
  inside_same zero le = refl
  inside_same (suc page) le = ⊎_elim
      (λ (last : suc page % 64 ≡ 0). cond-true (eqb (suc page % 64) 0) 0 _ (eq-eqb (suc page % 64) 0 last) ∙ sym (ap (inside_at words (suc page / 64)) last))
      (λ more. cond-false (eqb (suc page % 64) 0) 0 (inside_after (big.inside_at all_descriptors page) (get_or all_descriptors page 0)) (ne_eqb (suc page % 64) 0 more)
      ∙ ap (λ (i : ℕ). inside_after i (get_or all_descriptors page 0)) (inside_same page (omega arith))
      ∙ ap (inside_after (inside_at words (page / 64) (page % 64))) (each_descriptor page (omega arith))
      ∙ sym (ap (λ (s : ℕ). inside_at words s (suc page % 64)) (omega (arith, more)) ∙ ap (inside_at words (page / 64)) (next_in page more)))
      (cases_eq (suc page % 64) 0)
    where
      next_in : (page : ℕ) → suc page % 64 ≢ 0 → suc page % 64 ≡ suc (page % 64)
      next_in page more = omega (arith, more)

  -- a page is free by the list exactly where it is free by the words
  pub free_same : (page : ℕ) → IsFreePage all_descriptors page ↔ ((page < page_count words) × (is_free_page words page ≡ true))
  unfolding is_inside
  free_same page = (
    λ is.
        let lt : page < page_count words = subst (λ (n : ℕ). page < n) length-all is.within in
        let outside : inside_at words (page / 64) (page % 64) ≡ 0 = sym (inside_same page (omega (arith, lt))) ∙ is.outside in (
          lt,
          and_from (not (is_inside words page)) (leb (descriptor_of words page) 1) (not_from_false (is_inside words page) (le-ltb 0 (inside_at words (page / 64) (page % 64)) (omega (arith, outside))))
              (le-leb (descriptor_of words page) 1 (subst (λ (v : ℕ). v ≤ 1) (each_descriptor page lt) is.unused)),
        ),
    λ now.
        let parts = and_parts (not (is_inside words page)) (leb (descriptor_of words page) 1) now.1 in
        record {
          within = subst (λ (n : ℕ). page < n) (sym length-all) now.0;
          outside = inside_same page (omega (arith, now.0)) ∙ omega (arith, ltb-false 0 (inside_at words (page / 64) (page % 64)) (not-true (is_inside words page) parts.0));
          unused = subst (λ (v : ℕ). v ≤ 1) (sym (each_descriptor page now.0)) (leb-true (descriptor_of words page) 1 parts.1);
        },
  )

-- ── the pages with room ──

pub room_small : (words : List ℕ) (class page : ℕ) → has_room words class page ≡ true → is_small_page words page ≡ true
room_small words class page has = (and_parts (is_small_page words page) (eqb (class_of words page) class && not (is_full class (bitmap_of words page))) has).0

-- before any was taken from the list of small pages
pub rooms_start : (words : List ℕ) (class : ℕ) (small rooms : List ℕ) → small ≡ filter (is_small_page words) (below (page_count words)) → rooms ≡ [] → filter (has_room words class) small ++ rooms ≡ pages_with_room words class
unfolding pages_with_room
rooms_start words class small rooms is none =
    ap (λ (xs : List ℕ). filter (has_room words class) small ++ xs) none ∙ append-nil (filter (has_room words class) small) ∙ ap (filter (has_room words class)) is
    ∙ filter-filter (has_room words class) (is_small_page words) (below (page_count words)) (room_small words class)

pub rooms_step : (words : List ℕ) (class page : ℕ) (before small rooms after : List ℕ) → before ≡ small ++ page ∷ [] → filter (has_room words class) before ++ rooms ≡ pages_with_room words class
    → after ≡ cond (has_room words class page) (page ∷ rooms) rooms → filter (has_room words class) small ++ after ≡ pages_with_room words class
rooms_step words class page before small rooms after popped was is =
    ap (λ (xs : List ℕ). filter (has_room words class) small ++ xs) is ∙ sym (filter_last (has_room words class) small rooms page) ∙ ap (λ (xs : List ℕ). filter (has_room words class) xs ++ rooms) (sym popped) ∙ was

-- what is popped off a rising list stands below the rest
pub popped_rises : (low : ℕ) (xs : List ℕ) (page high : ℕ) → IsRising low (xs ++ page ∷ []) high → (IsRising low xs page) × (page < high)
popped_rises low [] page high is = (is.0, omega (arith, is.1))
popped_rises low (x ∷ xs) page high is = let rest = popped_rises (x + 1) xs page high is.1 in ((is.0, rest.0), rest.1)

pub rooms_rise : (bound page : ℕ) (rooms after : List ℕ) (has : Bool) → page < bound → IsRising bound rooms 8192 → after ≡ cond has (page ∷ rooms) rooms → IsRising page after 8192
rooms_rise bound page rooms after has lt rises is = subst (λ (xs : List ℕ). IsRising page xs 8192) (sym is) (by has)
  where
    by : (b : Bool) → IsRising page (cond b (page ∷ rooms) rooms) 8192
    by true = (omega arith, rising-lower bound (page + 1) rooms 8192 (omega (arith, lt)) rises)
    by false = rising-lower bound page rooms 8192 (omega (arith, lt)) rises

-- a small page of the list
pub small_in : (words : List ℕ) (page : ℕ) → Contains (filter (is_small_page words) (below (page_count words))) page → (page < page_count words) × (is_small_page words page ≡ true)
small_in words page is =
    let both = Contains-filter (is_small_page words) (below (page_count words)) page is in
    (Contains-below (page_count words) page both.0, both.1)

-- at the end of a segment
pub small_done : (words : List ℕ) (start page pages : ℕ) (before small : List ℕ) → page ≡ pages → small ≡ before ++ filter (is_small_page words) (range_with_len start page) → small ≡ before ++ filter (is_small_page words) (range_with_len start pages)
small_done words start page pages before small same is = is ∙ ap (λ (n : ℕ). before ++ filter (is_small_page words) (range_with_len start n)) same

pub values_done : (words : List ℕ) (start page pages : ℕ) (before values : List ℕ) → page ≡ pages → values ≡ before ++ map (descriptor_of words) (range_with_len start page) → values ≡ before ++ map (descriptor_of words) (range_with_len start pages)
values_done words start page pages before values same is = is ∙ ap (λ (n : ℕ). before ++ map (descriptor_of words) (range_with_len start n)) same

-- a segment more
pub small_segment : (words : List ℕ) (segment pages : ℕ) (small after : List ℕ) → small ≡ filter (is_small_page words) (range_with_len 0 (pages * segment)) → after ≡ small ++ filter (is_small_page words) (range_with_len (pages * segment) pages)
    → after ≡ filter (is_small_page words) (range_with_len 0 (pages * (segment + 1)))
small_segment words segment pages small after was is =
    is ∙ ap (λ (xs : List ℕ). xs ++ filter (is_small_page words) (range_with_len (pages * segment) pages)) was
    ∙ ap (λ (n : ℕ). filter (is_small_page words) (range_with_len 0 (pages * segment)) ++ filter (is_small_page words) (range_with_len n pages)) (zero_add (pages * segment))
    ∙ sym (filter_append (is_small_page words) 0 (pages * segment) pages) ∙ ap (λ (n : ℕ). filter (is_small_page words) (range_with_len 0 n)) (more pages segment)
  where
    zero_add : (n : ℕ) → n ≡ 0 + n
    zero_add n = omega arith

    more : (pages segment : ℕ) → pages * segment + pages ≡ pages * (segment + 1)
    more pages segment = grind arith

pub values_segment : (words : List ℕ) (segment pages : ℕ) (values after : List ℕ) → values ≡ map (descriptor_of words) (range_with_len 0 (pages * segment)) → after ≡ values ++ map (descriptor_of words) (range_with_len (pages * segment) pages)
    → after ≡ map (descriptor_of words) (range_with_len 0 (pages * (segment + 1)))
values_segment words segment pages values after was is =
    is ∙ ap (λ (xs : List ℕ). xs ++ map (descriptor_of words) (range_with_len (pages * segment) pages)) was
    ∙ ap (λ (n : ℕ). map (descriptor_of words) (range_with_len 0 (pages * segment)) ++ map (descriptor_of words) (range_with_len n pages)) (zero_add (pages * segment))
    ∙ sym (map_append (descriptor_of words) 0 (pages * segment) pages) ∙ ap (λ (n : ℕ). map (descriptor_of words) (range_with_len 0 n)) (more pages segment)
  where
    zero_add : (n : ℕ) → n ≡ 0 + n
    zero_add n = omega arith

    more : (pages segment : ℕ) → pages * segment + pages ≡ pages * (segment + 1)
    more pages segment = grind arith

-- ── one small page ──

module _ (words : List ℕ) (page class : ℕ) (small : is_small_page words page ≡ true) (class_is : class_of words page ≡ class) where
  own_room : has_room words class page ≡ not (is_full class (bitmap_of words page))
  own_room = ap (λ (b : Bool). b && (eqb (class_of words page) class && not (is_full class (bitmap_of words page)))) small ∙ ap (λ (b : Bool). b && not (is_full class (bitmap_of words page))) (eq-eqb (class_of words page) class class_is)

  no_room : (c : ℕ) → c ≢ class → has_room words c page ≡ false
  no_room c apart = and_right (is_small_page words page) (eqb (class_of words page) c && not (is_full c (bitmap_of words page)))
      (and_left (eqb (class_of words page) c) (not (is_full c (bitmap_of words page))) (ne_eqb (class_of words page) c (λ e. apart (sym e ∙ class_is))))

  pub add_hit : (old new : ℕ → List ℕ) → is_full class (bitmap_of words page) ≡ false → new class ≡ page ∷ old class → ((c : ℕ) → c ≢ class → new c ≡ old c) → (c : ℕ) → new c ≡ cond (has_room words c page) (page ∷ old c) (old c)
  add_hit old new rest pushed others c = ⊎_elim
      (λ (same : c ≡ class). subst (λ (k : ℕ). new k ≡ cond (has_room words k page) (page ∷ old k) (old k)) (sym same)
      (pushed ∙ sym (cond-true (has_room words class page) (page ∷ old class) (old class) (own_room ∙ not_from_false (is_full class (bitmap_of words page)) rest))))
      (λ apart. others c apart ∙ sym (cond-false (has_room words c page) (page ∷ old c) (old c) (no_room c apart)))
      (cases_eq c class)

  pub add_miss : (old : ℕ → List ℕ) → is_full class (bitmap_of words page) ≡ true → (c : ℕ) → old c ≡ cond (has_room words c page) (page ∷ old c) (old c)
  add_miss old full c = ⊎_elim
      (λ (same : c ≡ class). subst (λ (k : ℕ). old k ≡ cond (has_room words k page) (page ∷ old k) (old k)) (sym same)
      (sym (cond-false (has_room words class page) (page ∷ old class) (old class) (own_room ∙ not_from_true (is_full class (bitmap_of words page)) full))))
      (λ apart. sym (cond-false (has_room words c page) (page ∷ old c) (old c) (no_room c apart)))
      (cases_eq c class)

-- ── the loop over the small pages ──

pub contains_front : (before small : List ℕ) (page other : ℕ) → before ≡ small ++ page ∷ [] → Contains small other → Contains before other
contains_front before small page other is has = subst (λ (xs : List ℕ). Contains xs other) (sym is) (Contains-append_left small (page ∷ []) other has)

pub contains_last : (before small : List ℕ) (page : ℕ) → before ≡ small ++ page ∷ [] → Contains before page
contains_last before small page is = subst (λ (xs : List ℕ). Contains xs page) (sym is) (Contains-append_right small (page ∷ []) page (Contains-here page []))

pub small_rise : (words : List ℕ) (small : List ℕ) → small ≡ filter (is_small_page words) (below (page_count words)) → IsRising 0 small (page_count words)
small_rise words small is = subst (λ (xs : List ℕ). IsRising 0 xs (page_count words)) (sym is)
    (subst (λ (high : ℕ). IsRising 0 (filter (is_small_page words) (below (page_count words))) high) (omega arith) (filter-rising (is_small_page words) (page_count words) 0))

pub popped : (before small : List ℕ) (page bound : ℕ) → before ≡ small ++ page ∷ [] → IsRising 0 before bound → (IsRising 0 small page) × (page < bound)
popped before small page bound is rises = popped_rises 0 small page bound (subst (λ (xs : List ℕ). IsRising 0 xs bound) is rises)

-- ── the index ──

seen_length : (d : Device) (seen : List ℕ) → seen ≡ map (descriptor_of d.cached) (below (page_count d.cached)) → length seen ≡ page_count d.cached
seen_length d seen is = ap (length {A = ℕ}) is ∙ length-map-range_with_len (descriptor_of d.cached) 0 (page_count d.cached)

pub seen_whole : (d : Device) → IsWhole d → (seen : List ℕ) → seen ≡ map (descriptor_of d.cached) (below (page_count d.cached)) → (length seen % 64 ≡ 0) × (length seen ≤ 8192)
seen_whole d whole seen is = (omega (arith, seen_length d seen is, whole.segments), omega (arith, seen_length d seen is, whole.most))

pub opened : (d : Device) → IsWhole d → (seen : List ℕ) (runs : FreeRuns) (index : HeapIndex) → seen ≡ map (descriptor_of d.cached) (below (page_count d.cached))
    → runs.page_count ≡ length seen → ((page : ℕ) → IsFree runs.runs page ↔ IsFreePage seen page) → IsWellFormed runs → index.free ≡ runs
    → ((class : ℕ) → class < 6 → rooms_of index class ≡ pages_with_room d.cached class) → IsIndexOf d.cached index
opened d whole seen runs index is count free well_formed same rooms = record {
  well_formed = subst IsWellFormed (sym same) well_formed;
  pages = ap (λ (f : FreeRuns). f.page_count) same ∙ count ∙ seen_length d seen is;
  runs = λ page.
      let here : IsFreePage seen page ↔ ((page < page_count d.cached) × (is_free_page d.cached page ≡ true)) = subst (λ (xs : List ℕ). IsFreePage xs page ↔ ((page < page_count d.cached) × (is_free_page d.cached page ≡ true))) (sym is) (free_same d.cached whole.segments page) in
      subst (λ (f : FreeRuns). IsFree f.runs page ↔ ((page < page_count d.cached) × (is_free_page d.cached page ≡ true))) (sym same)
      (λ h. here.0 ((free page).0 h), λ h. (free page).1 (here.1 h));
  rooms = rooms;
}
