-- A big block of pages some of which were given back: their descriptors are made 0 first.
use Rattle.std.proofs.Common.{◌≡◌, ◌≢◌, ◌⊎◌, inl, inr, ⊎_elim, ℕ, zero, suc, ◌+◌, ◌-◌, ◌*◌, ◌/◌, ◌%◌, ◌<◌, ◌≤◌, Bool, true, false, not, ◌&&◌, cond, eqb, leb, List, [], ◌∷◌, length, map, get_or, set, refl, sym, ◌∙◌, ap, subst, arith}
use Rattle.std.specs.List.{range_with_len, filter, flat_map}
use Rattle.std.proofs.lemmas.List.{get_or-set_same, get_or-set_other, get_or_past, length-set}
use Rattle.std.proofs.lemmas.Bool.{cases_eq, cases_lt, and_parts, eqb-true, eqb-false, ne_eqb, or_from, leb-true}
use Rattle.pm_model.specs.declared.action.Action.{Action}
use Rattle.image_layout.specs.Fixed.{descriptor_at, lane_op_at}
use Rattle.image_layout.specs.Pointer.{pointer_word}
use Rattle.image_layout.specs.Places.{page_of, page_at, page_count}
use Rattle.pm_model.specs.Device.{IsBetween}
use Rattle.pm_model.specs.Plans.{words_after, footprint, IsPart, IsPlan, finished, store, unless_empty}
use Rattle.image_layout.specs.Blocks.{Block, says_small, descriptor_of, bitmap_of, is_inside, is_free_page, is_small_page, blocks_of_page, live_blocks}
use Rattle.pm_model.proofs.Alone.{length-words_after}
use Rattle.pm_model.proofs.PlanLaw.{words_after-kept}
use Rattle.heap_palloc.specs.Lane.{mended_lane}
use Rattle.heap_palloc.specs.Parts.{allocation_parts, forget_given_back, big_allocation_parts}
use Rattle.heap_palloc.specs.Shown.{GainsOne}
use Rattle.heap_palloc.specs.Law.{KeepsElsewhere, Shows, ChangesShown, Allocates, Pages, pages_allocation, MayTakePages, MayTakeRun}
use Rattle.pm_model.proofs.Cuts.{finished-append, each_cut-unless_empty, finished-unless_empty, plan-unless_empty, plan-append}
use Rattle.heap_palloc.proofs.Changes.{shows-idle, changes-front, changes-origin}
use Rattle.heap_palloc.specs.Index.{has_room}
use Rattle.heap_big.proofs.Gains.{flat_map-same}
use Rattle.heap_palloc.proofs.LiveBlocks.{SameInside, is_inside-same, is_small_page-same, blocks_of_page-same}
use Rattle.heap_palloc.proofs.Pages.{free_descriptor-blocks}
use Rattle.heap_palloc.proofs.Rooms.{room-same}
use Rattle.heap_palloc.proofs.Reindex.{low_room}
use Rattle.heap_palloc.proofs.BigPlans.{pages_placed, take_pages_allocates}
use Rattle.heap_palloc.proofs.Survival.{allocation_plan}

-- ── what is forgotten ──

set-zero : (words : List ℕ) (w : ℕ) → get_or (set words w 0) w 0 ≡ 0
set-zero words w = ⊎_elim (λ lt. get_or-set_same words w 0 0 lt) (λ le. get_or_past (set words w 0) w 0 (omega (arith, le, length-set words w 0))) (cases_lt w (length words))

-- from old words to new ones descriptors of 1 may become 0, and nothing else changes
pub record Forgets (old new : List ℕ) : Type 0 where
  pub size : length new ≡ length old
  pub each : (w : ℕ) → (get_or new w 0 ≡ get_or old w 0) ⊎ ((get_or new w 0 ≡ 0) × (get_or old w 0 ≡ 1) × (w % 32768 < 64))

module _ (base : List ℕ) where
  is_given : ℕ → Bool
  is_given page = eqb (get_or base (descriptor_at page) 0) 1

  abbrev after : List ℕ → List ℕ → List ℕ
  after xs words = words_after (forget_given_back base xs) words

  -- the first page of the list, given back or not
  abbrev first_done : Bool → ℕ → List ℕ → List ℕ
  first_done b x words = cond b (set words (descriptor_at x) 0) words

  after-next : (x : ℕ) (xs words : List ℕ) → after (x ∷ xs) words ≡ after xs (first_done (eqb (get_or base (descriptor_at x) 0) 1) x words)
  after-next x xs words = by (eqb (get_or base (descriptor_at x) 0) 1)
    where
      rest : List ℕ
      rest = filter (λ page. eqb (get_or base (descriptor_at page) 0) 1) xs

      by : (b : Bool) → words_after (map (λ page. store (descriptor_at page) 0) (cond b (x ∷ filter (λ page. eqb (get_or base (descriptor_at page) 0) 1) xs) (filter (λ page. eqb (get_or base (descriptor_at page) 0) 1) xs))) words
          ≡ words_after (map (λ page. store (descriptor_at page) 0) (filter (λ page. eqb (get_or base (descriptor_at page) 0) 1) xs)) (cond b (set words (descriptor_at x) 0) words)
      by true = refl
      by false = refl

  after-word : (xs words : List ℕ) (w : ℕ) → (get_or (after xs words) w 0 ≡ get_or words w 0) ⊎ ((get_or (after xs words) w 0 ≡ 0) × (get_or base w 0 ≡ 1) × (w % 32768 < 64))
  after-word [] words w = inl refl
  after-word (x ∷ xs) words w =
      let next = ap (λ (ys : List ℕ). get_or ys w 0) (after-next x xs words) in
      ⊎_elim (λ kept. ⊎_elim (λ same. inl (next ∙ kept ∙ same)) (λ (z, one, low). inr (next ∙ kept ∙ z, one, low)) (step (eqb (get_or base (descriptor_at x) 0) 1) refl)) (λ (z, one, low). inr (next ∙ z, one, low))
      (after-word xs (first_done (eqb (get_or base (descriptor_at x) 0) 1) x words) w)
    where
      step : (b : Bool) → eqb (get_or base (descriptor_at x) 0) 1 ≡ b → (get_or (cond b (set words (descriptor_at x) 0) words) w 0 ≡ get_or words w 0) ⊎ ((get_or (cond b (set words (descriptor_at x) 0) words) w 0 ≡ 0) × (get_or base w 0 ≡ 1) × (w % 32768 < 64))
      step true is = ⊎_elim
          (λ (here : w ≡ descriptor_at x). inr (
            ap (λ (k : ℕ). get_or (set words (descriptor_at x) 0) k 0) here ∙ set-zero words (descriptor_at x),
            ap (λ (k : ℕ). get_or base k 0) here ∙ eqb-true (get_or base (descriptor_at x) 0) 1 is,
            omega (arith, here),
          ))
          (λ apart. inl (get_or-set_other words (descriptor_at x) w 0 0 apart)) (cases_eq w (descriptor_at x))
      step false is = inl refl

  -- each page of a range has the descriptor 0 then, if it had 0 or 1
  after-clean : (n a : ℕ) (words : List ℕ) (page : ℕ) → a ≤ page → page < a + n → get_or base (descriptor_at page) 0 ≤ 1 → get_or words (descriptor_at page) 0 ≡ get_or base (descriptor_at page) 0 → get_or (after (range_with_len a n) words) (descriptor_at page) 0 ≡ 0
  after-clean zero a words page above below le same = absurd (omega arith)
  after-clean (suc n) a words page above below le same =
      ap (λ (ys : List ℕ). get_or ys (descriptor_at page) 0) (after-next a (range_with_len (a + 1) n) words)
      ∙ choose (cases_eq page a) (λ x y e. after-clean n (a + 1) (first_done (eqb (get_or base (descriptor_at a) 0) 1) a words) page x y le e)
    where
      now : List ℕ
      now = cond (eqb (get_or base (descriptor_at a) 0) 1) (set words (descriptor_at a) 0) words

      here : (b : Bool) → eqb (get_or base (descriptor_at a) 0) 1 ≡ b → page ≡ a → get_or (cond b (set words (descriptor_at a) 0) words) (descriptor_at page) 0 ≡ 0
      here true is e = ap (λ (p : ℕ). get_or (set words (descriptor_at a) 0) (descriptor_at p) 0) e ∙ set-zero words (descriptor_at a)
      here false is e =
          let apart : get_or base (descriptor_at page) 0 ≡ 1 → ⊥ = λ x. eqb-false (get_or base (descriptor_at a) 0) 1 is (ap (λ (p : ℕ). get_or base (descriptor_at p) 0) (sym e) ∙ x) in
          same ∙ low (get_or base (descriptor_at page) 0) le apart
        where
          low : (d : ℕ) → d ≤ 1 → (d ≡ 1 → ⊥) → d ≡ 0
          low d h k = omega (arith, h, k)

      kept : (b : Bool) → page ≢ a → get_or (cond b (set words (descriptor_at a) 0) words) (descriptor_at page) 0 ≡ get_or base (descriptor_at page) 0
      kept true apart = get_or-set_other words (descriptor_at a) (descriptor_at page) 0 0 (λ e. apart (omega (arith, e))) ∙ same
      kept false apart = same

      choose : (page ≡ a) ⊎ (page ≡ a → ⊥)
          → (a + 1 ≤ page → page < a + 1 + n → get_or (cond (eqb (get_or base (descriptor_at a) 0) 1) (set words (descriptor_at a) 0) words) (descriptor_at page) 0 ≡ get_or base (descriptor_at page) 0
          → get_or (after (range_with_len (a + 1) n) (cond (eqb (get_or base (descriptor_at a) 0) 1) (set words (descriptor_at a) 0) words)) (descriptor_at page) 0 ≡ 0)
          → get_or (after (range_with_len (a + 1) n) (cond (eqb (get_or base (descriptor_at a) 0) 1) (set words (descriptor_at a) 0) words)) (descriptor_at page) 0 ≡ 0
      choose (inl e) later = ⊎_elim (λ k. k ∙ here (eqb (get_or base (descriptor_at a) 0) 1) refl e) (λ (z, one, lo). z)
          (after-word (range_with_len (a + 1) n) (cond (eqb (get_or base (descriptor_at a) 0) 1) (set words (descriptor_at a) 0) words) (descriptor_at page))
      choose (inr apart) later = later (omega arith) (omega arith) (kept (eqb (get_or base (descriptor_at a) 0) 1) apart)

-- a word that is none of their descriptors isn't written
module _ (base : List ℕ) where
  pub forget-out : (n a w : ℕ) → ((k : ℕ) → a ≤ k → k < a + n → w ≢ descriptor_at k) → footprint (forget_given_back base (range_with_len a n)) w ≡ false
  forget-out zero a w apart = refl
  forget-out (suc n) a w apart = by (eqb (get_or base (descriptor_at a) 0) 1) (forget-out n (a + 1) w (λ k x y. apart k (omega arith) (omega arith)))
    where
      by : (b : Bool) → footprint (forget_given_back base (range_with_len (a + 1) n)) w ≡ false
          → footprint (map (λ page. store (descriptor_at page) 0) (cond b (a ∷ filter (λ page. eqb (get_or base (descriptor_at page) 0) 1) (range_with_len (a + 1) n)) (filter (λ page. eqb (get_or base (descriptor_at page) 0) 1) (range_with_len (a + 1) n)))) w ≡ false
      by true rest = or_from (eqb w (descriptor_at a)) _ (ne_eqb w (descriptor_at a) (apart a (omega arith) (omega arith))) rest
      by false rest = rest

-- ── the heap of what is forgotten ──

module _ (old new : List ℕ) (forgets : Forgets old new) where
  pub forgets-inside : SameInside old new
  forgets-inside = record { each = λ page. ⊎_elim (λ e. ap (λ (d : ℕ). d - 17) e) (λ (z, one, low). omega (arith, z, one)) (forgets.each (descriptor_at page)) }

  -- a word that no descriptor is stays
  pub forgets-kept : (w : ℕ) → 64 ≤ w % 32768 → get_or new w 0 ≡ get_or old w 0
  forgets-kept w le = ⊎_elim (λ e. e) (λ (z, one, low). absurd (omega (arith, le, low))) (forgets.each w)

  some_small : (d : ℕ) → says_small d ≡ true → 2 ≤ d
  some_small d h = leb-true 2 d (and_parts (leb 2 d) (leb d 7) h).0

  -- a small page was one before
  pub forgets-small : (page : ℕ) → is_small_page new page ≡ true → is_small_page old page ≡ true
  forgets-small page small = ⊎_elim (λ e. sym (is_small_page-same old new forgets-inside page e) ∙ small)
      (λ (z, one, low). absurd (let two = some_small (descriptor_of new page) (and_parts (not (is_inside new page)) (says_small (descriptor_of new page)) small).1 in omega (arith, two, z)))
      (forgets.each (descriptor_at page))

  forgets-bitmap : (page : ℕ) → is_small_page old page ≡ true → bitmap_of new page ≡ bitmap_of old page
  forgets-bitmap page small = ⊎_elim (λ e. e)
      (λ (z, one, low). absurd (
      let two = some_small (descriptor_of old page) (and_parts (not (is_inside old page)) (says_small (descriptor_of old page)) small).1 in
      let same : descriptor_of old page ≡ bitmap_of old page = ap (λ (w : ℕ). get_or old w 0) (omega (arith, low)) in
      omega (arith, two, one, same)))
      (forgets.each (page_at page))

  pub forgets_inside_same : (page : ℕ) → is_inside new page ≡ is_inside old page
  forgets_inside_same page = is_inside-same old new forgets-inside page

  pub forgets_bitmap_same : (page : ℕ) → is_small_page old page ≡ true → bitmap_of new page ≡ bitmap_of old page
  forgets_bitmap_same page small = forgets-bitmap page small

  forgets-page : (page : ℕ) → blocks_of_page new page ≡ blocks_of_page old page
  forgets-page page = ⊎_elim (λ e. blocks_of_page-same old new forgets-inside page (record { descriptor = e; bitmap = forgets-bitmap page }))
      (λ (z, one, low). free_descriptor-blocks new page (omega (arith, z)) ∙ sym (free_descriptor-blocks old page (omega (arith, one)))) (forgets.each (descriptor_at page))

  pub forgets-blocks : live_blocks new ≡ live_blocks old
  forgets-blocks =
      flat_map-same (blocks_of_page new) (blocks_of_page old) (page_count new) 0 (λ page x y. forgets-page page)
      ∙ ap (λ (n : ℕ). live_upto n) forgets.size
    where
      live_upto : ℕ → List Block
      live_upto n = flat_map (blocks_of_page old) (range_with_len 0 (n / 512))

-- no page is given back that wasn't
pub forgets_back : (old new : List ℕ) → Forgets old new → (page : ℕ) → descriptor_of new page ≡ 1 → descriptor_of old page ≡ 1
forgets_back old new forgets page is = ⊎_elim (λ e. sym e ∙ is) (λ (z, one, low). one) (forgets.each (descriptor_at page))

-- which pages are free, and which have room, stays
module _ (old new : List ℕ) (forgets : Forgets old new) where
  pub forgets_free : (page : ℕ) → is_free_page new page ≡ is_free_page old page
  forgets_free page =
      let inside = is_inside-same old new (forgets-inside old new forgets) page in
      ap (λ (i : Bool). not i && leb (descriptor_of new page) 1) inside
      ∙ ap (λ (b : Bool). not (is_inside old page) && b) (⊎_elim (λ e. ap (λ (d : ℕ). leb d 1) e) (λ (z, one, low). ap (λ (d : ℕ). leb d 1) z ∙ sym (ap (λ (d : ℕ). leb d 1) one)) (forgets.each (descriptor_at page)))

  pub forgets_room : (class page : ℕ) → has_room new class page ≡ has_room old class page
  forgets_room class page = ⊎_elim
      (λ e. room-same old new page class (is_small_page-same old new (forgets-inside old new forgets) page e) e (forgets-bitmap old new forgets page))
      (λ (z, one, low). low_room new page class (omega (arith, z)) ∙ sym (low_room old page class (omega (arith, one))))
      (forgets.each (descriptor_at page))

-- ── the allocation ──

module _ (base : List ℕ) (r : Pages) (may : MayTakeRun base r) where
  abbrev pub part : List Action
  part = forget_given_back base (range_with_len (page_of (page_at r.first)) r.pages)

  abbrev pub cleaned : List ℕ
  cleaned = words_after part base

  pub image_forgets : (image : List ℕ) → IsBetween base cleaned image → Forgets base image
  image_forgets image between = record {
    size = between.size;
    each = λ w. ⊎_elim (λ e. inl e) (λ e. ⊎_elim (λ k. inl (e ∙ k)) (λ (z, one, low). inr (e ∙ z, one, low)) (after-word base (range_with_len (page_of (page_at r.first)) r.pages) base w)) (between.each w);
  }

  pub cleaned_forgets : Forgets base cleaned
  cleaned_forgets = image_forgets cleaned (record { size = length-words_after part base; each = λ w. inr refl })

  pub keeps_forgotten : (image : List ℕ) → IsBetween base cleaned image → KeepsElsewhere r.lane r.owner r.first r.pages base image
  keeps_forgotten image between = record {
    size = between.size;
    each = λ w e. ⊎_elim (λ k. k) (λ k. k ∙ words_after-kept part base w (forget-out base r.pages (page_of (page_at r.first)) w (λ page x y. e.no_descriptor page (omega (arith, x)) (omega (arith, y))))) (between.each w);
  }

  pub cleaned_between : IsBetween base cleaned cleaned
  cleaned_between = record { size = length-words_after part base; each = λ w. inr refl }

  pub op_kept : (image : List ℕ) → Forgets base image → get_or image (lane_op_at r.lane) 0 ≡ 0
  op_kept image forgets = forgets-kept base image forgets (lane_op_at r.lane) (omega (arith, may.idle.lane_is)) ∙ may.idle.op

  shows_none : (image : List ℕ) → IsBetween base cleaned image → Shows r.lane r.owner r.first r.pages base (live_blocks base) 0 (mended_lane r.lane image)
  shows_none image between =
      let forgets = image_forgets image between in
      shows-idle r.lane r.owner r.first r.pages base (live_blocks base) 0 image (op_kept image forgets) (forgets-blocks base image forgets)
      (forgets-kept base image forgets r.owner may.idle.owner_is.no_descriptor ∙ may.unowned) (keeps_forgotten image between)

  pub cleaned_may : MayTakePages cleaned r
  cleaned_may = record {
    idle = record {
      lane_is = may.idle.lane_is;
      op = op_kept cleaned cleaned_forgets;
      owner_is = record {
        in_image = subst (λ (n : ℕ). r.owner < n) (sym cleaned_forgets.size) may.idle.owner_is.in_image;
        outside_lanes = may.idle.owner_is.outside_lanes;
        no_descriptor = may.idle.owner_is.no_descriptor;
        no_bitmap = λ small. may.idle.owner_is.no_bitmap (forgets-small base cleaned cleaned_forgets (page_of r.owner) small);
      };
    };
    unowned = forgets-kept base cleaned cleaned_forgets r.owner may.idle.owner_is.no_descriptor ∙ may.unowned;
    run = record {
      page_is = record { in_image = subst (λ (n : ℕ). r.first < n / 512) (sym cleaned_forgets.size) may.run.page_is.in_image; behind_header = may.run.page_is.behind_header; behind_fixed = may.run.page_is.behind_fixed };
      in_image = subst (λ (n : ℕ). r.first + r.pages ≤ n / 512) (sym cleaned_forgets.size) may.run.in_image;
      in_segment = may.run.in_segment;
      some = may.run.some;
      not_inside = is_inside-same base cleaned (forgets-inside base cleaned cleaned_forgets) r.first ∙ may.run.not_inside;
    };
    clean = λ k lt. after-clean base r.pages (page_of (page_at r.first)) base (r.first + k) (omega arith) (omega (arith, lt)) (may.are_free k lt) refl;
  }

  pub take_run_words : finished (big_allocation_parts base r.pages (pages_allocation r)) base ≡ finished (allocation_parts (pages_allocation r)) cleaned
  take_run_words = finished-append (unless_empty part) (allocation_parts (pages_allocation r)) base ∙ ap (finished (allocation_parts (pages_allocation r))) (finished-unless_empty part base)

  pub take_run_allocates : Allocates (pages_allocation r) r.first r.pages (512 * r.pages) (big_allocation_parts base r.pages (pages_allocation r)) base
  take_run_allocates =
      let allocates = take_pages_allocates cleaned r cleaned_may in
      let start : finished (unless_empty part) base ≡ cleaned = finished-unless_empty part base in
      let Q : List ℕ → Type 0 = λ words. ChangesShown r.lane r.owner r.first r.pages base (live_blocks base) 0 (live_blocks (finished (allocation_parts (pages_allocation r)) cleaned)) (pointer_word (page_at r.first)) (allocation_parts (pages_allocation r)) words in
      let last = take_run_words in
      let blocks = forgets-blocks base cleaned cleaned_forgets in
      let G : List Block → List ℕ → Type 0 = λ before words. GainsOne before (record { first = page_at r.first; words = 512 * r.pages }) (live_blocks words) in
      let C : List ℕ → Type 0 = λ words. ChangesShown r.lane r.owner r.first r.pages base (live_blocks base) 0 (live_blocks words) (pointer_word (page_at r.first)) (big_allocation_parts base r.pages (pages_allocation r)) base in
      let R : List Block → Type 0 = λ before. ChangesShown r.lane r.owner r.first r.pages cleaned before 0 (live_blocks (finished (allocation_parts (pages_allocation r)) cleaned)) (pointer_word (page_at r.first)) (allocation_parts (pages_allocation r)) cleaned in
      let inner : Q cleaned = changes-origin r.lane r.owner r.first r.pages cleaned (live_blocks base) 0 (live_blocks (finished (allocation_parts (pages_allocation r)) cleaned)) (pointer_word (page_at r.first)) base (allocation_parts (pages_allocation r)) cleaned
      (keeps_forgotten cleaned cleaned_between) (subst R blocks allocates.changes) in
      record {
        gains = subst (G (live_blocks base)) (sym last) (subst (λ (before : List Block). G before (finished (allocation_parts (pages_allocation r)) cleaned)) blocks allocates.gains);
        changes = subst C (sym last) (changes-front r.lane r.owner r.first r.pages base (live_blocks base) 0 (live_blocks (finished (allocation_parts (pages_allocation r)) cleaned)) (pointer_word (page_at r.first))
            (unless_empty part) (allocation_parts (pages_allocation r)) base
            (each_cut-unless_empty (λ image. Shows r.lane r.owner r.first r.pages base (live_blocks base) 0 (mended_lane r.lane image)) part base (λ image between. shows_none image between))
            (subst Q (sym start) inner));
      }

-- ── it is a plan ──

module _ (base : List ℕ) (size : ℕ) where
  forget-part : (n a : ℕ) → (a + n) * 512 ≤ size → IsPart size (forget_given_back base (range_with_len a n))
  forget-part zero a le = tt
  forget-part (suc n) a le = by (eqb (get_or base (descriptor_at a) 0) 1) (forget-part n (a + 1) (omega arith))
    where
      by : (b : Bool) → IsPart size (forget_given_back base (range_with_len (a + 1) n))
          → IsPart size (map (λ page. store (descriptor_at page) 0) (cond b (a ∷ filter (λ page. eqb (get_or base (descriptor_at page) 0) 1) (range_with_len (a + 1) n)) (filter (λ page. eqb (get_or base (descriptor_at page) 0) 1) (range_with_len (a + 1) n))))
      by true rest = (tt, omega arith, λ w hit. let here = eqb-true w (descriptor_at a) hit in forget-out base n (a + 1) w (λ k x y e. omega (arith, here, e, x)), rest)
      by false rest = rest

pub take_run_plan : (base : List ℕ) (r : Pages) → MayTakeRun base r → IsPlan (length base) (big_allocation_parts base r.pages (pages_allocation r))
take_run_plan base r may =
    let part = forget_given_back base (range_with_len (page_of (page_at r.first)) r.pages) in
    plan-append (length base) (unless_empty part) (allocation_parts (pages_allocation r))
    (plan-unless_empty (length base) part (forget-part base (length base) r.pages (page_of (page_at r.first)) (omega (arith, may.run.in_image))))
    (allocation_plan (length base) (pages_allocation r) (pages_placed base r may.idle may.run))
