-- A head in place of free pages: the live blocks gain one big block.
use Rattle.std.proofs.Common.{◌≡◌, ◌≢◌, ◌⊎◌, inl, inr, ⊎_elim, ℕ, zero, suc, ◌+◌, ◌-◌, ◌*◌, ◌/◌, ◌%◌, ◌<◌, ◌≤◌, Bool, true, false, not, ◌&&◌, cond, leb, ltb, List, [], ◌∷◌, length, get_or, refl, sym, ◌∙◌, ap, subst, arith}
use Rattle.std.specs.List.{range_with_len, flat_map}
use Rattle.std.proofs.lemmas.Bool.{cases_Bool, cases_eq, cases_lt, cond-false, ltb-false, lt-ltb, le-leb, lt-leb, not_from_false, not_from_true, and_left, and_right, and_from}
use Rattle.image_layout.specs.Fixed.{descriptor_at}
use Rattle.image_layout.specs.Places.{page_at, page_count}
use Rattle.image_layout.specs.Blocks.{Block, descriptor_of, says_small, inside_after, inside_at, is_inside, is_free_page, is_small_page, bitmap_of, blocks_of_page, live_blocks}
use Rattle.heap_palloc.specs.Shown.{GainsOne}
use Rattle.heap_palloc.specs.Index.{has_room}
use Rattle.heap_big.proofs.Gains.{flat_map-gains}
use Rattle.heap_palloc.proofs.LiveBlocks.{blocks_by, blocks_of_page-by}
use Rattle.heap_palloc.proofs.Pages.{free_descriptor-blocks}
use Rattle.heap_palloc.proofs.Rooms.{room-same, free-same}

-- ── what stands inside big blocks, by place ──

inside_after-same : (inside d e : ℕ) → d ≡ e → inside_after inside d ≡ inside_after inside e
inside_after-same inside d e same = ap (inside_after inside) same

inside_at-next : (words : List ℕ) (segment page next : ℕ) → next ≡ suc page → inside_at words segment next ≡ inside_after (inside_at words segment page) (get_or words (segment * 32768 + page) 0)
inside_at-next words segment page next e = ap (inside_at words segment) e

inside_at-below : (old new : List ℕ) (segment n : ℕ) → ((k : ℕ) → k < n → get_or new (segment * 32768 + k) 0 ≡ get_or old (segment * 32768 + k) 0) → inside_at new segment n ≡ inside_at old segment n
inside_at-below old new segment zero same = refl
inside_at-below old new segment (suc n) same =
    ap (λ (i : ℕ). inside_after i (get_or new (segment * 32768 + n) 0)) (inside_at-below old new segment n (λ k lt. same k (omega arith)))
    ∙ ap (inside_after (inside_at old segment n)) (same n (omega arith))

same-at : (words : List ℕ) (segment a b : ℕ) → a ≡ b → inside_at words segment a ≡ inside_at words segment b
same-at words segment a b e = ap (inside_at words segment) e

-- whether a page stands inside a block is said by the descriptors before it
pub is_inside-before : (old new : List ℕ) (first : ℕ) → ((page : ℕ) → page ≢ first → descriptor_of new page ≡ descriptor_of old page) → is_inside new first ≡ is_inside old first
unfolding is_inside
is_inside-before old new first same = ap (λ (n : ℕ). ltb 0 n) (inside_at-below old new (first / 64) (first % 64) (λ k lt.
    ap (λ (w : ℕ). get_or new w 0) (place k (omega (arith, lt))) ∙ same (first / 64 * 64 + k) (λ e. omega (arith, e, lt)) ∙ sym (ap (λ (w : ℕ). get_or old w 0) (place k (omega (arith, lt))))))
  where
    place : (k : ℕ) → k < 64 → first / 64 * 32768 + k ≡ descriptor_at (first / 64 * 64 + k)
    place k lt = omega (arith, lt)

-- From old words to new ones, free pages from `first` on get the head of a big block, and no other descriptor changes.
pub record HeadsRun (old new : List ℕ) (first pages : ℕ) : Type 0 where
  pub size : length new ≡ length old
  pub in_image : first + pages ≤ page_count old
  pub in_segment : first % 64 + pages ≤ 64
  pub some : 0 < pages
  pub most : pages ≤ 63
  pub not_inside : is_inside old first ≡ false
  pub are_free : (k : ℕ) → k < pages → descriptor_of old (first + k) ≤ 1
  pub head : descriptor_of new first ≡ 16 + pages
  pub others : (page : ℕ) → page ≢ first → descriptor_of new page ≡ descriptor_of old page
  pub bitmaps : (page : ℕ) → is_small_page old page ≡ true → is_small_page new page ≡ true → bitmap_of new page ≡ bitmap_of old page

module _ (old new : List ℕ) (first pages : ℕ) (run : HeadsRun old new first pages) where
  abbrev segment : ℕ
  segment = first / 64

  abbrev at : ℕ
  at = first % 64

  descriptor-place : (words : List ℕ) (s k : ℕ) → k < 64 → get_or words (s * 32768 + k) 0 ≡ descriptor_of words (s * 64 + k)
  descriptor-place words s k lt = ap (λ (w : ℕ). get_or words w 0) (omega (arith, lt))

  kept : (s k : ℕ) → k < 64 → s * 64 + k ≢ first → get_or new (s * 32768 + k) 0 ≡ get_or old (s * 32768 + k) 0
  kept s k lt apart = descriptor-place new s k lt ∙ run.others (s * 64 + k) apart ∙ sym (descriptor-place old s k lt)

  old_start : inside_at old segment at ≡ 0
  unfolding is_inside
  old_start = let le = ltb-false 0 (inside_at old (first / 64) (first % 64)) run.not_inside in omega (arith, le)

  -- none of the free pages is inside a block, nor is the page behind them
  old_run : (j : ℕ) → j ≤ pages → inside_at old segment (at + j) ≡ 0
  old_run zero le = same-at old segment (at + 0) at (omega arith) ∙ old_start
  old_run (suc j) le =
      inside_at-next old segment (at + j) (at + suc j) (omega arith)
      ∙ ap (λ (i : ℕ). inside_after i (get_or old (segment * 32768 + (at + j)) 0)) (old_run j (omega arith))
      ∙ low
    where
      d : get_or old (first / 64 * 32768 + (first % 64 + j)) 0 ≡ descriptor_of old (first + j)
      d = descriptor-place old (first / 64) (first % 64 + j) (omega (arith, le, run.in_segment)) ∙ ap (descriptor_of old) (omega arith)

      low : get_or old (first / 64 * 32768 + (first % 64 + j)) 0 - 17 ≡ 0
      low = let small = run.are_free j (omega arith) in omega (arith, small, d)

  new_start : inside_at new segment at ≡ 0
  new_start = inside_at-below old new segment at (λ k lt. kept segment k (omega (arith, lt)) (λ e. omega (arith, e, lt))) ∙ old_start

  -- behind the head so many pages are left of the block
  new_run : (j : ℕ) → j < pages → inside_at new segment (at + 1 + j) ≡ pages - (j + 1)
  new_run zero lt =
      inside_at-next new segment at (at + 1 + 0) (omega arith)
      ∙ ap (λ (i : ℕ). inside_after i (get_or new (segment * 32768 + at) 0)) new_start
      ∙ head_is
    where
      d : get_or new (first / 64 * 32768 + first % 64) 0 ≡ 16 + pages
      d = descriptor-place new (first / 64) (first % 64) (omega arith) ∙ ap (descriptor_of new) (omega arith) ∙ run.head

      head_is : get_or new (first / 64 * 32768 + first % 64) 0 - 17 ≡ pages - (0 + 1)
      head_is = omega (arith, d)
  new_run (suc j) lt =
      inside_at-next new segment (at + 1 + j) (at + 1 + suc j) (omega arith)
      ∙ ap (λ (i : ℕ). inside_after i (get_or new (segment * 32768 + (at + 1 + j)) 0)) (new_run j (omega arith) ∙ left_is)
    where
      left_is : pages - (j + 1) ≡ suc (pages - (suc j + 1))
      left_is = omega (arith, lt)

  -- behind the block all is as before
  new_rest : (m : ℕ) → at + pages + m ≤ 64 → inside_at new segment (at + pages + m) ≡ inside_at old segment (at + pages + m)
  new_rest zero le =
      let none : pages - (pages - 1 + 1) ≡ 0 = omega (arith, run.some) in
      same-at new segment (at + pages + 0) (at + 1 + (pages - 1)) (omega (arith, run.some)) ∙ new_run (pages - 1) (omega (arith, run.some)) ∙ none
      ∙ sym (same-at old segment (at + pages + 0) (at + pages) (omega arith) ∙ old_run pages (omega arith))
  new_rest (suc m) le =
      inside_at-next new segment (at + pages + m) (at + pages + suc m) (omega arith)
      ∙ ap (λ (i : ℕ). inside_after i (get_or new (segment * 32768 + (at + pages + m)) 0)) (new_rest m (omega arith))
      ∙ ap (inside_after (inside_at old segment (at + pages + m))) (kept segment (at + pages + m) (omega arith) (λ e. omega (arith, e, run.some)))
      ∙ sym (inside_at-next old segment (at + pages + m) (at + pages + suc m) (omega arith))

  -- ── by page ──

  at-page : (words : List ℕ) (page s k : ℕ) → page / 64 ≡ s → page % 64 ≡ k → inside_at words (page / 64) (page % 64) ≡ inside_at words s k
  at-page words page s k x y = ap (λ (t : ℕ). inside_at words t (page % 64)) x ∙ ap (inside_at words s) y

  -- pages outside the run stand inside blocks as before
  pub inside_elsewhere : (page : ℕ) → (page < first) ⊎ ((first + pages ≤ page) ⊎ (page ≡ first)) → is_inside new page ≡ is_inside old page
  unfolding is_inside
  inside_elsewhere page where_is = ap (λ (n : ℕ). ltb 0 n) (by_segment (cases_eq (page / 64) (first / 64)))
    where
      by_segment : (page / 64 ≡ first / 64) ⊎ (page / 64 ≡ first / 64 → ⊥) → inside_at new (page / 64) (page % 64) ≡ inside_at old (page / 64) (page % 64)
      by_segment (inr apart) = inside_at-below old new (page / 64) (page % 64) (λ k lt. kept (page / 64) k (omega (arith, lt)) (λ e. apart (omega (arith, e, lt))))
      by_segment (inl same) = by_place where_is
        where
          front : page ≤ first → inside_at new (page / 64) (page % 64) ≡ inside_at old (page / 64) (page % 64)
          front le = inside_at-below old new (page / 64) (page % 64) (λ k lt. kept (page / 64) k (omega (arith, lt)) (λ e. omega (arith, e, lt, le, same)))

          back : first + pages ≤ page → inside_at new (page / 64) (page % 64) ≡ inside_at old (page / 64) (page % 64)
          back le =
              let m : page % 64 ≡ first % 64 + pages + (page - (first + pages)) = omega (arith, le, same, run.in_segment) in
              at-page new page (first / 64) (first % 64 + pages + (page - (first + pages))) same m
              ∙ new_rest (page - (first + pages)) (omega (arith, m))
              ∙ sym (at-page old page (first / 64) (first % 64 + pages + (page - (first + pages))) same m)

          by_place : (page < first) ⊎ ((first + pages ≤ page) ⊎ (page ≡ first)) → inside_at new (page / 64) (page % 64) ≡ inside_at old (page / 64) (page % 64)
          by_place w = ⊎_elim (λ h. front (omega arith)) (λ r. ⊎_elim back (λ h. front (omega arith)) r) w

  -- and those behind the head inside the new one
  pub inside_run : (page : ℕ) → first < page → page < first + pages → is_inside new page ≡ true
  unfolding is_inside
  inside_run page above below = lt-ltb 0 (inside_at new (page / 64) (page % 64)) (subst (λ (n : ℕ). 0 < n) (sym value) (omega arith))
    where
      value : inside_at new (page / 64) (page % 64) ≡ pages - (page - first - 1 + 1)
      value = at-page new page (first / 64) (first % 64 + 1 + (page - first - 1)) (omega (arith, above, below, run.in_segment)) (omega (arith, above, below, run.in_segment)) ∙ new_run (page - first - 1) (omega arith)

  -- ── the blocks ──

  -- a page of the run had no block
  run-none : (page : ℕ) → first ≤ page → page < first + pages → blocks_of_page old page ≡ []
  run-none page le lt = free_descriptor-blocks old page (subst (λ (p : ℕ). descriptor_of old p ≤ 1) (omega (arith, le)) (run.are_free (page - first) (omega (arith, le, lt))))

  inside-none : (page : ℕ) → is_inside new page ≡ true → blocks_of_page new page ≡ []
  inside-none page hit = blocks_of_page-by new page ∙ ap (λ (i : Bool). blocks_by i (descriptor_of new page) (bitmap_of new page) page) hit

  big_block_of : Block
  big_block_of = record { first = page_at first; words = 512 * pages }

  head-one : blocks_of_page new first ≡ record { first = page_at first; words = 512 * pages } ∷ []
  head-one =
      blocks_of_page-by new first
      ∙ ap (λ (i : Bool). blocks_by i (descriptor_of new first) (bitmap_of new first) first) (inside_elsewhere first (inr (inr refl)) ∙ run.not_inside)
      ∙ ap (λ (d : ℕ). blocks_by false d (bitmap_of new first) first) run.head
      ∙ cond-false (says_small (16 + pages)) _ _ (and_right (leb 2 (16 + pages)) (leb (16 + pages) 7) (lt-leb (16 + pages) 7 (omega arith)))
      ∙ ap (λ (b : Bool). cond b (record { first = page_at first; words = 512 * (16 + pages - 16) } ∷ []) []) (and_from (leb 17 (16 + pages)) (leb (16 + pages) 79) (le-leb 17 (16 + pages) (omega (arith, run.some))) (le-leb (16 + pages) 79 (omega (arith, run.most))))
      ∙ ap (λ (n : ℕ). single (512 * n)) (omega arith)
    where
      single : ℕ → List Block
      single n = record { first = page_at first; words = n } ∷ []

  elsewhere-same : (page : ℕ) → (page < first) ⊎ ((first + pages ≤ page) ⊎ (page ≡ first)) → page ≢ first → blocks_of_page old page ≡ blocks_of_page new page
  elsewhere-same page where_is apart =
      blocks_of_page-by old page
      ∙ ap (λ (i : Bool). blocks_by i (descriptor_of old page) (bitmap_of old page) page) (sym inside)
      ∙ ap (λ (d : ℕ). blocks_by (is_inside new page) d (bitmap_of old page) page) (sym (run.others page apart))
      ∙ ⊎_elim (λ small. ap (λ (b : ℕ). blocks_by (is_inside new page) (descriptor_of new page) b page) (sym (run.bitmaps page (sym small_is ∙ small) small)))
      (λ other. cond-false (is_small_page new page) _ _ other ∙ sym (cond-false (is_small_page new page) _ _ other)) (cases_Bool (is_small_page new page))
      ∙ sym (blocks_of_page-by new page)
    where
      inside : is_inside new page ≡ is_inside old page
      inside = inside_elsewhere page where_is

      small_is : is_small_page new page ≡ is_small_page old page
      small_is = ap (λ (i : Bool). not i && says_small (descriptor_of new page)) (inside_elsewhere page where_is) ∙ ap (λ (d : ℕ). not (is_inside old page) && says_small d) (run.others page apart)

  pub head-gains : GainsOne (live_blocks old) (record { first = page_at first; words = 512 * pages }) (live_blocks new)
  head-gains =
      subst (λ (n : ℕ). GainsOne (live_blocks old) (record { first = page_at first; words = 512 * pages }) (flat_map (blocks_of_page new) (range_with_len 0 (n / 512)))) (sym run.size)
      (flat_map-gains (blocks_of_page old) (blocks_of_page new) first (record { first = page_at first; words = 512 * pages }) here (page_count old) 0 (omega arith) (omega (arith, run.in_image, run.some))
      (λ page x y apart. each page apart (cases_lt page first) (cases_lt page (first + pages))))
    where
      here : GainsOne (blocks_of_page old first) (record { first = page_at first; words = 512 * pages }) (blocks_of_page new first)
      here = record { front = []; back = []; old_is = run-none first (omega arith) (omega (arith, run.some)); new_is = head-one }

      each : (page : ℕ) → page ≢ first → (page < first) ⊎ (first ≤ page) → (page < first + pages) ⊎ (first + pages ≤ page) → blocks_of_page old page ≡ blocks_of_page new page
      each page apart (inl below) _ = elsewhere-same page (inl below) apart
      each page apart (inr above) (inl within) = run-none page above within ∙ sym (inside-none page (inside_run page (omega (arith, above, apart)) within))
      each page apart (inr above) (inr behind) = elsewhere-same page (inr (inl behind)) apart

  -- ── which pages are free, and which have room ──

  old_outside : (page : ℕ) → first ≤ page → page < first + pages → is_inside old page ≡ false
  unfolding is_inside
  old_outside page le lt = ap (λ (n : ℕ). ltb 0 n) (at-page old page (first / 64) (first % 64 + (page - first)) (omega (arith, le, lt, run.in_segment)) (omega (arith, le, lt, run.in_segment)) ∙ old_run (page - first) (omega (arith, le, lt)))

  pub old_low : (page : ℕ) → first ≤ page → page < first + pages → descriptor_of old page ≤ 1
  old_low page le lt = subst (λ (p : ℕ). descriptor_of old p ≤ 1) (omega (arith, le)) (run.are_free (page - first) (omega (arith, le, lt)))

  -- the pages of the run were free
  pub run_was_free : (page : ℕ) → first ≤ page → page < first + pages → is_free_page old page ≡ true
  run_was_free page le lt = and_from (not (is_inside old page)) (leb (descriptor_of old page) 1) (not_from_false (is_inside old page) (old_outside page le lt)) (le-leb (descriptor_of old page) 1 (old_low page le lt))

  head_high : leb (descriptor_of new first) 1 ≡ false
  head_high = lt-leb (descriptor_of new first) 1 (omega (arith, run.head))

  -- and aren't any more
  pub run_is_taken : (page : ℕ) → first ≤ page → page < first + pages → is_free_page new page ≡ false
  run_is_taken page le lt = ⊎_elim
      (λ (same : page ≡ first). and_right (not (is_inside new page)) (leb (descriptor_of new page) 1) (ap (λ (p : ℕ). leb (descriptor_of new p) 1) same ∙ head_high))
      (λ apart. and_left (not (is_inside new page)) (leb (descriptor_of new page) 1) (not_from_true (is_inside new page) (inside_run page (omega (arith, le, apart)) lt)))
      (cases_eq page first)

  -- all others are as before
  pub elsewhere_free : (page : ℕ) → (page < first) ⊎ (first + pages ≤ page) → is_free_page new page ≡ is_free_page old page
  elsewhere_free page where_is =
      free-same old new page
      (inside_elsewhere page (⊎_elim (λ h. inl h) (λ h. inr (inl h)) where_is))
      (run.others page (λ e. ⊎_elim (λ h. omega (arith, h, e)) (λ h. omega (arith, h, e, run.some)) where_is))

  pub no_small_old : (page : ℕ) → first ≤ page → page < first + pages → is_small_page old page ≡ false
  no_small_old page le lt = and_right (not (is_inside old page)) (says_small (descriptor_of old page)) (and_left (leb 2 (descriptor_of old page)) (leb (descriptor_of old page) 7) (lt-leb 2 (descriptor_of old page) (omega (arith, old_low page le lt))))

  pub no_small_new : (page : ℕ) → first ≤ page → page < first + pages → is_small_page new page ≡ false
  no_small_new page le lt = ⊎_elim
      (λ (same : page ≡ first). and_right (not (is_inside new page)) (says_small (descriptor_of new page)) (ap (λ (p : ℕ). says_small (descriptor_of new p)) same
      ∙ and_right (leb 2 (descriptor_of new first)) (leb (descriptor_of new first) 7) (lt-leb (descriptor_of new first) 7 (omega (arith, run.head)))))
      (λ apart. and_left (not (is_inside new page)) (says_small (descriptor_of new page)) (not_from_true (is_inside new page) (inside_run page (omega (arith, le, apart)) lt)))
      (cases_eq page first)

  -- no page gains or loses a free slot
  pub heads_room : (class page : ℕ) → has_room new class page ≡ has_room old class page
  heads_room class page = each (cases_lt page first) (cases_lt page (first + pages))
    where
      outside : (page < first) ⊎ (first + pages ≤ page) → has_room new class page ≡ has_room old class page
      outside where_is =
          let apart : page ≢ first = λ e. ⊎_elim (λ h. omega (arith, h, e)) (λ h. omega (arith, h, e, run.some)) where_is in
          let small : is_small_page new page ≡ is_small_page old page = ap (λ (i : Bool). not i && says_small (descriptor_of new page)) (inside_elsewhere page (⊎_elim (λ h. inl h) (λ h. inr (inl h)) where_is))
          ∙ ap (λ (d : ℕ). not (is_inside old page) && says_small d) (run.others page apart) in
          room-same old new page class small (run.others page apart) (λ hit. run.bitmaps page hit (small ∙ hit))

      within : first ≤ page → page < first + pages → has_room new class page ≡ has_room old class page
      within le lt = and_left (is_small_page new page) _ (no_small_new page le lt) ∙ sym (and_left (is_small_page old page) _ (no_small_old page le lt))

      each : (page < first) ⊎ (first ≤ page) → (page < first + pages) ⊎ (first + pages ≤ page) → has_room new class page ≡ has_room old class page
      each (inl before) _ = outside (inl before)
      each (inr from) (inl to) = within from to
      each (inr from) (inr behind) = outside (inr behind)
