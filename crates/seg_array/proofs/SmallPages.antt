-- The allocation of a big block makes no page small.
use Rattle.std.proofs.Common.{◌≡◌, ◌≢◌, ◌⊎◌, inl, inr, ⊎_elim, ℕ, ◌+◌, ◌-◌, ◌/◌, ◌%◌, ◌<◌, ◌≤◌, true, false, not, leb, List, length, set, sym, ◌∙◌, ap, subst, arith}
use Rattle.std.proofs.lemmas.List.{get_or-set_same, get_or-set_other, length-set, get_or_past}
use Rattle.std.proofs.lemmas.Bool.{cases_eq, cases_lt, both_ways, not-true, not_from_false, and_right, and_parts, and_from}
use Rattle.image_layout.specs.Fixed.{descriptor_at}
use Rattle.image_layout.specs.Places.{page_at}
use Rattle.pm_model.specs.Plans.{finished}
use Rattle.image_layout.specs.Blocks.{says_small, descriptor_of, bitmap_of, is_inside, is_free_page, is_small_page}
use Rattle.image_layout.proofs.Heap.{small_class}
use Rattle.heap_palloc.specs.Parts.{allocation_parts, big_allocation_parts}
use Rattle.heap_palloc.specs.Law.{Pages, pages_allocation, MayTakeRun}
use Rattle.heap_palloc.proofs.LiveBlocks.{SameInside, is_inside-same, is_small_page-same}
use Rattle.heap_palloc.proofs.BigBlocks.{HeadsRun, elsewhere_free}
use Rattle.heap_palloc.proofs.BigPlans.{take_heads}
use Rattle.heap_palloc.proofs.GivenBack.{cleaned, cleaned_forgets, cleaned_may, take_run_words, forgets-small}

module _ (old new : List ℕ) (first pages : ℕ) (run : HeadsRun old new first pages) (page : ℕ) (header : 0 < page % 64) (small : is_small_page new page ≡ true) where
  parts : (not (is_inside new page) ≡ true) × (says_small (descriptor_of new page) ≡ true)
  parts = and_parts (not (is_inside new page)) (says_small (descriptor_of new page)) small

  low : (2 ≤ descriptor_of new page) × (descriptor_of new page ≤ 7)
  low = small_class (descriptor_of new page) parts.1

  no_head : page ≢ first
  no_head e = let same = ap (descriptor_of new) e in omega (arith, same, run.head, low.1, run.some)

  old_same : descriptor_of new page ≡ descriptor_of old page
  old_same = run.others page no_head

  outside : (page < first) ⊎ (first + pages ≤ page)
  outside = ⊎_elim (λ before. inl before)
      (λ from. ⊎_elim (λ within. absurd (taken from within)) (λ behind. inr behind) (cases_lt page (first + pages)))
      (cases_lt page first)
    where
      taken : first ≤ page → page < first + pages → ⊥
      taken le lt =
          let is : first + (page - first) ≡ page = omega (arith, le) in
          let same = ap (descriptor_of old) is in
          let free = run.are_free (page - first) (omega (arith, le, lt)) in
          omega (arith, free, same, old_same, low.0)

  -- the same words with the page's descriptor 0
  freed : List ℕ → List ℕ
  freed words = set words (descriptor_at page) 0

  here : (words : List ℕ) → descriptor_of (set words (descriptor_at page) 0) page ≡ 0
  here words = ⊎_elim (λ lt. get_or-set_same words (descriptor_at page) 0 0 lt) (λ le. get_or_past (set words (descriptor_at page) 0) (descriptor_at page) 0 (omega (arith, le, length-set words (descriptor_at page) 0))) (cases_lt (descriptor_at page) (length words))

  elsewhere : (words : List ℕ) (other : ℕ) → other ≢ page → descriptor_of (set words (descriptor_at page) 0) other ≡ descriptor_of words other
  elsewhere words other apart = get_or-set_other words (descriptor_at page) (descriptor_at other) 0 0 (λ e. apart (omega (arith, e)))

  bitmap : (words : List ℕ) (other : ℕ) → bitmap_of (set words (descriptor_at page) 0) other ≡ bitmap_of words other
  bitmap words other = get_or-set_other words (descriptor_at page) (page_at other) 0 0 (λ e. omega (arith, e, header))

  same_inside : (words : List ℕ) → descriptor_of words page ≤ 7 → SameInside words (set words (descriptor_at page) 0)
  same_inside words le = record {
    each = λ other. ⊎_elim
        (λ (is : other ≡ page). let x = ap (descriptor_of (set words (descriptor_at page) 0)) is in let y = ap (descriptor_of words) is in omega (arith, x, y, here words, le))
        (λ apart. ap (λ (d : ℕ). d - 17) (elsewhere words other apart)) (cases_eq other page);
  }

  no_small : (words : List ℕ) → is_small_page (set words (descriptor_at page) 0) page ≡ false
  no_small words = and_right (not (is_inside (set words (descriptor_at page) 0) page)) (says_small (descriptor_of (set words (descriptor_at page) 0) page)) (ap says_small (here words))

  small-kept : (words : List ℕ) → descriptor_of words page ≤ 7 → (other : ℕ) → is_small_page (set words (descriptor_at page) 0) other ≡ true → is_small_page words other ≡ true
  small-kept words le other hit = ⊎_elim
      (λ (is : other ≡ page). absurd (both_ways (is_small_page (set words (descriptor_at page) 0) page) (no_small words) (ap (is_small_page (set words (descriptor_at page) 0)) (sym is) ∙ hit)))
      (λ apart. sym (is_small_page-same words (set words (descriptor_at page) 0) (same_inside words le) other (elsewhere words other apart)) ∙ hit)
      (cases_eq other page)

  heads : HeadsRun (set old (descriptor_at page) 0) (set new (descriptor_at page) 0) first pages
  heads =
      let le : descriptor_of old page ≤ 7 = omega (arith, low.1, old_same) in
      record {
        size = length-set new (descriptor_at page) 0 ∙ run.size ∙ sym (length-set old (descriptor_at page) 0);
        in_image = subst (λ (n : ℕ). first + pages ≤ n / 512) (sym (length-set old (descriptor_at page) 0)) run.in_image;
        in_segment = run.in_segment;
        some = run.some;
        most = run.most;
        not_inside = is_inside-same old (set old (descriptor_at page) 0) (same_inside old le) first ∙ run.not_inside;
        are_free = λ k lt. ⊎_elim
            (λ (is : first + k ≡ page). let x = ap (descriptor_of (set old (descriptor_at page) 0)) is in omega (arith, x, here old))
            (λ apart. let x = elsewhere old (first + k) apart in let free = run.are_free k lt in omega (arith, x, free))
            (cases_eq (first + k) page);
        head = elsewhere new first (λ e. no_head (sym e)) ∙ run.head;
        others = λ other apart. ⊎_elim
            (λ (is : other ≡ page). ap (descriptor_of (set new (descriptor_at page) 0)) is ∙ here new ∙ sym (ap (descriptor_of (set old (descriptor_at page) 0)) is ∙ here old))
            (λ away. elsewhere new other away ∙ run.others other apart ∙ sym (elsewhere old other away))
            (cases_eq other page);
        bitmaps = λ other x y. bitmap new other ∙ run.bitmaps other (small-kept old le other x) (small-kept new low.1 other y) ∙ sym (bitmap old other);
      }

  pub heads-small : is_small_page old page ≡ true
  heads-small =
      let le : descriptor_of old page ≤ 7 = omega (arith, low.1, old_same) in
      let now : is_inside (set new (descriptor_at page) 0) page ≡ false = is_inside-same new (set new (descriptor_at page) 0) (same_inside new low.1) page ∙ not-true (is_inside new page) parts.0 in
      let free : is_free_page (set new (descriptor_at page) 0) page ≡ true =
      and_from (not (is_inside (set new (descriptor_at page) 0) page)) (leb (descriptor_of (set new (descriptor_at page) 0) page) 1) (not_from_false (is_inside (set new (descriptor_at page) 0) page) now) (ap (λ (d : ℕ). leb d 1) (here new)) in
      let was : is_free_page (set old (descriptor_at page) 0) page ≡ true = sym (elsewhere_free (set old (descriptor_at page) 0) (set new (descriptor_at page) 0) first pages heads page outside) ∙ free in
      let before = not-true (is_inside (set old (descriptor_at page) 0) page) (and_parts (not (is_inside (set old (descriptor_at page) 0) page)) (leb (descriptor_of (set old (descriptor_at page) 0) page) 1) was).0 in
      let unsaid : is_inside old page ≡ false = sym (is_inside-same old (set old (descriptor_at page) 0) (same_inside old le) page) ∙ before in
      and_from (not (is_inside old page)) (says_small (descriptor_of old page)) (not_from_false (is_inside old page) unsaid) (ap says_small (sym old_same) ∙ parts.1)

-- a page that is small after the allocation was small before it
pub taken-small : (base : List ℕ) (r : Pages) (may : MayTakeRun base r) (page : ℕ) → 0 < page % 64 → is_small_page (finished (big_allocation_parts base r.pages (pages_allocation r)) base) page ≡ true → is_small_page base page ≡ true
taken-small base r may page header small =
    let clean = cleaned base r may in
    let forgets = cleaned_forgets base r may in
    forgets-small base clean forgets page
    (heads-small clean (finished (allocation_parts (pages_allocation r)) clean) r.first r.pages (take_heads clean r (cleaned_may base r may)) page header (ap (λ (words : List ℕ). is_small_page words page) (sym (take_run_words base r may)) ∙ small))
