-- Which pages are free and which have a free slot, page by page, and the lists of them.
use Rattle.std.proofs.Common.{◌≡◌, ◌≢◌, ⊎_elim, ℕ, zero, suc, ◌+◌, ◌-◌, ◌/◌, ◌<◌, ◌≤◌, Bool, true, false, not, ◌&&◌, cond, eqb, leb, List, [], ◌∷◌, length, refl, sym, ◌∙◌, ap, subst, arith}
use Rattle.std.specs.Prelude.{◌↔◌, Contains, filter}
use Rattle.std.specs.List.{range_with_len, list_all}
use Rattle.std.specs.Int.{bit_at}
use Rattle.std.proofs.lemmas.Bool.{cases_Bool, cases_eq, eqb-true, eq-eqb, and_left, and_parts, and_from}
use Rattle.image_layout.specs.Places.{below, page_count}
use Rattle.image_layout.specs.Blocks.{slots_of, descriptor_of, class_of, bitmap_of, is_inside, is_free_page, is_small_page}
use Rattle.image_layout.proofs.Members.{Contains-below, below-Contains, Contains-filter, filter-Contains}
use Rattle.heap_small.specs.Bitmap.{AreSetBelow}
use Rattle.heap_big.specs.Pages.{IsRising}
use Rattle.heap_palloc.specs.Shown.{GainsOne}
use Rattle.heap_palloc.specs.Index.{is_full, has_room, pages_with_room}
use Rattle.heap_big.proofs.Gains.{filter-gains}
use Rattle.heap_big.proofs.Rising.{rising-higher, gains-settled, losses-settled, filter-rising}

-- ── a bitmap that is full ──

all_set : (bitmap n a : ℕ) → list_all (λ slot. eqb (bit_at bitmap slot) 1) (range_with_len a n) ≡ true → (slot : ℕ) → a ≤ slot → slot < a + n → bit_at bitmap slot ≡ 1
all_set bitmap zero a all slot le lt = absurd (omega arith)
all_set bitmap (suc n) a all slot le lt =
    let parts = and_parts (eqb (bit_at bitmap a) 1) (list_all (λ s. eqb (bit_at bitmap s) 1) (range_with_len (a + 1) n)) all in
    ⊎_elim (λ (is : slot ≡ a). ap (bit_at bitmap) is ∙ eqb-true (bit_at bitmap a) 1 parts.0) (λ apart. all_set bitmap n (a + 1) parts.1 slot (omega (arith, apart)) (omega arith)) (cases_eq slot a)

set_all : (bitmap n a : ℕ) → ((slot : ℕ) → a ≤ slot → slot < a + n → bit_at bitmap slot ≡ 1) → list_all (λ slot. eqb (bit_at bitmap slot) 1) (range_with_len a n) ≡ true
set_all bitmap zero a each = refl
set_all bitmap (suc n) a each =
    and_from (eqb (bit_at bitmap a) 1) (list_all (λ s. eqb (bit_at bitmap s) 1) (range_with_len (a + 1) n)) (eq-eqb (bit_at bitmap a) 1 (each a (omega arith) (omega arith)))
    (set_all bitmap n (a + 1) (λ slot le lt. each slot (omega arith) (omega arith)))

pub full_set : (class bitmap : ℕ) → is_full class bitmap ≡ true ↔ AreSetBelow (slots_of class) bitmap
full_set class bitmap = (λ full slot lt. all_set bitmap (slots_of class) 0 full slot (omega arith) (omega arith), λ each. set_all bitmap (slots_of class) 0 (λ slot le lt. each slot (omega arith)))

-- ── pages that stay as they are ──

pub free-same : (old new : List ℕ) (page : ℕ) → is_inside new page ≡ is_inside old page → descriptor_of new page ≡ descriptor_of old page → is_free_page new page ≡ is_free_page old page
free-same old new page inside descriptor = ap (λ (i : Bool). not i && leb (descriptor_of new page) 1) inside ∙ ap (λ (d : ℕ). not (is_inside old page) && leb d 1) descriptor

pub room-same : (old new : List ℕ) (page class : ℕ) → is_small_page new page ≡ is_small_page old page → descriptor_of new page ≡ descriptor_of old page → (is_small_page old page ≡ true → bitmap_of new page ≡ bitmap_of old page)
    → has_room new class page ≡ has_room old class page
room-same old new page class small descriptor bitmap = ⊎_elim
    (λ hit. ap (λ (b : Bool). b && (eqb (class_of new page) class && not (is_full class (bitmap_of new page)))) small
    ∙ ap (λ (d : ℕ). is_small_page old page && (eqb (d - 2) class && not (is_full class (bitmap_of new page)))) descriptor
    ∙ ap (λ (b : ℕ). is_small_page old page && (eqb (class_of old page) class && not (is_full class b))) (bitmap hit))
    (λ miss. and_left (is_small_page new page) _ (small ∙ miss) ∙ sym (and_left (is_small_page old page) _ miss))
    (cases_Bool (is_small_page old page))

-- ── the pages with room ──

pub room_has : (words : List ℕ) (class page : ℕ) → page < page_count words → has_room words class page ≡ true → Contains (pages_with_room words class) page
unfolding pages_with_room
room_has words class page lt hit = filter-Contains (has_room words class) (below (page_count words)) page (below-Contains (page_count words) page lt) hit

pub has_room_of : (words : List ℕ) (class page : ℕ) → Contains (pages_with_room words class) page → (page < page_count words) × (has_room words class page ≡ true)
unfolding pages_with_room
has_room_of words class page is =
    let both = Contains-filter (has_room words class) (below (page_count words)) page is in
    (Contains-below (page_count words) page both.0, both.1)

filter-same : (p q : ℕ → Bool) (xs : List ℕ) → ((x : ℕ) → p x ≡ q x) → filter p xs ≡ filter q xs
filter-same p q [] same = refl
filter-same p q (x ∷ xs) same = ap (λ (b : Bool). cond b (x ∷ filter p xs) (filter p xs)) (same x) ∙ ap (λ (ys : List ℕ). cond (q x) (x ∷ ys) ys) (filter-same p q xs same)

-- none changes
pub rooms_kept : (old new : List ℕ) (class : ℕ) → length new ≡ length old → ((page : ℕ) → has_room new class page ≡ has_room old class page) → pages_with_room old class ≡ pages_with_room new class
unfolding pages_with_room
rooms_kept old new class size same =
    filter-same (has_room old class) (has_room new class) (below (page_count old)) (λ page. sym (same page))
    ∙ ap (λ (n : ℕ). filter (has_room new class) (range_with_len 0 (n / 512))) (sym size)

module _ (old new : List ℕ) (class page : ℕ) (size : length new ≡ length old) (lt : page < page_count old) (same : (other : ℕ) → other ≢ page → has_room new class other ≡ has_room old class other) (before after : List ℕ)
    (is : before ≡ pages_with_room old class) where
  rises : (words : List ℕ) → IsRising 0 (pages_with_room words class) (page_count words)
  unfolding pages_with_room
  rises words = subst (λ (high : ℕ). IsRising 0 (filter (has_room words class) (below (page_count words))) high) (omega arith) (filter-rising (has_room words class) (page_count words) 0)

  -- one page more
  pub rooms_gained : page_count old ≤ 8192 → has_room old class page ≡ false → has_room new class page ≡ true → GainsOne before page after → IsRising 0 after 8192 → after ≡ pages_with_room new class
  unfolding pages_with_room
  rooms_gained most miss hit gains rising =
      let whole : GainsOne (pages_with_room old class) page (pages_with_room new class) =
      subst (λ (n : ℕ). GainsOne (filter (has_room old class) (below (page_count old))) page (filter (has_room new class) (range_with_len 0 (n / 512)))) (sym size)
      (filter-gains (has_room old class) (has_room new class) page miss hit (page_count old) 0 (omega arith) (omega (arith, lt)) (λ other apart. sym (same other apart))) in
      gains-settled page 0 8192 before after (pages_with_room new class) gains (subst (λ (xs : List ℕ). GainsOne xs page (pages_with_room new class)) (sym is) whole)
      rising (rising-higher 0 (pages_with_room new class) (page_count new) 8192 (subst (λ (n : ℕ). n / 512 ≤ 8192) (sym size) most) (rises new))

  -- one page less
  pub rooms_lost : has_room old class page ≡ true → has_room new class page ≡ false → GainsOne after page before → after ≡ pages_with_room new class
  unfolding pages_with_room
  rooms_lost hit miss loses =
      let whole : GainsOne (pages_with_room new class) page (pages_with_room old class) =
      subst (λ (n : ℕ). GainsOne (filter (has_room new class) (range_with_len 0 (n / 512))) page (filter (has_room old class) (below (page_count old)))) (sym size)
      (filter-gains (has_room new class) (has_room old class) page miss hit (page_count old) 0 (omega arith) (omega (arith, lt)) (λ other apart. same other apart)) in
      losses-settled page 0 (page_count old) before after (pages_with_room new class) loses (subst (λ (xs : List ℕ). GainsOne (pages_with_room new class) page xs) (sym is) whole)
      (subst (λ (xs : List ℕ). IsRising 0 xs (page_count old)) (sym is) (rises old))
