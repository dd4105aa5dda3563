-- Which words live_blocks reads, and how it changes with one page.
use Rattle.std.proofs.Common.{◌≡◌, ◌≢◌, ⊎_elim, ℕ, zero, suc, ◌+◌, ◌-◌, ◌*◌, ◌/◌, ◌%◌, ◌<◌, Bool, true, not, ◌&&◌, cond, eqb, ltb, List, [], ◌∷◌, length, map, get_or, refl, sym, ◌∙◌, ap, subst, arith}
use Rattle.std.specs.List.{range_with_len, flat_map, filter}
use Rattle.std.specs.Int.{bit_at}
use Rattle.std.proofs.lemmas.Bool.{cases_Bool, cond-false, cases_eq}
use Rattle.image_layout.specs.Fixed.{descriptor_at}
use Rattle.image_layout.specs.Places.{below, page_at, page_count}
use Rattle.image_layout.specs.Blocks.{Block, slot_words, slots_of, slot_at, descriptor_of, says_small, says_big, inside_after, inside_at, is_inside, is_small_page, bitmap_of, blocks_of_page, live_blocks}
use Rattle.heap_palloc.specs.Shown.{GainsOne}
use Rattle.heap_big.proofs.Gains.{flat_map-same, flat_map-gains}

-- ── a page's blocks, by whether it stands inside a big block, its descriptor and its bitmap ──

abbrev pub small_blocks : ℕ → ℕ → ℕ → List Block
small_blocks page class bitmap = map (λ slot. record { first = slot_at page class slot; words = slot_words class }) (filter (λ slot. eqb (bit_at bitmap slot) 1) (below (slots_of class)))

abbrev pub blocks_by : Bool → ℕ → ℕ → ℕ → List Block
blocks_by inside descriptor bitmap page =
    cond (not inside && says_small descriptor) (small_blocks page (descriptor - 2) bitmap)
    (cond (not inside && says_big descriptor) (record { first = page_at page; words = 512 * (descriptor - 16) } ∷ []) [])

pub blocks_of_page-by : (words : List ℕ) (page : ℕ) → blocks_of_page words page ≡ blocks_by (is_inside words page) (descriptor_of words page) (bitmap_of words page) page
unfolding blocks_of_page
blocks_of_page-by words page = refl

-- ── what stands inside big blocks ──

inside_after-same : (inside d e : ℕ) → d - 17 ≡ e - 17 → inside_after inside d ≡ inside_after inside e
inside_after-same zero d e same = same
inside_after-same (suc inside) d e same = refl

-- descriptors that begin big blocks of the same pages
pub record SameInside (old new : List ℕ) : Type 0 where
  pub each : (page : ℕ) → descriptor_of new page - 17 ≡ descriptor_of old page - 17

inside_at-same : (old new : List ℕ) → SameInside old new → (segment page : ℕ) → page < 64 → inside_at new segment page ≡ inside_at old segment page
inside_at-same old new same segment zero lt = refl
inside_at-same old new same segment (suc page) lt =
    ap (λ (i : ℕ). inside_after i (get_or new (segment * 32768 + page) 0)) (inside_at-same old new same segment page (omega arith))
    ∙ inside_after-same (inside_at old segment page) (get_or new (segment * 32768 + page) 0) (get_or old (segment * 32768 + page) 0) here
  where
    place : descriptor_at (segment * 64 + page) ≡ segment * 32768 + page
    place = omega arith

    here : get_or new (segment * 32768 + page) 0 - 17 ≡ get_or old (segment * 32768 + page) 0 - 17
    here = ap (λ (w : ℕ). get_or new w 0 - 17) (sym place) ∙ same.each (segment * 64 + page) ∙ ap (λ (w : ℕ). get_or old w 0 - 17) place

pub is_inside-same : (old new : List ℕ) → SameInside old new → (page : ℕ) → is_inside new page ≡ is_inside old page
unfolding is_inside
is_inside-same old new same page = ap (λ (n : ℕ). ltb 0 n) (inside_at-same old new same (page / 64) (page % 64) (omega arith))

pub is_small_page-same : (old new : List ℕ) → SameInside old new → (page : ℕ) → descriptor_of new page ≡ descriptor_of old page → is_small_page new page ≡ is_small_page old page
is_small_page-same old new same page descriptor =
    ap (λ (i : Bool). not i && says_small (descriptor_of new page)) (is_inside-same old new same page) ∙ ap (λ (d : ℕ). not (is_inside old page) && says_small d) descriptor

-- ── a page with the same descriptor and, if it is small, the same bitmap ──

pub record SamePage (old new : List ℕ) (page : ℕ) : Type 0 where
  pub descriptor : descriptor_of new page ≡ descriptor_of old page
  pub bitmap : is_small_page old page ≡ true → bitmap_of new page ≡ bitmap_of old page

blocks_by-bitmap : (inside : Bool) (descriptor m n page : ℕ) → ((not inside && says_small descriptor) ≡ true → m ≡ n) → blocks_by inside descriptor m page ≡ blocks_by inside descriptor n page
blocks_by-bitmap inside descriptor m n page same = ⊎_elim
    (λ small. ap (λ (b : ℕ). blocks_by inside descriptor b page) (same small))
    (λ other. cond-false (not inside && says_small descriptor) _ _ other ∙ sym (cond-false (not inside && says_small descriptor) _ _ other))
    (cases_Bool (not inside && says_small descriptor))

pub blocks_of_page-same : (old new : List ℕ) → SameInside old new → (page : ℕ) → SamePage old new page → blocks_of_page new page ≡ blocks_of_page old page
blocks_of_page-same old new inside page same =
    blocks_of_page-by new page
    ∙ ap (λ (i : Bool). blocks_by i (descriptor_of new page) (bitmap_of new page) page) (is_inside-same old new inside page)
    ∙ ap (λ (d : ℕ). blocks_by (is_inside old page) d (bitmap_of new page) page) same.descriptor
    ∙ blocks_by-bitmap (is_inside old page) (descriptor_of old page) (bitmap_of new page) (bitmap_of old page) page same.bitmap
    ∙ sym (blocks_of_page-by old page)

-- ── the whole image ──

-- live_blocks reads descriptors, and the bitmaps of small pages
pub record SameHeap (old new : List ℕ) : Type 0 where
  pub size : length new ≡ length old
  pub pages : (page : ℕ) → SamePage old new page

pub inside_from : (old new : List ℕ) → ((page : ℕ) → descriptor_of new page ≡ descriptor_of old page) → SameInside old new
inside_from old new same = record { each = λ page. ap (λ (d : ℕ). d - 17) (same page) }

pub live_blocks-same : (old new : List ℕ) → SameHeap old new → live_blocks new ≡ live_blocks old
live_blocks-same old new same =
    ap (λ (n : ℕ). flat_map (blocks_of_page new) (range_with_len 0 (n / 512))) same.size
    ∙ flat_map-same (blocks_of_page new) (blocks_of_page old) (page_count old) 0
    (λ page x y. blocks_of_page-same old new (inside_from old new (λ p. (same.pages p).descriptor)) page (same.pages page))

-- One page changes, and the live blocks gain what the page gains.
pub record OnePage (old new : List ℕ) (page : ℕ) : Type 0 where
  pub size : length new ≡ length old
  pub in_image : page < page_count old
  pub inside : SameInside old new
  pub others : (other : ℕ) → other ≢ page → SamePage old new other

pub live_blocks-gains : (old new : List ℕ) (page : ℕ) (block : Block) → OnePage old new page → GainsOne (blocks_of_page old page) block (blocks_of_page new page) → GainsOne (live_blocks old) block (live_blocks new)
live_blocks-gains old new page block one gain =
    subst (λ (n : ℕ). GainsOne (live_blocks old) block (flat_map (blocks_of_page new) (range_with_len 0 (n / 512)))) (sym one.size)
    (flat_map-gains (blocks_of_page old) (blocks_of_page new) page block gain (page_count old) 0 (omega arith) (omega (arith, one.in_image))
    (λ other x y apart. sym (blocks_of_page-same old new one.inside other (one.others other apart))))

-- the same where the page's blocks stay
pub live_blocks-kept : (old new : List ℕ) (page : ℕ) → OnePage old new page → blocks_of_page new page ≡ blocks_of_page old page → live_blocks new ≡ live_blocks old
live_blocks-kept old new page one same =
    ap (λ (n : ℕ). flat_map (blocks_of_page new) (range_with_len 0 (n / 512))) one.size
    ∙ flat_map-same (blocks_of_page new) (blocks_of_page old) (page_count old) 0
    (λ other x y. ⊎_elim (λ (is : other ≡ page). subst (λ (p : ℕ). blocks_of_page new p ≡ blocks_of_page old p) (sym is) same) (λ apart. blocks_of_page-same old new one.inside other (one.others other apart)) (cases_eq other page))

-- a change of one page, taken back
pub one_page-back : (old new : List ℕ) (page : ℕ) → OnePage old new page → OnePage new old page
one_page-back old new page one = record {
  size = sym one.size;
  in_image = subst (λ (n : ℕ). page < n / 512) (sym one.size) one.in_image;
  inside = record { each = λ other. sym (one.inside.each other) };
  others = λ other apart. record {
    descriptor = sym (one.others other apart).descriptor;
    bitmap = λ small. sym ((one.others other apart).bitmap (sym (is_small_page-same old new one.inside other (one.others other apart).descriptor) ∙ small));
  };
}

-- two changes of one page are one
pub one_page-then : (xs ys zs : List ℕ) (page : ℕ) → OnePage xs ys page → OnePage ys zs page → OnePage xs zs page
one_page-then xs ys zs page x y = record {
  size = y.size ∙ x.size;
  in_image = x.in_image;
  inside = record { each = λ other. y.inside.each other ∙ x.inside.each other };
  others = λ other apart. record {
    descriptor = (y.others other apart).descriptor ∙ (x.others other apart).descriptor;
    bitmap = λ small. (y.others other apart).bitmap (is_small_page-same xs ys x.inside other (x.others other apart).descriptor ∙ small) ∙ (x.others other apart).bitmap small;
  };
}

-- and none is one
pub same_heap-one : (old new : List ℕ) (page : ℕ) → page < page_count old → SameHeap old new → OnePage old new page
same_heap-one old new page lt same = record { size = same.size; in_image = lt; inside = inside_from old new (λ p. (same.pages p).descriptor); others = λ other apart. same.pages other }
