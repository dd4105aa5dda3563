-- The first checks of the heap's rules that fail, page by page.
use Rattle.std.proofs.Common.{◌≡◌, ◌≢◌, ℕ, ◌+◌, ◌-◌, ◌*◌, ◌/◌, ◌%◌, ◌^◌, ◌<◌, Bool, true, false, not, ◌&&◌, cond, ltb, eqb, List, get_or, sym, ◌∙◌, ap, arith}
use Rattle.std.specs.Prelude.{None, Some}
use Rattle.std.proofs.lemmas.Bool.{eq-eqb, ne_eqb, lt-ltb, and_parts, and_from, not-true, not_from_false}
use Rattle.image_layout.specs.Fixed.{descriptor_at}
use Rattle.image_layout.specs.Places.{page_at, page_count}
use Rattle.image_layout.specs.Blocks.{slots_of, descriptor_of, says_small, inside_after, inside_at, is_inside, is_small_page, is_reserved, class_of, bitmap_of}
use Rattle.image_layout.specs.Checks.{first_failing}
use Rattle.image_layout.specs.HeapRules.{reserved_rule, descriptor_rule, bitmap_rule, is_descriptor}
use Rattle.image_rules.proofs.Faults.{first_none, first_some, each_more, inside-next}

-- ── whether a page stands inside a big block ──

pub inside-is : (words : List ℕ) (page inside : ℕ) → inside ≡ inside_at words (page / 64) (page % 64) → is_inside words page ≡ ltb 0 inside
unfolding is_inside
inside-is words page inside is = ap (ltb 0) (sym is)

pub outside : (words : List ℕ) (page inside : ℕ) → inside ≡ inside_at words (page / 64) (page % 64) → inside ≡ 0 → is_inside words page ≡ false
outside words page inside is none = inside-is words page inside is ∙ ap (ltb 0) none

pub within : (words : List ℕ) (page inside : ℕ) → inside ≡ inside_at words (page / 64) (page % 64) → inside ≢ 0 → is_inside words page ≡ true
within words page inside is some = inside-is words page inside is ∙ lt-ltb 0 inside (omega (arith, some))

-- the count of pages that are left goes on
pub inside-step : (words : List ℕ) (page inside place next : ℕ) → inside ≡ inside_at words (page / 64) (page % 64) → place ≡ descriptor_at page
    → next ≡ cond (eqb ((page + 1) % 64) 0) 0 (inside_after inside (get_or words place 0)) → next ≡ inside_at words ((page + 1) / 64) ((page + 1) % 64)
inside-step words page inside place next is at next_is =
    next_is
    ∙ ap (λ (i : ℕ). cond (eqb ((page + 1) % 64) 0) 0 (inside_after i (get_or words place 0))) is
    ∙ ap (λ (p : ℕ). cond (eqb ((page + 1) % 64) 0) 0 (inside_after (inside_at words (page / 64) (page % 64)) (get_or words p 0))) at
    ∙ sym (inside-next words page)

module _ (words : List ℕ) where
  -- ── reserved pages ──

  abbrev reserved_holds : ℕ → Bool
  reserved_holds x = eqb (get_or words (descriptor_at x) 0) 8

  abbrev pub ReservedBelow : ℕ → Type 0
  ReservedBelow page = (x : ℕ) → x < page → is_reserved x ≡ true → eqb (get_or words (descriptor_at x) 0) 8 ≡ true

  pub reserved_none : ReservedBelow (page_count words) → first_failing (reserved_rule words) ≡ None
  unfolding reserved_rule
  reserved_none each = first_none descriptor_at reserved_holds is_reserved (page_count words) each

  pub reserved_some : (page place : ℕ) → place ≡ descriptor_at page → page < page_count words → ReservedBelow page → is_reserved page ≡ true → get_or words place 0 ≢ 8
      → first_failing (reserved_rule words) ≡ Some place
  unfolding reserved_rule
  reserved_some page place at lt each spoken apart =
      first_some descriptor_at reserved_holds is_reserved (page_count words) page lt each spoken (ap (λ (p : ℕ). eqb (get_or words p 0) 8) (sym at) ∙ ne_eqb (get_or words place 0) 8 apart)
      ∙ ap (λ (p : ℕ). Some p) (sym at)

  pub reserved_more : (page place : ℕ) → place ≡ descriptor_at page → ReservedBelow page → (is_reserved page ≡ true → get_or words place 0 ≡ 8) → ReservedBelow (page + 1)
  reserved_more page place at each here =
      each_more descriptor_at reserved_holds is_reserved page each (λ spoken. ap (λ (p : ℕ). eqb (get_or words p 0) 8) (sym at) ∙ eq-eqb (get_or words place 0) 8 (here spoken))

  -- ── the other descriptors ──

  abbrev descriptor_holds : ℕ → Bool
  descriptor_holds x = is_descriptor x (get_or words (descriptor_at x) 0)

  abbrev pub is_told : ℕ → Bool
  is_told x = not (is_reserved x) && not (is_inside words x)

  abbrev pub DescriptorsBelow : ℕ → Type 0
  DescriptorsBelow page = (x : ℕ) → x < page → is_told x ≡ true → is_descriptor x (get_or words (descriptor_at x) 0) ≡ true

  pub descriptors_none : DescriptorsBelow (page_count words) → first_failing (descriptor_rule words) ≡ None
  unfolding descriptor_rule
  descriptors_none each = first_none descriptor_at descriptor_holds is_told (page_count words) each

  pub descriptors_some : (page place : ℕ) → place ≡ descriptor_at page → page < page_count words → DescriptorsBelow page → is_reserved page ≡ false → is_inside words page ≡ false
      → is_descriptor page (get_or words place 0) ≡ false → first_failing (descriptor_rule words) ≡ Some place
  unfolding descriptor_rule
  descriptors_some page place at lt each free out fails =
      first_some descriptor_at descriptor_holds is_told (page_count words) page lt each
      (and_from (not (is_reserved page)) (not (is_inside words page)) (not_from_false (is_reserved page) free) (not_from_false (is_inside words page) out))
      (ap (λ (p : ℕ). is_descriptor page (get_or words p 0)) (sym at) ∙ fails)
      ∙ ap (λ (p : ℕ). Some p) (sym at)

  pub descriptors_more : (page place : ℕ) → place ≡ descriptor_at page → DescriptorsBelow page → (is_reserved page ≡ false → is_inside words page ≡ false → is_descriptor page (get_or words place 0) ≡ true)
      → DescriptorsBelow (page + 1)
  descriptors_more page place at each here =
      each_more descriptor_at descriptor_holds is_told page each (λ spoken.
      let parts = and_parts (not (is_reserved page)) (not (is_inside words page)) spoken in
      ap (λ (p : ℕ). is_descriptor page (get_or words p 0)) (sym at) ∙ here (not-true (is_reserved page) parts.0) (not-true (is_inside words page) parts.1))

  -- ── bitmaps ──

  abbrev bitmap_holds : ℕ → Bool
  bitmap_holds x = ltb (bitmap_of words x) (2 ^ slots_of (class_of words x))

  abbrev pub BitmapsBelow : ℕ → Type 0
  BitmapsBelow page = (x : ℕ) → x < page → is_small_page words x ≡ true → ltb (bitmap_of words x) (2 ^ slots_of (class_of words x)) ≡ true

  pub bitmaps_none : BitmapsBelow (page_count words) → first_failing (bitmap_rule words) ≡ None
  unfolding bitmap_rule
  bitmaps_none each = first_none page_at bitmap_holds (is_small_page words) (page_count words) each

  pub bitmaps_some : (page place : ℕ) → place ≡ descriptor_at page → page < page_count words → BitmapsBelow page → is_inside words page ≡ false → says_small (get_or words place 0) ≡ true
      → ltb (get_or words (512 * page) 0) (2 ^ slots_of (get_or words place 0 - 2)) ≡ false → first_failing (bitmap_rule words) ≡ Some (512 * page)
  unfolding bitmap_rule
  bitmaps_some page place at lt each out small fails =
      first_some page_at bitmap_holds (is_small_page words) (page_count words) page lt each
      (and_from (not (is_inside words page)) (says_small (descriptor_of words page)) (not_from_false (is_inside words page) out) (ap (λ (p : ℕ). says_small (get_or words p 0)) (sym at) ∙ small))
      (ap (λ (p : ℕ). ltb (get_or words (512 * page) 0) (2 ^ slots_of (get_or words p 0 - 2))) (sym at) ∙ fails)

  pub bitmaps_more : (page place : ℕ) → place ≡ descriptor_at page → BitmapsBelow page
      → (is_inside words page ≡ false → says_small (get_or words place 0) ≡ true → ltb (get_or words (512 * page) 0) (2 ^ slots_of (get_or words place 0 - 2)) ≡ true) → BitmapsBelow (page + 1)
  bitmaps_more page place at each here =
      each_more page_at bitmap_holds (is_small_page words) page each (λ spoken.
      let parts = and_parts (not (is_inside words page)) (says_small (descriptor_of words page)) spoken in
      ap (λ (p : ℕ). ltb (get_or words (512 * page) 0) (2 ^ slots_of (get_or words p 0 - 2))) (sym at)
      ∙ here (not-true (is_inside words page) parts.0) (ap (λ (p : ℕ). says_small (get_or words p 0)) at ∙ parts.1))
