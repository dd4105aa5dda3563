-- A formatted image keeps the heap's rules, and so does each plan.
use Rattle.std.proofs.Common.{◌≡◌, ◌≢◌, ◌⊎◌, inl, inr, ⊎_elim, ℕ, ◌+◌, ◌-◌, ◌/◌, ◌%◌, ◌^◌, ◌<◌, ◌≤◌, Bool, true, false, not, ◌&&◌, eqb, ltb, leb, List, set, sym, ◌∙◌, ap, subst, arith}
use Rattle.std.specs.Prelude.{◌==◌}
use Rattle.std.proofs.lemmas.Bool.{cases_Bool, cases_eq, cases_lt, both_ways, not-true, and_parts, and_from, or_cases, or_parts, or_left, or_right, or_from, eqb-true, eq-eqb, eqb-false, ne_eqb, ltb-true, ltb-false, lt-ltb, le-ltb, le-leb, cond-true, cond-false, false_from_ne_true}
use Rattle.std.proofs.lemmas.List.Elements.{All-contains}
use Rattle.std.proofs.lemmas.Nat.{or_lt, xor_lt, pow_pos}
use Rattle.std.proofs.Math.Pow.{pow-lt}
use Rattle.image_layout.specs.Fixed.{descriptor_at}
use Rattle.image_layout.specs.Places.{below, page_at, page_count}
use Rattle.pm_model.specs.Plans.{finished}
use Rattle.image_layout.specs.Blocks.{slots_of, descriptor_of, says_small, says_big, is_inside, is_small_page, is_reserved, class_of, bitmap_of}
use Rattle.image_layout.specs.Checks.{check}
use Rattle.image_layout.specs.HeapRules.{reserved_rule, descriptor_rule, bitmap_rule, is_descriptor}
use Rattle.image_layout.specs.Fresh.{fresh_word, fresh_words, is_reserved_descriptor}
use Rattle.image_layout.proofs.Faults.{mapped_hold}
use Rattle.image_layout.proofs.FreshImage.{length-fresh_words, get_or-fresh_words}
use Rattle.image_layout.proofs.Heap.{Holds, reserved_descriptor, known_descriptor, small_class}
use Rattle.image_layout.proofs.Members.{below-Contains, Contains-below, Contains-filter, filter-Contains, map-Contains}
use Rattle.heap_small.specs.Bitmap.{with_bit, without_bit}
use Rattle.heap_palloc.specs.Parts.{allocation_parts, new_page_allocation_parts, big_allocation_parts, freeing_parts, small_freeing_parts}
use Rattle.heap_palloc.specs.Law.{IsHeapPage, IsSmallPage, Slot, slot_allocation, taking, taken, Pages, pages_allocation, MayTakeSlot, MayTakeNewSlot, MayTakeRun, MayFreeSlot, MayFreePages}
use Rattle.heap_palloc.specs.Choice.{Choice, in_page, on_new_page, in_run, choice_parts, MayMake, Freed, of_slot, of_pages, freed_parts, MayRelease}
use Rattle.heap_palloc.specs.Calls.{KeepsHeapRules}
use Rattle.heap_palloc.proofs.LiveBlocks.{is_inside-same, OnePage, one_page-then, same_heap-one}
use Rattle.heap_palloc.proofs.BigBlocks.{HeadsRun, inside_elsewhere, inside_run, no_small_new, old_low}
use Rattle.heap_palloc.proofs.BigPlans.{take_heads, freed_heads}
use Rattle.heap_palloc.proofs.GivenBack.{Forgets, cleaned, cleaned_forgets, cleaned_may, forgets_inside_same, forgets_bitmap_same, take_run_words}
use Rattle.heap_palloc.proofs.SlotPlans.{take_one, take_bitmap, take_descriptor, slot_clear, free_words, free_one, free_bitmap, free_descriptor}
use Rattle.heap_palloc.proofs.PagePlans.{blank_same, new_page_one, new_descriptor, new_bitmap, new_page_words, new_slot_words, new_slot_one, new_slot_descriptor, new_slot_bitmap, page_freed_words, page_kept_words, page_freed_one, page_freed_descriptor}
use Rattle.heap_palloc.proofs.Reindex.{low_small}

-- ── the rules, page by page ──

-- what they say of a page
pub record IsKept (words : List ℕ) (page : ℕ) : Type 0 where
  pub reserved : is_reserved page ≡ true → descriptor_of words page ≡ 8
  pub known : is_reserved page ≡ false → is_inside words page ≡ false → is_descriptor page (descriptor_of words page) ≡ true
  pub bitmap : is_small_page words page ≡ true → bitmap_of words page < 2 ^ slots_of (class_of words page)

pub rules_from : (words : List ℕ) → ((page : ℕ) → page < page_count words → IsKept words page) → KeepsHeapRules words
unfolding reserved_rule descriptor_rule bitmap_rule
rules_from words kept = record {
  reserved = record {
    checks = mapped_hold (λ page. check (descriptor_at page) (descriptor_of words page == 8)) _ (λ page of.
        let found = Contains-filter is_reserved (below (page_count words)) page of in
        eq-eqb (descriptor_of words page) 8 ((kept page (Contains-below (page_count words) page found.0)).reserved found.1));
  };
  descriptors = record {
    checks = mapped_hold (λ page. check (descriptor_at page) (is_descriptor page (descriptor_of words page))) _ (λ page of.
        let found = Contains-filter (λ p. not (is_reserved p) && not (is_inside words p)) (below (page_count words)) page of in
        let parts = and_parts (not (is_reserved page)) (not (is_inside words page)) found.1 in
        (kept page (Contains-below (page_count words) page found.0)).known (not-true (is_reserved page) parts.0) (not-true (is_inside words page) parts.1));
  };
  bitmaps = record {
    checks = mapped_hold (λ page. check (page_at page) (ltb (bitmap_of words page) (2 ^ slots_of (class_of words page)))) _ (λ page of.
        let found = Contains-filter (is_small_page words) (below (page_count words)) page of in
        lt-ltb (bitmap_of words page) (2 ^ slots_of (class_of words page)) ((kept page (Contains-below (page_count words) page found.0)).bitmap found.1));
  };
}

pub rules_at : (words : List ℕ) → KeepsHeapRules words → (page : ℕ) → page < page_count words → IsKept words page
unfolding bitmap_rule
rules_at words rules page lt = record {
  reserved = λ is. reserved_descriptor words rules.reserved page lt is;
  known = λ free outside. known_descriptor words rules.descriptors page lt free outside;
  bitmap = λ small. ltb-true (bitmap_of words page) (2 ^ slots_of (class_of words page))
      (All-contains Holds _ _ rules.bitmaps.checks (map-Contains (λ p. check (page_at p) (ltb (bitmap_of words p) (2 ^ slots_of (class_of words p)))) _ page (filter-Contains (is_small_page words) _ page (below-Contains (page_count words) page lt) small)));
}

-- a page whose words stay
pub kept_same : (old new : List ℕ) (page : ℕ) → is_inside new page ≡ is_inside old page → descriptor_of new page ≡ descriptor_of old page → (is_small_page old page ≡ true → bitmap_of new page ≡ bitmap_of old page) → IsKept old page → IsKept new page
kept_same old new page inside descriptor bitmap kept =
    let small : is_small_page new page ≡ is_small_page old page = ap (λ (i : Bool). not i && says_small (descriptor_of new page)) inside ∙ ap (λ (d : ℕ). not (is_inside old page) && says_small d) descriptor in
    record {
      reserved = λ is. descriptor ∙ kept.reserved is;
      known = λ free outside. ap (is_descriptor page) descriptor ∙ kept.known free (sym inside ∙ outside);
      bitmap = λ hit. let was = sym small ∙ hit in
          subst (λ (d : ℕ). bitmap_of new page < 2 ^ slots_of (d - 2)) (sym descriptor) (subst (λ (b : ℕ). b < 2 ^ slots_of (class_of old page)) (sym (bitmap was)) (kept.bitmap was));
    }

-- a heap page isn't reserved
not_reserved : (words : List ℕ) (page : ℕ) → IsHeapPage words page → is_reserved page ≡ false
not_reserved words page is = or_from (eqb (page % 64) 0) (ltb page 4) (ne_eqb (page % 64) 0 (λ e. let b = is.behind_header in omega (arith, e, b))) (le-ltb page 4 is.behind_fixed)

-- a small page with slots of its class alone, and a free one
pub kept_small : (words : List ℕ) (page class : ℕ) → is_reserved page ≡ false → class < 6 → descriptor_of words page ≡ 2 + class → bitmap_of words page < 2 ^ slots_of class → IsKept words page
kept_small words page class free lt is fits = record {
  reserved = λ hit. absurd (both_ways (is_reserved page) free hit);
  known = λ x y. or_left (leb (descriptor_of words page) 7) _ (le-leb (descriptor_of words page) 7 (omega (arith, is, lt)));
  bitmap = λ small. subst (λ (c : ℕ). bitmap_of words page < 2 ^ slots_of c) (omega (arith, is)) fits;
}

pub kept_low : (words : List ℕ) (page : ℕ) → is_reserved page ≡ false → descriptor_of words page ≤ 1 → IsKept words page
kept_low words page free low = record {
  reserved = λ hit. absurd (both_ways (is_reserved page) free hit);
  known = λ x y. or_left (leb (descriptor_of words page) 7) _ (le-leb (descriptor_of words page) 7 (omega (arith, low)));
  bitmap = λ small. absurd (both_ways (is_small_page words page) (low_small words page low) small);
}

-- one page changes
pub rules_one : (old new : List ℕ) (page : ℕ) → OnePage old new page → KeepsHeapRules old → IsKept new page → KeepsHeapRules new
rules_one old new page one rules here = rules_from new (λ other lt. ⊎_elim
    (λ (same : other ≡ page). subst (IsKept new) (sym same) here)
    (λ apart. kept_same old new other (is_inside-same old new one.inside other) (one.others other apart).descriptor (one.others other apart).bitmap (rules_at old rules other (subst (λ (n : ℕ). other < n / 512) one.size lt)))
    (cases_eq other page))

-- ── bitmaps ──

pub with_bit-fits : (bitmap slot slots : ℕ) → slot < slots → bitmap < 2 ^ slots → with_bit bitmap slot < 2 ^ slots
with_bit-fits bitmap slot slots lt fits = or_lt slots bitmap (2 ^ slot) fits (pow-lt lt)

pub without_bit-fits : (bitmap slot slots : ℕ) → slot < slots → bitmap < 2 ^ slots → without_bit bitmap slot < 2 ^ slots
without_bit-fits bitmap slot slots lt fits = xor_lt slots (with_bit bitmap slot) (2 ^ slot) (with_bit-fits bitmap slot slots lt fits) (pow-lt lt)

zero_fits : (slots : ℕ) → 0 < 2 ^ slots
zero_fits slots = pow_pos slots

own_fits : (words : List ℕ) (page class : ℕ) → KeepsHeapRules words → IsSmallPage words page class → bitmap_of words page < 2 ^ slots_of class
own_fits words page class rules small = subst (λ (c : ℕ). bitmap_of words page < 2 ^ slots_of c) (omega (arith, small.descriptor)) ((rules_at words rules page small.page_is.in_image).bitmap small.small)

-- ── the plans ──

take_slot_rules : (base : List ℕ) (s : Slot) → KeepsHeapRules base → MayTakeSlot base s → KeepsHeapRules (finished (allocation_parts (taking base s)) base)
take_slot_rules base s rules may =
    let final = finished (allocation_parts (taking base s)) base in
    rules_one base final s.page (take_one base s may) rules
    (kept_small final s.page s.class (not_reserved base s.page may.page_is.page_is) may.page_is.class_is (take_descriptor base s may ∙ may.page_is.descriptor)
    (subst (λ (b : ℕ). b < 2 ^ slots_of s.class) (sym (take_bitmap base s may)) (with_bit-fits (bitmap_of base s.page) s.slot (slots_of s.class) may.slot_is (own_fits base s.page s.class rules may.page_is))))

pub new_page_rules : (base : List ℕ) (s : Slot) (may : MayTakeNewSlot base s) → KeepsHeapRules base → KeepsHeapRules (new_page_words base s may)
new_page_rules base s may rules =
    let small = new_page_words base s may in
    let blank = set base (page_at s.page) 0 in
    let one = one_page-then base blank small s.page (same_heap-one base blank s.page may.page_is.in_image (blank_same base s may)) (new_page_one base s may) in
    rules_one base small s.page one rules
    (kept_small small s.page s.class (not_reserved base s.page may.page_is) may.class_is (new_descriptor base s may)
    (subst (λ (b : ℕ). b < 2 ^ slots_of s.class) (sym (new_bitmap base s may)) (zero_fits (slots_of s.class))))

new_slot_rules : (base : List ℕ) (s : Slot) → KeepsHeapRules base → MayTakeNewSlot base s → KeepsHeapRules (finished (new_page_allocation_parts s.page s.class (slot_allocation s (with_bit 0 s.slot))) base)
new_slot_rules base s rules may =
    let final = finished (allocation_parts (taking (new_page_words base s may) s)) (new_page_words base s may) in
    subst KeepsHeapRules (sym (new_slot_words base s may)) (rules_one base final s.page (new_slot_one base s may) rules
    (kept_small final s.page s.class (not_reserved base s.page may.page_is) may.class_is (new_slot_descriptor base s may)
    (subst (λ (b : ℕ). b < 2 ^ slots_of s.class) (sym (new_slot_bitmap base s may)) (with_bit-fits 0 s.slot (slots_of s.class) may.slot_is (zero_fits (slots_of s.class))))))

-- with its slot freed, and its page small still
pub slot_freed_rules : (base : List ℕ) (s : Slot) → KeepsHeapRules base → (may : MayFreeSlot base s) → KeepsHeapRules (free_words base s may)
slot_freed_rules base s rules may =
    rules_one base (free_words base s may) s.page (free_one base s may) rules
    (kept_small (free_words base s may) s.page s.class (not_reserved base s.page may.page_is.page_is) may.page_is.class_is (free_descriptor base s may ∙ may.page_is.descriptor)
    (subst (λ (b : ℕ). b < 2 ^ slots_of s.class) (sym (free_bitmap base s may)) (without_bit-fits (bitmap_of base s.page) s.slot (slots_of s.class) may.slot_is (own_fits base s.page s.class rules may.page_is))))

free_slot_rules : (base : List ℕ) (s : Slot) → KeepsHeapRules base → (may : MayFreeSlot base s) → KeepsHeapRules (finished (small_freeing_parts s.page (taken base s) (slot_clear base s may)) base)
free_slot_rules base s rules may = ⊎_elim
    (λ (zero : slot_clear base s may ≡ 0). subst KeepsHeapRules (sym (page_freed_words base s may zero))
    (rules_one base (set (free_words base s may) (descriptor_at s.page) 0) s.page (page_freed_one base s may) rules
    (kept_low (set (free_words base s may) (descriptor_at s.page) 0) s.page (not_reserved base s.page may.page_is.page_is) (omega (arith, page_freed_descriptor base s may)))))
    (λ some. subst KeepsHeapRules (sym (page_kept_words base s may some)) (slot_freed_rules base s rules may))
    (cases_eq (slot_clear base s may) 0)

-- ── runs ──

module _ (old new : List ℕ) (first pages : ℕ) (run : HeadsRun old new first pages) (page_is : IsHeapPage old first) where
  in_run_free : (page : ℕ) → first ≤ page → page < first + pages → is_reserved page ≡ false
  in_run_free page le lt =
      let header = page_is.behind_header in
      let fixed = page_is.behind_fixed in
      or_from (eqb (page % 64) 0) (ltb page 4) (ne_eqb (page % 64) 0 (λ e. omega (arith, e, header, le, lt, run.in_segment))) (le-ltb page 4 (omega (arith, fixed, le)))

  outside_is : (page : ℕ) → (page < first) ⊎ (first + pages ≤ page) → (page ≢ first) × ((page < first) ⊎ ((first + pages ≤ page) ⊎ (page ≡ first)))
  outside_is page where_is = ⊎_elim (λ below. (λ e. omega (arith, below, e), inl below)) (λ behind. (λ e. omega (arith, behind, e, run.some), inr (inl behind))) where_is

  -- the head and what stands behind it
  head_kept : (page : ℕ) → first ≤ page → page < first + pages → IsKept new page
  head_kept page le lt = record {
    reserved = λ hit. absurd (both_ways (is_reserved page) (in_run_free page le lt) hit);
    known = λ free outside. ⊎_elim
        (λ (same : page ≡ first).
        let is : descriptor_of new page ≡ 16 + pages = ap (descriptor_of new) same ∙ run.head in
        or_right (leb (descriptor_of new page) 7) _
        (and_from (says_big (descriptor_of new page)) (leb (page % 64 + (descriptor_of new page - 16)) 64)
        (and_from (leb 17 (descriptor_of new page)) (leb (descriptor_of new page) 79) (le-leb 17 (descriptor_of new page) (omega (arith, is, run.some))) (le-leb (descriptor_of new page) 79 (omega (arith, is, run.most))))
        (le-leb (page % 64 + (descriptor_of new page - 16)) 64 (subst (λ (p : ℕ). p % 64 + (descriptor_of new page - 16) ≤ 64) (sym same) (subst (λ (d : ℕ). first % 64 + (d - 16) ≤ 64) (sym is) (omega (arith, run.in_segment)))))))
        (λ apart. absurd (both_ways (is_inside new page) outside (inside_run old new first pages run page (omega (arith, le, apart)) lt)))
        (cases_eq page first);
    bitmap = λ small. absurd (both_ways (is_small_page new page) (no_small_new old new first pages run page le lt) small);
  }

  free_kept : (page : ℕ) → first ≤ page → page < first + pages → IsKept old page
  free_kept page le lt = kept_low old page (in_run_free page le lt) (old_low old new first pages run page le lt)

  by_place : (P : ℕ → Type 0) → ((page : ℕ) → first ≤ page → page < first + pages → P page) → ((page : ℕ) → (page < first) ⊎ (first + pages ≤ page) → P page) → (page : ℕ) → P page
  by_place P within outside page = ⊎_elim (λ below. outside page (inl below)) (λ from. ⊎_elim (λ to. within page from to) (λ behind. outside page (inr behind)) (cases_lt page (first + pages))) (cases_lt page first)

  pub heads_rules : KeepsHeapRules old → KeepsHeapRules new
  heads_rules rules = rules_from new (λ page lt. by_place (λ p. p < page_count new → IsKept new p) (λ p le to _. head_kept p le to)
      (λ p where_is within.
      let out = outside_is p where_is in
      kept_same old new p (inside_elsewhere old new first pages run p out.1) (run.others p out.0) (λ small. run.bitmaps p small (ap (λ (i : Bool). not i && says_small (descriptor_of new p)) (inside_elsewhere old new first pages run p out.1) ∙ ap (λ (d : ℕ). not (is_inside old p) && says_small d) (run.others p out.0) ∙ small))
      (rules_at old rules p (subst (λ (n : ℕ). p < n / 512) run.size within)))
      page lt)

  pub heads_rules_back : KeepsHeapRules new → KeepsHeapRules old
  heads_rules_back rules = rules_from old (λ page lt. by_place (λ p. p < page_count old → IsKept old p) (λ p le to _. free_kept p le to)
      (λ p where_is within.
      let out = outside_is p where_is in
      kept_same new old p (sym (inside_elsewhere old new first pages run p out.1)) (sym (run.others p out.0)) (λ small. sym (run.bitmaps p (ap (λ (i : Bool). not i && says_small (descriptor_of old p)) (sym (inside_elsewhere old new first pages run p out.1)) ∙ ap (λ (d : ℕ). not (is_inside new p) && says_small d) (sym (run.others p out.0)) ∙ small) small))
      (rules_at new rules p (subst (λ (n : ℕ). p < n / 512) (sym run.size) within)))
      page lt)

pub forgets_rules : (old new : List ℕ) → Forgets old new → KeepsHeapRules old → KeepsHeapRules new
forgets_rules old new forgets rules = rules_from new (λ page lt.
    let was = rules_at old rules page (subst (λ (n : ℕ). page < n / 512) forgets.size lt) in
    ⊎_elim
    (λ same. kept_same old new page (forgets_inside_same old new forgets page) same (forgets_bitmap_same old new forgets page) was)
    (λ (zero, one, low). kept_low new page (false_from_ne_true (is_reserved page) (λ hit. omega (arith, one, was.reserved hit))) (omega (arith, zero)))
    (forgets.each (descriptor_at page)))

take_run_rules : (base : List ℕ) (r : Pages) → KeepsHeapRules base → MayTakeRun base r → KeepsHeapRules (finished (big_allocation_parts base r.pages (pages_allocation r)) base)
take_run_rules base r rules may =
    let clean = cleaned base r may in
    subst KeepsHeapRules (sym (take_run_words base r may))
    (heads_rules clean (finished (allocation_parts (pages_allocation r)) clean) r.first r.pages (take_heads clean r (cleaned_may base r may)) (cleaned_may base r may).run.page_is (forgets_rules base clean (cleaned_forgets base r may) rules))

free_pages_rules : (base : List ℕ) (r : Pages) → KeepsHeapRules base → MayFreePages base r → KeepsHeapRules (finished (freeing_parts (pages_allocation r) 0) base)
free_pages_rules base r rules may =
    let gone = finished (freeing_parts (pages_allocation r) 0) base in
    let heads = freed_heads base r may in
    heads_rules_back gone base r.first r.pages heads (record { in_image = subst (λ (n : ℕ). r.first < n / 512) heads.size may.run.page_is.in_image; behind_header = may.run.page_is.behind_header; behind_fixed = may.run.page_is.behind_fixed }) rules

-- ── whichever way it goes ──

pub choice_rules : (base : List ℕ) (choice : Choice) → KeepsHeapRules base → MayMake base choice → KeepsHeapRules (finished (choice_parts base choice) base)
choice_rules base (in_page s) rules may = take_slot_rules base s rules may
choice_rules base (on_new_page s) rules may = new_slot_rules base s rules may
choice_rules base (in_run r) rules may = take_run_rules base r rules may

pub freed_rules : (base : List ℕ) (freed : Freed) → KeepsHeapRules base → MayRelease base freed → KeepsHeapRules (finished (freed_parts base freed) base)
freed_rules base (of_slot s) rules may = free_slot_rules base s rules may
freed_rules base (of_pages r) rules may = free_pages_rules base r rules may

-- ── a formatted image ──

fresh_page : (segments page : ℕ) → page < page_count (fresh_words segments) → descriptor_of (fresh_words segments) page ≡ fresh_word (descriptor_at page)
fresh_page segments page lt = get_or-fresh_words segments (descriptor_at page) (omega (arith, lt, length-fresh_words segments))

fresh_reserved : (page : ℕ) → is_reserved page ≡ true → fresh_word (descriptor_at page) ≡ 8
fresh_reserved page is = cond-true (is_reserved_descriptor (descriptor_at page)) 8 _ (⊎_elim
    (λ header. let h = eqb-true (page % 64) 0 header in or_left (eqb (descriptor_at page % 32768) 0) (ltb (descriptor_at page) 4) (eq-eqb (descriptor_at page % 32768) 0 (omega (arith, h))))
    (λ fixed. let f = ltb-true page 4 fixed in or_right (eqb (descriptor_at page % 32768) 0) (ltb (descriptor_at page) 4) (lt-ltb (descriptor_at page) 4 (omega (arith, f))))
    (or_cases (eqb (page % 64) 0) (ltb page 4) is))

fresh_free : (page : ℕ) → is_reserved page ≡ false → fresh_word (descriptor_at page) ≡ 0
fresh_free page free =
    let parts = or_parts (eqb (page % 64) 0) (ltb page 4) free in
    let header = eqb-false (page % 64) 0 parts.0 in
    let fixed = ltb-false page 4 parts.1 in
    cond-false (is_reserved_descriptor (descriptor_at page)) 8 _ (or_from (eqb (descriptor_at page % 32768) 0) (ltb (descriptor_at page) 4) (ne_eqb (descriptor_at page % 32768) 0 (λ e. omega (arith, e, header))) (le-ltb (descriptor_at page) 4 (omega (arith, header, fixed))))
    ∙ cond-false (eqb (descriptor_at page) 512) _ _ (ne_eqb (descriptor_at page) 512 (λ e. omega (arith, e)))
    ∙ cond-false (eqb (descriptor_at page) 513) _ _ (ne_eqb (descriptor_at page) 513 (λ e. omega (arith, e)))

pub fresh_rules : (segments : ℕ) → KeepsHeapRules (fresh_words segments)
fresh_rules segments = rules_from (fresh_words segments) (λ page lt. ⊎_elim
    (λ hit.
    let is : descriptor_of (fresh_words segments) page ≡ 8 = fresh_page segments page lt ∙ fresh_reserved page hit in
    record {
      reserved = λ h. is;
      known = λ free outside. absurd (both_ways (is_reserved page) free hit);
      bitmap = λ small. absurd (let low = (small_class (descriptor_of (fresh_words segments) page) (and_parts (not (is_inside (fresh_words segments) page)) (says_small (descriptor_of (fresh_words segments) page)) small).1).1 in omega (arith, is, low));
    })
    (λ free. let is : descriptor_of (fresh_words segments) page ≡ 0 = fresh_page segments page lt ∙ fresh_free page free in kept_low (fresh_words segments) page free (omega (arith, is)))
    (cases_Bool (is_reserved page)))
