-- Segments as blocks of the heap: each is the one slot of a small page.
use Rattle.std.proofs.Common.{◌≡◌, ⊎_elim, ℕ, ◌+◌, ◌-◌, ◌*◌, ◌^◌, ◌<◌, ◌≤◌, true, not, leb, List, length, sym, ◌∙◌, ap, subst, arith, pow_mono}
use Rattle.std.specs.Prelude.{Contains}
use Rattle.std.specs.Int.{bit_at}
use Rattle.std.proofs.lemmas.Bool.{cases_lt, leb-true, and_parts, and_from, not_from_false}
use Rattle.std.proofs.lemmas.List.{length-append}
use Rattle.std.proofs.lemmas.Grind.{flat_map-append}
use Rattle.pm_model.specs.declared.action.Action.{Action}
use Rattle.image_layout.specs.Places.{page_count}
use Rattle.pm_model.specs.Plans.{plan_of, part_actions}
use Rattle.image_layout.specs.Blocks.{Block, slot_words, slots_of, slot_at, says_small, descriptor_of, class_of, bitmap_of, is_inside, is_small_page, live_blocks}
use Rattle.image_layout.specs.Objects.{segment_of}
use Rattle.image_layout.proofs.Heap.{page_of_block, small_class, IsSmallOf, IsBigOf}
use Rattle.heap_big.specs.declared.run.Run.{Run}
use Rattle.heap_palloc.specs.Parts.{allocation_parts, new_page_parts}
use Rattle.heap_palloc.specs.Law.{IsHeapPage, taking, slot_allocation}
use Rattle.heap_palloc.specs.Choice.{Choice, in_page, on_new_page, in_run, choice_parts, choice_block, choice_page, IsChosen, MayMake}
use Rattle.heap_small.specs.Bitmap.{with_bit}
use Rattle.heap_palloc.specs.Calls.{KeepsHeapRules}
use Rattle.heap_palloc.proofs.Dests.{small_heap_page}
use Rattle.heap_palloc.proofs.Lengths.{allocation_length}
use Rattle.txn_object.specs.Extension.{Source, owned, allocated, segment_from, segment_block, HasSegments, IsNoSegment, MayTake}

-- where a segment stands: behind the first line of a page of the heap
pub record StandsOn (words : List ℕ) (segment page : ℕ) : Type 0 where
  pub page_is : IsHeapPage words page
  pub first : segment ≡ 512 * page + 8

-- a live block of 256 words is one
pub record IsTaken (words : List ℕ) (segment : ℕ) : Type 0 where
  pub page : ℕ
  pub stands : StandsOn words segment page
  pub small : is_small_page words page ≡ true
  pub set : bit_at (bitmap_of words page) 0 ≡ 1

class_five : (class : ℕ) → class ≤ 5 → slot_words class ≡ 256 → class ≡ 5
class_five class le size = ⊎_elim (λ lt. let small : 2 ^ class ≤ 2 ^ 4 = pow_mono {i = class} {j = 4} (omega (arith, lt)) in absurd (omega (arith, small, size))) (λ ge. omega (arith, le, ge)) (cases_lt class 5)

only_slot : (class slot : ℕ) → class ≡ 5 → slot < slots_of class → slot ≡ 0
only_slot class slot is lt = let one : slot < slots_of 5 = subst (λ (c : ℕ). slot < slots_of c) is lt in omega (arith, one)

slot_place : (page class slot : ℕ) → class ≡ 5 → slot ≡ 0 → slot_at page class slot ≡ 512 * page + 8
slot_place page class slot class_is slot_is = ap (λ (s : ℕ). slot_at page class s) slot_is ∙ omega arith

pub taken : (words : List ℕ) → KeepsHeapRules words → (segment : ℕ) → Contains (live_blocks words) (segment_block segment) → IsTaken words segment
taken words rules segment live = let (page, lt, of) = page_of_block words (segment_block segment) live in ⊎_elim (slot page lt) (head page) of
  where
    slot : (page : ℕ) → page < page_count words → IsSmallOf words page (segment_block segment) → IsTaken words segment
    slot page lt of =
        let known = small_class (descriptor_of words page) of.small in
        let size : slot_words (class_of words page) ≡ 256 = ap (λ (b : Block). b.words) of.block_is in
        let first : slot_at page (class_of words page) of.slot ≡ segment = ap (λ (b : Block). b.first) of.block_is in
        let class = class_five (class_of words page) (omega (arith, known)) size in
        let none = only_slot (class_of words page) of.slot class of.within in
        record {
          page = page;
          stands = record { page_is = small_heap_page words rules page lt of.small; first = sym first ∙ slot_place page (class_of words page) of.slot class none };
          small = and_from (not (is_inside words page)) (says_small (descriptor_of words page)) (not_from_false (is_inside words page) of.outside) of.small;
          set = ap (λ (s : ℕ). bit_at (bitmap_of words page) s) (sym none) ∙ of.set;
        }

    head : (page : ℕ) → IsBigOf words page (segment_block segment) → IsTaken words segment
    head page of = let size : 512 * (descriptor_of words page - 16) ≡ 256 = ap (λ (b : Block). b.words) of.block_is in absurd (omega (arith, size))

-- what an allocation of 256 words takes
pub record IsFresh (words : List ℕ) (object : ℕ) (choice : Choice) : Type 0 where
  pub stands : StandsOn words (choice_block choice).first (choice_page choice)
  pub size : (choice_block choice).words ≡ 256
  pub apart : IsNoSegment words object (choice_block choice).first

module _ (words : List ℕ) (object : ℕ) (has : HasSegments words object) where
  -- no ready segment stands on a page without a block
  no_segment : (page first : ℕ) → first ≡ 512 * page + 8 → (is_small_page words page ≡ true → bit_at (bitmap_of words page) 0 ≡ 1 → ⊥) → IsNoSegment words object first
  no_segment page first at none segment lt e =
      let is = taken words has.rules (segment_of words object segment) (has.live segment lt) in
      let here = is.stands.first in
      let same : is.page ≡ page = omega (arith, here, at, e) in
      none (ap (is_small_page words) (sym same) ∙ is.small) (ap (λ (p : ℕ). bit_at (bitmap_of words p) 0) (sym same) ∙ is.set)

  pub fresh : (runs : List Run) (choice : Choice) → MayMake words choice → IsChosen words runs 256 choice → IsFresh words object choice
  fresh runs (in_page s) may chosen =
      let class : s.class ≡ 5 = chosen.1 in
      let none = only_slot s.class s.slot class may.slot_is in
      let first = slot_place s.page s.class s.slot class none in
      record {
        stands = record { page_is = may.page_is.page_is; first = first };
        size = ap slot_words class;
        apart = no_segment s.page (slot_at s.page s.class s.slot) first (λ small set. let clear = ap (λ (k : ℕ). bit_at (bitmap_of words s.page) k) (sym none) ∙ may.clear in omega (arith, clear, set));
      }
  fresh runs (on_new_page s) may chosen =
      let class : s.class ≡ 5 = chosen.1 in
      let first = slot_place s.page s.class s.slot class chosen.4 in
      record {
        stands = record { page_is = may.page_is; first = first };
        size = ap slot_words class;
        apart = no_segment s.page (slot_at s.page s.class s.slot) first (λ small set.
            let low = leb-true (descriptor_of words s.page) 1 (and_parts (not (is_inside words s.page)) (leb (descriptor_of words s.page) 1) may.is_free).1 in
            let high = (small_class (descriptor_of words s.page) (and_parts (not (is_inside words s.page)) (says_small (descriptor_of words s.page)) small).1).0 in
            omega (arith, low, high));
      }
  fresh runs (in_run r) may chosen = absurd (omega (arith, chosen.0))

-- wherever it comes from, the new segment stands so
pub source_stands : (words : List ℕ) (object : ℕ) → KeepsHeapRules words → (source : Source) → MayTake words object source → (page : ℕ) × StandsOn words (segment_from source) page
source_stands words object rules (owned segment) may = let is = taken words rules segment may.1 in (is.page, is.stands)
source_stands words object rules (allocated choice) may = of_choice choice may.0 may.2
  where
    of_choice : (c : Choice) → MayMake words c → (choice_block c).words ≡ 256 → (page : ℕ) × StandsOn words (choice_block c).first page
    of_choice (in_page s) made size =
        let class_is = made.page_is.class_is in
        let class = class_five s.class (omega (arith, class_is)) size in
        (s.page, record { page_is = made.page_is.page_is; first = slot_place s.page s.class s.slot class (only_slot s.class s.slot class made.slot_is) })
    of_choice (on_new_page s) made size =
        let class_is = made.class_is in
        let class = class_five s.class (omega (arith, class_is)) size in
        (s.page, record { page_is = made.page_is; first = slot_place s.page s.class s.slot class (only_slot s.class s.slot class made.slot_is) })
    of_choice (in_run r) made size = absurd (omega (arith, size))

-- ── how many actions its plan has ──

pub choice_length : (words : List ℕ) (runs : List Run) (choice : Choice) → IsChosen words runs 256 choice → length (plan_of (choice_parts words choice)) ≤ 23
choice_length words runs (in_page s) chosen = let most = allocation_length (taking words s) in omega (arith, most)
choice_length words runs (on_new_page s) chosen =
    let a = slot_allocation s (with_bit 0 s.slot) in
    let both = ap (length {A = Action}) (flat_map-append part_actions (new_page_parts s.page s.class) (allocation_parts (slot_allocation s (with_bit 0 s.slot)))) in
    let sum = length-append (plan_of (new_page_parts s.page s.class)) (plan_of (allocation_parts (slot_allocation s (with_bit 0 s.slot)))) in
    let most = allocation_length (slot_allocation s (with_bit 0 s.slot)) in
    omega (arith, both, sum, most)
choice_length words runs (in_run r) chosen = absurd (omega (arith, chosen.0))
