-- From what the steps of a call give to what it promises: a slot of a small page that has room.
use Rattle.std.proofs.Common.{◌≡◌, ◌⊎◌, ⊎_elim, ℕ, ◌<◌, Bool, true, false, not, List, [], ◌∷◌, ◌++◌, get_or, sym, ◌∙◌, ap, subst, arith}
use Rattle.std.specs.Prelude.{◌↔◌, Option, Some, IsNone, IsSome, IfSome}
use Rattle.std.specs.Option.{is_some}
use Rattle.std.proofs.lemmas.Bool.{both_ways, false_from_ne_true, true_from_ne_false}
use Rattle.pm_model.specs.declared.action.Action.{Action}
use Rattle.pm_model.specs.Device.{Device, IsWhole}
use Rattle.image_layout.specs.Places.{page_count}
use Rattle.pm_model.specs.Plans.{plan_of}
use Rattle.image_layout.specs.Blocks.{slot_words, slots_of, slot_at, bitmap_of}
use Rattle.heap_small.specs.Bitmap.{AreSetBelow, IsFirstClear, with_bit}
use Rattle.heap_palloc.specs.Parts.{allocation_parts}
use Rattle.heap_palloc.specs.Law.{Slot, taking, MayTakeSlot}
use Rattle.heap_palloc.specs.Index.{HeapIndex, rooms_of, is_full, has_room}
use Rattle.heap_palloc.specs.Choice.{in_page}
use Rattle.heap_palloc.specs.Calls.{MayCall, IsPlanned}
use Rattle.heap_palloc.proofs.Allocating.{lowest_has, roomy_clear, slot_may}
use Rattle.heap_palloc.proofs.Indexed.{LosesRoom, take_slot_keeps, take_slot_fills}
use Rattle.heap_palloc.proofs.Planned.{allocation-same, planned}
use Rattle.heap_palloc.proofs.Rooms.{full_set}

-- whether a page is full, by the slot that was looked for
pub full_is : (class bitmap : ℕ) (slot : Option ℕ) (none : Bool) → IsNone slot ↔ AreSetBelow (slots_of class) bitmap → is_some slot ≡ not none → is_full class bitmap ≡ none
full_is class bitmap slot true either is = (full_set class bitmap).1 (either.0 is)
full_is class bitmap slot false either is = false_from_ne_true (is_full class bitmap) (λ full. both_ways (is_some slot) (either.1 ((full_set class bitmap).0 full)) is)

-- what becomes of the index
abbrev pub Fills : HeapIndex → HeapIndex → ℕ → ℕ → ℕ → Type 0
Fills old new class page marked =
    ((is_full class marked ≡ true) × LosesRoom old new class page × (new.free ≡ old.free)) ⊎ ((is_full class marked ≡ false) × (new ≡ old))

-- a slot was found
pub some_found : (found : Option ℕ) → (IsNone found → ⊥) → IsSome found
some_found found some = true_from_ne_false (is_some found) some

-- and it is the one that was unwrapped
pub found_is : (P : ℕ → Type 0) (found : Option ℕ) (slot : ℕ) → found ≡ Some slot → IfSome found P → P slot
found_is P found slot is holds = subst (λ (o : Option ℕ). IfSome o P) is holds

module _ (d : Device) (whole : IsWhole d) (index : HeapIndex) (lane dest : ℕ) (may : MayCall d.cached index lane dest) (class page : ℕ) (class_is : class < 6) (rest : List ℕ) (room : rooms_of index class ≡ page ∷ rest) where
  pub page_in_image : page < page_count d.cached
  page_in_image = (lowest_has d whole index lane dest may class page class_is rest room).0

  pub page_low : page < 8192
  page_low = omega (arith, page_in_image, whole.most)

  has : has_room d.cached class page ≡ true
  has = (lowest_has d whole index lane dest may class page class_is rest room).1

  pub slot_there : (bitmap : ℕ) → bitmap ≡ bitmap_of d.cached page → AreSetBelow (slots_of class) bitmap → ⊥
  slot_there bitmap is set = roomy_clear d whole index lane dest may class page class_is has (subst (AreSetBelow (slots_of class)) is set)

  pub slot_planned : get_or d.cached dest 0 ≡ 0 → (bitmap slot marked first size : ℕ) (left old : List Action) (after : HeapIndex)
      → bitmap ≡ bitmap_of d.cached page → slot < slots_of class → IsFirstClear bitmap slot → marked ≡ with_bit bitmap slot → first ≡ slot_at page class slot → size ≡ slot_words class
      → left ≡ old ++ plan_of (allocation_parts (record { lane = lane; owner = dest; block = first; marked = marked })) → old ≡ [] → Fills index after class page marked
      → (s : ℕ) × IsFirstClear (bitmap_of d.cached page) s × IsPlanned d.cached after (in_page (record { lane = lane; owner = dest; page = page; class = class; slot = s })) left first size
  slot_planned empty bitmap slot marked first size left old after bitmap_is within first_clear marked_is first_is size_is pushed none fills =
      let clear : IsFirstClear (bitmap_of d.cached page) slot = subst (λ (b : ℕ). IsFirstClear b slot) bitmap_is first_clear in
      let s : Slot = record { lane = lane; owner = dest; page = page; class = class; slot = slot } in
      let can : MayTakeSlot d.cached (record { lane = lane; owner = dest; page = page; class = class; slot = slot }) = slot_may d whole index lane dest may class page class_is empty page_in_image has slot within clear.clear in
      let mark : marked ≡ with_bit (bitmap_of d.cached page) slot = marked_is ∙ ap (λ (b : ℕ). with_bit b slot) bitmap_is in (
        slot,
        clear,
        record {
          may = can;
          plan_is = planned left old _ (taking d.cached s) pushed none (allocation-same lane dest first (slot_at page class slot) marked (with_bit (bitmap_of d.cached page) slot) first_is mark);
          first_is = first_is;
          size_is = size_is;
          index_of = ⊎_elim
              (λ (full, loses, free). take_slot_fills d.cached s can index after may.index_of (record { same = free }) (sym (ap (is_full class) mark) ∙ full) loses)
              (λ (rest, same). take_slot_keeps d.cached s can index after may.index_of (record { same = ap (λ (h : HeapIndex). h.free) same }) (sym (ap (is_full class) mark) ∙ rest) (record { each = λ c. ap (λ (h : HeapIndex). rooms_of h c) same }))
              fills;
        },
      )
