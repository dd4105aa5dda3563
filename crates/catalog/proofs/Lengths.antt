-- How many actions the allocation of a table's block has at most.
use Rattle.std.proofs.Common.{◌≡◌, ⊎_elim, ℕ, ◌<◌, ◌≤◌, List, length, refl, ap, arith}
use Rattle.std.proofs.lemmas.Bool.{cases_lt, lt-ltb, le-ltb}
use Rattle.std.proofs.lemmas.List.{length-append}
use Rattle.std.proofs.lemmas.Grind.{flat_map-append}
use Rattle.pm_model.specs.declared.action.Action.{Action}
use Rattle.pm_model.specs.Plans.{plan_of, part_actions}
use Rattle.image_layout.specs.Blocks.{slot_words, class_for}
use Rattle.heap_big.specs.declared.run.Run.{Run}
use Rattle.heap_palloc.specs.Parts.{allocation_parts, new_page_parts}
use Rattle.heap_palloc.specs.Law.{pages_allocation}
use Rattle.heap_palloc.specs.Choice.{Choice, in_page, on_new_page, in_run, choice_allocation, choice_block, choice_parts, IsChosen}
use Rattle.heap_palloc.proofs.Lengths.{allocation_length, taking_length}

-- the class of a block of a table with up to five columns
small_class_for : (count : ℕ) → 64 < count → count ≤ 256 → count ≤ slot_words (class_for count)
small_class_for count low high = ⊎_elim five four (cases_lt 128 count)
  where
    five : 128 < count → count ≤ slot_words (class_for count)
    five above =
        let a = lt-ltb 8 count (omega (arith, above)) in
        let b = lt-ltb 16 count (omega (arith, above)) in
        let c = lt-ltb 32 count (omega (arith, above)) in
        let d = lt-ltb 64 count (omega (arith, above)) in
        let e = lt-ltb 128 count above in
        let f = le-ltb 256 count high in
        let is : class_for count ≡ 5 = rw (a, b, c, d, e, f) refl in
        let size = ap slot_words is in
        omega (arith, size, high)

    four : count ≤ 128 → count ≤ slot_words (class_for count)
    four below =
        let a = lt-ltb 8 count (omega (arith, low)) in
        let b = lt-ltb 16 count (omega (arith, low)) in
        let c = lt-ltb 32 count (omega (arith, low)) in
        let d = lt-ltb 64 count low in
        let e = le-ltb 128 count below in
        let f = le-ltb 256 count high in
        let is : class_for count ≡ 4 = rw (a, b, c, d, e, f) refl in
        let size = ap slot_words is in
        omega (arith, size, below)

-- it has the words that the table needs
pub chosen_room : (words : List ℕ) (runs : List Run) (count : ℕ) (choice : Choice) → 64 < count → IsChosen words runs count choice → count ≤ (choice_block choice).words
chosen_room words runs count (in_page s) low chosen = let size = ap slot_words chosen.1 in omega (arith, size, small_class_for count low chosen.0)
chosen_room words runs count (on_new_page s) low chosen = let size = ap slot_words chosen.1 in omega (arith, size, small_class_for count low chosen.0)
chosen_room words runs count (in_run r) low chosen = let size = chosen.1 in omega (arith, size)

-- at most two pages
pub chosen_length : (words : List ℕ) (runs : List Run) (count : ℕ) (choice : Choice) → count ≤ 1024 → IsChosen words runs count choice → length (plan_of (choice_parts words choice)) ≤ 23
chosen_length words runs count (in_page s) few chosen = let most = allocation_length (choice_allocation words (in_page s)) in omega (arith, most)
chosen_length words runs count (on_new_page s) few chosen =
    let all = ap (length {A = Action}) (flat_map-append part_actions (new_page_parts s.page s.class) (allocation_parts (choice_allocation words (on_new_page s)))) in
    let sum = length-append (plan_of (new_page_parts s.page s.class)) (plan_of (allocation_parts (choice_allocation words (on_new_page s)))) in
    let most = allocation_length (choice_allocation words (on_new_page s)) in
    omega (arith, all, sum, most)
chosen_length words runs count (in_run r) few chosen =
    let size : r.pages ≤ 2 = omega (arith, chosen.1, few) in
    let most = taking_length words r.pages (pages_allocation r) in
    omega (arith, most, size)
