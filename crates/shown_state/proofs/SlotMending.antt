-- Opening's step of the table slot at the count leaves what all its parts leave: the parts are of stores.
use Rattle.std.proofs.Common.{◌≡◌, ℕ, cond, eqb, List, [], ◌∷◌, get_or}
use Rattle.std.specs.List.{flat_map}
use Rattle.std.proofs.lemmas.Bool.{cond_both}
use Rattle.pm_model.specs.Plans.{Part, finished}
use Rattle.pm_model.specs.Needed.{StoresOfParts, after_mending}
use Rattle.image_layout.specs.Owners.{next_table_slots}
use Rattle.pm_model.proofs.NeededStores.{needed-finished, parts-append}
use Rattle.heap_palloc.specs.Choice.{Freed, of_slot, of_pages, freed_named, freed_parts}
use Rattle.heap_palloc.specs.Law.{taken, pages_allocation}
use Rattle.heap_small.specs.Bitmap.{without_bit}
use Rattle.image_layout.specs.Blocks.{bitmap_of}
use Rattle.heap_palloc.specs.Parts.{Allocation, freeing_parts, free_page_parts}
use Rattle.shown_state.specs.Mending.{free_block, free_table, slot_mending}
use Rattle.shown_state.proofs.LaneMending.{Any}

freeing_stores : (a : Allocation) (clear : ℕ) → StoresOfParts Any (freeing_parts a clear)
freeing_stores a clear = ((tt, (tt, tt)), ((tt, tt), ((tt, tt), ((tt, tt), ((tt, tt), tt)))))

freed_stores : (words : List ℕ) (freed : Freed) → StoresOfParts Any (freed_parts words freed)
freed_stores words (of_slot s) =
    let clear = without_bit (bitmap_of words s.page) s.slot in
    let last = cond_both (eqb clear 0) (free_page_parts s.page) [] (λ (parts : List Part). StoresOfParts Any parts) (λ _. ((tt, tt), tt)) (λ _. tt) in
    parts-append Any (freeing_parts (taken words s) clear) (cond (eqb clear 0) (free_page_parts s.page) []) (freeing_stores (taken words s) clear) last
freed_stores words (of_pages r) = freeing_stores (pages_allocation r) 0

table_stores : (words : List ℕ) (at : ℕ) → StoresOfParts Any (free_table words at)
table_stores words at = cond_both (eqb (get_or words at 0) 0) [] (free_block words at) (λ (parts : List Part). StoresOfParts Any parts) (λ _. tt) (λ _. freed_stores words (freed_named words 0 at))

slots_stores : (words slots : List ℕ) → StoresOfParts Any (flat_map (free_table words) slots)
slots_stores words [] = tt
slots_stores words (at ∷ slots) = parts-append Any (free_table words at) (flat_map (free_table words) slots) (table_stores words at) (slots_stores words slots)

pub slot_step : (words : List ℕ) → after_mending slot_mending words ≡ finished (slot_mending words) words
slot_step words = needed-finished Any (slot_mending words) words (slots_stores words (next_table_slots words))
