-- What words with the same heap share: an index stands for both or for neither, and so do the heap's rules.
use Rattle.std.proofs.Common.{ℕ, List, ◌∙◌, arith}
use Rattle.heap_palloc.specs.Calls.{KeepsHeapRules}
use Rattle.heap_palloc.specs.Index.{HeapIndex, IsIndexOf}
use Rattle.heap_palloc.proofs.LiveBlocks.{SameHeap, inside_from, is_inside-same, is_small_page-same}
use Rattle.heap_palloc.proofs.Reindex.{runs_of, runs_kept}
use Rattle.heap_palloc.proofs.Rooms.{free-same, room-same, rooms_kept}
use Rattle.heap_palloc.proofs.RulesKept.{rules_from, rules_at, kept_same}

pub index_kept : (old new : List ℕ) (index : HeapIndex) → SameHeap old new → IsIndexOf old index → IsIndexOf new index
index_kept old new index same is =
    let inside = inside_from old new (λ page. (same.pages page).descriptor) in
    let runs = runs_kept old new same.size index.free (runs_of old index is) (λ page. free-same old new page (is_inside-same old new inside page) (same.pages page).descriptor) in
    record {
      well_formed = runs.well_formed;
      pages = runs.pages;
      runs = runs.each;
      rooms = λ class lt. is.rooms class lt ∙ rooms_kept old new class same.size
          (λ page. room-same old new page class (is_small_page-same old new inside page (same.pages page).descriptor) (same.pages page).descriptor (same.pages page).bitmap);
    }

-- the rules look at descriptors and at the bitmaps of small pages alone
pub rules_same : (old new : List ℕ) → SameHeap old new → KeepsHeapRules old → KeepsHeapRules new
rules_same old new same rules =
    let inside = inside_from old new (λ page. (same.pages page).descriptor) in
    rules_from new (λ page lt. kept_same old new page (is_inside-same old new inside page) (same.pages page).descriptor (same.pages page).bitmap (rules_at old rules page (omega (arith, lt, same.size))))
