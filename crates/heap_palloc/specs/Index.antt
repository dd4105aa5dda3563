-- The volatile index of a heap, and which words it stands for.
use Rattle.std.specs.Prelude.{◌≡◌, ◌↔◌, ℕ, ◌<◌, Bool, true, not, ◌&&◌, ◌==◌, List, [], filter, slice_index_or}
use Rattle.std.specs.List.{list_all}
use Rattle.std.specs.Int.{bit_at}
use Rattle.image_layout.specs.Places.{below, page_count}
use Rattle.image_layout.specs.Blocks.{slots_of, class_of, bitmap_of, is_free_page, is_small_page}
use Rattle.heap_big.specs.Runs.{FreeRuns, IsFree, IsWellFormed}

-- its free runs, and of each class the small pages with a free slot, in ascending place
pub record HeapIndex : Type 0 where
  pub free : FreeRuns
  pub rooms : List (List ℕ)

abbrev pub rooms_of : HeapIndex → ℕ → List ℕ
rooms_of index class = slice_index_or index.rooms class []

-- each slot of a page of this class is taken
abbrev pub is_full : ℕ → ℕ → Bool
is_full class bitmap = list_all (λ slot. bit_at bitmap slot == 1) (below (slots_of class))

-- a small page of the class with a free slot
abbrev pub has_room : List ℕ → ℕ → ℕ → Bool
has_room words class page = is_small_page words page
    && ((class_of words page == class) && not (is_full class (bitmap_of words page)))

-- all such pages, in ascending place
unfoldable pub pages_with_room : List ℕ → ℕ → List ℕ
pages_with_room words class = filter (has_room words class) (below (page_count words))

-- the index stands for these words
pub record IsIndexOf (words : List ℕ) (index : HeapIndex) : Type 0 where
  pub well_formed : IsWellFormed index.free
  pub pages : index.free.page_count ≡ page_count words
  pub runs : (page : ℕ) → IsFree index.free.runs page ↔ ((page < page_count words) × (is_free_page words page ≡ true))
  pub rooms : (class : ℕ) → class < 6 → rooms_of index class ≡ pages_with_room words class
