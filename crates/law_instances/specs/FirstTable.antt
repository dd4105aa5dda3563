-- The first table of a formatted image, and another one of an image with a table.
use Rattle.std.specs.Prelude.{◌≡◌, ℕ, ◌<◌, ◌≤◌, List, [], ◌∷◌, length}
use Rattle.mv_model.specs.declared.shape.Column.{Column}
use Rattle.image_layout.specs.Fixed.{table_slot_at}
use Rattle.image_layout.specs.Fresh.{fresh_words}
use Rattle.heap_palloc.specs.Choice.{on_new_page}
use Rattle.heap_palloc.specs.Index.{HeapIndex, IsIndexOf}
use Rattle.heap_palloc.specs.Law.{slot_by}
use Rattle.seg_array.specs.Calls.{MayPlanGrowth}
use Rattle.shown_state.specs.LogicalState.{logical_state}
use Rattle.catalog.specs.Creation.{Creation, creation_by, created_words}
use Rattle.catalog.specs.Entries.{published_tables}
use Rattle.catalog.specs.Shown.{new_table, shown_table}

-- its block is the first slot of 256 words of the first page that isn't reserved, through lane 1
abbrev pub first_table : List ℕ → List Column → Creation
first_table name columns = creation_by 1 (on_new_page (slot_by 1 (table_slot_at 0) 4 5 0)) name columns

-- Another table behind the one of the image with two commits: its block is the first slot of 256 words of page 12, the
-- first free one, through lane 1.
abbrev pub second_table : List ℕ → List Column → Creation
second_table name columns = creation_by 1 (on_new_page (slot_by 1 (table_slot_at 1) 12 5 0)) name columns

-- there are segments, and the block has the words that so many columns need
pub record HasRoom (segments : ℕ) (columns : List Column) : Type 0 where
  pub some : 0 < segments
  pub few : length columns ≤ 5

-- the words once it is created
abbrev pub first_words : ℕ → List ℕ → List Column → List ℕ
first_words segments name columns = created_words (fresh_words segments) (first_table name columns)

-- the image shows that table, and no other
abbrev pub ShowsFirst : ℕ → List ℕ → List Column → Type 0
ShowsFirst segments name columns =
    (logical_state (first_words segments name columns)).tables ≡ shown_table (first_table name columns) ∷ []

-- and it publishes that table, and no other
abbrev pub PublishesFirst : ℕ → List ℕ → List Column → Type 0
PublishesFirst segments name columns =
    published_tables (first_words segments name columns) ≡ new_table (first_table name columns) ∷ []

-- the array of its rows' creators may be planned to grow through lane 2, whatever index stands for the words
abbrev pub MayGrowFirst : ℕ → List ℕ → List Column → Type 0
MayGrowFirst segments name columns =
    (index : HeapIndex) → IsIndexOf (first_words segments name columns) index
    → MayPlanGrowth (first_words segments name columns) index 2 2064
