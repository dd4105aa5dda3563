-- What planning a creation relies on, and what it gives.
use Rattle.std.specs.Prelude.{◌≡◌, ◌⊎◌, ℕ, ◌<◌, ◌≤◌, List, Some, IsSome, IsNone, length, slice_index}
use Rattle.mv_model.specs.declared.shape.Column.{Column}
use Rattle.pm_model.specs.declared.action.Action.{Action}
use Rattle.image_layout.specs.Blocks.{longest_free_run}
use Rattle.image_layout.specs.Fixed.{lane_op_at, table_slot_at}
use Rattle.pm_model.specs.Plans.{plan_of}
use Rattle.image_layout.specs.Records.{table_words}
use Rattle.image_layout.specs.Tables.{table_count}
use Rattle.heap_palloc.specs.declared.error.AllocError.{AllocError}
use Rattle.heap_palloc.specs.declared.error.AllocError.TheVariants.{Full as HeapFull, NoMemory as HeapNoMemory}
use Rattle.heap_palloc.specs.Calls.{KeepsHeapRules, IsFull}
use Rattle.heap_palloc.specs.Choice.{Choice, IsChosen, needed_pages}
use Rattle.heap_palloc.specs.Index.{HeapIndex, IsIndexOf}
use Rattle.catalog.specs.declared.error.CreateError.{CreateError}
use Rattle.catalog.specs.declared.error.CreateError.TheVariants.{TableExists, TooManyTables, Full, NoMemory}
use Rattle.catalog.specs.Creation.{creation_by, created_words, new_block, creation_parts, MayCreate}
use Rattle.catalog.specs.Entries.{CatalogState, CatalogTable, table_named}

-- The heap's rules hold, the index stands for the words, the catalog has as many tables as they have, at most 32, the
-- lane is idle, and the table slot at the count is null.
pub record MayPlanCreation (words : List ℕ) (index : HeapIndex) (tables : List CatalogTable) (lane : ℕ) : Type 0 where
  pub rules : KeepsHeapRules words
  pub index_of : IsIndexOf words index
  pub count_of : length tables ≡ table_count words
  pub lane_is : lane < 16
  pub idle : slice_index words (lane_op_at lane) ≡ 0
  pub most : table_count words ≤ 32
  pub slot : table_count words < 32 → slice_index words (table_slot_at (table_count words)) ≡ 0

-- A creation is planned: these actions, and a block that begins at this place, chosen as the heap chooses. Once the
-- plan was played, the index stands for the words.
pub record IsCreationPlanned (words : List ℕ) (old new : HeapIndex) (lane : ℕ) (name : List ℕ) (columns : List Column)
    (first : ℕ) (plan : List Action) : Type 0 where
  pub choice : Choice
  pub chosen : IsChosen words old.free.runs (table_words (length columns)) choice
  pub may : MayCreate words (creation_by lane choice name columns)
  pub first_is : first ≡ new_block (creation_by lane choice name columns)
  pub plan_is : plan ≡ plan_of (creation_parts words (creation_by lane choice name columns))
  pub index_of : IsIndexOf (created_words words (creation_by lane choice name columns)) new

-- the catalog, with this creation planned
abbrev pub with_planned : CatalogState → List ℕ → List Column → ℕ → CatalogState
with_planned catalog name columns first =
    record { tables = catalog.tables; planned = Some (record { name = name; columns = columns; block = first }) }

-- the heap has no room for a block of so many words
abbrev pub HasNoRoom : List ℕ → ℕ → CreateError → Type 0
HasNoRoom words count error = error ≡ Full (needed_pages count) (longest_free_run words)

-- why the creation of a table with this name, whose block has so many words, is refused: want of memory, a table of the
-- name, 32 tables, or no room
abbrev pub IsRefused : List ℕ → List CatalogTable → List ℕ → ℕ → CreateError → Type 0
IsRefused words tables name count error =
    (error ≡ NoMemory)
    ⊎ ((error ≡ TableExists) × IsSome (table_named tables name))
    ⊎ ((error ≡ TooManyTables) × IsNone (table_named tables name) × (length tables ≡ 32))
    ⊎ (HasNoRoom words count error × IsNone (table_named tables name) × (length tables < 32) × IsFull words count)

-- an error of the heap as one of a creation
abbrev pub create_error : AllocError → CreateError
create_error (HeapFull need largest) = Full need largest
create_error HeapNoMemory = NoMemory
