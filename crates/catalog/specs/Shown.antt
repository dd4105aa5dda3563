-- What the words of an image show of a creation, once the lane and the table slot at the table count are mended.
use Rattle.std.specs.Prelude.{◌≡◌, ◌≢◌, ◌⊎◌, ℕ, ◌+◌, ◌%◌, ◌<◌, ◌≤◌, List, length, slice_index}
use Rattle.mv_model.specs.State.{Table}
use Rattle.image_layout.specs.Fixed.{lane_op_at, table_count_at, table_slot_at}
use Rattle.image_layout.specs.Pointer.{pointer_word}
use Rattle.pm_model.specs.Plans.{finished}
use Rattle.image_layout.specs.Blocks.{live_blocks}
use Rattle.image_layout.specs.Tables.{table_count}
use Rattle.pm_model.specs.Needed.{after_mending}
use Rattle.heap_palloc.specs.Calls.{KeepsHeapRules}
use Rattle.heap_palloc.specs.Choice.{choice_page, choice_pages}
use Rattle.heap_palloc.specs.Law.{IsElsewhere}
use Rattle.shown_state.specs.Mending.{lane_mending, slot_mending}
use Rattle.catalog.specs.Creation.{Creation, MayCreate, creation_parts, new_block, table_record}
use Rattle.catalog.specs.Entries.{CatalogTable}

-- the words after opening's step of a lane, and then that of the table slot at the count
abbrev pub mended : ℕ → List ℕ → List ℕ
mended lane words = after_mending slot_mending (after_mending (lane_mending lane) words)

-- a word that neither the creation nor its mending writes
pub record IsUntouched (base : List ℕ) (c : Creation) (w : ℕ) : Type 0 where
  pub lane : IsElsewhere c.lane (table_slot_at (table_count base)) (choice_page c.choice) (choice_pages c.choice) w
  pub lane_zero : IsElsewhere 0 (table_slot_at (table_count base)) (choice_page c.choice) (choice_pages c.choice) w
  pub no_count : w ≢ table_count_at
  pub no_record : (w < new_block c) ⊎ (new_block c + length (table_record c.name c.columns) ≤ w)

-- all such words are the same
pub record KeepsUntouched (base : List ℕ) (c : Creation) (words : List ℕ) : Type 0 where
  pub size : length words ≡ length base
  pub each : (w : ℕ) → IsUntouched base c w → slice_index words w ≡ slice_index base w

-- the tables before: the same count and blocks, and a table slot at the count that is null
pub record IsUncreated (base : List ℕ) (c : Creation) (words : List ℕ) : Type 0 where
  pub keeps : KeepsUntouched base c words
  pub count : table_count words ≡ table_count base
  pub slot : slice_index words (table_slot_at (table_count base)) ≡ 0
  pub blocks_are : live_blocks words ≡ live_blocks base

-- the tables after: one more, whose slot names its block and whose words stand there
pub record IsCreated (base : List ℕ) (c : Creation) (words : List ℕ) : Type 0 where
  pub keeps : KeepsUntouched base c words
  pub count : table_count words ≡ table_count base + 1
  pub slot : slice_index words (table_slot_at (table_count base)) ≡ pointer_word (new_block c)
  pub record_is : (k : ℕ) → k < length (table_record c.name c.columns)
      → slice_index words (new_block c + k) ≡ slice_index (table_record c.name c.columns) k
  pub blocks_are : live_blocks words ≡ live_blocks (finished (creation_parts base c) base)

-- the table as a catalog has it
abbrev pub new_table : Creation → CatalogTable
new_table c = record { name = c.name; columns = c.columns; block = new_block c }

-- the table as the shown state has it
abbrev pub shown_table : Creation → Table
shown_table c = record { name = c.name; columns = c.columns; next_row = 0 }

-- The creation may begin on whole segments that keep the heap's rules, lane 0 is idle, and the slot behind the one at
-- the count is null.
pub record MayCreateOn (base : List ℕ) (c : Creation) : Type 0 where
  pub may : MayCreate base c
  pub rules : KeepsHeapRules base
  pub segments : length base % 32768 ≡ 0
  pub one_or_more : 32768 ≤ length base
  pub idle : slice_index base (lane_op_at 0) ≡ 0
  pub next : table_count base + 1 < 32 → slice_index base (table_slot_at (table_count base + 1)) ≡ 0
