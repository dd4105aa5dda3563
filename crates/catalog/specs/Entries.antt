-- What a catalog says of the published tables, and which words it stands for.
use Rattle.std.specs.Prelude.{ℕ, ◌<◌, IsTrue, Option, List, All, map, slice_index}
use Rattle.std.specs.List.{position_from}
use Rattle.mv_model.specs.declared.shape.Column.{Column}
use Rattle.mv_model.specs.Name.{is_name, same_name}
use Rattle.mv_model.specs.Shape.{is_shape}
use Rattle.image_layout.specs.Fixed.{table_slot_at}
use Rattle.image_layout.specs.Places.{below, is_pointer}
use Rattle.image_layout.specs.Records.{column_name_at, table_name_at}
use Rattle.image_layout.specs.Tables.{HasRecords, table_count, table_block, columns_of, column_count, column_record}
use Rattle.image_layout.specs.Checks.{Keeps}
use Rattle.image_layout.specs.EntryRules.{table_count_rule, table_slot_rule, name_rule}
use Rattle.image_layout.specs.SoundRules.{distinct_name_rule}
use Rattle.shown_state.specs.LogicalState.{name_at, column_of}

-- a table: its name, its columns, and the place of its block
pub record CatalogTable : Type 0 where
  pub name : List ℕ
  pub columns : List Column
  pub block : ℕ

-- a table's name and those of its columns are names
pub record HasNames (name : List ℕ) (columns : List Column) : Type 0 where
  pub name_is : IsTrue (is_name name)
  pub columns_are : All (λ column. IsTrue (is_name column.name)) columns

-- the published tables, by their numbers, and the one whose creation was planned
pub record CatalogState : Type 0 where
  pub tables : List CatalogTable
  pub planned : Option CatalogTable

-- the number of the table with a name
abbrev pub table_named : List CatalogTable → List ℕ → Option ℕ
table_named tables name = position_from (λ table. same_name table.name name) 0 tables

-- a published table as its words show it
abbrev pub published_table : List ℕ → ℕ → CatalogTable
published_table words table =
    let block = table_block words table in
    record {
      name = name_at words (table_name_at block);
      columns = map (column_of words) (columns_of words block);
      block = block;
    }

abbrev pub published_tables : List ℕ → List CatalogTable
published_tables words = map (published_table words) (below (table_count words))

-- each column of the table with this block has a name
abbrev pub HasColumnNames : List ℕ → ℕ → Type 0
HasColumnNames words block =
    (column : ℕ) → column < column_count words block
    → IsTrue (is_name (name_at words (column_name_at (column_record words block column))))

-- A published table's pointer names a block of the image, which shows a name and columns as a table has them.
pub record ShowsTable (words : List ℕ) (table : ℕ) : Type 0 where
  pub pointer : IsTrue (is_pointer words (slice_index words (table_slot_at table)))
  pub records : HasRecords words (table_block words table)
  pub name : IsTrue (is_name (name_at words (table_name_at (table_block words table))))
  pub column_names : HasColumnNames words (table_block words table)
  pub shape : IsTrue (is_shape (map (column_of words) (columns_of words (table_block words table))))

-- The rules by which the tables are read back: 4, 9, 12 and 30. Every sound image keeps them.
pub record KeepsTableRules (words : List ℕ) : Type 0 where
  pub table_count : Keeps words table_count_rule
  pub table_slots : Keeps words table_slot_rule
  pub names : Keeps words name_rule
  pub distinct_names : Keeps words distinct_name_rule
