-- What taking back an undecided transaction reads: the rules that it relies on, and the entries as words.
use Rattle.std.specs.Prelude.{ℕ, max, ◌&&◌, ◌==◌, List, map, filter, slice_index}
use Rattle.image_layout.specs.declared.place.Place.{Place}
use Rattle.pm_model.specs.declared.action.Action.{Action}
use Rattle.pm_model.specs.Plans.{Part, store}
use Rattle.image_layout.specs.Places.{below}
use Rattle.image_layout.specs.Records.{high_at}
use Rattle.image_layout.specs.Tables.{table_block, table_count}
use Rattle.shown_state.specs.LogicalState.{row_bound}
use Rattle.image_layout.specs.Objects.{entry_kind, entry_table, entry_row}
use Rattle.image_layout.specs.Checks.{Keeps}
use Rattle.image_layout.specs.EntryRules.{table_count_rule, table_slot_rule, arrays_rule, objects_rule, entries_rule}
use Rattle.pmem_recover.specs.Filled.{places_of}

-- the rules 4, 9, 10, 14 and 15
pub record KeepsUndoRules (words : List ℕ) : Type 0 where
  pub table_count : Keeps words table_count_rule
  pub table_slots : Keeps words table_slot_rule
  pub arrays : Keeps words arrays_rule
  pub objects : Keeps words objects_rule
  pub entries : Keeps words entries_rule

-- the words at these places
abbrev pub words_at : List ℕ → List Place → List ℕ
words_at words places = map (slice_index words) (places_of places)

-- the rows of a table that these entries created
abbrev pub created_among : List ℕ → ℕ → List ℕ
created_among entries table =
    map entry_row (filter (λ word. (entry_kind word == 1) && (entry_table word == table)) entries)

-- the bound of a table raised above the rows that these entries created
abbrev pub bound_store : List ℕ → List ℕ → ℕ → Action
bound_store words entries table =
    store (high_at (table_block words table))
    (max (slice_index words (high_at (table_block words table))) (row_bound (created_among entries table)))

-- the same for each table
abbrev pub bounds_part : List ℕ → List ℕ → Part
bounds_part words entries = map (λ table. bound_store words entries table) (below (table_count words))
