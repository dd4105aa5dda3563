-- The creation of a table: its block is allocated into the table slot at the table count, all words of the block are
-- stored, and then the count is raised.
use Rattle.std.specs.Prelude.{ℕ, ◌+◌, ◌<◌, ◌≤◌, List, [], ◌∷◌, ◌++◌, length, replicate}
use Rattle.std.specs.List.{flat_map}
use Rattle.mv_model.specs.declared.shape.Column.{Column}
use Rattle.mv_model.specs.declared.shape.Kind.{Kind}
use Rattle.mv_model.specs.declared.shape.Kind.TheVariants.{Int, Text}
use Rattle.image_layout.specs.Fixed.{table_count_at, table_slot_at}
use Rattle.pm_model.specs.Plans.{Part, finished, one_store}
use Rattle.image_layout.specs.Records.{table_words}
use Rattle.image_layout.specs.Tables.{table_count}
use Rattle.heap_palloc.specs.Choice.{Choice, choice_block, choice_parts, IsThrough, MayMake}
use Rattle.shown_state.specs.Mending.{fill_from}
use Rattle.shown_state.specs.Packed.{packed_words}

-- the word of a kind
abbrev pub kind_word : Kind → ℕ
kind_word Int = 1
kind_word Text = 2

-- the 40 words of a new column: its kind, its name, and no leaf and no chunk yet
abbrev pub column_record : Column → List ℕ
column_record column = kind_word column.kind ∷ packed_words column.name 3 ++ replicate {A = ℕ} 36 0

-- the 40 words before the columns: how many there are, no stamped row, the name, no extension, how many columns stand
-- in the block, which are all, and no chunk yet
abbrev pub head_record : List ℕ → ℕ → List ℕ
head_record name columns = columns ∷ 0 ∷ packed_words name 3 ++ 0 ∷ columns ∷ replicate {A = ℕ} 33 0

-- the words of a new table's block, in ascending place
abbrev pub table_record : List ℕ → List Column → List ℕ
table_record name columns = head_record name (length columns) ++ flat_map column_record columns

-- a creation: the lane, where the block goes, and the table's name and columns
pub record Creation : Type 0 where
  pub lane : ℕ
  pub choice : Choice
  pub name : List ℕ
  pub columns : List Column

abbrev pub creation_by : ℕ → Choice → List ℕ → List Column → Creation
creation_by lane choice name columns = record { lane = lane; choice = choice; name = name; columns = columns }

-- the place of the new table's block
abbrev pub new_block : Creation → ℕ
new_block c = (choice_block c.choice).first

-- all words of the block are stored, and then the count is raised
abbrev pub publishing_parts : ℕ → List ℕ → ℕ → List Part
publishing_parts block values count = fill_from block values ∷ one_store table_count_at (count + 1) ∷ []

abbrev pub creation_parts : List ℕ → Creation → List Part
creation_parts words c = choice_parts words c.choice
    ++ publishing_parts (new_block c) (table_record c.name c.columns) (table_count words)

-- the words after it
abbrev pub created_words : List ℕ → Creation → List ℕ
created_words words c = finished (creation_parts words c) words

-- The creation may begin: there are fewer than 32 tables, the block may be allocated into the slot at the count, and it
-- has the words that the table needs.
pub record MayCreate (words : List ℕ) (c : Creation) : Type 0 where
  pub count : table_count words < 32
  pub through : IsThrough c.lane (table_slot_at (table_count words)) c.choice
  pub may : MayMake words c.choice
  pub room : table_words (length c.columns) ≤ (choice_block c.choice).words
