-- Parts of the rules, which a function of their own tries.
use Rattle.std.specs.Prelude.{◌≡◌, ◌≢◌, ℕ, zero, suc, ◌+◌, ◌^◌, ◌<◌, ◌≤◌, Bool, true, ◌&&◌, nat_lt, List, [], ◌∷◌, ◌++◌, map, length, slice_index}
use Rattle.std.specs.List.{flat_map}
use Rattle.image_layout.specs.Fixed.{commit_word_at, state_at}
use Rattle.image_layout.specs.Places.{below, is_null_or_pointer_to, is_pointer_to, place_in}
use Rattle.image_layout.specs.Records.{column_name_at, extension_words, new_leaf_at, next_leaf_at, split_leaf_at, table_name_at, table_words}
use Rattle.image_layout.specs.Objects.{entry_places, segment_pointer_at}
use Rattle.image_layout.specs.Arrays.{array_rule}
use Rattle.image_layout.specs.Tables.{NamesExtension, array_headers, column_count, extension_count, extension_pointer_at, inner_columns}
use Rattle.image_layout.specs.Checks.{Check, Rule, check}
use Rattle.image_layout.specs.EntryRules.{column_name_checks, extension_pointer_check, is_segment_pointer, kind_check, name_checks}
use Rattle.image_layout.specs.SoundRules.{zero_check}
use Rattle.image_layout.specs.Owners.{next_table_slots}

-- the pointers to the first segments of an object, so many of them, and the one after them
abbrev pub segment_checks : List ℕ → ℕ → ℕ → List Check
segment_checks words object ready =
    map (λ segment. check (segment_pointer_at words object segment) (is_segment_pointer words object segment))
    (below ready)
    ++ check (segment_pointer_at words object ready)
    (is_null_or_pointer_to words 256 (slice_index words (segment_pointer_at words object ready))) ∷ []

-- the pointers to the first extensions of a table, so many of them, and the one after them
abbrev pub pointer_checks : List ℕ → ℕ → ℕ → List Check
pointer_checks words block count =
    map (extension_pointer_check words block) (below count)
    ++ check (extension_pointer_at words block count)
    (is_null_or_pointer_to words extension_words (slice_index words (extension_pointer_at words block count))) ∷ []

-- the block of a table with 1 to 16 columns, the first of which stand in it, and its words lie in the image
pub record IsTableHead (words : List ℕ) (block : ℕ) : Type 0 where
  pub fixed : 32768 ≤ length words
  pub some : 1 ≤ inner_columns words block
  pub inner : inner_columns words block ≤ column_count words block
  pub most : column_count words block ≤ 16
  pub within : block + table_words (inner_columns words block) ≤ length words

-- and the pointers to the extensions of its other columns name words of the image too
pub record IsTableBlock (words : List ℕ) (block : ℕ) : Type 0 where
  pub fixed : 32768 ≤ length words
  pub some : 1 ≤ inner_columns words block
  pub inner : inner_columns words block ≤ column_count words block
  pub most : column_count words block ≤ 16
  pub within : block + table_words (inner_columns words block) ≤ length words
  pub extensions : (extension : ℕ) → extension < extension_count words block → NamesExtension words block extension

-- 10, of the arrays of one table
abbrev pub table_arrays_rule : ℕ → Rule
table_arrays_rule block words = flat_map (λ header. array_rule header words) (array_headers words block)

-- a column's kind and name, by the place of its record
abbrev pub kind_name_checks : List ℕ → ℕ → List Check
kind_name_checks words column = kind_check words column ∷ name_checks words (column_name_at column)

-- a table's name, and the kinds and names of its columns
abbrev pub table_name_checks : List ℕ → ℕ → List Check
table_name_checks words block =
    name_checks words (table_name_at block)
    ++ flat_map (column_name_checks words block) (below (column_count words block))

-- 17, of a column: no leaf is being split, and none is being added
abbrev pub log_checks : List ℕ → ℕ → List Check
log_checks words column = zero_check words (split_leaf_at column) ∷ zero_check words (new_leaf_at column) ∷ []

-- and of the table slots: the one at the table count is null
unfoldable pub next_slot_rule : Rule
next_slot_rule words = map (zero_check words) (next_table_slots words)

-- an object's state, its commit word and its entries are 0
abbrev pub object_zeros : List ℕ → ℕ → List Check
object_zeros words object = map (zero_check words) (state_at object ∷ commit_word_at object ∷ entry_places words object)

-- 11, of a column's list: a leaf keeps its rule, and its next word names another leaf
abbrev pub leads_on : List ℕ → ℕ → Bool
leads_on words leaf =
    nat_lt (slice_index words leaf) (2 ^ 48) && is_pointer_to words 128 (slice_index words (next_leaf_at leaf))

-- where a walk is after so many steps, each of which goes on to the next place
abbrev pub walked : (ℕ → ℕ) → ℕ → ℕ → ℕ
walked next first zero = first
walked next first (suc steps) = next (walked next first steps)

-- the leaf that the next word of a leaf names, and the one that is reached by so many next words
abbrev pub next_of : List ℕ → ℕ → ℕ
next_of words leaf = place_in (slice_index words (next_leaf_at leaf))

abbrev pub leaf_after : List ℕ → ℕ → ℕ → ℕ
leaf_after words leaf steps = walked (next_of words) leaf steps

-- the next words lead on from a leaf without an end
pub record LeadsOn (words : List ℕ) (leaf : ℕ) : Type 0 where
  pub within : leaf + 128 ≤ length words
  pub each : (steps : ℕ) → leads_on words (leaf_after words leaf steps) ≡ true

-- by so many next words a leaf is reached from itself
pub record IsOnCircle (words : List ℕ) (leaf : ℕ) : Type 0 where
  pub steps : ℕ
  pub some : 1 ≤ steps
  pub few : steps ≤ length words
  pub back : leaf_after words leaf steps ≡ leaf

-- and by no fewer
pub record IsCircle (words : List ℕ) (leaf steps : ℕ) : Type 0 where
  pub some : 1 ≤ steps
  pub few : steps ≤ length words
  pub back : leaf_after words leaf steps ≡ leaf
  pub least : (fewer : ℕ) → 1 ≤ fewer → fewer < steps → leaf_after words leaf fewer ≢ leaf

-- the first leaf of a list whose next word goes back to a leaf that the list has reached
pub record ClosesList (words : List ℕ) (first leaf : ℕ) : Type 0 where
  pub steps : ℕ
  pub few : steps < length words
  pub is : leaf ≡ leaf_after words first steps
  pub back : (reached : ℕ) × (reached ≤ steps) × (next_of words leaf ≡ leaf_after words first reached)
  pub apart : (a b : ℕ) → a < b → b ≤ steps → leaf_after words first a ≢ leaf_after words first b

-- what stands for the numbers below one, the last one first
abbrev pub before_of : (ℕ → ℕ) → ℕ → List ℕ
before_of f zero = []
before_of f (suc k) = f k ∷ before_of f k
