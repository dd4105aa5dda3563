-- The rules that every image keeps, also one that a power cut left. They are tried in the order of `entry_rules`; a
-- rule may rely on those before it. Those of the heap and of lanes stand in `HeapRules`, and that of one array in
-- `Arrays`.
use Rattle.std.specs.Prelude.{ℕ, ◌+◌, ◌-◌, ◌/◌, ◌^◌, min, Bool, not, ◌&&◌, ◌||◌, ◌==◌, nat_lt, nat_le, if◌then◌else◌, Option, List, [], ◌∷◌, ◌++◌, map, filter, slice_index}
use Rattle.std.specs.List.{flat_map, list_any}
use Rattle.image_layout.specs.Fixed.{commit_word_at, last_at, magic_at, ready_at, state_at, table_count_at, table_slot_at, version_at}
use Rattle.image_layout.specs.Places.{below, is_in_segment, is_null_or_pointer_to, is_pointer, is_pointer_to, packed_byte, place_in}
use Rattle.image_layout.specs.Records.{column_name_at, created_header, ended_header, extension_words, first_leaf_at, key_at, kind_at, new_leaf_at, next_leaf_at, since_at, split_leaf_at, table_name_at, table_words}
use Rattle.image_layout.specs.Fresh.{magic_number}
use Rattle.image_layout.specs.Blocks.{is_block_pointer}
use Rattle.image_layout.specs.Arrays.{capacity, array_rule}
use Rattle.image_layout.specs.Tables.{table_count, table_block, table_blocks, all_columns, array_headers, column_count, column_record, extension_count, extension_of, extension_pointer_at, inner_columns, is_first_version, is_text, last_extension_pointer, since_of}
use Rattle.image_layout.specs.Objects.{is_open, commit_word, ready_count, segment_pointer_at, segment_of, pointer_after, entry_places, entry_kind, entry_table, entry_row}
use Rattle.image_layout.specs.Trees.{stored_leaves, leaf_list, leaf_slots, text_length, text_words}
use Rattle.image_layout.specs.Checks.{Check, check, Rule, Keeps, Numbered, numbered, Fault, first_fault}
use Rattle.image_layout.specs.HeapRules.{reserved_rule, descriptor_rule, bitmap_rule, lane_rule}

-- whether a number is among these
abbrev pub is_among : List ℕ → ℕ → Bool
is_among numbers number = list_any (λ other. other == number) numbers

-- 1: the magic number
abbrev pub magic_rule : Rule
magic_rule words = check magic_at (slice_index words magic_at == magic_number) ∷ []

-- 2: the version of the format is 1 or 2
abbrev pub version_rule : Rule
version_rule words = check version_at ((slice_index words version_at == 1) || (slice_index words version_at == 2)) ∷ []

-- 3: the last number is at most 2^40 - 1
abbrev pub last_rule : Rule
last_rule words = check last_at (nat_le (slice_index words last_at) (2 ^ 40 - 1)) ∷ []

-- 4: there are at most 32 tables
abbrev pub table_count_rule : Rule
table_count_rule words = check table_count_at (nat_le (table_count words) 32) ∷ []

-- the word is the pointer of a table block that lies in one segment, of a table with 1 to 16 columns, the first of
-- which stand in the block
abbrev pub is_table_pointer : List ℕ → ℕ → Bool
is_table_pointer words word =
    let columns = column_count words (place_in word) in
    let inner = inner_columns words (place_in word) in
    is_pointer words word && nat_le 1 inner && nat_le inner columns && nat_le columns 16
    && is_in_segment (place_in word) (table_words inner)

abbrev pub is_table_slot : List ℕ → ℕ → Bool
is_table_slot words table =
    let word = slice_index words (table_slot_at table) in
    (if nat_lt table (table_count words) then is_table_pointer words word
    else if table == table_count words then (word == 0) || is_block_pointer words word
    else word == 0)

-- an extension's pointer: the extension lies in one segment, and the table hasn't reached it before
abbrev pub is_extension_pointer : List ℕ → ℕ → ℕ → Bool
is_extension_pointer words block extension =
    is_pointer_to words extension_words (slice_index words (extension_pointer_at words block extension))
    && not (is_among (map (extension_of words block) (below extension)) (extension_of words block extension))

abbrev pub extension_pointer_check : List ℕ → ℕ → ℕ → Check
extension_pointer_check words block extension =
    check (extension_pointer_at words block extension) (is_extension_pointer words block extension)

-- the pointer after the published columns is null, or names an extension that the table owns and hasn't published
abbrev pub last_pointer_check : List ℕ → ℕ → Check
last_pointer_check words block =
    check (last_extension_pointer words block)
    (is_null_or_pointer_to words extension_words (slice_index words (last_extension_pointer words block)))

-- In version 2 the extensions of a table's columns are reached by their pointers, none twice.
unfoldable pub extension_checks : List ℕ → ℕ → List Check
extension_checks words block =
    (if is_first_version words then []
    else map (extension_pointer_check words block) (below (extension_count words block))
    ++ last_pointer_check words block ∷ [])

-- the slot of a table, and behind it the extensions of a published table
abbrev pub table_slot_checks : List ℕ → ℕ → List Check
table_slot_checks words table =
    check (table_slot_at table) (is_table_slot words table)
    ∷ (if nat_lt table (table_count words) then extension_checks words (table_block words table) else [])

-- 9: table slots below the count name tables, whose extensions are reached; the one at the count is null or a block's
-- pointer; and the others are null
unfoldable pub table_slot_rule : Rule
table_slot_rule words = flat_map (table_slot_checks words) (below 32)

-- 10: the arrays of each table
unfoldable pub arrays_rule : Rule
arrays_rule words =
    flat_map (λ block. flat_map (λ header. array_rule header words) (array_headers words block)) (table_blocks words)

-- the word at a place is null or the pointer of a leaf's block
abbrev pub leaf_pointer_check : List ℕ → ℕ → Check
leaf_pointer_check words at = check at (is_null_or_pointer_to words 128 (slice_index words at))

-- a next word is null, or the pointer of a leaf that the list hasn't reached
abbrev pub is_next : List ℕ → List ℕ → ℕ → Bool
is_next words reached word = (word == 0) || (is_pointer_to words 128 word && not (is_among reached (place_in word)))

-- along a list, the bitmap of each leaf has no bit above its 48, and its next word goes on to another leaf
abbrev pub leaf_checks : List ℕ → List ℕ → List ℕ → List Check
leaf_checks words reached [] = []
leaf_checks words reached (leaf ∷ leaves) =
    check leaf (nat_lt (slice_index words leaf) (2 ^ 48))
    ∷ check (next_leaf_at leaf) (is_next words (leaf ∷ reached) (slice_index words (next_leaf_at leaf)))
    ∷ leaf_checks words (leaf ∷ reached) leaves

-- the leaf that is being split is null or a leaf of the list
abbrev pub is_split_leaf : List ℕ → ℕ → Bool
is_split_leaf words column =
    let word = slice_index words (split_leaf_at column) in
    (word == 0) || is_among (stored_leaves words column) (place_in word)

unfoldable pub tree_checks : List ℕ → ℕ → List Check
tree_checks words column =
    map (leaf_pointer_check words) (first_leaf_at column ∷ split_leaf_at column ∷ new_leaf_at column ∷ [])
    ++ leaf_checks words [] (stored_leaves words column)
    ++ check (split_leaf_at column) (is_split_leaf words column) ∷ []

-- 11: trees. No leaf is reached twice, so the walk of `stored_leaves` ends; where a leaf is, the check at the word that
-- leads back to it fails before the walk is cut short.
unfoldable pub tree_rule : Rule
tree_rule words = flat_map (tree_checks words) (all_columns words)

-- letters from a to z, digits and the underscore
abbrev pub is_letter : ℕ → Bool
is_letter byte = nat_le 97 byte && nat_le byte 122

abbrev pub is_name_byte : ℕ → Bool
is_name_byte byte = is_letter byte || (nat_le 48 byte && nat_le byte 57) || (byte == 95)

-- a byte of a name that is padded with zero bytes to 24: the first one is a letter, and nothing follows a zero byte
abbrev pub is_padded_name_byte : List ℕ → ℕ → ℕ → Bool
is_padded_name_byte words place byte =
    (if byte == 0 then is_letter (packed_byte words place 0)
    else (packed_byte words place byte == 0)
    || (is_name_byte (packed_byte words place byte) && not (packed_byte words place (byte - 1) == 0)))

unfoldable pub name_checks : List ℕ → ℕ → List Check
name_checks words place = map (λ byte. check (place + byte / 8) (is_padded_name_byte words place byte)) (below 24)

abbrev pub kind_check : List ℕ → ℕ → Check
kind_check words column =
    check (kind_at column) ((slice_index words (kind_at column) == 1) || (slice_index words (kind_at column) == 2))

-- in version 2 a column that stands in its table's block has a word for every row
unfoldable pub since_checks : List ℕ → ℕ → ℕ → List Check
since_checks words block column =
    (if not (is_first_version words) && nat_lt column (inner_columns words block)
    then check (since_at (column_record words block column)) (since_of words (column_record words block column) == 0)
    ∷ []
    else [])

-- a column of a table by its number
abbrev pub column_name_checks : List ℕ → ℕ → ℕ → List Check
column_name_checks words block column =
    kind_check words (column_record words block column)
    ∷ name_checks words (column_name_at (column_record words block column))
    ++ since_checks words block column

-- 12: names and kinds, table by table
unfoldable pub name_rule : Rule
name_rule words =
    flat_map (λ block. name_checks words (table_name_at block)
    ++ flat_map (column_name_checks words block) (below (column_count words block))) (table_blocks words)

-- the word is the pointer of a text of at most 2,000 bytes that lies in one segment
abbrev pub is_text_pointer : List ℕ → ℕ → Bool
is_text_pointer words word =
    let length = text_length words (place_in word) in
    is_pointer words word && nat_le length 2000 && is_in_segment (place_in word) (text_words length)

unfoldable pub text_key_checks : List ℕ → ℕ → List Check
text_key_checks words leaf =
    map (λ slot. check (key_at leaf slot) (is_text_pointer words (slice_index words (key_at leaf slot))))
    (leaf_slots words leaf)

-- the columns of texts
abbrev pub text_columns : List ℕ → List ℕ
text_columns words = filter (is_text words) (all_columns words)

-- 13: the used keys of a tree of texts
unfoldable pub text_key_rule : Rule
text_key_rule words =
    flat_map (λ column. flat_map (text_key_checks words) (leaf_list words column)) (text_columns words)

-- a segment's pointer: the segment lies in one segment of the image, and the object hasn't reached it before
abbrev pub is_segment_pointer : List ℕ → ℕ → ℕ → Bool
is_segment_pointer words object segment =
    is_pointer_to words 256 (slice_index words (segment_pointer_at words object segment))
    && not (is_among (map (segment_of words object) (below segment)) (segment_of words object segment))

-- An object's state is 0 or 1, its commit word is at most the next commit number, and it has at most 32 ready segments,
-- which it reaches by their pointers, none twice. The pointer after them is null, or one of such a segment.
unfoldable pub object_rule : ℕ → Rule
object_rule object words =
    check (state_at object) (nat_le (slice_index words (state_at object)) 1)
    ∷ check (commit_word_at object)
    (nat_le (commit_word words object) (min (slice_index words last_at + 1) (2 ^ 40 - 1)))
    ∷ check (ready_at object) (nat_le (ready_count words object) 32)
    ∷ map (λ segment. check (segment_pointer_at words object segment) (is_segment_pointer words object segment))
    (below (ready_count words object))
    ++ check (pointer_after words object)
    (is_null_or_pointer_to words 256 (slice_index words (pointer_after words object))) ∷ []

-- 14: each transaction object
unfoldable pub objects_rule : Rule
objects_rule words = flat_map (λ object. object_rule object words) (below 16)

-- the rows of a table that have stamps
abbrev pub stamped_capacity : List ℕ → ℕ → ℕ
stamped_capacity words block = min (capacity words (created_header block)) (capacity words (ended_header block))

-- an entry word is of kind 1 or 2, of a published table, and of a row that has stamps
abbrev pub is_entry : List ℕ → ℕ → Bool
is_entry words word =
    ((entry_kind word == 1) || (entry_kind word == 2)) && nat_lt (entry_table word) (table_count words)
    && nat_lt (entry_row word) (stamped_capacity words (table_block words (entry_table word)))

-- each word is 0, or an entry that no 0 stands before
abbrev pub entry_checks : List ℕ → ℕ → List ℕ → List Check
entry_checks words before [] = []
entry_checks words before (at ∷ places) =
    check at ((slice_index words at == 0) || (not (before == 0) && is_entry words (slice_index words at)))
    ∷ entry_checks words (slice_index words at) places

-- 15: the entries of open objects
unfoldable pub entries_rule : Rule
entries_rule words =
    flat_map (λ object. entry_checks words 1 (entry_places words object)) (filter (is_open words) (below 16))

abbrev pub entry_rules : List Numbered
entry_rules =
    numbered 1 magic_rule
    ∷ numbered 2 version_rule
    ∷ numbered 3 last_rule
    ∷ numbered 4 table_count_rule
    ∷ numbered 5 reserved_rule
    ∷ numbered 6 descriptor_rule
    ∷ numbered 7 bitmap_rule
    ∷ numbered 8 lane_rule
    ∷ numbered 9 table_slot_rule
    ∷ numbered 10 arrays_rule
    ∷ numbered 11 tree_rule
    ∷ numbered 12 name_rule
    ∷ numbered 13 text_key_rule
    ∷ numbered 14 objects_rule
    ∷ numbered 15 entries_rule
    ∷ []

-- the first of these rules that an image breaks, and the first place at which it does
abbrev pub entry_fault : List ℕ → Option Fault
entry_fault words = first_fault entry_rules words

-- the image keeps them all
pub record KeepsEntryRules (words : List ℕ) : Type 0 where
  pub magic : Keeps words magic_rule
  pub version : Keeps words version_rule
  pub last : Keeps words last_rule
  pub table_count : Keeps words table_count_rule
  pub reserved : Keeps words reserved_rule
  pub descriptors : Keeps words descriptor_rule
  pub bitmaps : Keeps words bitmap_rule
  pub lanes : Keeps words lane_rule
  pub table_slots : Keeps words table_slot_rule
  pub arrays : Keeps words arrays_rule
  pub trees : Keeps words tree_rule
  pub names : Keeps words name_rule
  pub text_keys : Keeps words text_key_rule
  pub objects : Keeps words objects_rule
  pub entries : Keeps words entries_rule
