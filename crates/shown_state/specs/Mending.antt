-- What opening does to the words of an image: one plan after the other, each made from the words before it.
use Rattle.std.specs.Prelude.{ℕ, ◌-◌, ◌+◌, ◌^◌, max, Bool, true, false, not, ◌&&◌, ◌||◌, ◌==◌, nat_lt, is_none, if◌then◌else◌, List, [], ◌∷◌, ◌++◌, map, take, drop, sum_by, slice_index, slice_get}
use Rattle.std.specs.List.{flat_map}
use Rattle.std.specs.Option.{option_map_or}
use Rattle.pm_model.specs.declared.action.Action.{Action}
use Rattle.image_layout.specs.Fixed.{commit_word_at, descriptor_at, lane_op_at, lane_dest_at, lane_block_at, last_at, state_at, version_at}
use Rattle.image_layout.specs.Places.{below, page_of, place_in}
use Rattle.pm_model.specs.Plans.{Part, store, one_store, stores}
use Rattle.pm_model.specs.Needed.{needed_parts, Mending, after_mending}
use Rattle.image_layout.specs.Records.{code_at, created_header, ended_header, first_leaf_at, high_at, inner_columns_at, key_at, new_leaf_at, next_leaf_at, split_leaf_at}
use Rattle.image_layout.specs.Blocks.{is_block_pointer}
use Rattle.image_layout.specs.Arrays.{place_of}
use Rattle.image_layout.specs.Tables.{table_count, table_block, all_columns, column_count, is_first_version, is_text}
use Rattle.image_layout.specs.Objects.{is_open, commit_word, entry_places, entries, entry_kind, entry_table, entry_row, last_commit}
use Rattle.image_layout.specs.Trees.{is_full_leaf, leaf_slots, key_below, key_fingerprint, sorted_by}
use Rattle.image_layout.specs.Owners.{next_table_slots, next_text_slots}
use Rattle.image_layout.specs.EntryRules.{entry_fault}
use Rattle.image_layout.specs.SoundRules.{no_commit}
use Rattle.heap_palloc.specs.Lane.{mark_at, unmarked}
use Rattle.heap_palloc.specs.Choice.{freed_named, freed_parts}
use Rattle.shown_state.specs.Packed.{packed_words}
use Rattle.shown_state.specs.LogicalState.{created_rows, row_bound}

-- ── lanes ──

-- the mark of the block that begins at a place without the block: the descriptor of its head or its bit is cleared
abbrev pub cleared_mark : List ℕ → ℕ → ℕ
cleared_mark words block =
    unmarked block (slice_index words (descriptor_at (page_of block))) (slice_index words (mark_at block))

-- the block is allocated no longer
abbrev pub release_part : List ℕ → ℕ → Part
release_part words block = one_store (mark_at block) (cleared_mark words block)

-- By what the lane is at work on, the owner's place and the block's pointer. An allocation whose owner word names the
-- block is ended, another is taken back, and a freeing is ended.
abbrev pub lane_parts : List ℕ → ℕ → ℕ → ℕ → ℕ → List Part
lane_parts words lane op owner block =
    let idle = one_store (lane_op_at lane) 0 in
    let release = release_part words (place_in block) in
    (if op == 1 then (if slice_index words owner == block then idle ∷ [] else release ∷ idle ∷ [])
    else if op == 2 then one_store owner 0 ∷ release ∷ idle ∷ []
    else [])

abbrev pub lane_mending : ℕ → Mending
lane_mending lane words =
    lane_parts words lane (slice_index words (lane_op_at lane)) (place_in (slice_index words (lane_dest_at lane)))
    (slice_index words (lane_block_at lane))

-- ── split logs ──

-- the used slots of a leaf in the order of their keys
abbrev pub slots_by_key : List ℕ → Bool → ℕ → List ℕ
slots_by_key words texts leaf =
    sorted_by (λ slot other.
    key_below words texts (slice_index words (key_at leaf slot)) (slice_index words (key_at leaf other)))
    (leaf_slots words leaf)

-- a pair of one leaf is copied to a slot of another
abbrev pub copy_slot : List ℕ → ℕ → List ℕ → ℕ → ℕ → Part
copy_slot words leaf slots new slot =
    store (key_at new slot) (slice_index words (key_at leaf (slice_index slots slot)))
    ∷ store (code_at new slot) (slice_index words (code_at leaf (slice_index slots slot)))
    ∷ []

-- words from a place on get these values
abbrev pub fill_from : ℕ → List ℕ → Part
fill_from place [] = []
fill_from place (value ∷ values) = store place value ∷ fill_from (place + 1) values

-- the pairs at these 24 slots become those of the new leaf, with their fingerprints and the next word of the old leaf
abbrev pub copy_part : List ℕ → Bool → ℕ → ℕ → List ℕ → Part
copy_part words texts leaf new slots =
    let prints = map (λ slot. key_fingerprint words texts (slice_index words (key_at leaf slot))) slots in
    flat_map (copy_slot words leaf slots new) (below 24)
    ++ fill_from (new + 2) (packed_words prints 6)
    ++ store new (2 ^ 24 - 1) ∷ store (next_leaf_at new) (slice_index words (next_leaf_at leaf)) ∷ []

-- the bitmap of some slots
abbrev pub bitmap_with : List ℕ → ℕ
bitmap_with slots = sum_by (λ slot. 2 ^ slot) slots

-- the greater half of a full leaf goes to the new leaf, and then the leaf keeps the other half
abbrev pub halving_parts : List ℕ → Bool → ℕ → ℕ → List Part
halving_parts words texts leaf new =
    let slots = slots_by_key words texts leaf in
    copy_part words texts leaf new (drop 24 slots) ∷ one_store leaf (bitmap_with (take 24 slots)) ∷ []

-- the new leaf, by its pointer, is linked behind the leaf that was split, and the split log is closed
abbrev pub linking_parts : ℕ → ℕ → ℕ → List Part
linking_parts column leaf new =
    one_store (next_leaf_at leaf) new ∷ one_store (new_leaf_at column) 0 ∷ one_store (split_leaf_at column) 0 ∷ []

-- the first leaf of an empty tree, by its pointer
abbrev pub first_leaf_parts : ℕ → ℕ → List Part
first_leaf_parts column new =
    (store (place_in new) 0 ∷ store (next_leaf_at (place_in new)) 0 ∷ [])
    ∷ one_store (first_leaf_at column) new
    ∷ one_store (new_leaf_at column) 0
    ∷ []

-- a column's split log, with the pointers to the leaf that is split and to the new one
abbrev pub split_parts : List ℕ → ℕ → ℕ → ℕ → List Part
split_parts words column leaf new =
    (if (leaf == 0) && (new == 0) then []
    else if new == 0 then one_store (split_leaf_at column) 0 ∷ []
    else if leaf == 0 then
    (if slice_index words (first_leaf_at column) == 0
    then first_leaf_parts column new else one_store (new_leaf_at column) 0 ∷ [])
    else (if is_full_leaf words (place_in leaf)
    then halving_parts words (is_text words column) (place_in leaf) (place_in new) else [])
    ++ linking_parts column (place_in leaf) new)

-- what is done to a column by its number, counted over all tables
abbrev pub at_column : (List ℕ → ℕ → List Part) → ℕ → Mending
at_column parts number words = option_map_or (parts words) (slice_get (all_columns words) number) []

abbrev pub split_mending : ℕ → Mending
split_mending number =
    at_column (λ words column.
    split_parts words column (slice_index words (split_leaf_at column))
    (slice_index words (new_leaf_at column))) number

-- ── blocks of a table or a text that was being added ──

-- the block that the word at a place names is freed through lane 0
abbrev pub free_block : List ℕ → ℕ → List Part
free_block words at = freed_parts words (freed_named words 0 at)

-- the block of a table that was being created
abbrev pub free_table : List ℕ → ℕ → List Part
free_table words at = (if slice_index words at == 0 then [] else free_block words at)

abbrev pub slot_mending : Mending
slot_mending words = flat_map (free_table words) (next_table_slots words)

-- the block of a text that was being added, where the slot names one
abbrev pub free_text : List ℕ → ℕ → List Part
free_text words at = (if is_block_pointer words (slice_index words at) then free_block words at else [])

abbrev pub text_mending : ℕ → Mending
text_mending number = at_column (λ words column. flat_map (free_text words) (next_text_slots words column)) number

-- ── transactions ──

-- the last number is that of the last commit
abbrev pub last_mending : Mending
last_mending words = one_store last_at (last_commit words) ∷ []

-- The stamp of an entry's row is taken back, if it isn't that of a commit that is kept: the row is dead, or not ended.
abbrev pub undo_entry : List ℕ → ℕ → Part
undo_entry words word =
    let block = table_block words (entry_table word) in
    let created = place_of words (created_header block) (entry_row word) in
    let ended = place_of words (ended_header block) (entry_row word) in
    let last = slice_index words last_at in
    (if entry_kind word == 1
    then (if (slice_index words created == 0) || nat_lt last (slice_index words created)
    then one_store created no_commit else [])
    else (if nat_lt last (slice_index words ended) then one_store ended 0 else []))

-- a table's bound on stamped rows is raised above the rows that an object's transaction created
abbrev pub raise_bound : List ℕ → ℕ → ℕ → Action
raise_bound words object table =
    let at = high_at (table_block words table) in
    store at (max (slice_index words at) (row_bound (created_rows words object table)))

-- An open transaction that isn't committed is taken back, and its object closed: the stamps in the order of the
-- entries, and then the bounds table by table.
abbrev pub undo_parts : List ℕ → ℕ → List Part
undo_parts words object =
    (flat_map (undo_entry words) (entries words object) ++ map (raise_bound words object) (below (table_count words)))
    ∷ one_store (state_at object) 0
    ∷ []

abbrev pub undo_mending : ℕ → Mending
undo_mending object words =
    (if is_open words object && (commit_word words object == 0) then undo_parts words object else [])

-- the object of a transaction that is committed is closed
abbrev pub close_mending : ℕ → Mending
close_mending object words =
    (if is_open words object && not (commit_word words object == 0) then one_store (state_at object) 0 ∷ [] else [])

-- an object's entries and commit word are cleared
abbrev pub clear_mending : ℕ → Mending
clear_mending object words = (stores 0 (entry_places words object) ++ one_store (commit_word_at object) 0) ∷ []

-- ── the version ──

-- a table of version 1 says how many columns stand in its block: all that it has
abbrev pub count_columns : List ℕ → ℕ → Part
count_columns words table =
    let block = table_block words table in
    one_store (inner_columns_at block) (column_count words block)

-- an image of version 1 gets that word in each table, and is then one of version 2
abbrev pub version_mending : Mending
version_mending words =
    (if is_first_version words
    then map (count_columns words) (below (table_count words)) ++ one_store version_at 2 ∷ []
    else [])

-- ── all of it ──

-- All that opening mends, in order: each lane, split log, the table slot at the table count, the dictionary slot at
-- the length of each column, the last number, then each object in three rounds, and the version. There are at most 512
-- columns.
abbrev pub mendings : List Mending
mendings =
    map lane_mending (below 16)
    ++ map split_mending (below 512)
    ++ slot_mending ∷ []
    ++ map text_mending (below 512)
    ++ last_mending ∷ []
    ++ map undo_mending (below 16)
    ++ map close_mending (below 16)
    ++ map clear_mending (below 16)
    ++ version_mending ∷ []

-- the words that opening has reached, and whether it goes no further
pub record Reached : Type 0 where
  pub words : List ℕ
  pub stopped : Bool

-- the words that a plan of these parts reached; where it has any, the entry rules are tried again on them
abbrev pub after_parts : List ℕ → List Part → Reached
after_parts reached [] = record { words = reached; stopped = false }
after_parts reached (part ∷ parts) = record { words = reached; stopped = not (is_none (entry_fault reached)) }

-- one mending, unless opening goes no further
abbrev pub mend_unless : Bool → List ℕ → Mending → Reached
mend_unless true words mending = record { words = words; stopped = true }
mend_unless false words mending = after_parts (after_mending mending words) (needed_parts words (mending words))

-- the words after these, one plan each
abbrev pub mend : List Mending → Reached → Reached
mend [] reached = reached
mend (mending ∷ mendings) reached = mend mendings (mend_unless reached.stopped reached.words mending)

-- where opening ends on an image that keeps the entry rules
unfoldable pub reached_by_opening : List ℕ → Reached
reached_by_opening words = mend mendings (record { words = words; stopped = false })

-- the words after it
abbrev pub recovered : List ℕ → List ℕ
recovered words = (reached_by_opening words).words
