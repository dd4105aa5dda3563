-- The rules that an image at rest keeps beside those of `EntryRules`: nothing is half done, each block has one owner,
-- and trees, dictionaries and stamps fit together. They are tried in the order of `rest_rules`, after those.
use Rattle.std.specs.Prelude.{ℕ, ◌+◌, ◌-◌, ◌^◌, min, max, Bool, false, not, ◌&&◌, ◌||◌, ◌==◌, nat_lt, nat_le, if◌then◌else◌, Option, List, [], ◌∷◌, ◌++◌, map, filter, slice_index}
use Rattle.std.specs.List.{flat_map, list_all, list_any, range_with_len}
use Rattle.std.specs.Str.{is_utf8}
use Rattle.image_layout.specs.Pointer.{pointer_word}
use Rattle.image_layout.specs.Fixed.{commit_word_at, lane_op_at, last_at, state_at, version_at}
use Rattle.image_layout.specs.Places.{below, page_at, page_count, place_in}
use Rattle.image_layout.specs.Records.{code_at, codes_header, column_name_at, created_header, dictionary_header, ended_header, fingerprint_at, high_at, key_at, new_leaf_at, split_leaf_at, table_name_at}
use Rattle.image_layout.specs.Blocks.{is_given_back, live_blocks}
use Rattle.image_layout.specs.Arrays.{capacity, place_of, array_word}
use Rattle.image_layout.specs.Tables.{table_blocks, columns_of, columns_with, all_columns, is_text, since_of}
use Rattle.image_layout.specs.Objects.{entry_places}
use Rattle.image_layout.specs.Trees.{leaf_list, leaf_slots, key_below, keys_differ, key_fingerprint, slot_fingerprint, dictionary_length, dictionary_word, text_at}
use Rattle.image_layout.specs.Owners.{word_of, owner_words, owns_block, dictionary_slots, next_table_slots}
use Rattle.image_layout.specs.Checks.{Check, check, Rule, Keeps, Numbered, numbered, Fault, first_fault}
use Rattle.image_layout.specs.EntryRules.{is_among, text_columns, entry_rules, KeepsEntryRules}

-- the word at a place is 0
abbrev pub zero_check : List ℕ → ℕ → Check
zero_check words at = check at (slice_index words at == 0)

-- 16: each lane is idle
unfoldable pub idle_rule : Rule
idle_rule words = map (λ lane. zero_check words (lane_op_at lane)) (below 16)

-- 17: no split is logged, and the table slot at the table count is null
unfoldable pub split_log_rule : Rule
split_log_rule words =
    map (zero_check words)
    (flat_map (λ column. split_leaf_at column ∷ new_leaf_at column ∷ []) (all_columns words)
    ++ next_table_slots words)

-- 18: no transaction is open, and objects have no commit word and no entries
unfoldable pub closed_rule : Rule
closed_rule words =
    map (zero_check words)
    (flat_map (λ object. state_at object ∷ commit_word_at object ∷ entry_places words object) (below 16))

-- 19: each owner word names the first word of a live block of the kind and size that its owner needs
unfoldable pub owner_rule : Rule
owner_rule words = map (λ owner. check owner.at (owns_block words owner)) (owner_words words)

-- each word differs from those before it
abbrev pub distinct_checks : List ℕ → List ℕ → List ℕ → List Check
distinct_checks words before [] = []
distinct_checks words before (at ∷ places) =
    check at (not (is_among before (slice_index words at)))
    ∷ distinct_checks words (slice_index words at ∷ before) places

-- 20: no block has two owners
unfoldable pub single_owner_rule : Rule
single_owner_rule words = distinct_checks words [] (map (λ owner. owner.at) (owner_words words))

-- 21: each live block has an owner
unfoldable pub owned_rule : Rule
owned_rule words =
    map (λ block. check block.first (is_among (map (word_of words) (owner_words words)) (pointer_word block.first)))
    (live_blocks words)

-- A key is above every key of the leaves before, and differs from those at the slots before it in its own leaf.
abbrev pub is_in_order : List ℕ → Bool → List ℕ → List ℕ → ℕ → Bool
is_in_order words texts before here key =
    list_all (λ other. key_below words texts other key) before
    && list_all (λ other. keys_differ words texts other key) here

-- the key words at the used slots of a leaf
abbrev pub leaf_keys : List ℕ → ℕ → List ℕ
leaf_keys words leaf = map (λ slot. slice_index words (key_at leaf slot)) (leaf_slots words leaf)

abbrev pub slot_order_checks : List ℕ → Bool → List ℕ → List ℕ → ℕ → List ℕ → List Check
slot_order_checks words texts before here leaf [] = []
slot_order_checks words texts before here leaf (slot ∷ slots) =
    check (key_at leaf slot) (is_in_order words texts before here (slice_index words (key_at leaf slot)))
    ∷ slot_order_checks words texts before (slice_index words (key_at leaf slot) ∷ here) leaf slots

abbrev pub order_checks : List ℕ → Bool → List ℕ → List ℕ → List Check
order_checks words texts before [] = []
order_checks words texts before (leaf ∷ leaves) =
    slot_order_checks words texts before [] leaf (leaf_slots words leaf)
    ++ order_checks words texts (before ++ leaf_keys words leaf) leaves

-- 22: along a leaf list every key is below every key of a later leaf, and the keys in one leaf differ
unfoldable pub order_rule : Rule
order_rule words =
    flat_map (λ column. order_checks words (is_text words column) [] (leaf_list words column)) (all_columns words)

unfoldable pub fingerprint_checks : List ℕ → Bool → ℕ → List Check
fingerprint_checks words texts leaf =
    map (λ slot. check (fingerprint_at leaf slot)
    (slot_fingerprint words leaf slot == key_fingerprint words texts (slice_index words (key_at leaf slot))))
    (leaf_slots words leaf)

-- 23: the fingerprints of used slots are those of their keys
unfoldable pub fingerprint_rule : Rule
fingerprint_rule words =
    flat_map (λ column. flat_map (fingerprint_checks words (is_text words column)) (leaf_list words column))
    (all_columns words)

-- a used slot of a leaf: the places of its key word and of its code
pub record UsedSlot : Type 0 where
  pub key : ℕ
  pub code : ℕ

-- the used slots along a column's leaves
unfoldable pub column_slots : List ℕ → ℕ → List UsedSlot
column_slots words column =
    flat_map (λ leaf. map (λ slot. record { key = key_at leaf slot; code = code_at leaf slot }) (leaf_slots words leaf))
    (leaf_list words column)

-- a code has a published dictionary slot below the length, in which the key word stands
abbrev pub is_code_of : List ℕ → ℕ → ℕ → ℕ → Bool
is_code_of words column key code =
    nat_lt code (dictionary_length words column) && nat_lt code (capacity words (dictionary_header column))
    && (dictionary_word words column code == key)

abbrev pub code_checks : List ℕ → ℕ → List ℕ → List UsedSlot → List Check
code_checks words column before [] = []
code_checks words column before (slot ∷ slots) =
    check slot.code (is_code_of words column (slice_index words slot.key) (slice_index words slot.code)
    && not (is_among before (slice_index words slot.code)))
    ∷ code_checks words column (slice_index words slot.code ∷ before) slots

-- 24: the codes of used slots differ, and each is that of its key word in the dictionary
unfoldable pub code_rule : Rule
code_rule words = flat_map (λ column. code_checks words column [] (column_slots words column)) (all_columns words)

unfoldable pub text_checks : List ℕ → ℕ → List Check
text_checks words column =
    map (λ at. check (place_in (slice_index words at)) (is_utf8 (text_at words (place_in (slice_index words at)))))
    (dictionary_slots words column)

-- 25: texts are UTF-8
unfoldable pub text_rule : Rule
text_rule words = flat_map (text_checks words) (text_columns words)

-- the published slots of a column's dictionary from its length on
abbrev pub spare_slots : List ℕ → ℕ → List ℕ
spare_slots words column =
    let length = dictionary_length words column in
    map (place_of words (dictionary_header column))
    (range_with_len length (capacity words (dictionary_header column) - length))

-- 26: they are 0 in a column of texts
unfoldable pub spare_slot_rule : Rule
spare_slot_rule words = map (zero_check words) (flat_map (spare_slots words) (text_columns words))

-- what a row that was never created, or by no commit that is kept, has for its creator
abbrev pub no_commit : ℕ
no_commit = 2 ^ 64 - 1

-- a stamp of the commits so far
abbrev pub is_commit : List ℕ → ℕ → Bool
is_commit words stamp = nat_le 1 stamp && nat_le stamp (slice_index words last_at)

-- the stamp of the commit that created a row: none, that it is dead, or a commit; from the bound on none
abbrev pub is_created : List ℕ → Bool → ℕ → Bool
is_created words stamped created = (created == 0) || (stamped && ((created == no_commit) || is_commit words created))

-- the stamp of the commit that ended a row: none, or not before the commit that created it; from the bound on none
abbrev pub is_ended : List ℕ → Bool → ℕ → ℕ → Bool
is_ended words stamped created ended =
    (ended == 0) || (stamped && is_commit words created && is_commit words ended && nat_le created ended)

-- the array's word of a row, and its check where it is published
abbrev pub row_check : List ℕ → ℕ → ℕ → Bool → List Check
row_check words header row holds =
    (if nat_lt row (capacity words header) then check (place_of words header row) holds ∷ [] else [])

abbrev pub row_checks : List ℕ → ℕ → ℕ → List Check
row_checks words block row =
    let stamped = nat_lt row (slice_index words (high_at block)) in
    let created = array_word words (created_header block) row in
    let ended = array_word words (ended_header block) row in
    row_check words (created_header block) row (is_created words stamped created)
    ++ row_check words (ended_header block) row (is_ended words stamped created ended)

-- The bound of a table's rows: there are stamps below it, and no column begins above it.
abbrev pub is_row_bound : List ℕ → ℕ → ℕ → Bool
is_row_bound words block bound =
    nat_le bound (capacity words (created_header block)) && nat_le bound (capacity words (ended_header block))
    && list_all (λ column. nat_le (since_of words column) bound) (columns_of words block)

unfoldable pub stamp_checks : List ℕ → ℕ → List Check
stamp_checks words block =
    check (high_at block) (is_row_bound words block (slice_index words (high_at block)))
    ∷ flat_map (row_checks words block)
    (below (max (capacity words (created_header block)) (capacity words (ended_header block))))

-- 27: stamps
unfoldable pub stamp_rule : Rule
stamp_rule words = flat_map (stamp_checks words) (table_blocks words)

-- The code of a row in a column is below the length. Where its word isn't published the check fails, at the word that
-- counts the chunks.
abbrev pub row_code_check : List ℕ → ℕ → ℕ → Check
row_code_check words row column =
    (if nat_lt row (capacity words (codes_header column))
    then check (place_of words (codes_header column) row)
    (nat_lt (array_word words (codes_header column) row) (dictionary_length words column))
    else check (codes_header column) false)

-- the rows that a commit created
abbrev pub committed_rows : List ℕ → ℕ → List ℕ
committed_rows words block =
    filter (λ row. is_commit words (array_word words (created_header block) row))
    (below (min (slice_index words (high_at block)) (capacity words (created_header block))))

-- 28: a row that a commit created has a value in each column that has a word for it
unfoldable pub row_code_rule : Rule
row_code_rule words =
    flat_map (λ block. flat_map (λ row. map (row_code_check words row) (columns_with words block row))
    (committed_rows words block)) (table_blocks words)

-- 29: the words of a page that was given back are 0
unfoldable pub given_back_rule : Rule
given_back_rule words =
    map (zero_check words)
    (flat_map (λ page. range_with_len (page_at page) 512) (filter (is_given_back words) (below (page_count words))))

-- the names at two places are one, word for word
abbrev pub same_name : List ℕ → ℕ → ℕ → Bool
same_name words name other =
    list_all (λ word. slice_index words (name + word) == slice_index words (other + word)) (below 3)

-- each name differs from those before it
abbrev pub name_place_checks : List ℕ → List ℕ → List ℕ → List Check
name_place_checks words before [] = []
name_place_checks words before (name ∷ names) =
    check name (not (list_any (same_name words name) before)) ∷ name_place_checks words (name ∷ before) names

-- a table's name differs from those of the tables before it, and its columns' names from one another
abbrev pub table_name_checks : List ℕ → List ℕ → List ℕ → List Check
table_name_checks words before [] = []
table_name_checks words before (block ∷ blocks) =
    check (table_name_at block) (not (list_any (same_name words (table_name_at block)) before))
    ∷ name_place_checks words [] (map column_name_at (columns_of words block))
    ++ table_name_checks words (table_name_at block ∷ before) blocks

-- 30: names differ
unfoldable pub distinct_name_rule : Rule
distinct_name_rule words = table_name_checks words [] (table_blocks words)

-- 31: the version of the format is 2
unfoldable pub latest_version_rule : Rule
latest_version_rule words = check version_at (slice_index words version_at == 2) ∷ []

abbrev pub rest_rules : List Numbered
rest_rules =
    numbered 16 idle_rule
    ∷ numbered 17 split_log_rule
    ∷ numbered 18 closed_rule
    ∷ numbered 19 owner_rule
    ∷ numbered 20 single_owner_rule
    ∷ numbered 21 owned_rule
    ∷ numbered 22 order_rule
    ∷ numbered 23 fingerprint_rule
    ∷ numbered 24 code_rule
    ∷ numbered 25 text_rule
    ∷ numbered 26 spare_slot_rule
    ∷ numbered 27 stamp_rule
    ∷ numbered 28 row_code_rule
    ∷ numbered 29 given_back_rule
    ∷ numbered 30 distinct_name_rule
    ∷ numbered 31 latest_version_rule
    ∷ []

-- the first of all rules that an image breaks, and the first place at which it does
abbrev pub fault : List ℕ → Option Fault
fault words = first_fault (entry_rules ++ rest_rules) words

-- An image of either version that is intact: it keeps rules 1 to 30.
pub record IsIntact (words : List ℕ) : Type 0 where
  -- 1 to 15, which every image keeps that a power cut can leave
  pub entry : KeepsEntryRules words
  -- 16: each lane is idle
  pub idle : Keeps words idle_rule
  -- 17: no split is logged, and no table is being created
  pub split_logs : Keeps words split_log_rule
  -- 18: no transaction is open, and none left an entry
  pub closed : Keeps words closed_rule
  -- 19: each owner word names a live block
  pub owners : Keeps words owner_rule
  -- 20: no block has two owners
  pub single_owners : Keeps words single_owner_rule
  -- 21: each live block has an owner
  pub owned : Keeps words owned_rule
  -- 22: keys stand in order along a column's leaves
  pub order : Keeps words order_rule
  -- 23: fingerprints are those of their keys
  pub fingerprints : Keeps words fingerprint_rule
  -- 24: codes are those of their keys
  pub codes : Keeps words code_rule
  -- 25: texts are UTF-8
  pub texts : Keeps words text_rule
  -- 26: dictionaries of texts have nothing behind their length
  pub spare_slots : Keeps words spare_slot_rule
  -- 27: stamps are those of commits
  pub stamps : Keeps words stamp_rule
  -- 28: rows that commits created have values
  pub row_codes : Keeps words row_code_rule
  -- 29: pages that were given back are 0
  pub given_back : Keeps words given_back_rule
  -- 30: names differ
  pub names : Keeps words distinct_name_rule

-- a sound image keeps every rule: it is intact, and of the latest version
pub record IsSound (words : List ℕ) : Type 0 where
  -- 1 to 30
  pub intact : IsIntact words
  -- 31: the version is 2
  pub latest : Keeps words latest_version_rule
