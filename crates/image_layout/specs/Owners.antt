-- Owner words: each is to hold the pointer of one live block, and each live block is to have one.
use Rattle.std.specs.Prelude.{◌≡◌, ◌≢◌, ◌⊎◌, ℕ, ◌+◌, min, Bool, false, not, ◌&&◌, ◌||◌, ◌==◌, nat_lt, nat_le, if◌then◌else◌, IsTrue, List, [], ◌∷◌, ◌++◌, length, take, map, filter, slice_index, All, AllPairs, Contains, IsPermutation}
use Rattle.std.specs.List.{flat_map, list_any}
use Rattle.image_layout.specs.Fixed.{lane_op_at, lane_dest_at, lane_block_at, table_slot_at}
use Rattle.image_layout.specs.Places.{below, is_pointer, place_in}
use Rattle.image_layout.specs.Records.{codes_header, created_header, dictionary_header, ended_header, extension_words, first_leaf_at, new_leaf_at, next_leaf_at, split_leaf_at, table_words}
use Rattle.image_layout.specs.Blocks.{block_words, live_blocks, is_live}
use Rattle.image_layout.specs.Arrays.{chunk_words, chunk_count, capacity, place_of, array_places, chunk_pointer_at}
use Rattle.image_layout.specs.Tables.{table_count, table_block, columns_of, all_columns, array_headers, extension_count, extension_pointer_at, inner_columns, is_first_version, is_text, last_extension_pointer}
use Rattle.image_layout.specs.Objects.{ready_count, segment_pointer_at, pointer_after}
use Rattle.image_layout.specs.Trees.{stored_leaves, used_pairs, dictionary_length, text_length, text_words}

-- an owner word's place, and the words of the block that it needs, 0 where no block will do
pub record Owner : Type 0 where
  pub at : ℕ
  pub block_words : ℕ

-- the word, the block that it names, and whether it names one at all
abbrev pub word_of : List ℕ → Owner → ℕ
word_of words owner = slice_index words owner.at

abbrev pub named_block : List ℕ → Owner → ℕ
named_block words owner = place_in (word_of words owner)

abbrev pub names_one : List ℕ → Owner → Bool
names_one words owner = not (word_of words owner == 0)

-- the owner word at a place, whose owner needs so many words
abbrev pub owner_of : ℕ → ℕ → Owner
owner_of at count = record { at = at; block_words = block_words count }

abbrev pub chunk_owner : ℕ → ℕ → Owner
chunk_owner header chunk = owner_of (chunk_pointer_at header chunk) (chunk_words chunk)

-- the published chunk pointers of an array, and the one after them, where they name a block
abbrev pub array_owners : List ℕ → ℕ → List Owner
array_owners words header =
    filter (names_one words) (map (chunk_owner header) (below (min (chunk_count words header + 1) 12)))

-- the places of the pointers along the leaf list, by the stored next words: that of the first leaf, and each leaf's
-- next word that names one
abbrev pub link_places : List ℕ → ℕ → List ℕ
link_places words column =
    take (length (stored_leaves words column)) (first_leaf_at column ∷ map next_leaf_at (stored_leaves words column))

abbrev pub leaf_owner : ℕ → Owner
leaf_owner at = owner_of at 104

-- the words of the block that a text of so many bytes needs; none will do for a text that is too long
abbrev pub text_block_words : ℕ → ℕ
text_block_words bytes = (if nat_le bytes 2000 then block_words (text_words bytes) else 0)

abbrev pub text_owner : List ℕ → ℕ → Owner
text_owner words at =
    record { at = at; block_words = text_block_words (text_length words (place_in (slice_index words at))) }

-- the published slots of a column's dictionary below its length
abbrev pub dictionary_slots : List ℕ → ℕ → List ℕ
dictionary_slots words column =
    array_places words (dictionary_header column)
    (min (dictionary_length words column) (capacity words (dictionary_header column)))

abbrev pub text_owners : List ℕ → ℕ → List Owner
text_owners words column = (if is_text words column then map (text_owner words) (dictionary_slots words column) else [])

unfoldable pub column_owners : List ℕ → ℕ → List Owner
column_owners words column =
    array_owners words (codes_header column) ++ array_owners words (dictionary_header column)
    ++ map leaf_owner (link_places words column) ++ text_owners words column

abbrev pub table_owner : List ℕ → ℕ → Owner
table_owner words table = owner_of (table_slot_at table) (table_words (inner_columns words (table_block words table)))

abbrev pub extension_owner : List ℕ → ℕ → ℕ → Owner
extension_owner words block extension = owner_of (extension_pointer_at words block extension) extension_words

-- The pointers to a table's extensions, and the one after the published columns, where they name a block. In version 1
-- there are none.
unfoldable pub extension_owners : List ℕ → ℕ → List Owner
extension_owners words block =
    (if is_first_version words then []
    else filter (names_one words) (map (extension_owner words block) (below (extension_count words block + 1))))

abbrev pub block_owners : List ℕ → ℕ → List Owner
block_owners words block =
    extension_owners words block ++ array_owners words (created_header block) ++ array_owners words (ended_header block)
    ++ flat_map (column_owners words) (columns_of words block)

-- a table's slot, then the owner words of the table
abbrev pub table_owners : List ℕ → ℕ → List Owner
table_owners words table = table_owner words table ∷ block_owners words (table_block words table)

abbrev pub segment_owner : List ℕ → ℕ → ℕ → Owner
segment_owner words object segment = owner_of (segment_pointer_at words object segment) 256

-- the pointers to an object's ready segments, and the one after them, where they name a block
abbrev pub object_owners : List ℕ → ℕ → List Owner
object_owners words object =
    filter (names_one words) (map (segment_owner words object) (below (ready_count words object + 1)))

-- all owner words, in the order of the walk: table by table, then object by object
unfoldable pub owner_words : List ℕ → List Owner
owner_words words =
    flat_map (table_owners words) (below (table_count words)) ++ flat_map (object_owners words) (below 16)

-- the word is the pointer of a live block of the kind and size that its owner needs
abbrev pub owns_block : List ℕ → Owner → Bool
owns_block words owner =
    is_pointer words (word_of words owner) && is_live words (named_block words owner) owner.block_words

-- the key words of a column
abbrev pub key_words : List ℕ → ℕ → List ℕ
key_words words column = map (λ pair. pair.key) (used_pairs words column)

-- The live blocks are exactly the named ones, each once, and each used key word of a tree of texts is the word of a
-- dictionary slot that owns the text's block.
pub record EachBlockHasOneOwner (words : List ℕ) : Type 0 where
  pub blocks : IsPermutation (map (λ block. block.first) (live_blocks words))
      (map (named_block words) (owner_words words))
  pub keys : All
      (λ column. IsTrue (is_text words column)
      → All (Contains (map (slice_index words) (dictionary_slots words column))) (key_words words column))
      (all_columns words)

-- While a power cut may have left work half done there are more owner words: the leaf that each column is adding,
abbrev pub new_leaf_owners : List ℕ → List Owner
new_leaf_owners words = map (λ column. leaf_owner (new_leaf_at column)) (all_columns words)

-- the table slot at the table count,
abbrev pub next_table_slots : List ℕ → List ℕ
next_table_slots words = (if nat_lt (table_count words) 32 then table_slot_at (table_count words) ∷ [] else [])

-- and the published dictionary slot at the length of a column of texts.
abbrev pub next_text_slots : List ℕ → ℕ → List ℕ
next_text_slots words column =
    (if is_text words column && nat_lt (dictionary_length words column) (capacity words (dictionary_header column))
    then place_of words (dictionary_header column) (dictionary_length words column) ∷ []
    else [])

-- those of which it isn't said what block they need
abbrev pub unfinished_slots : List ℕ → List ℕ
unfinished_slots words = next_table_slots words ++ flat_map (next_text_slots words) (all_columns words)

-- those of which it is
abbrev pub firm_owners : List ℕ → List Owner
firm_owners words = owner_words words ++ new_leaf_owners words

-- the places of all these owner words
abbrev pub owner_places : List ℕ → List ℕ
owner_places words = map (λ owner. owner.at) (firm_owners words) ++ unfinished_slots words

-- the pointer that a split or first leaf is about to replace: the new leaf may be the one that it names
abbrev pub is_replaced_in : List ℕ → ℕ → ℕ → ℕ → Bool
is_replaced_in words at other column =
    (other == new_leaf_at column)
    && ((at == first_leaf_at column)
    || (not (slice_index words (split_leaf_at column) == 0)
    && (at == next_leaf_at (place_in (slice_index words (split_leaf_at column))))))

abbrev pub is_replaced : List ℕ → ℕ → ℕ → Bool
is_replaced words at other = list_any (is_replaced_in words at other) (all_columns words)

-- two owner words name two blocks; live blocks share no word, so blocks that begin at two places don't either
abbrev pub NameApart : List ℕ → ℕ → ℕ → Type 0
NameApart words at other =
    slice_index words at ≢ 0 → slice_index words other ≢ 0 → (is_replaced words at other ≡ false)
    → place_in (slice_index words at) ≢ place_in (slice_index words other)

-- the lanes at work
abbrev pub busy_lanes : List ℕ → List ℕ
busy_lanes words = filter (λ lane. not (slice_index words (lane_op_at lane) == 0)) (below 16)

-- the place of the owner word of a lane, and the word with its block's pointer
abbrev pub lane_owner : List ℕ → ℕ → ℕ
lane_owner words lane = place_in (slice_index words (lane_dest_at lane))

abbrev pub lane_block : List ℕ → ℕ → ℕ
lane_block words lane = slice_index words (lane_block_at lane)

-- the chunk pointer after the published ones
abbrev pub next_chunk_pointers : List ℕ → ℕ → List ℕ
next_chunk_pointers words header =
    (if nat_lt (chunk_count words header) 12 then chunk_pointer_at header (chunk_count words header) ∷ [] else [])

-- the extension pointer after a table's published columns
abbrev pub next_extension_pointers : List ℕ → ℕ → List ℕ
next_extension_pointers words block = (if is_first_version words then [] else last_extension_pointer words block ∷ [])

-- the words into which a lane may be allocating, or from which it may be freeing
abbrev pub lane_targets : List ℕ → List ℕ
lane_targets words =
    unfinished_slots words
    ++ flat_map (λ table. flat_map (next_chunk_pointers words) (array_headers words (table_block words table)))
    (below (table_count words))
    ++ map new_leaf_at (all_columns words)
    ++ map (pointer_after words) (below 16)
    ++ flat_map (λ table. next_extension_pointers words (table_block words table)) (below (table_count words))

-- a word is 0, or the pointer of a live block
abbrev pub IsNullOrLive : List ℕ → ℕ → Type 0
IsNullOrLive words at =
    slice_index words at ≢ 0
    → IsTrue (is_pointer words (slice_index words at))
    × Contains (map (λ block. block.first) (live_blocks words)) (place_in (slice_index words at))

-- Owner words name live blocks, and no two of them one block, whatever a power cut left half done.
pub record OwnersAreApart (words : List ℕ) : Type 0 where
  -- an owner word that names a block names a live one, of the size that its owner needs
  pub firm : All (λ owner. IsTrue (names_one words owner) → IsTrue (owns_block words owner)) (firm_owners words)
  -- the slot of a table that is being created is 0, or the pointer of a live block
  pub unfinished : All (IsNullOrLive words) (unfinished_slots words)
  -- no two owner words name one block
  pub apart : AllPairs (NameApart words) (owner_places words)
  -- each lane that is at work allocates into, or frees from, an owner word that may be half done
  pub targets : All (λ lane. Contains (lane_targets words) (lane_owner words lane)) (busy_lanes words)
  -- no two of these lanes have one owner word
  pub lanes : AllPairs (λ lane other. lane_owner words lane ≢ lane_owner words other) (busy_lanes words)
  -- and no other owner word has the pointer of a lane's block
  pub alone : All
      (λ lane. All
      (λ at. (at ≡ lane_owner words lane) ⊎ (slice_index words at ≢ lane_block words lane)) (owner_places words))
      (busy_lanes words)
