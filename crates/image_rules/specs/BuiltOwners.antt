-- The owner words of the parts of an image that are built: tables, arrays, the leaves of trees and transaction objects.
-- The texts of dictionaries join them with dictionaries. Where trees keep their rule and no column of texts has
-- a leaf, these are all the owner words of the image, and the three rules here are those of the image.
use Rattle.std.specs.Prelude.{◌≡◌, ℕ, zero, suc, ◌+◌, ◌-◌, ◌*◌, ◌/◌, Bool, ◌&&◌, ◌==◌, nat_lt, if◌then◌else◌, List, [], ◌∷◌, ◌++◌, length, map, filter, Contains, slice_index}
use Rattle.std.specs.List.{flat_map}
use Rattle.std.specs.Int.{bit_at}
use Rattle.std.specs.Ordering.{nat_cmp}
use Rattle.std.specs.BTreeSet.{BTreeSet, contains}
use Rattle.image_layout.specs.Pointer.{pointer_word}
use Rattle.image_layout.specs.Places.{below, is_pointer_to, place_in}
use Rattle.image_layout.specs.Records.{codes_header, created_header, dictionary_header, ended_header, first_leaf_at, next_leaf_at}
use Rattle.image_layout.specs.Blocks.{Block, slot_words, slots_of, slot_at, says_big, live_blocks}
use Rattle.image_layout.specs.Tables.{table_count, table_block, columns_of}
use Rattle.image_layout.specs.Owners.{Owner, word_of, array_owners, extension_owners, leaf_owner, table_owner, object_owners, owns_block}
use Rattle.image_layout.specs.Checks.{Check, check, Rule, Keeps}
use Rattle.image_layout.specs.EntryRules.{is_among, text_columns, tree_rule}
use Rattle.image_layout.specs.SoundRules.{distinct_checks}
use Rattle.image_rules.specs.declared.owner_words.OwnerWord.{OwnerWord}

-- The places of the pointers to leaves, from one of them on, at most so many. A null pointer isn't one, and none
-- follows one that doesn't name the words of a leaf's block.
unfoldable pub links_from : List ℕ → ℕ → ℕ → List ℕ
links_from words zero at = []
links_from words (suc steps) at =
    (if slice_index words at == 0 then []
    else at
    ∷ (if is_pointer_to words 128 (slice_index words at)
    then links_from words steps (next_leaf_at (place_in (slice_index words at))) else []))

-- those of a column's tree
abbrev pub leaf_links : List ℕ → ℕ → List ℕ
leaf_links words column = links_from words (length words) (first_leaf_at column)

abbrev pub built_column_owners : List ℕ → ℕ → List Owner
built_column_owners words column =
    array_owners words (codes_header column) ++ array_owners words (dictionary_header column)
    ++ map leaf_owner (leaf_links words column)

abbrev pub built_block_owners : List ℕ → ℕ → List Owner
built_block_owners words block =
    extension_owners words block ++ array_owners words (created_header block) ++ array_owners words (ended_header block)
    ++ flat_map (built_column_owners words) (columns_of words block)

-- a table's slot, then the pointers to its extensions, to the chunks of its arrays and to the leaves of its trees
abbrev pub built_table_owners : List ℕ → ℕ → List Owner
built_table_owners words table = table_owner words table ∷ built_block_owners words (table_block words table)

-- all of them, in the order of the walk: table by table, then object by object
unfoldable pub built_owner_words : List ℕ → List Owner
built_owner_words words =
    flat_map (built_table_owners words) (below (table_count words)) ++ flat_map (object_owners words) (below 16)

-- 19: each owner word names the first word of a live block of the kind and size that its owner needs
unfoldable pub built_owner_rule : Rule
built_owner_rule words = map (λ owner. check owner.at (owns_block words owner)) (built_owner_words words)

-- 20: no block has two owners
unfoldable pub built_single_owner_rule : Rule
built_single_owner_rule words = distinct_checks words [] (map (λ owner. owner.at) (built_owner_words words))

-- a block has an owner among words
abbrev pub owned_check : List ℕ → Block → Check
owned_check owned block = check block.first (is_among owned (pointer_word block.first))

-- 21: each live block has an owner
unfoldable pub built_owned_rule : Rule
built_owned_rule words = map (owned_check (map (word_of words) (built_owner_words words))) (live_blocks words)

-- a used slot of a small page, of so many words, begins at an offset in the page
abbrev pub is_slot_block : ℕ → ℕ → ℕ → ℕ → Bool
is_slot_block bitmap class offset count =
    let slot = (offset - 8) / slot_words class in
    (slot_words class == count) && nat_lt slot (slots_of class) && (8 + slot * slot_words class == offset)
    && (bit_at bitmap slot == 1)

-- a page with this descriptor is the head of a big block of so many words, and the offset in the page is where it
-- begins
abbrev pub is_head_block : ℕ → ℕ → ℕ → Bool
is_head_block descriptor offset count = says_big descriptor && (offset == 0) && (512 * (descriptor - 16) == count)

-- a set has just these words
pub record HasWords (held : BTreeSet ℕ) (owned : List ℕ) : Type 0 where
  pub each : (word : ℕ) → contains nat_cmp held word ≡ is_among owned word

-- a block has an owner among the words of a set
abbrev pub kept_check : BTreeSet ℕ → Block → Check
kept_check held block = check block.first (contains nat_cmp held (pointer_word block.first))

-- the live blocks of a small page of a class, by its bitmap
abbrev pub slot_blocks : ℕ → ℕ → ℕ → List Block
slot_blocks page class bitmap =
    map (λ slot. record { first = slot_at page class slot; words = slot_words class })
    (filter (λ slot. bit_at bitmap slot == 1) (below (slots_of class)))

-- Leaves are reached as rule 11 says, and no column of texts has one.
pub record HasNoTexts (words : List ℕ) : Type 0 where
  pub trees : Keeps words tree_rule
  pub none : (column : ℕ) → Contains (text_columns words) column → slice_index words (first_leaf_at column) ≡ 0

-- an owner word with what it holds
abbrev pub as_read : List ℕ → Owner → OwnerWord
as_read words owner = record { place = owner.at; word = word_of words owner; block_words = owner.block_words }
