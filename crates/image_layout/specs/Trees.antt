-- The trees and dictionaries of columns: leaves, their pairs of key word and code, and the order of keys.
use Rattle.std.specs.Prelude.{◌≡◌, ℕ, zero, suc, ◌+◌, ◌-◌, ◌*◌, ◌/◌, ◌%◌, ◌^◌, Bool, true, false, not, ◌&&◌, ◌||◌, ◌==◌, nat_lt, if◌then◌else◌, IsTrue, List, [], ◌∷◌, length, map, filter, fold, slice_index, bit_xor, AllPairs}
use Rattle.std.specs.List.{flat_map}
use Rattle.std.specs.Int.{bit_at, w64, to_le_bytes}
use Rattle.image_layout.specs.Pointer.{pointer_word}
use Rattle.image_layout.specs.Places.{below, packed_byte, place_in}
use Rattle.image_layout.specs.Records.{code_at, dictionary_header, first_leaf_at, key_at, new_leaf_at, next_leaf_at, split_leaf_at}
use Rattle.image_layout.specs.Arrays.{array_word}
use Rattle.image_layout.specs.Tables.{is_text}

-- The leaves that are reached from a pointer word by next words, at most so many. Null ends the list.
unfoldable pub leaves_from : List ℕ → ℕ → ℕ → List ℕ
leaves_from words zero word = []
leaves_from words (suc steps) zero = []
leaves_from words (suc steps) (suc word) =
    place_in (suc word) ∷ leaves_from words steps (slice_index words (next_leaf_at (place_in (suc word))))

-- these are all leaves that are reached from a pointer word by next words
abbrev pub AreLeavesFrom : List ℕ → ℕ → List ℕ → Type 0
AreLeavesFrom words word [] = word ≡ 0
AreLeavesFrom words word (leaf ∷ leaves) =
    (word ≡ pointer_word leaf) × AreLeavesFrom words (slice_index words (next_leaf_at leaf)) leaves

-- The leaves of a column along the stored next words. A list without a leaf twice has no more leaves than there are
-- words.
abbrev pub stored_leaves : List ℕ → ℕ → List ℕ
stored_leaves words column = leaves_from words (length words) (slice_index words (first_leaf_at column))

-- the bitmap of a leaf, of which all 48 bits are set where it is full
abbrev pub is_full_leaf : List ℕ → ℕ → Bool
is_full_leaf words leaf = slice_index words leaf == 2 ^ 48 - 1

-- a leaf with another directly behind it
abbrev pub put_behind : ℕ → ℕ → List ℕ → List ℕ
put_behind leaf other [] = []
put_behind leaf other (first ∷ leaves) =
    (if first == leaf then first ∷ other ∷ leaves else first ∷ put_behind leaf other leaves)

-- A split has cut its leaf and not linked the new one: both words of the split log are there, the leaf isn't full, and
-- its next word isn't the new leaf.
abbrev pub is_about_to_link : List ℕ → ℕ → Bool
is_about_to_link words column =
    let leaf = slice_index words (split_leaf_at column) in
    let new = slice_index words (new_leaf_at column) in
    not (leaf == 0) && not (new == 0) && not (is_full_leaf words (place_in leaf))
    && not (slice_index words (next_leaf_at (place_in leaf)) == new)

-- the leaves of a column in the order of their keys: those along the next words, and behind a leaf that was split
-- the new one, where it isn't linked yet
unfoldable pub leaf_list : List ℕ → ℕ → List ℕ
leaf_list words column =
    (if is_about_to_link words column
    then put_behind (place_in (slice_index words (split_leaf_at column)))
    (place_in (slice_index words (new_leaf_at column))) (stored_leaves words column)
    else stored_leaves words column)

-- a key word and its code
pub record Pair : Type 0 where
  pub key : ℕ
  pub code : ℕ

-- the used ones of the 48 slots of a leaf
abbrev pub leaf_slots : List ℕ → ℕ → List ℕ
leaf_slots words leaf = filter (λ slot. bit_at (slice_index words leaf) slot == 1) (below 48)

abbrev pub pair_at : List ℕ → ℕ → ℕ → Pair
pair_at words leaf slot =
    record { key = slice_index words (key_at leaf slot); code = slice_index words (code_at leaf slot) }

-- the pairs of a leaf in the order of its slots
unfoldable pub leaf_pairs : List ℕ → ℕ → List Pair
leaf_pairs words leaf = map (pair_at words leaf) (leaf_slots words leaf)

-- the pairs of a column along its leaves
abbrev pub used_pairs : List ℕ → ℕ → List Pair
used_pairs words column = flat_map (leaf_pairs words) (leaf_list words column)

-- how many values a column's dictionary has
abbrev pub dictionary_length : List ℕ → ℕ → ℕ
dictionary_length words column = length (used_pairs words column)

-- a text has its length in bytes in its first word, and its bytes packed behind it
abbrev pub text_length : List ℕ → ℕ → ℕ
text_length words place = slice_index words place

unfoldable pub text_at : List ℕ → ℕ → List ℕ
text_at words place = map (packed_byte words (place + 1)) (below (text_length words place))

-- the words of a text of so many bytes
abbrev pub text_words : ℕ → ℕ
text_words bytes = 1 + (bytes + 7) / 8

-- texts are ordered by their bytes, and a proper prefix comes first
abbrev pub text_below : List ℕ → List ℕ → Bool
text_below [] [] = false
text_below [] (byte ∷ bytes) = true
text_below (byte ∷ bytes) [] = false
text_below (byte ∷ bytes) (other ∷ others) = nat_lt byte other || ((byte == other) && text_below bytes others)

-- one key word is below another, in a column of texts or of integers
unfoldable pub key_below : List ℕ → Bool → ℕ → ℕ → Bool
key_below words true key other = text_below (text_at words (place_in key)) (text_at words (place_in other))
key_below words false key other = nat_lt key other

-- their values differ
abbrev pub keys_differ : List ℕ → Bool → ℕ → ℕ → Bool
keys_differ words texts key other = key_below words texts key other || key_below words texts other key

-- one more item among sorted ones, before those that it isn't above
abbrev pub put_by : {X : Type 0} → (X → X → Bool) → X → List X → List X
put_by is_below item [] = item ∷ []
put_by is_below item (first ∷ items) =
    (if is_below first item then first ∷ put_by is_below item items else item ∷ first ∷ items)

-- the items in order; of two that are equal the first stays first
abbrev pub sorted_by : {X : Type 0} → (X → X → Bool) → List X → List X
sorted_by is_below [] = []
sorted_by is_below (item ∷ items) = put_by is_below item (sorted_by is_below items)

-- pairs in the order of their keys
abbrev pub sorted_pairs : List ℕ → ℕ → List Pair → List Pair
sorted_pairs words column = sorted_by (λ pair other. key_below words (is_text words column) pair.key other.key)

-- the pairs of a column, sorted by key
unfoldable pub pairs : List ℕ → ℕ → List Pair
pairs words column = sorted_pairs words column (used_pairs words column)

-- the exclusive or of the eight bytes of a key word
abbrev pub integer_fingerprint : ℕ → ℕ
integer_fingerprint key = fold bit_xor 0 (to_le_bytes w64 key)

-- each byte is added to 31 times what came before it, modulo 256
abbrev pub text_fingerprint : List ℕ → ℕ
text_fingerprint bytes = fold (λ sum byte. (31 * sum + byte) % 256) 0 bytes

-- the fingerprint of a key word, in a column of texts or of integers
unfoldable pub key_fingerprint : List ℕ → Bool → ℕ → ℕ
key_fingerprint words true key = text_fingerprint (text_at words (place_in key))
key_fingerprint words false key = integer_fingerprint key

-- the fingerprint that a leaf has for a slot: one byte, packed like a text's
abbrev pub slot_fingerprint : List ℕ → ℕ → ℕ → ℕ
slot_fingerprint words leaf slot = packed_byte words (leaf + 2) slot

-- the key word of the value with a code
abbrev pub dictionary_word : List ℕ → ℕ → ℕ → ℕ
dictionary_word words column code = array_word words (dictionary_header column) code

-- the key words of a column's values, by their codes
abbrev pub dictionary_words : List ℕ → ℕ → List ℕ
dictionary_words words column = map (dictionary_word words column) (below (dictionary_length words column))

abbrev pub indexed_pair : List ℕ → ℕ → ℕ → Pair
indexed_pair words column code = record { key = dictionary_word words column code; code = code }

-- the pairs of a column are exactly its dictionary's values with their codes, sorted by key, and no value stands twice
pub record IsIndexed (words : List ℕ) (column : ℕ) : Type 0 where
  pub same : pairs words column
      ≡ sorted_pairs words column (map (indexed_pair words column) (below (dictionary_length words column)))
  pub distinct : AllPairs (λ key other. IsTrue (keys_differ words (is_text words column) key other))
      (dictionary_words words column)
