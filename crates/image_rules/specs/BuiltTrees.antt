-- The rules of the pairs in the leaves of trees, as far as they stand: the order of keys and their fingerprints in
-- columns of integers. Texts join them later.
use Rattle.std.specs.Prelude.{◌≡◌, ℕ, ◌+◌, ◌≤◌, Bool, true, not, ◌&&◌, ◌==◌, false, nat_lt, if◌then◌else◌, Option, None, Some, List, [], ◌∷◌, length, map, slice_index}
use Rattle.std.specs.List.{flat_map, list_all}
use Rattle.std.specs.Int.{bit_at}
use Rattle.image_layout.specs.Places.{is_null_or_pointer_to}
use Rattle.image_layout.specs.Records.{code_at, fingerprint_at, first_leaf_at, key_at}
use Rattle.image_layout.specs.Tables.{all_columns, is_text}
use Rattle.image_layout.specs.Trees.{integer_fingerprint, leaf_list, leaf_slots, slot_fingerprint, stored_leaves}
use Rattle.image_layout.specs.Checks.{Check, Rule, check, first_failing}
use Rattle.image_layout.specs.EntryRules.{leaf_checks}
use Rattle.image_layout.specs.SoundRules.{UsedSlot, code_checks, column_slots, fingerprint_checks, order_checks, spare_slots, zero_check}
use Rattle.image_rules.specs.declared.leaf_lists.LeafSlot.{LeafSlot}

-- ── the rules ──

-- of a column, where its keys are integers
abbrev pub of_integers : List ℕ → ℕ → List Check → List Check
of_integers words column checks = (if is_text words column then [] else checks)

abbrev pub column_order_checks : List ℕ → ℕ → List Check
column_order_checks words column = of_integers words column (order_checks words false [] (leaf_list words column))

-- 22: along a leaf list every key is below every key of a later leaf, and the keys in one leaf differ
unfoldable pub built_order_rule : Rule
built_order_rule words = flat_map (column_order_checks words) (all_columns words)

abbrev pub column_print_checks : List ℕ → ℕ → List Check
column_print_checks words column =
    of_integers words column (flat_map (fingerprint_checks words false) (leaf_list words column))

-- 23: the fingerprints of used slots are those of their keys
unfoldable pub built_fingerprint_rule : Rule
built_fingerprint_rule words = flat_map (column_print_checks words) (all_columns words)

-- the used slots along leaves
abbrev pub leaf_slot : ℕ → ℕ → LeafSlot
leaf_slot leaf slot = record { leaf = leaf; slot = slot }

abbrev pub used_in : List ℕ → ℕ → List LeafSlot
used_in words leaf = map (leaf_slot leaf) (leaf_slots words leaf)

abbrev pub used_along : List ℕ → List ℕ → List LeafSlot
used_along words leaves = flat_map (used_in words) leaves

-- 24, of a column
abbrev pub column_code_checks : List ℕ → ℕ → List Check
column_code_checks words column = code_checks words column [] (column_slots words column)

-- 26, of a column
abbrev pub column_spare_checks : List ℕ → ℕ → List Check
column_spare_checks words column =
    (if is_text words column then map (zero_check words) (spare_slots words column) else [])

-- ── their parts ──

-- A column's list of leaves: the words keep the rule of trees there, and no leaf is being split.
pub record HasList (words : List ℕ) (column : ℕ) : Type 0 where
  pub within : column + 40 ≤ length words
  pub first : is_null_or_pointer_to words 128 (slice_index words (first_leaf_at column)) ≡ true
  pub list : first_failing (leaf_checks words [] (stored_leaves words column)) ≡ None
  pub quiet : leaf_list words column ≡ stored_leaves words column

-- a slot of a leaf is used
abbrev pub is_used : List ℕ → ℕ → ℕ → Bool
is_used words leaf slot = bit_at (slice_index words leaf) slot == 1

-- and has this key
abbrev pub has_key : List ℕ → ℕ → ℕ → ℕ → Bool
has_key words leaf key slot = is_used words leaf slot && (slice_index words (key_at leaf slot) == key)

-- a key is above the greatest one so far
abbrev pub is_above : Option ℕ → ℕ → Bool
is_above None key = true
is_above (Some greatest) key = nat_lt greatest key

-- each key of a leaf is above the greatest one of the leaves before, and differs from those before it in the leaf
abbrev pub leaf_order_checks : List ℕ → Option ℕ → List ℕ → ℕ → List ℕ → List Check
leaf_order_checks words greatest here leaf [] = []
leaf_order_checks words greatest here leaf (slot ∷ slots) =
    check (key_at leaf slot) (is_above greatest (slice_index words (key_at leaf slot))
    && list_all (λ other. not (other == slice_index words (key_at leaf slot))) here)
    ∷ leaf_order_checks words greatest (slice_index words (key_at leaf slot) ∷ here) leaf slots

-- the fingerprint of a used slot
abbrev pub print_check : List ℕ → LeafSlot → Check
print_check words used =
    check (fingerprint_at used.leaf used.slot)
    (slot_fingerprint words used.leaf used.slot == integer_fingerprint (slice_index words (key_at used.leaf used.slot)))

-- a used slot by the places of its key word and of its code
abbrev pub places_of : LeafSlot → UsedSlot
places_of used = record { key = key_at used.leaf used.slot; code = code_at used.leaf used.slot }
