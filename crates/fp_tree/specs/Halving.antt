-- The pairs of a full leaf that is split, and the stores by which the greater half is copied.
use Rattle.std.specs.Prelude.{ℕ, false, List, [], ◌∷◌, map, slice_index}
use Rattle.fp_leaf.specs.Leaf.{integer_fingerprint}
use Rattle.fp_leaf.specs.declared.pair_list.Pair.{Pair as SlotPair}
use Rattle.image_layout.specs.Records.{code_at, key_at}
use Rattle.pm_model.specs.Plans.{Part, store}
use Rattle.shown_state.specs.Mending.{slots_by_key}

-- the pair at a slot of a leaf, with the slot
abbrev pub slot_pair : List ℕ → ℕ → ℕ → SlotPair
slot_pair words leaf slot = record {
  key = slice_index words (key_at leaf slot);
  code = slice_index words (code_at leaf slot);
  slot = slot;
}

-- the pairs of a leaf in the order of their keys
abbrev pub ordered_pairs : List ℕ → ℕ → List SlotPair
ordered_pairs words leaf = map (slot_pair words leaf) (slots_by_key words false leaf)

-- the stores that put one of these pairs into the slot with its number
abbrev pub pair_stores : List SlotPair → ℕ → ℕ → Part
pair_stores pairs leaf slot =
    store (key_at leaf slot) (slice_index (map (λ pair. pair.key) pairs) slot)
    ∷ store (code_at leaf slot) (slice_index (map (λ pair. pair.code) pairs) slot)
    ∷ []

-- the fingerprints of the keys of pairs
abbrev pub key_prints : List SlotPair → List ℕ
key_prints pairs = map (λ pair. integer_fingerprint pair.key) pairs
