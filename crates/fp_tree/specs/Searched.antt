-- What a search in one leaf gives.
use Rattle.std.specs.Prelude.{◌≡◌, ℕ, ◌<◌, false, IsTrue, List, slice_index}
use Rattle.image_layout.specs.Records.{code_at, key_at}
use Rattle.fp_inner.specs.declared.probe.Probe.{Probe}
use Rattle.image_layout.specs.Pointer.{pointer_word}
use Rattle.fp_inner.specs.Keys.{IsLeafFor, leaf_pointer}
use Rattle.fp_leaf.specs.Slots.{is_used}
use Rattle.fp_tree.specs.Standing.{is_key}
use Rattle.fp_tree.specs.TreeState.{TreeState}

-- a used slot has the key that is looked for, and this code
pub record IsFoundIn (words : List ℕ) (leaf : ℕ) (probe : Probe) (code : ℕ) : Type 0 where
  pub slot : ℕ
  pub within : slot < 48
  pub used : IsTrue (is_used (slice_index words leaf) slot)
  pub key_is : IsTrue (is_key words probe (slice_index words (key_at leaf slot)))
  pub code_is : code ≡ slice_index words (code_at leaf slot)

-- no used slot has that key
abbrev pub IsNotIn : List ℕ → ℕ → Probe → Type 0
IsNotIn words leaf probe = (slot : ℕ) → slot < 48 → IsTrue (is_used (slice_index words leaf) slot)
    → is_key words probe (slice_index words (key_at leaf slot)) ≡ false

-- the leaf is the one that the index has for what is looked for
pub record IsLeafAt (words : List ℕ) (tree : TreeState) (probe : Probe) (leaf : ℕ) : Type 0 where
  pub at : ℕ
  pub for : IsLeafFor words tree.inner.leaves probe at
  pub named : leaf_pointer tree.inner.leaves at ≡ pointer_word leaf
