-- Which words a tree stands for: its leaves, and the index above them.
use Rattle.std.specs.Prelude.{◌≡◌, ℕ, zero, suc, ◌+◌, ◌^◌, ◌<◌, ◌≤◌, Bool, false, not, ◌&&◌, ◌==◌, if◌then◌else◌, IsTrue, List, [], ◌∷◌, Any, filter, length, map, slice_index}
use Rattle.std.specs.Int.{bit_at}
use Rattle.std.specs.List.{list_any}
use Rattle.mv_model.specs.declared.shape.Kind.TheVariants.{Int as Ints}
use Rattle.image_layout.specs.Pointer.{pointer_word}
use Rattle.image_layout.specs.Records.{code_at}
use Rattle.image_layout.specs.Trees.{is_full_leaf, leaf_list, leaf_pairs, pairs, slot_fingerprint}
use Rattle.fp_inner.specs.InnerState.{InnerState}
use Rattle.fp_inner.specs.Keys.{is_above, is_below, least_key}
use Rattle.fp_inner.specs.declared.probe.Probe.{Probe}
use Rattle.fp_inner.specs.declared.probe.Probe.TheVariants.{Int, Text}
use Rattle.fp_leaf.specs.Leaf.{integer_fingerprint, text_fingerprint}
use Rattle.fp_leaf.specs.Slots.{is_used}
use Rattle.tree_cuts.specs.Lists.{Each}
use Rattle.tree_cuts.specs.Tree.{AreOrdered, HasNoSplit, IsTree}
use Rattle.fp_tree.specs.Changes.{HavePrints}
use Rattle.fp_tree.specs.TreeState.{TreeState}
use Rattle.fp_tree.specs.declared.room.Room.{Room}
use Rattle.fp_tree.specs.declared.room.Room.TheVariants.{Free, NoLeaf, LeafFull}

-- ── the index ──

-- a leaf has a pair
abbrev pub has_pairs : List ℕ → ℕ → Bool
has_pairs words leaf = not (slice_index words leaf == 0)

-- these leaves, and where there is none the first of the others
abbrev pub or_first : List ℕ → List ℕ → List ℕ
or_first (leaf ∷ leaves) others = leaf ∷ leaves
or_first [] [] = []
or_first [] (leaf ∷ leaves) = leaf ∷ []

-- the leaves that the index has: those with a pair; where no leaf has one, the first
abbrev pub indexed : List ℕ → List ℕ → List ℕ
indexed words leaves = or_first (filter (has_pairs words) leaves) leaves

-- the least key of a leaf
pub record IsLeastKey (words : List ℕ) (leaf key : ℕ) : Type 0 where
  pub has : Any (λ pair. pair.key ≡ key) (leaf_pairs words leaf)
  pub least : Each (λ pair. key ≤ pair.key) (leaf_pairs words leaf)

-- The index has these leaves, in their order, each by its pointer, and all but the first with their least key.
pub record IsIndexOf (words : List ℕ) (leaves : List ℕ) (inner : InnerState) : Type 0 where
  pub kind : inner.kind ≡ Ints
  pub pointers : map (λ entry. entry.1) inner.leaves ≡ map pointer_word (indexed words leaves)
  pub keys : (at : ℕ) → 0 < at → at < length inner.leaves
      → IsLeastKey words (slice_index (indexed words leaves) at) (least_key inner.leaves at)

-- ── the tree ──

-- A leaf has 48 slots, and the codes of those that are used have 32 bits.
pub record IsSoundLeaf (words : List ℕ) (leaf : ℕ) : Type 0 where
  pub bitmap : slice_index words leaf < 2 ^ 48
  pub codes : (slot : ℕ) → slot < 48 → bit_at (slice_index words leaf) slot ≡ 1
      → slice_index words (code_at leaf slot) < 2 ^ 32

-- The words have the tree of a column of integers, with no split at work. Its leaves are in the order of their keys,
-- and each has the fingerprints of its keys.
pub record IsSoundTree (words : List ℕ) (column : ℕ) (leaves : List ℕ) : Type 0 where
  pub tree_is : IsTree words column leaves
  pub quiet : HasNoSplit words column
  pub ordered : AreOrdered words leaves
  pub prints : HavePrints words leaves
  pub sound : Each (IsSoundLeaf words) leaves

-- The tree stands for the words: they have the tree of its column, and the index is that of its leaves.
pub record StandsFor (words : List ℕ) (tree : TreeState) (leaves : List ℕ) : Type 0 where
  pub in_words : IsSoundTree words tree.column leaves
  pub index : IsIndexOf words leaves tree.inner

-- the same, with some leaves
abbrev pub HasSoundTree : List ℕ → ℕ → Type 0
HasSoundTree words column = (leaves : List ℕ) × IsSoundTree words column leaves

abbrev pub Stands : List ℕ → TreeState → Type 0
Stands words tree = (leaves : List ℕ) × StandsFor words tree leaves

-- ── what is looked for ──

-- what is looked for is the key that a word names
abbrev pub is_key : List ℕ → Probe → ℕ → Bool
is_key words probe key = not (is_below words probe key) && not (is_above words probe key)

-- its fingerprint
unfoldable pub print_of : Probe → ℕ
print_of (Int key) = integer_fingerprint key
print_of (Text text) = text_fingerprint text.now

-- the column has a pair with that key and this code
abbrev pub HasPair : List ℕ → ℕ → Probe → ℕ → Type 0
HasPair words column probe code =
    Any (λ pair. IsTrue (is_key words probe pair.key) × (pair.code ≡ code)) (pairs words column)

-- no pair of the column has that key
abbrev pub HasNoKey : List ℕ → ℕ → Probe → Type 0
HasNoKey words column probe = Each (λ pair. is_key words probe pair.key ≡ false) (pairs words column)

-- a leaf has a key that isn't above what is looked for
abbrev pub has_key_up_to : List ℕ → Probe → ℕ → Bool
has_key_up_to words probe leaf = list_any (λ pair. not (is_below words probe pair.key)) (leaf_pairs words leaf)

-- the last of these leaves with such a key, else the one that was found before
abbrev pub last_up_to : List ℕ → Probe → ℕ → List ℕ → ℕ
last_up_to words probe found [] = found
last_up_to words probe found (leaf ∷ leaves) =
    last_up_to words probe (if has_key_up_to words probe leaf then leaf else found) leaves

-- the last of these leaves with such a key, else the first
abbrev pub leaf_of : List ℕ → Probe → List ℕ → ℕ
leaf_of words probe [] = 0
leaf_of words probe (leaf ∷ leaves) = last_up_to words probe leaf leaves

-- the leaf of what is looked for, among those of its column that the index has
abbrev pub probe_leaf : List ℕ → ℕ → Probe → ℕ
probe_leaf words column probe = leaf_of words probe (indexed words (leaf_list words column))

-- how many of the numbers below one pass a test
unfoldable pub count_below : (ℕ → Bool) → ℕ → ℕ
count_below test zero = 0
count_below test (suc number) = count_below test number + (if test number then 1 else 0)

-- a slot of a leaf is used and has the fingerprint of what is looked for
abbrev pub is_likely : List ℕ → ℕ → Probe → ℕ → Bool
is_likely words leaf probe slot =
    is_used (slice_index words leaf) slot && (slot_fingerprint words leaf slot == print_of probe)

-- how many slots of its leaf are likely
abbrev pub likely_slots : List ℕ → ℕ → Probe → ℕ
likely_slots words column probe = count_below (is_likely words (probe_leaf words column probe) probe) 48

-- what there is room for: by the leaf of what is looked for, where the column has one
abbrev pub room_in : List ℕ → Probe → List ℕ → Room
room_in words probe [] = NoLeaf
room_in words probe (leaf ∷ leaves) =
    if is_full_leaf words (leaf_of words probe (indexed words (leaf ∷ leaves))) then LeafFull else Free
