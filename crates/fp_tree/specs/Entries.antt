-- What a pass over the leaves finds.
use Rattle.std.specs.Prelude.{◌≡◌, ℕ, ◌<◌, List, [], ◌∷◌, ◌++◌, if◌then◌else◌, IsTrue, filter, length, map, slice_index}
use Rattle.image_layout.specs.Pointer.{pointer_word}
use Rattle.fp_inner.specs.Keys.{least_key}
use Rattle.fp_tree.specs.Standing.{IsLeastKey, IsSoundTree, has_pairs, indexed}

-- each of these leaves by its least key and its pointer
abbrev pub HaveKeys : List ℕ → List ℕ → List (ℕ × ℕ) → Type 0
HaveKeys words [] [] = Unit {0}
HaveKeys words [] (entry ∷ entries) = ⊥
HaveKeys words (leaf ∷ leaves) [] = ⊥
HaveKeys words (leaf ∷ leaves) (entry ∷ entries) =
    (entry.1 ≡ pointer_word leaf) × IsLeastKey words leaf entry.0 × HaveKeys words leaves entries

-- all leaves of the column with a pair, however its leaves are named
abbrev pub HasFound : List ℕ → ℕ → List (ℕ × ℕ) → Type 0
HasFound words column entries =
    (leaves : List ℕ) → IsSoundTree words column leaves → HaveKeys words (filter (has_pairs words) leaves) entries

-- one leaf more, where it has a pair
pub record HasAdded (words : List ℕ) (leaf : ℕ) (old new : List (ℕ × ℕ)) : Type 0 where
  pub key : ℕ
  pub least : IsTrue (has_pairs words leaf) → IsLeastKey words leaf key
  pub is : new ≡ old ++ (if has_pairs words leaf then (key, pointer_word leaf) ∷ [] else [])

-- the leaves of an index, each by its pointer, and all but the first with their least key
pub record HasLeaves (words : List ℕ) (leaves : List ℕ) (entries : List (ℕ × ℕ)) : Type 0 where
  pub pointers : map (λ entry. entry.1) entries ≡ map pointer_word (indexed words leaves)
  pub keys : (at : ℕ) → 0 < at → at < length entries
      → IsLeastKey words (slice_index (indexed words leaves) at) (least_key entries at)

abbrev pub AreEntries : List ℕ → ℕ → List (ℕ × ℕ) → Type 0
AreEntries words column entries = (leaves : List ℕ) → IsSoundTree words column leaves → HasLeaves words leaves entries
