-- The plans of a tree as changes: what they ask and read, what their cuts show, and their ends.
use Rattle.std.specs.Prelude.{◌≡◌, ℕ, ◌+◌, ◌^◌, ◌-◌, ◌%◌, ◌<◌, ◌≤◌, List, [], ◌∷◌, ◌++◌, length, slice_index}
use Rattle.pm_model.specs.Changes.{Change}
use Rattle.image_layout.specs.Records.{new_leaf_at, split_leaf_at}
use Rattle.image_layout.specs.Trees.{leaf_pairs}
use Rattle.heap_palloc.specs.Changes.{IsBeside, SameChoiceRead, choice_owner}
use Rattle.heap_palloc.specs.Choice.{Choice, choice_block, choice_parts, MayMake}
use Rattle.tree_cuts.specs.FirstLeaf.{first_plan}
use Rattle.tree_cuts.specs.Insertion.{Insertion, MayInsert, ShowsInserted, ShowsOneMore, insertion_parts, inserted_pair}
use Rattle.tree_cuts.specs.Lists.{Each}
use Rattle.tree_cuts.specs.Split.{HasFreeSlot, Split, split_plan}
use Rattle.tree_cuts.specs.Tree.{AreApart, AreOrdered, HasNoSplit, HasPrints, IsPlaced, IsSameTree, IsTree, ShowsSame, leaf_for}

-- each leaf has the fingerprints of its keys
abbrev pub HavePrints : List ℕ → List ℕ → Type 0
HavePrints words leaves = Each (HasPrints words) leaves

-- ── an insertion ──

-- A key stands between leaves: it is above each key of the ones, and below each key of the others.
pub record IsBetweenLeaves (words : List ℕ) (key : ℕ) (before after : List ℕ) : Type 0 where
  pub above : Each (λ leaf. Each (λ pair. pair.key < key) (leaf_pairs words leaf)) before
  pub below : Each (λ leaf. Each (λ pair. key < pair.key) (leaf_pairs words leaf)) after

-- What the words after an insertion show: one pair more, in the same leaves, each of which has the fingerprints of its
-- keys still. The keys stay in order from leaf to leaf, where the new one stands between the leaves around its own.
pub record EndsInsertion (column : ℕ) (before after : List ℕ) (i : Insertion) (base words : List ℕ) : Type 0 where
  pub one_more : ShowsOneMore column (inserted_pair i) base words
  pub tree : IsTree words column (before ++ i.leaf ∷ after)
  pub quiet : HasNoSplit words column
  pub prints : HavePrints base (before ++ i.leaf ∷ after) → HavePrints words (before ++ i.leaf ∷ after)
  pub ordered : AreOrdered base (before ++ i.leaf ∷ after) → IsBetweenLeaves base i.key before after
      → AreOrdered words (before ++ i.leaf ∷ after)

-- into a leaf between these others
abbrev pub insertion : ℕ → List ℕ → List ℕ → Insertion → Change
insertion column before after i = record {
  asks = λ base. MayInsert base column before after i;
  parts = λ base. insertion_parts base i;
  shows = ShowsInserted column (inserted_pair i);
  ends = EndsInsertion column before after i;
  reads = λ old new. IsSameTree column (before ++ i.leaf ∷ after) old new;
}

-- ── the leaf that is allocated ──

-- where it begins
abbrev pub new_leaf : Choice → ℕ
new_leaf choice = (choice_block choice).first

-- The allocation goes into the word for the new leaf, and writes no other word of the tree.
pub record IsLeafChoice (base : List ℕ) (column : ℕ) (leaves : List ℕ) (choice : Choice) : Type 0 where
  pub may : MayMake base choice
  pub owner : choice_owner choice ≡ new_leaf_at column
  pub placed : IsPlaced (length base) column (new_leaf choice)
  pub beside_record : (k : ℕ) → k < 6 → IsBeside choice (column + k)
  pub beside_leaves : Each (λ leaf. (k : ℕ) → k < 104 → IsBeside choice (leaf + k)) leaves

-- What they read is the same: the words of the tree, and what the allocation reads.
pub record SameGrowingRead (column : ℕ) (leaves : List ℕ) (choice : Choice) (old new : List ℕ) : Type 0 where
  pub tree : IsSameTree column leaves old new
  pub choice_is : SameChoiceRead choice old new

-- ── a first leaf ──

-- the tree has no leaf and no split at work
pub record MayGetFirst (column : ℕ) (choice : Choice) (base : List ℕ) : Type 0 where
  pub tree : IsTree base column []
  pub quiet : HasNoSplit base column
  pub chosen : IsLeafChoice base column [] choice

-- What the words after it show: the same pairs, none, and that leaf.
pub record EndsFirst (column : ℕ) (choice : Choice) (base words : List ℕ) : Type 0 where
  pub same : ShowsSame column base words
  pub tree : IsTree words column (new_leaf choice ∷ [])
  pub quiet : HasNoSplit words column

abbrev pub getting_first : ℕ → Choice → Change
getting_first column choice = record {
  asks = MayGetFirst column choice;
  parts = λ base. first_plan column (new_leaf choice) (choice_parts base choice);
  shows = ShowsSame column;
  ends = EndsFirst column choice;
  reads = SameGrowingRead column [] choice;
}

-- ── a split ──

-- the leaf that is split, between these others, and where the new one goes
pub record Splitting : Type 0 where
  pub column : ℕ
  pub before : List ℕ
  pub leaf : ℕ
  pub after : List ℕ
  pub choice : Choice

abbrev pub old_leaves : Splitting → List ℕ
old_leaves s = s.before ++ s.leaf ∷ s.after

abbrev pub new_leaves : Splitting → List ℕ
new_leaves s = s.before ++ s.leaf ∷ new_leaf s.choice ∷ s.after

abbrev pub both_leaves : Splitting → Split
both_leaves s = record { leaf = s.leaf; new = new_leaf s.choice }

-- The leaf is full, no split is at work, and the new leaf shares no word with the others. The word in which the split
-- is noted is no descriptor: so noting it leaves what the allocation reads.
pub record MayBeSplit (s : Splitting) (base : List ℕ) : Type 0 where
  pub tree : IsTree base s.column (old_leaves s)
  pub quiet : HasNoSplit base s.column
  pub full : slice_index base s.leaf ≡ 2 ^ 48 - 1
  pub room : length (old_leaves s) + 1 < length base
  pub chosen : IsLeafChoice base s.column (old_leaves s) s.choice
  pub apart : Each (λ leaf. AreApart leaf 104 (new_leaf s.choice) 104) (old_leaves s)
  pub noted : 64 ≤ split_leaf_at s.column % 32768

-- What the words after it show: the same pairs, with the new leaf behind the one that was split, and a free slot in
-- both. The order of keys and the fingerprints go on.
pub record EndsSplit (s : Splitting) (base words : List ℕ) : Type 0 where
  pub same : ShowsSame s.column base words
  pub tree : IsTree words s.column (new_leaves s)
  pub quiet : HasNoSplit words s.column
  pub free : HasFreeSlot words s.leaf × HasFreeSlot words (new_leaf s.choice)
  pub ordered : AreOrdered base (old_leaves s) → AreOrdered words (new_leaves s)
  pub prints : HavePrints base (old_leaves s) → HavePrints words (new_leaves s)
  pub room : (key : ℕ) → leaf_for base key (old_leaves s) ≡ s.leaf
      → HasFreeSlot words (leaf_for words key (new_leaves s))

abbrev pub splitting : Splitting → Change
splitting s = record {
  asks = MayBeSplit s;
  parts = λ base. split_plan base s.column (both_leaves s) (choice_parts base s.choice);
  shows = ShowsSame s.column;
  ends = EndsSplit s;
  reads = SameGrowingRead s.column (old_leaves s) s.choice;
}
