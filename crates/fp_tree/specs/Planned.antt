-- What planning a new leaf relies on, and what it gives.
use Rattle.std.specs.Prelude.{◌≡◌, ◌⊎◌, ℕ, ◌+◌, ◌<◌, ◌≤◌, ◌++◌, List, Contains, slice_index}
use Rattle.heap_palloc.specs.Calls.{IsAllocated, IsFull, KeepsHeapRules}
use Rattle.heap_palloc.specs.Choice.{Choice, IsChosen, IsThrough}
use Rattle.heap_palloc.specs.Index.{HeapIndex, IsIndexOf}
use Rattle.heap_palloc.specs.declared.error.AllocError.{AllocError}
use Rattle.heap_palloc.specs.declared.error.AllocError.TheVariants.{Full, NoMemory}
use Rattle.image_layout.specs.Blocks.{Block, live_blocks, longest_free_run}
use Rattle.image_layout.specs.Fixed.{lane_op_at}
use Rattle.image_layout.specs.Records.{new_leaf_at}
use Rattle.image_layout.specs.Trees.{leaf_list}
use Rattle.fp_inner.specs.Keys.{kind_of}
use Rattle.fp_inner.specs.declared.probe.Probe.{Probe}
use Rattle.pm_model.specs.declared.action.Action.{Action}
use Rattle.pm_model.specs.Plans.{finished, plan_of}
use Rattle.tree_cuts.specs.Lists.{Each}
use Rattle.fp_tree.specs.Changes.{MayBeSplit, MayGetFirst, Splitting, getting_first, old_leaves, splitting}
use Rattle.fp_tree.specs.Standing.{Stands, probe_leaf, room_in}
use Rattle.fp_tree.specs.TreeState.{TreeState}
use Rattle.fp_tree.specs.declared.room.Room.TheVariants.{Free}

-- ── what it relies on ──

-- so many words from a place on lie in a live block
pub record IsInBlock (words : List ℕ) (place count : ℕ) : Type 0 where
  pub block : Block
  pub live : Contains (live_blocks words) block
  pub begins : block.first ≤ place
  pub ends : place + count ≤ block.first + block.words

-- the block of a leaf, of which it uses 104 words
abbrev pub leaf_block : ℕ → Block
leaf_block leaf = record { first = leaf; words = 128 }

-- The heap's rules hold and the index stands for the words. The column's record lies in a live block, and each of its
-- leaves is one. The lane is idle.
pub record MayPlanLeaf (words : List ℕ) (index : HeapIndex) (lane column : ℕ) : Type 0 where
  pub rules : KeepsHeapRules words
  pub index_of : IsIndexOf words index
  pub lane_is : lane < 16
  pub idle : slice_index words (lane_op_at lane) ≡ 0
  pub record_in : IsInBlock words column 40
  pub leaves_in : Each (λ leaf. Contains (live_blocks words) (leaf_block leaf)) (leaf_list words column)

-- ── what it gives ──

-- The tree stands for the words, and the next leaf may be planned.
pub record GoesOn (words : List ℕ) (index : HeapIndex) (lane : ℕ) (tree : TreeState) : Type 0 where
  pub stands : Stands words tree
  pub may : MayPlanLeaf words index lane tree.column

-- the words after a first leaf
abbrev pub words_with_first : List ℕ → ℕ → Choice → List ℕ
words_with_first words column choice = finished ((getting_first column choice).parts words) words

-- A first leaf is planned: these actions, and it stands where the heap chooses. Once they were played, the tree goes
-- on, and has room for any key.
pub record IsFirstPlanned (words : List ℕ) (old new : HeapIndex) (lane : ℕ) (tree after : TreeState)
    (plan : List Action) : Type 0 where
  pub choice : Choice
  pub chosen : IsChosen words old.free.runs 104 choice
  pub through : IsThrough lane (new_leaf_at tree.column) choice
  pub may : MayGetFirst tree.column choice words
  pub plan_is : plan ≡ plan_of ((getting_first tree.column choice).parts words)
  pub column_is : after.column ≡ tree.column
  pub goes_on : GoesOn (words_with_first words tree.column choice) new lane after
  pub room : (probe : Probe) → kind_of probe ≡ after.inner.kind
      → room_in (words_with_first words tree.column choice) probe
      (leaf_list (words_with_first words tree.column choice) tree.column) ≡ Free

-- the words after a split
abbrev pub split_words : List ℕ → Splitting → List ℕ
split_words words s = finished ((splitting s).parts words) words

-- A split is planned of the leaf of what is looked for: these actions, and the new leaf stands where the heap chooses.
-- Once they were played, the tree goes on, and there is room for what is looked for.
pub record IsSplitPlanned (words : List ℕ) (old new : HeapIndex) (lane : ℕ) (tree after : TreeState) (probe : Probe)
    (plan : List Action) : Type 0 where
  pub split : Splitting
  pub column_is : split.column ≡ tree.column
  pub leaf_is : split.leaf ≡ probe_leaf words tree.column probe
  pub leaves_are : leaf_list words tree.column ≡ old_leaves split
  pub chosen : IsChosen words old.free.runs 104 split.choice
  pub through : IsThrough lane (new_leaf_at tree.column) split.choice
  pub may : MayBeSplit split words
  pub plan_is : plan ≡ plan_of ((splitting split).parts words)
  pub same_column : after.column ≡ tree.column
  pub goes_on : GoesOn (split_words words split) new lane after
  pub room : room_in (split_words words split) probe (leaf_list (split_words words split) tree.column) ≡ Free

-- why no leaf is planned: want of memory, or no room in the heap
abbrev pub IsRefused : List ℕ → AllocError → Type 0
IsRefused words error = (error ≡ NoMemory) ⊎ (IsFull words 104 × (error ≡ Full 1 (longest_free_run words)))

-- The allocation of a leaf into the word for a column's new leaf follows the actions.
pub record IsLeafAllocated (words : List ℕ) (old new : HeapIndex) (lane column leaf : ℕ) (before after : List Action)
    : Type 0 where
  pub left : List Action
  pub size : ℕ
  pub allocated : IsAllocated words old new lane (new_leaf_at column) 104 left leaf size
  pub plan_is : after ≡ before ++ left

-- the same column with the same index, but for the room that this has
pub record IsSameTreeState (old new : TreeState) : Type 0 where
  pub column : new.column ≡ old.column
  pub kind : new.inner.kind ≡ old.inner.kind
  pub leaves : new.inner.leaves ≡ old.inner.leaves
