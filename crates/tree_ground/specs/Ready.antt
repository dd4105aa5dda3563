-- What the ground of the tests keeps.
use Rattle.std.specs.Prelude.{◌≡◌, ℕ, false, List, slice_index}
use Rattle.pm_model.specs.Device.{Device, IsClean}
use Rattle.image_layout.specs.Fixed.{lane_op_at, table_count_at, table_slot_at}
use Rattle.image_layout.specs.Records.{first_leaf_at}
use Rattle.image_layout.specs.Tables.{is_text}
use Rattle.tree_cuts.specs.Tree.{HasNoSplit}
use Rattle.heap_palloc.specs.Index.{HeapIndex}
use Rattle.fp_tree.specs.Planned.{MayPlanLeaf}
use Rattle.fp_tree.specs.Standing.{HasSoundTree, Stands}
use Rattle.fp_tree.specs.TreeState.{TreeState}

-- The cached words have a column with a tree, of which a leaf may be planned through lane 0. No plan is half played.
pub record IsColumn (d : Device) (index : HeapIndex) (column : ℕ) : Type 0 where
  pub sound : HasSoundTree d.cached column
  pub may : MayPlanLeaf d.cached index 0 column
  pub clean : (w : ℕ) → IsClean d w

-- The same, and the tree stands for the words.
pub record IsReady (d : Device) (index : HeapIndex) (tree : TreeState) : Type 0 where
  pub stands : Stands d.cached tree
  pub may : MayPlanLeaf d.cached index 0 tree.column
  pub clean : (w : ℕ) → IsClean d w

-- There is no table, and lane 0 is idle.
pub record IsEmptyImage (words : List ℕ) : Type 0 where
  pub count : slice_index words table_count_at ≡ 0
  pub slot : slice_index words (table_slot_at 0) ≡ 0
  pub idle : slice_index words (lane_op_at 0) ≡ 0

-- A column of integers has no leaf and no split at work, and lane 0 is idle.
pub record IsEmptyColumn (words : List ℕ) (column : ℕ) : Type 0 where
  pub integers : is_text words column ≡ false
  pub first : slice_index words (first_leaf_at column) ≡ 0
  pub quiet : HasNoSplit words column
  pub idle : slice_index words (lane_op_at 0) ≡ 0
