-- What the planning of an insertion gives.
use Rattle.std.specs.Prelude.{◌≡◌, ℕ, ◌%◌, ◌^◌, ◌<◌, ◌≤◌, IsTrue, Option, None, Some, List, [], ◌∷◌, ◌++◌, length, slice_index}
use Rattle.fp_inner.specs.declared.probe.Probe.{Probe}
use Rattle.fp_leaf.specs.Slots.{AreUsedBelow}
use Rattle.image_layout.specs.Trees.{leaf_list}
use Rattle.image_layout.specs.declared.place.Place.{Place}
use Rattle.pm_model.specs.declared.action.Action.{Action}
use Rattle.pm_model.specs.Plans.{Part, finished, plan_of, store}
use Rattle.tree_cuts.specs.Insertion.{Insertion, Lead, MayInsert, insertion_parts, lead_part, with_byte}
use Rattle.image_layout.specs.Records.{code_at, fingerprint_at, key_at}
use Rattle.fp_tree.specs.declared.inserting.NewPair.{NewPair}
use Rattle.fp_tree.specs.Changes.{IsBetweenLeaves, insertion}
use Rattle.heap_palloc.specs.Index.{HeapIndex}
use Rattle.fp_tree.specs.Planned.{IsInBlock, MayPlanLeaf}
use Rattle.fp_tree.specs.Standing.{Stands, is_key, probe_leaf}
use Rattle.fp_tree.specs.TreeState.{TreeState}
use Rattle.fp_inner.specs.Keys.{kind_of}

-- the lead, by its place and its value
abbrev pub lead_of : Option (Place × ℕ) → Option Lead
lead_of None = None
lead_of (Some lead) = Some (record { place = lead.0.0; value = lead.1 })

-- a new pair as an insertion, with this lead
abbrev pub insertion_of : NewPair → Option Lead → Insertion
insertion_of pair lead =
    record { leaf = pair.leaf.0; slot = pair.slot; key = pair.key; code = pair.code; lead = lead }

-- the stores of a new pair: its key word, its code, and its fingerprint among those of its word
abbrev pub new_pair_stores : List ℕ → NewPair → Part
new_pair_stores words pair =
    store (key_at pair.leaf.0 pair.slot) pair.key
    ∷ store (code_at pair.leaf.0 pair.slot) pair.code
    ∷ store (fingerprint_at pair.leaf.0 pair.slot)
    (with_byte (slice_index words (fingerprint_at pair.leaf.0 pair.slot)) (pair.slot % 8) pair.print)
    ∷ []

-- Where some actions end with a lead, so many of them, the insertion with this lead stands in its place then.
abbrev pub HasInsertion : List ℕ → NewPair → ℕ → List Action → List Action → Type 0
HasInsertion words pair led before after =
    (old : List Action) (lead : Option Lead) → before ≡ old ++ lead_part lead → led ≡ length (lead_part lead)
    → after ≡ old ++ plan_of (insertion_parts words (insertion_of pair lead))

-- The place for a key: the least free slot of the leaf of what is looked for. The key stands between the leaves before
-- it and those after it, and may be put in there with any code.
pub record IsPlaceFor (words : List ℕ) (column : ℕ) (probe : Probe) (key leaf slot : ℕ) : Type 0 where
  pub before : List ℕ
  pub after : List ℕ
  pub leaf_is : leaf ≡ probe_leaf words column probe
  pub least : AreUsedBelow (slice_index words leaf) slot
  pub leaves_are : leaf_list words column ≡ before ++ leaf ∷ after
  pub between : IsBetweenLeaves words key before after
  pub may : (code : ℕ) → MayInsert words column before after
      (record { leaf = leaf; slot = slot; key = key; code = code; lead = None })

-- Behind the old actions the new ones have exactly the change that is the insertion of this key and code at their
-- place, with this lead. It may be made.
pub record IsInserted (words : List ℕ) (column : ℕ) (lead : Option Lead) (probe : Probe) (key code : ℕ)
    (old new : List Action) : Type 0 where
  pub pair : Insertion
  pub key_is : pair.key ≡ key
  pub code_is : pair.code ≡ code
  pub lead_is : pair.lead ≡ lead
  pub place : IsPlaceFor words column probe key pair.leaf pair.slot
  pub may : (insertion column place.before place.after pair).asks words
  pub plan_is : new ≡ old ++ plan_of ((insertion column place.before place.after pair).parts words)

-- The tree stands for the words, and this is the key word of what is looked for, with a code.
pub record IsKeyFor (words : List ℕ) (tree : TreeState) (probe : Probe) (key code : ℕ) : Type 0 where
  pub stands : Stands words tree
  pub kind : kind_of probe ≡ tree.inner.kind
  pub key_is : IsTrue (is_key words probe key)
  pub small : code < 2 ^ 32

-- the lead, if there is one, goes to a word of a live block
abbrev pub IsLeadLive : List ℕ → Option Lead → Type 0
IsLeadLive words None = Unit {0}
IsLeadLive words (Some lead) = IsInBlock words lead.place 1

-- some whole segments
abbrev pub HasSegments : List ℕ → Type 0
HasSegments words = (length words % 32768 ≡ 0) × (32768 ≤ length words)

-- the words after an insertion
abbrev pub inserted_words : List ℕ → Insertion → List ℕ
inserted_words words pair = finished (insertion_parts words pair) words

-- Once an insertion was played, the tree stands for the words. In an image of whole segments a leaf may be planned
-- then, where it might be before.
pub record GoesOnInserted (words : List ℕ) (tree : TreeState) (lead : Option Lead) (pair : Insertion) : Type 0 where
  pub stands : Stands (inserted_words words pair) tree
  pub may : (index : HeapIndex) (lane : ℕ) → HasSegments words → IsLeadLive words lead
      → MayPlanLeaf words index lane tree.column → MayPlanLeaf (inserted_words words pair) index lane tree.column

-- the same of an insertion that is planned of a key that the tree may have
abbrev pub InsertionGoesOn : List ℕ → TreeState → Option Lead → Probe → ℕ → ℕ → List Action → List Action → Type 0
InsertionGoesOn words tree lead probe key code old new =
    IsKeyFor words tree probe key code → (inserted : IsInserted words tree.column lead probe key code old new)
    → GoesOnInserted words tree lead inserted.pair
