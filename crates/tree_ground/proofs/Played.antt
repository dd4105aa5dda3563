-- What the plans of a tree leave, once they were played whole.
use Rattle.std.proofs.Common.{◌≡◌, ⊎_elim, ℕ, ◌^◌, ◌<◌, Bool, not, ◌&&◌, ltb, List, [], length, sym, ◌∙◌, ap, subst, arith}
use Rattle.std.specs.Prelude.{IsTrue, None}
use Rattle.std.proofs.lemmas.Bool.{cases_Bool, ltb-true}
use Rattle.image_layout.specs.Trees.{key_below, leaf_list}
use Rattle.mv_model.specs.declared.shape.Kind.TheVariants.{Int as Ints}
use Rattle.pm_model.specs.declared.action.Action.{Action}
use Rattle.pm_model.specs.Device.{Device, IsClean, IsWhole}
use Rattle.pm_model.specs.Plans.{Part, IsPlan, finished, plan_of}
use Rattle.heap_palloc.specs.Index.{HeapIndex}
use Rattle.fp_inner.specs.Keys.{is_above, is_below, kind_of}
use Rattle.fp_inner.specs.declared.probe.Probe.{Probe}
use Rattle.fp_inner.specs.declared.probe.Probe.TheVariants.{Int}
use Rattle.fp_tree.specs.Changes.{getting_first, insertion, splitting}
use Rattle.fp_tree.specs.Inserted.{IsInserted}
use Rattle.fp_tree.specs.Planned.{IsFirstPlanned, IsSplitPlanned, MayPlanLeaf}
use Rattle.fp_tree.specs.Standing.{Stands, is_key, room_in}
use Rattle.fp_tree.specs.TreeState.{TreeState}
use Rattle.fp_tree.specs.declared.room.Room.TheVariants.{Free}
use Rattle.fp_tree.proofs.ChangesHold.{first_holds, insertion_holds, split_holds}
use Rattle.fp_tree.proofs.IndexInserted.{goes_on}
use Rattle.tree_ground.specs.Ready.{IsReady}

-- a key is itself
pub key_itself : (words : List ℕ) (key : ℕ) → IsTrue (is_key words (Int key) key)
unfolding is_below is_above key_below
key_itself words key = ⊎_elim
    (λ less. absurd (let lt = ltb-true key key less in omega (arith, lt)))
    (λ not_less. ap (λ (b : Bool). not b && not b) not_less)
    (cases_Bool (ltb key key))

abbrev pub Plays : Device → Device → List Action → Type 0
Plays d e left = (parts : List Part) → left ≡ plan_of parts → IsPlan (length d.cached) parts → e.cached ≡ finished parts d.cached

module _ (d : Device) (index : HeapIndex) (tree : TreeState) (ready : IsReady d index tree) where
  -- ── a first leaf ──

  module _ (new : HeapIndex) (after : TreeState) (left : List Action) (planned : IsFirstPlanned d.cached index new 0 tree after left) where
    pub first_parts : (parts : List Part) × (left ≡ plan_of parts) × IsPlan (length d.cached) parts
    first_parts = ((getting_first tree.column planned.choice).parts d.cached, planned.plan_is, (first_holds tree.column planned.choice).plan d.cached planned.may)

    module _ (e : Device) (plays : Plays d e left) where
      first_words : e.cached ≡ finished ((getting_first tree.column planned.choice).parts d.cached) d.cached
      first_words = plays ((getting_first tree.column planned.choice).parts d.cached) planned.plan_is ((first_holds tree.column planned.choice).plan d.cached planned.may)

      pub first_ready : ((w : ℕ) → IsClean e w) → IsReady e new after
      first_ready clean = record {
        stands = subst (λ (words : List ℕ). Stands words after) (sym first_words) planned.goes_on.stands;
        may = subst (λ (words : List ℕ). MayPlanLeaf words new 0 after.column) (sym first_words) planned.goes_on.may;
        clean = clean;
      }

      pub first_room : (probe : Probe) → kind_of probe ≡ Ints → room_in e.cached probe (leaf_list e.cached after.column) ≡ Free
      first_room probe kind =
          ap (λ (words : List ℕ). room_in words probe (leaf_list words after.column)) first_words
          ∙ ap (λ (column : ℕ). room_in (finished ((getting_first tree.column planned.choice).parts d.cached) d.cached) probe (leaf_list (finished ((getting_first tree.column planned.choice).parts d.cached) d.cached) column)) planned.column_is
          ∙ planned.room probe (kind ∙ sym planned.goes_on.stands.1.index.kind)

  -- ── a split ──

  module _ (new : HeapIndex) (after : TreeState) (probe : Probe) (left : List Action) (planned : IsSplitPlanned d.cached index new 0 tree after probe left) where
    pub split_parts : (parts : List Part) × (left ≡ plan_of parts) × IsPlan (length d.cached) parts
    split_parts = ((splitting planned.split).parts d.cached, planned.plan_is, (split_holds planned.split).plan d.cached planned.may)

    module _ (e : Device) (plays : Plays d e left) where
      split_is : e.cached ≡ finished ((splitting planned.split).parts d.cached) d.cached
      split_is = plays ((splitting planned.split).parts d.cached) planned.plan_is ((split_holds planned.split).plan d.cached planned.may)

      pub split_ready : ((w : ℕ) → IsClean e w) → IsReady e new after
      split_ready clean = record {
        stands = subst (λ (words : List ℕ). Stands words after) (sym split_is) planned.goes_on.stands;
        may = subst (λ (words : List ℕ). MayPlanLeaf words new 0 after.column) (sym split_is) planned.goes_on.may;
        clean = clean;
      }

      pub split_room : room_in e.cached probe (leaf_list e.cached after.column) ≡ Free
      split_room =
          ap (λ (words : List ℕ). room_in words probe (leaf_list words after.column)) split_is
          ∙ ap (λ (column : ℕ). room_in (finished ((splitting planned.split).parts d.cached) d.cached) probe (leaf_list (finished ((splitting planned.split).parts d.cached) d.cached) column)) planned.same_column
          ∙ planned.room

  -- ── an insertion ──

  module _ (key code : ℕ) (left : List Action) (inserted : IsInserted d.cached tree.column None (Int key) key code [] left) where
    pub insertion_parts_are : (parts : List Part) × (left ≡ plan_of parts) × IsPlan (length d.cached) parts
    insertion_parts_are = (
      (insertion tree.column inserted.place.before inserted.place.after inserted.pair).parts d.cached,
      inserted.plan_is,
      (insertion_holds tree.column inserted.place.before inserted.place.after inserted.pair).plan d.cached inserted.may,
    )

    pub insertion_ready : IsWhole d → code < 2 ^ 32 → (e : Device) → Plays d e left → ((w : ℕ) → IsClean e w) → IsReady e index tree
    insertion_ready whole small e plays clean =
        let is = plays ((insertion tree.column inserted.place.before inserted.place.after inserted.pair).parts d.cached) inserted.plan_is ((insertion_holds tree.column inserted.place.before inserted.place.after inserted.pair).plan d.cached inserted.may) in
        let after = goes_on d.cached tree None (Int key) key code [] left (record { stands = ready.stands; kind = sym ready.stands.1.index.kind; key_is = key_itself d.cached key; small = small }) inserted in
        record {
          stands = subst (λ (words : List ℕ). Stands words tree) (sym is) after.stands;
          may = subst (λ (words : List ℕ). MayPlanLeaf words index 0 tree.column) (sym is) (after.may index 0 (whole.segments, whole.one_or_more) tt ready.may);
          clean = clean;
        }
